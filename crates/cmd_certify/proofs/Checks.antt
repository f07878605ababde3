-- What a script with a certificate comes to.
use Rattle.std.proofs.Common.{◌≡◌, ℕ, suc, ◌+◌, Bool, List, [], ◌∷◌, ◌++◌, length, Some, refl, sym, ap, ◌∙◌, subst, append_assoc, length-append, arith, Ok, Err}
use Rattle.std.specs.Prelude.{⊤}
use Rattle.io_streams.specs.Source.{SourceState}
use Rattle.io_line_reader.specs.Reading.{Reading}
use Rattle.io_line_reader.specs.Texts.{ended_part}
use Rattle.io_line_reader.proofs.GivenEnds.{took-all}
use Rattle.sql_text.specs.Lines.{lines}
use Rattle.sem_query.specs.Query.{QueryValue}
use Rattle.sql_catalog.specs.Streams.{Shape}
use Rattle.sql_parser.specs.declared.tree.SelectAst.{SelectAst}
use Rattle.sql_replies.specs.declared.refusal.Refusal.{Refusal}
use Rattle.cert_format.specs.declared.line.Line.{Line}
use Rattle.cert_checker.specs.declared.answer.CheckAnswer.{CheckAnswer}
use Rattle.cert_format.specs.Nodes.{nodes_of}
use Rattle.cert_checker.specs.Shown.{IsCheckAnswer}
use Rattle.sql_script.specs.declared.end.ScriptEnd.{ScriptEnd}
use Rattle.sql_script.specs.declared.end.ScriptEnd.TheVariants.{Refused, ReadFault, ByteLimit, Memory}
use Rattle.sql_script.specs.declared.script.Script.{Script}
use Rattle.sql_script.specs.Script.{Asks, name_of}
use Rattle.sql_script.specs.Ends.{IsRefused, EndsEarly, GaveScript, GaveStreams, IsFull}
use Rattle.cmd_certify.specs.declared.checking.Checked.{Checked}
use Rattle.sql_script.specs.Commands.{AreNeeded, TookUnsettled, refusal, lines_for}
use Rattle.sql_script.proofs.Endings.{early-needed, unsettled-streams}
use Rattle.cmd_certify.proofs.OneChecked.{answered-needs, checks-alike, collected-unsettled}
use Rattle.cmd_certify.specs.Checking as checking
use Rattle.cmd_certify.specs.Checking.{answered, Checks}
use Rattle.sql_script.specs.Ending.{Refuses}
use Rattle.cmd_certify.specs.Collecting.{GaveLines, GaveRefused, ReadsCertificate, ReadsAnswer}

-- nothing stands behind the last line
pub none-behind : (before : List (List ℕ)) (line : List ℕ) (behind : List (List ℕ)) (n : ℕ) → n ≡ suc (length before) → n ≡ length (before ++ line ∷ behind) → behind ≡ []
none-behind before line [] n e f = refl
none-behind before line (x ∷ behind) n e f = absurd (omega (arith, e, f, length-append before (line ∷ x ∷ behind)))

-- these lines ask for the query, and what stands behind it is this
abbrev pub asks-all : (given more all : List (List ℕ)) (streams : List Shape) (name : List ℕ) (select : SelectAst) (shared : Bool) (q : QueryValue) (number : ℕ) → Asks given streams name select shared q number → number ≡ length given → all ≡ given ++ more
    → Asks all streams name select shared q number
asks-all given more all streams name select shared q number a last e = record {
  before = a.before;
  line = a.line;
  behind = more;
  whole = e ∙ ap (λ l. l ++ more) a.whole ∙ append_assoc a.before (a.line ∷ a.behind) more
      ∙ ap (λ l. a.before ++ a.line ∷ (l ++ more)) (none-behind a.before a.line a.behind number a.number_is (last ∙ ap length a.whole));
  create = a.create;
  is = a.is;
  number_is = a.number_is;
}

-- a line is refused before the query, or the script ends before it
early : (source now : SourceState) (number : ℕ) (word : Refusal) → IsRefused number word source now → Refuses Checks number word source now
early source now number word r = record {
  needs = lines_for number r.refused;
  comes = record {
    text = r.text;
    took = r.took;
    comes = checking.early number word r.refused refl;
    needed = early-needed r.text number word source now r.refused r.last r.all;
  };
}

-- the reader broke off before the query
unsettled : (source now : SourceState) (reader : Reading) (P : List ℕ → Type 0) → GaveStreams source now reader P → TookUnsettled Checks source now P
unsettled source now reader P r = unsettled-streams Checks (λ all number word is. checking.early number word is refl) checks-alike source now reader P r

-- the script is not taken
pub ends-early : (source now : SourceState) (reader : Reading) (end : ScriptEnd) → EndsEarly end source now reader → ReadsAnswer (Err end) source now
ends-early source now reader (Refused number word) r = early source now number word r
ends-early source now reader ReadFault r = (r.0, unsettled source now reader (λ text. ⊤) r.1)
ends-early source now reader ByteLimit r = unsettled source now reader IsFull r
ends-early source now reader Memory r = tt

-- a line of the certificate is refused
later : (script : Script) (source now now' : SourceState) (reader : Reading) (number : ℕ) (word : Refusal) → (g : GaveScript script source now reader) → GaveRefused source now' g.given number word → Refuses Checks number word source now'
later script source now now' reader number word g r =
    let place : number ≡ script.line + length r.before + 1 = omega (arith, r.number_is, g.last) in
    record {
      needs = Some number;
      comes = record {
        text = r.text;
        took = r.took;
        comes = checking.later script.catalog g.name g.select g.shared script.query script.line
            (asks-all g.given (r.before ++ r.line ∷ []) (lines r.text) script.catalog g.name g.select g.shared script.query script.line g.asks g.last r.are)
            r.before r.line [] r.certificate word refl r.collect r.refused (ap (λ n. refusal n word) place);
        needed = omega (arith, ap length r.are, length-append g.given (r.before ++ r.line ∷ []), length-append r.before (r.line ∷ []), r.number_is);
      };
    }

-- the reader broke off behind the query
unsettled-behind : (script : Script) (source now now' : SourceState) (reader : Reading) (P : List ℕ → Type 0) → (g : GaveScript script source now reader) → GaveLines source now' g.given P → TookUnsettled Checks source now' P
unsettled-behind script source now now' reader P g r =
    let all = lines (ended_part r.text) in
    record {
      text = r.text;
      taken = r.taken;
      unsettled = collected-unsettled all script.catalog g.name g.select g.shared script.query script.line
          (asks-all g.given r.behind all script.catalog g.name g.select g.shared script.query script.line g.asks g.last r.are) r.certificate r.collect;
      holds = r.holds;
    }

-- the certificate is not read to its end
pub ends-behind : (script : Script) (source now now' : SourceState) (reader : Reading) (end : ScriptEnd) → (g : GaveScript script source now reader) → ReadsCertificate (Err end) source now' g.given → ReadsAnswer (Err end) source now'
ends-behind script source now now' reader (Refused number word) g r = later script source now now' reader number word g r
ends-behind script source now now' reader ReadFault g r = (r.0, unsettled-behind script source now now' reader (λ text. ⊤) g r.1)
ends-behind script source now now' reader ByteLimit g r = unsettled-behind script source now now' reader IsFull g r
ends-behind script source now now' reader Memory g r = tt

-- the certificate is checked
pub ends-whole : (script : Script) (source now now' : SourceState) (reader : Reading) (certificate : List Line) (answer : CheckAnswer) (checked : Checked) → (g : GaveScript script source now reader)
    → ReadsCertificate (Ok certificate) source now' g.given → IsCheckAnswer script.query (nodes_of certificate) answer → checked ≡ record { script = script; answer = answer } → ReadsAnswer (Ok checked) source now'
ends-whole script source now now' reader certificate answer checked g c is e =
    subst (λ x. ReadsAnswer (Ok x) source now') (sym e) (
      record {
        text = c.text;
        took = took-all source now' c.text c.all;
        comes = checking.whole script.catalog g.name g.select g.shared script.query script.line
            (asks-all g.given c.behind (lines c.text) script.catalog g.name g.select g.shared script.query script.line g.asks g.last c.are)
            certificate answer c.collect is (ap (λ n. answered script.catalog n script.query answer) (ap name_of g.states));
        needed = subst (λ n. AreNeeded n source now' c.text) (sym (answered-needs script.catalog (name_of script.statement) script.query answer)) (c.all, c.few);
      },
      record { nodes = nodes_of certificate; is = is; named = g.named },
    )
