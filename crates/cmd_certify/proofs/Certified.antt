-- What certifying a script comes to.
use Rattle.std.proofs.Common.{◌≡◌, ℕ, ◌+◌, None, Some, List, [], ◌∷◌, ◌++◌, length, refl, sym, ap, ◌∙◌, subst, append-nil, length-append, arith, Err}
use Rattle.std.specs.Prelude.{⊤}
use Rattle.std.proofs.lemmas.List.Elements.{All-from_recursion}
use Rattle.io_streams.specs.Source.{SourceState}
use Rattle.sql_text.specs.Lines.{lines}
use Rattle.io_line_reader.specs.Reading.{Reading}
use Rattle.io_line_reader.specs.Texts.{ended_part}
use Rattle.io_line_reader.proofs.GivenEnds.{front-lines, took-lines, took-all}
use Rattle.sem_query.specs.Query.{QueryValue}
use Rattle.cert_maker.specs.Made.{IsTooLarge}
use Rattle.sql_parser.specs.declared.tree.Statement.{Statement}
use Rattle.sql_replies.specs.declared.refusal.Refusal.{Refusal}
use Rattle.cert_format.specs.declared.line.Line.{Line}
use Rattle.cert_format.specs.Nodes.{nodes_of}
use Rattle.cert_format.specs.Certificate.{AreLines}
use Rattle.cert_checker.specs.declared.shown.Shown.{Shown}
use Rattle.cert_format.specs.Text.{certificate_text}
use Rattle.sql_script.specs.declared.end.ScriptEnd.{ScriptEnd}
use Rattle.sql_script.specs.declared.end.ScriptEnd.TheVariants.{Refused, ReadFault, ByteLimit, Memory}
use Rattle.sql_script.specs.declared.script.Script.{Script}
use Rattle.sql_script.specs.Script.{IsBlank, IsMisplaced}
use Rattle.sql_script.specs.Texts.{script_text}
use Rattle.sql_script.specs.Ends.{GaveScript, GaveLine, GaveAll, GaveLast, IsFull, ReadsBlank}
use Rattle.io_streams.specs.declared.status.Status.TheVariants as status
use Rattle.sql_script.specs.Commands.{Outcome, ComesTo, TookUnsettled, refusal}
use Rattle.cmd_certify.specs.Certifying.{Certifies, certified}
use Rattle.cmd_certify.specs.Judged.{IsJudgedBy, IsGoodOf, IsCertified, IsUncertified}
use Rattle.cmd_certify.specs.Certifying as certifying
use Rattle.sql_script.specs.Ending.{StopsAt}
use Rattle.sql_script.proofs.Behind.{none-behind, asks-then}
use Rattle.cmd_certify.specs.Certified.{MakesFor, ends_with}
use Rattle.cmd_certify.proofs.Judging.{one_judged}
use Rattle.cmd_certify.proofs.OneCertified.{certifies-alike}

-- one is written of a query for whose certificate the form by which it is judged is not too large
pub certified_by : (q : QueryValue) (shown : Shown) → IsJudgedBy q shown → ¬ IsTooLarge shown q → IsCertified q
certified_by q shown judged small word u = small (subst (λ (s : Shown). IsTooLarge s q) (one_judged q u.shown shown u.judged judged) u.large)

-- no certificate is written of the query of a script
pub comes-uncertified : (script : Script) (word : Refusal) (source now : SourceState) (reader : Reading) → GaveScript script source now reader → IsUncertified script.query word
    → ComesTo Certifies source now (refusal script.line word)
comes-uncertified script word source now reader g why =
    let none = none-behind g.given script.catalog g.name g.select g.shared script.query script.line g.asks g.last in
    let all : lines g.front ≡ g.given ++ [] = front-lines source now reader g.front g.given g.lines ∙ sym (append-nil g.given) in
    record {
      text = g.front;
      took = took-lines source now reader g.front g.given (omega (arith, g.last, g.asks.number_is)) g.lines;
      comes = certifying.uncertified script.catalog g.name g.select g.shared script.query script.line
          (asks-then g.given [] (lines g.front) script.catalog g.name g.select g.shared script.query script.line g.asks none all) word why refl;
      needed = omega (arith, ap length (front-lines source now reader g.front g.given g.lines), g.last);
    }

-- a line behind the query says something
pub comes-misplaced : (script : Script) (source now now' : SourceState) (old new : Reading) (number : ℕ) (word : Refusal) (g : GaveScript script source now old) → IsCertified script.query
    → GaveLine source now' g.given new (λ place line. (number ≡ place) × IsMisplaced line word) → ComesTo Certifies source now' (refusal number word)
comes-misplaced script source now now' old new number word g small t =
    let more = t.blanks ++ t.line ∷ [] in
    let none = none-behind g.given script.catalog g.name g.select g.shared script.query script.line g.asks g.last in
    let all : lines t.front ≡ g.given ++ more = front-lines source now' new t.front (g.given ++ more) t.lines in
    let place : number ≡ script.line + length t.blanks + 1 = omega (arith, t.holds.0, g.last, length-append g.given t.blanks) in
    record {
      text = t.front;
      took = took-lines source now' new t.front (g.given ++ more) (omega (arith, g.last, g.asks.number_is, length-append g.given more)) t.lines;
      comes = certifying.misplaced script.catalog g.name g.select g.shared script.query script.line
          (asks-then g.given more (lines t.front) script.catalog g.name g.select g.shared script.query script.line g.asks none all) small t.blanks t.line [] word refl
          (All-from_recursion IsBlank t.blanks t.blank) t.holds.1 (ap (λ n. refusal n word) place);
      needed = omega (arith, ap length all, length-append g.given more, length-append t.blanks (t.line ∷ []), t.holds.0, length-append g.given t.blanks);
    }

-- blank lines stand behind the query, up to the end of the source
pub comes-whole : (script : Script) (certificate : List Line) (source now now' : SourceState) (old new : Reading) (g : GaveScript script source now old) → IsCertified script.query
    → AreLines certificate → IsGoodOf script.query (nodes_of certificate) → GaveAll source now' g.given new → ComesTo Certifies source now' (ends_with script certificate)
comes-whole script certificate source now now' old new g small are good t =
    let none = none-behind g.given script.catalog g.name g.select g.shared script.query script.line g.asks g.last in
    let written : Statement → Outcome = λ s. record { status = status.Done; text = script_text script.catalog s ++ certificate_text certificate; needs = None } in
    record {
      text = t.text;
      took = took-all source now' t.text t.lines.all;
      comes = certifying.whole script.catalog g.name g.select g.shared script.query script.line
          (asks-then g.given t.blanks (lines t.text) script.catalog g.name g.select g.shared script.query script.line g.asks none t.lines.are) small
          (All-from_recursion IsBlank t.blanks t.blank) certificate are good (ap written g.states);
      needed = (t.lines.all, t.lines.few);
    }

-- The reader broke off behind the query. The lines that came whole settle nothing: were they all, the script would be certified.
unsettled-behind : (script : Script) (certificate : List Line) (source now now' : SourceState) (old new : Reading) (P : List ℕ → Type 0) (g : GaveScript script source now old) → IsCertified script.query
    → AreLines certificate → IsGoodOf script.query (nodes_of certificate) → GaveLast source now' g.given new P → TookUnsettled Certifies source now' P
unsettled-behind script certificate source now now' old new P g small are good t =
    let none = none-behind g.given script.catalog g.name g.select g.shared script.query script.line g.asks g.last in
    let all = lines (ended_part t.text) in
    let whole : Certifies all (certified script.catalog g.name g.select g.shared certificate) =
    certifying.whole script.catalog g.name g.select g.shared script.query script.line
    (asks-then g.given t.blanks all script.catalog g.name g.select g.shared script.query script.line g.asks none t.lines.are) small
    (All-from_recursion IsBlank t.blanks t.blank) certificate are good refl in
    record {
      text = t.text;
      taken = t.lines.taken;
      unsettled = λ o is. certifies-alike all o (certified script.catalog g.name g.select g.shared certificate) is whole refl;
      holds = t.holds;
    }

-- reading the lines behind the query stops
pub stops-behind : (script : Script) (certificate : List Line) (end : ScriptEnd) (source now now' : SourceState) (old new : Reading) (g : GaveScript script source now old) → IsCertified script.query
    → AreLines certificate → IsGoodOf script.query (nodes_of certificate) → ReadsBlank (Err end) source now' g.given new → StopsAt Certifies end source now'
stops-behind script certificate (Refused number word) source now now' old new g small are good t = record { needs = Some number; comes = comes-misplaced script source now now' old new number word g small t }
stops-behind script certificate ReadFault source now now' old new g small are good t = (t.0, unsettled-behind script certificate source now now' old new (λ text. ⊤) g small are good t.1)
stops-behind script certificate ByteLimit source now now' old new g small are good t = unsettled-behind script certificate source now now' old new IsFull g small are good t
stops-behind script certificate Memory source now now' old new g small are good t = absurd t

-- no certificate was made
pub stops-unmade : (script : Script) (end : ScriptEnd) (source now : SourceState) (reader : Reading) → GaveScript script source now reader → MakesFor (Err end) script → StopsAt Certifies end source now
stops-unmade script (Refused number word) source now reader g m =
    let P : Outcome → Type 0 = λ o. ComesTo Certifies source now o in
    let same : refusal number word ≡ refusal script.line word = ap (λ n. refusal n word) m.0 in
    record { needs = Some number; comes = subst P (sym same) (comes-uncertified script word source now reader g m.1) }
stops-unmade script ReadFault source now reader g m = absurd m
stops-unmade script ByteLimit source now reader g m = absurd m
stops-unmade script Memory source now reader g m = tt
