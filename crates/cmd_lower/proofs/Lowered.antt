-- What a script comes to.
use Rattle.std.proofs.Common.{◌≡◌, ℕ, ◌+◌, Some, List, [], ◌∷◌, ◌++◌, length, refl, sym, ap, ◌∙◌, subst, append-nil, length-append, arith, Err}
use Rattle.std.specs.Prelude.{⊤}
use Rattle.std.proofs.lemmas.List.Elements.{All-from_recursion}
use Rattle.io_streams.specs.Source.{SourceState}
use Rattle.sql_text.specs.Lines.{lines}
use Rattle.io_line_reader.specs.Reading.{Reading}
use Rattle.io_line_reader.specs.Texts.{ended_part}
use Rattle.io_line_reader.proofs.GivenEnds.{front-lines, took-lines, took-all}
use Rattle.sql_replies.specs.declared.refusal.Refusal.{Refusal}
use Rattle.sql_replies.specs.declared.refusal.Refusal.TheVariants.{Limit}
use Rattle.sql_script.specs.declared.end.ScriptEnd.{ScriptEnd}
use Rattle.sql_script.specs.declared.end.ScriptEnd.TheVariants.{Refused, ReadFault, ByteLimit, Memory}
use Rattle.sql_script.specs.declared.script.Script.{Script}
use Rattle.sql_script.specs.Script.{IsBlank, IsMisplaced, name_of}
use Rattle.sql_script.specs.Ends.{GaveScript, GaveLine, GaveAll, GaveLast, IsFull, ReadsBlank}
use Rattle.sql_script.specs.Commands.{Outcome, ComesTo, TookUnsettled, refusal}
use Rattle.sql_script.specs.Ending.{StopsAt}
use Rattle.sql_script.proofs.Behind.{none-behind, asks-then}
use Rattle.cmd_lower.specs.declared.finding.LowerFinding.{LowerFinding}
use Rattle.cmd_lower.specs.Formed.{IsTooLarge}
use Rattle.cmd_lower.specs.Finding.{IsFinding}
use Rattle.cmd_lower.specs.Found.{FindsFor}
use Rattle.cmd_lower.specs.Lowering.{Lowers, found}
use Rattle.cmd_lower.specs.declared.form.LowerForm.{LowerForm}
use Rattle.cmd_lower.specs.Lowering as lowering
use Rattle.cmd_lower.proofs.OneOutcome.{needs-one}

-- the query of a script is too large
pub comes-large : (form : LowerForm) (script : Script) (source now : SourceState) (reader : Reading) → GaveScript script source now reader → IsTooLarge script.query → ComesTo (Lowers form) source now (refusal script.line Limit)
comes-large form script source now reader g large =
    let none = none-behind g.given script.catalog g.name g.select g.shared script.query script.line g.asks g.last in
    let all : lines g.front ≡ g.given ++ [] = front-lines source now reader g.front g.given g.lines ∙ sym (append-nil g.given) in
    record {
      text = g.front;
      took = took-lines source now reader g.front g.given (omega (arith, g.last, g.asks.number_is)) g.lines;
      comes = lowering.large script.catalog g.name g.select g.shared script.query script.line
          (asks-then g.given [] (lines g.front) script.catalog g.name g.select g.shared script.query script.line g.asks none all) large refl;
      needed = omega (arith, ap length (front-lines source now reader g.front g.given g.lines), g.last);
    }

-- a line behind the query says something
pub comes-misplaced : (form : LowerForm) (script : Script) (source now now' : SourceState) (old new : Reading) (number : ℕ) (word : Refusal) (g : GaveScript script source now old) → ¬ IsTooLarge script.query
    → GaveLine source now' g.given new (λ place line. (number ≡ place) × IsMisplaced line word) → ComesTo (Lowers form) source now' (refusal number word)
comes-misplaced form script source now now' old new number word g small t =
    let more = t.blanks ++ t.line ∷ [] in
    let none = none-behind g.given script.catalog g.name g.select g.shared script.query script.line g.asks g.last in
    let all : lines t.front ≡ g.given ++ more = front-lines source now' new t.front (g.given ++ more) t.lines in
    let place : number ≡ script.line + length t.blanks + 1 = omega (arith, t.holds.0, g.last, length-append g.given t.blanks) in
    record {
      text = t.front;
      took = took-lines source now' new t.front (g.given ++ more) (omega (arith, g.last, g.asks.number_is, length-append g.given more)) t.lines;
      comes = lowering.misplaced script.catalog g.name g.select g.shared script.query script.line
          (asks-then g.given more (lines t.front) script.catalog g.name g.select g.shared script.query script.line g.asks none all) small t.blanks t.line [] word refl
          (All-from_recursion IsBlank t.blanks t.blank) t.holds.1 (ap (λ n. refusal n word) place);
      needed = omega (arith, ap length all, length-append g.given more, length-append t.blanks (t.line ∷ []), t.holds.0, length-append g.given t.blanks);
    }

-- blank lines stand behind the query, up to the end of the source
pub comes-whole : (form : LowerForm) (script : Script) (finding : LowerFinding) (source now now' : SourceState) (old new : Reading) (g : GaveScript script source now old) → ¬ IsTooLarge script.query
    → IsFinding script.catalog script.query form finding → GaveAll source now' g.given new → ComesTo (Lowers form) source now' (found script.catalog (name_of script.statement) script.query form finding)
comes-whole form script finding source now now' old new g small is t =
    let none = none-behind g.given script.catalog g.name g.select g.shared script.query script.line g.asks g.last in
    let written : List ℕ → Outcome = λ m. found script.catalog m script.query form finding in
    record {
      text = t.text;
      took = took-all source now' t.text t.lines.all;
      comes = lowering.whole script.catalog g.name g.select g.shared script.query script.line
          (asks-then g.given t.blanks (lines t.text) script.catalog g.name g.select g.shared script.query script.line g.asks none t.lines.are) small
          (All-from_recursion IsBlank t.blanks t.blank) finding is (ap written (ap name_of g.states));
      needed = (t.lines.all, t.lines.few);
    }

-- The reader broke off behind the query. The lines that came whole settle nothing: were they all, the family would be written.
unsettled-behind : (form : LowerForm) (script : Script) (finding : LowerFinding) (source now now' : SourceState) (old new : Reading) (P : List ℕ → Type 0) (g : GaveScript script source now old) → ¬ IsTooLarge script.query
    → IsFinding script.catalog script.query form finding → GaveLast source now' g.given new P → TookUnsettled (Lowers form) source now' P
unsettled-behind form script finding source now now' old new P g small is t =
    let none = none-behind g.given script.catalog g.name g.select g.shared script.query script.line g.asks g.last in
    let all = lines (ended_part t.text) in
    let whole : (Lowers form) all (found script.catalog g.name script.query form finding) =
    lowering.whole script.catalog g.name g.select g.shared script.query script.line
    (asks-then g.given t.blanks all script.catalog g.name g.select g.shared script.query script.line g.asks none t.lines.are) small
    (All-from_recursion IsBlank t.blanks t.blank) finding is refl in
    record {
      text = t.text;
      taken = t.lines.taken;
      unsettled = λ o it. needs-one form all o (found script.catalog g.name script.query form finding) it whole refl;
      holds = t.holds;
    }

-- reading the lines behind the query stops
pub stops-behind : (form : LowerForm) (script : Script) (finding : LowerFinding) (end : ScriptEnd) (source now now' : SourceState) (old new : Reading) (g : GaveScript script source now old) → ¬ IsTooLarge script.query
    → IsFinding script.catalog script.query form finding → ReadsBlank (Err end) source now' g.given new → StopsAt (Lowers form) end source now'
stops-behind form script finding (Refused number word) source now now' old new g small is t = record { needs = Some number; comes = comes-misplaced form script source now now' old new number word g small t }
stops-behind form script finding ReadFault source now now' old new g small is t = (t.0, unsettled-behind form script finding source now now' old new (λ text. ⊤) g small is t.1)
stops-behind form script finding ByteLimit source now now' old new g small is t = unsettled-behind form script finding source now now' old new IsFull g small is t
stops-behind form script finding Memory source now now' old new g small is t = absurd t

-- no family was found
pub stops-unmade : (form : LowerForm) (script : Script) (end : ScriptEnd) (source now : SourceState) (reader : Reading) → GaveScript script source now reader → FindsFor (Err end) script form → StopsAt (Lowers form) end source now
stops-unmade form script (Refused number word) source now reader g m =
    let P : Outcome → Type 0 = λ o. ComesTo (Lowers form) source now o in
    let same : refusal number word ≡ refusal script.line Limit = ap (λ n. refusal n word) m.0 ∙ ap (λ w. refusal script.line w) m.1 in
    record { needs = Some number; comes = subst P (sym same) (comes-large form script source now reader g m.2) }
stops-unmade form script ReadFault source now reader g m = absurd m
stops-unmade form script ByteLimit source now reader g m = absurd m
stops-unmade form script Memory source now reader g m = tt
