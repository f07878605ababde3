-- How far a script was read, and how reading ends.
use Rattle.std.proofs.Common.{◌≡◌, ℕ, ◌+◌, ◌-◌, ◌^◌, ◌<◌, ◌≤◌, Bool, true, false, List, [], ◌∷◌, ◌++◌, length, refl, sym, ap, ◌∙◌, subst, length-append, arith, Ok, Err}
use Rattle.std.specs.declared.result.Result.{Result}
use Rattle.io_streams.specs.Source.{SourceState}
use Rattle.sql_text.specs.Lines.{lines}
use Rattle.sem_query.specs.Query.{QueryValue}
use Rattle.sql_replies.specs.declared.refusal.Refusal.{Refusal}
use Rattle.io_line_reader.specs.declared.reader.LineAnswer.TheVariants.{End, ReadFault, ByteLimit}
use Rattle.io_line_reader.specs.Reading.{Reading, fresh, NextLine, answer_to, IsBegun}
use Rattle.io_line_reader.specs.Texts.{ended_part}
use Rattle.io_line_reader.specs.GivenLines.{GivenLines}
use Rattle.io_line_reader.proofs.GivenLines.{Step, step-read, given-line, given-none}
use Rattle.io_line_reader.proofs.GivenEnds.{all-given, last-given, last-text, rose-given}
use Rattle.sql_script.specs.declared.end.ScriptEnd.TheVariants as ends
use Rattle.sql_script.specs.Commands.{Outcome, SettleNothing}
use Rattle.sql_script.specs.Ending.{StopsAt}
use Rattle.adv_diagnosis.specs.declared.fault.Asks.{Asks}
use Rattle.adv_diagnosis.specs.declared.fault.Asks.TheVariants as asks
use Rattle.cmd_advise_split.specs.State.{State, empty}
use Rattle.cmd_advise_split.specs.Steps.{TakesQuery, many, live, TakesAsks, TakesAsked, TakesLine, behind, looked, TakesGiven, ComeTo, none, one_more}
use Rattle.cmd_advise_split.specs.Splitting.{Splits, refused, found}
use Rattle.cmd_advise_split.specs.Reading.{ReadAll}

-- these lines were given, and they have made this
pub record Progress (source now : SourceState) (reader : Reading) (s : State) : Type 0 where
  pub front : List ℕ
  pub given : List (List ℕ)
  pub lines : GivenLines source now reader front given
  pub come : ComeTo given s

pub begins : (source : SourceState) (reader : Reading) (s : State) → reader ≡ fresh → s ≡ empty → Progress source source reader s
begins source reader s new first = record {
  front = [];
  given = [];
  lines = subst (λ r. GivenLines source source r [] []) (sym new) (given-none source);
  come = subst (λ (t : State). ComeTo [] t) (sym first) none;
}

-- each line is counted
counts-as : (s t u : State) → t ≡ u → u.lines ≡ s.lines + 1 → t.lines ≡ s.lines + 1
counts-as s t u e f = ap (λ (z : State). z.lines) e ∙ f

lines-query : (s t : State) (name : List ℕ) (q : QueryValue) (shared : Bool) → TakesQuery s name q shared t → t.lines ≡ s.lines + 1
lines-query s t name q shared (many h e) = counts-as s t _ e refl
lines-query s t name q shared (live k f g h e) = counts-as s t _ e refl

lines-asks : (s t : State) (a : Asks) → TakesAsks s a t → t.lines ≡ s.lines + 1
lines-asks s t asks.Nothing e = counts-as s t _ e refl
lines-asks s t asks.Row e = counts-as s t _ e refl
lines-asks s t (asks.Stream name columns) e = counts-as s t _ e refl
lines-asks s t (asks.Query name q shared) h = lines-query s t name q shared h
lines-asks s t asks.Explain e = counts-as s t _ e refl
lines-asks s t (asks.Drop name) e = counts-as s t _ e refl
lines-asks s t asks.Other e = counts-as s t _ e refl
lines-asks s t (asks.Lock key streams) e = counts-as s t _ e refl
lines-asks s t asks.Unlock e = counts-as s t _ e refl

lines-asked : (s t : State) (r : Result Asks Refusal) → TakesAsked s r t → t.lines ≡ s.lines + 1
lines-asked s t (Ok a) h = lines-asks s t a h
lines-asked s t (Err word) e = counts-as s t _ e refl

lines-line : (s t : State) (line : List ℕ) → TakesLine s line t → t.lines ≡ s.lines + 1
lines-line s t line (behind h e) = counts-as s t _ e refl
lines-line s t line (looked r o is h) = lines-asked s t r h

come-lines : {given : List (List ℕ)} {s : State} → ComeTo given s → s.lines ≡ length given
come-lines none = refl
come-lines (one_more come line t is) = lines-line _ t line is ∙ ap (λ n. n + 1) (come-lines come) ∙ sym (length-append _ (line ∷ []))

-- one more line was given
more : (long : Bool) (source now now' : SourceState) (old new : Reading) (s : State) (p : Progress source now old s) → (step : Step long old new now now')
    → GivenLines source now' new (p.front ++ step.given) (p.given ++ step.line ∷ [])
more long source now now' old new s p step = given-line long old new source now now' p.front p.given p.lines step

-- the lines before it can be counted
pub few : (long : Bool) (source now now' : SourceState) (old new : Reading) (s : State) → Progress source now old s → NextLine (answer_to long) old new now now' → s.lines < 2 ^ 64 - 1
few long source now now' old new s p n =
    let step = step-read long old new now now' n in
    let g = more long source now now' old new s p step in
    omega (arith, come-lines p.come, g.numbered, g.counted.0, g.counted.1, length-append p.given (step.line ∷ []))

-- more lines were given than before, and they can be counted
pub counts : (long : Bool) (source now now' : SourceState) (old new : Reading) (s : State) → Progress source now old s → NextLine (answer_to long) old new now now' → (old.lines < new.lines) × (new.lines < 2 ^ 64)
counts long source now now' old new s p n =
    let step = step-read long old new now now' n in (omega (arith, step.lines), omega (arith, step.counted.0, step.counted.1))

-- a line is short where it is not too long
pub short : (long : Bool) (source now : SourceState) (old new : Reading) → NextLine (answer_to long) old new source now → long ≡ false → length new.line ≤ 1024
short long source now old new n e = (step-read long old new source now n).short e

-- what taking a line comes to, of the line that was given
taken : (long : Bool) (line given : List ℕ) (s t : State) → IsBegun long line given → TakesGiven long line s t → TakesLine s given t
taken true line given s t begun took = took given begun
taken false line given s t begun took = subst (λ (l : List ℕ). TakesLine s l t) begun took

-- a line was taken
pub goes-on : (long : Bool) (source now now' : SourceState) (old new : Reading) (s t : State) → Progress source now old s → NextLine (answer_to long) old new now now' → TakesGiven long new.line s t → Progress source now' new t
goes-on long source now now' old new s t p n given =
    let step = step-read long old new now now' n in
    record {
      front = p.front ++ step.given;
      given = p.given ++ step.line ∷ [];
      lines = more long source now now' old new s p step;
      come = one_more p.come step.line t (taken long new.line step.line s t step.begun given);
    }

-- the source is at its end
pub ends-all : (source now now' : SourceState) (old new : Reading) (s : State) → Progress source now old s → NextLine End old new now now' → ReadAll source now' s
ends-all source now now' old new s p n =
    let g = all-given source now now' old new p.front p.given p.lines n in
    record { bytes = p.front; all = g.all; few = g.few; come = subst (λ (l : List (List ℕ)). ComeTo l s) (sym g.are) p.come }

-- no lines settle what it comes to: it comes to what all lines come to
settles : (all : List (List ℕ)) → SettleNothing Splits all
settles all o (refused s come stop e is) = ap (λ (x : Outcome). x.needs) is
settles all o (found s come e f h is) = ap (λ (x : Outcome). x.needs) is

-- the source failed
pub ends-fault : (source now now' : SourceState) (old new : Reading) (s : State) → Progress source now old s → NextLine ReadFault old new now now' → StopsAt Splits ends.ReadFault source now'
ends-fault source now now' old new s p n =
    let t = n.tells in
    let last = last-given ReadFault source now now' old new p.front p.given p.lines n t.0 t.1 t.2 in (
      rose-given source now now' old new p.front p.given p.lines n,
      record {
        text = last-text ReadFault old new now now' p.front n;
        taken = last.taken;
        unsettled = settles (lines (ended_part (last-text ReadFault old new now now' p.front n)));
        holds = tt;
      },
    )

-- as many bytes were taken as can be counted
pub ends-limit : (source now now' : SourceState) (old new : Reading) (s : State) → Progress source now old s → NextLine ByteLimit old new now now' → StopsAt Splits ends.ByteLimit source now'
ends-limit source now now' old new s p n =
    let t = n.tells in
    let last = last-given ByteLimit source now now' old new p.front p.given p.lines n t.0 t.1 t.2 in
    record {
      text = last-text ByteLimit old new now now' p.front n;
      taken = last.taken;
      unsettled = settles (lines (ended_part (last-text ByteLimit old new now now' p.front n)));
      holds = sym last.count ∙ t.3;
    }
