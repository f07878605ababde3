-- How far a script was read, and how reading ends.
use Rattle.std.proofs.Common.{◌≡◌, ℕ, ◌+◌, ◌-◌, ◌^◌, ◌<◌, ◌≤◌, Bool, true, false, if◌then◌else◌, List, [], ◌∷◌, ◌++◌, length, refl, sym, ap, ◌∙◌, subst, length-append, arith}
use Rattle.io_streams.specs.Source.{SourceState}
use Rattle.sql_text.specs.Lines.{lines}
use Rattle.io_line_reader.specs.declared.reader.LineAnswer.TheVariants.{End, ReadFault, ByteLimit}
use Rattle.io_line_reader.specs.Reading.{Reading, fresh, NextLine, answer_to, IsBegun}
use Rattle.io_line_reader.specs.Texts.{ended_part}
use Rattle.io_line_reader.specs.GivenLines.{GivenLines}
use Rattle.io_line_reader.proofs.GivenLines.{Step, step-read, given-line, given-none}
use Rattle.io_line_reader.proofs.GivenEnds.{all-given, last-given, last-text, rose-given}
use Rattle.sql_script.specs.declared.end.ScriptEnd.TheVariants as ends
use Rattle.sql_script.specs.Commands.{Outcome, SettleNothing}
use Rattle.sql_script.specs.Ending.{StopsAt}
use Rattle.adv_diagnosis.specs.declared.fault.Asks.{Asks}
use Rattle.adv_diagnosis.specs.declared.fault.Asks.TheVariants as asks
use Rattle.adv_mends.specs.declared.judging.Judgement.{Judgement}
use Rattle.cmd_advise.specs.State.{State, empty, free_pages, is_accepted, one_query_more}
use Rattle.cmd_advise.specs.Finding.{Finding, fine, fault, query, after, after_asks, finding_text}
use Rattle.cmd_advise.specs.Advising.{ComeTo, none, one_more, Advises}
use Rattle.cmd_advise.specs.Reading.{ReadAll}
use Rattle.cmd_advise.specs.LineSteps.{TookLine, TookGiven}
use Rattle.cmd_advise.proofs.LineLaws.{took_long}

-- these lines were given, and they come to this text and this state
pub record Progress (source now : SourceState) (reader : Reading) (text : List ℕ) (s : State) : Type 0 where
  pub front : List ℕ
  pub given : List (List ℕ)
  pub lines : GivenLines source now reader front given
  pub come : ComeTo given text s

pub begins : (source : SourceState) (reader : Reading) (text : List ℕ) (s : State) → reader ≡ fresh → text ≡ [] → s ≡ empty → Progress source source reader text s
begins source reader text s new nothing first = record {
  front = [];
  given = [];
  lines = subst (λ r. GivenLines source source r [] []) (sym new) (given-none source);
  come = subst (λ (t : List ℕ). ComeTo [] t s) (sym nothing) (subst (λ (t : State). ComeTo [] [] t) (sym first) none);
}

-- each line is counted
lines-either : (b : Bool) (s t : State) (n : ℕ) → s.lines ≡ n → t.lines ≡ n → (if b then s else t).lines ≡ n
lines-either true s t n e f = e
lines-either false s t n e f = f

lines-query : (s : State) (name : List ℕ) (j : Judgement) → (one_query_more s name j).lines ≡ s.lines + 1
lines-query s name j = lines-either (is_accepted (free_pages s) j) _ _ _ refl refl

lines-asks : (s : State) (a : Asks) → (after_asks s a).lines ≡ s.lines + 1
lines-asks s asks.Nothing = refl
lines-asks s asks.Row = refl
lines-asks s (asks.Stream name columns) = refl
lines-asks s (asks.Query name q shared) = refl
lines-asks s asks.Explain = refl
lines-asks s (asks.Drop name) = refl
lines-asks s asks.Other = refl
lines-asks s (asks.Lock key streams) = refl
lines-asks s asks.Unlock = refl

lines-after : (s : State) (line : List ℕ) (f : Finding) → (after s line f).lines ≡ s.lines + 1
lines-after s line (fine a) = lines-asks s a
lines-after s line (fault wrong) = refl
lines-after s line (query a) = lines-query s a.name a.advice.judgement

come-lines : {given : List (List ℕ)} {text : List ℕ} {s : State} → ComeTo given text s → s.lines ≡ length given
come-lines none = refl
come-lines (one_more come line f is) = lines-after _ line f ∙ ap (λ n. n + 1) (come-lines come) ∙ sym (length-append _ (line ∷ []))

-- one more line was given
more : (long : Bool) (source now now' : SourceState) (old new : Reading) (text : List ℕ) (s : State) (p : Progress source now old text s) → (step : Step long old new now now')
    → GivenLines source now' new (p.front ++ step.given) (p.given ++ step.line ∷ [])
more long source now now' old new text s p step = given-line long old new source now now' p.front p.given p.lines step

-- the lines before it can be counted
pub few : (long : Bool) (source now now' : SourceState) (old new : Reading) (text : List ℕ) (s : State) → Progress source now old text s → NextLine (answer_to long) old new now now' → s.lines < 2 ^ 64 - 1
few long source now now' old new text s p n =
    let step = step-read long old new now now' n in
    let g = more long source now now' old new text s p step in
    omega (arith, come-lines p.come, g.numbered, g.counted.0, g.counted.1, length-append p.given (step.line ∷ []))

-- more lines were given than before, and they can be counted
pub counts : (long : Bool) (source now now' : SourceState) (old new : Reading) (text : List ℕ) (s : State) → Progress source now old text s → NextLine (answer_to long) old new now now' → (old.lines < new.lines) × (new.lines < 2 ^ 64)
counts long source now now' old new text s p n =
    let step = step-read long old new now now' n in (omega (arith, step.lines), omega (arith, step.counted.0, step.counted.1))

-- a line is short where it is not too long
pub short : (long : Bool) (source now : SourceState) (old new : Reading) → NextLine (answer_to long) old new source now → long ≡ false → length new.line ≤ 1024
short long source now old new n e = (step-read long old new source now n).short e

-- what taking a line comes to, of the line that was given
taken : (long : Bool) (line given : List ℕ) (s t : State) (text text' : List ℕ) → IsBegun long line given → TookGiven long line s t text text' → TookLine given s t text text'
taken true line given s t text text' begun took = took_long given s t text text' begun took
taken false line given s t text text' begun took = subst (λ l. TookLine l s t text text') begun took

-- a line was taken
pub goes-on : (long : Bool) (source now now' : SourceState) (old new : Reading) (text text' : List ℕ) (s t : State) → Progress source now old text s → NextLine (answer_to long) old new now now' → TookGiven long new.line s t text text' → Progress source now' new text' t
goes-on long source now now' old new text text' s t p n given =
    let step = step-read long old new now now' n in
    let took : TookLine step.line s t text text' = taken long new.line step.line s t text text' step.begun given in
    record {
      front = p.front ++ step.given;
      given = p.given ++ step.line ∷ [];
      lines = more long source now now' old new text s p step;
      come = subst (λ (u : List ℕ). ComeTo (p.given ++ step.line ∷ []) u t) (sym took.text) (subst (λ (z : State). ComeTo (p.given ++ step.line ∷ []) (text ++ finding_text s step.line took.finding) z) (sym took.state)
          (one_more p.come step.line took.finding took.is));
    }

-- the source is at its end
pub ends-all : (source now now' : SourceState) (old new : Reading) (text : List ℕ) (s : State) → Progress source now old text s → NextLine End old new now now' → ReadAll source now' text s
ends-all source now now' old new text s p n =
    let g = all-given source now now' old new p.front p.given p.lines n in
    record { bytes = p.front; all = g.all; few = g.few; come = subst (λ (l : List (List ℕ)). ComeTo l text s) (sym g.are) p.come }

-- no lines settle what it comes to: it comes to what all lines come to
settles : (all : List (List ℕ)) → SettleNothing Advises all
settles all o a = ap (λ (x : Outcome). x.needs) a.is

-- the source failed
pub ends-fault : (source now now' : SourceState) (old new : Reading) (text : List ℕ) (s : State) → Progress source now old text s → NextLine ReadFault old new now now' → StopsAt Advises ends.ReadFault source now'
ends-fault source now now' old new text s p n =
    let t = n.tells in
    let last = last-given ReadFault source now now' old new p.front p.given p.lines n t.0 t.1 t.2 in (
      rose-given source now now' old new p.front p.given p.lines n,
      record {
        text = last-text ReadFault old new now now' p.front n;
        taken = last.taken;
        unsettled = settles (lines (ended_part (last-text ReadFault old new now now' p.front n)));
        holds = tt;
      },
    )

-- as many bytes were taken as can be counted
pub ends-limit : (source now now' : SourceState) (old new : Reading) (text : List ℕ) (s : State) → Progress source now old text s → NextLine ByteLimit old new now now' → StopsAt Advises ends.ByteLimit source now'
ends-limit source now now' old new text s p n =
    let t = n.tells in
    let last = last-given ByteLimit source now now' old new p.front p.given p.lines n t.0 t.1 t.2 in
    record {
      text = last-text ByteLimit old new now now' p.front n;
      taken = last.taken;
      unsettled = settles (lines (ended_part (last-text ByteLimit old new now now' p.front n)));
      holds = sym last.count ∙ t.3;
    }
