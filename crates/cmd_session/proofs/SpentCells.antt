-- The cells that lines took, one after another.
use Rattle.std.proofs.Common.{◌≡◌, ◌⊎◌, ℕ, ◌+◌, ◌≤◌, List, [], ◌∷◌, ◌++◌, subst, arith}
use Rattle.io_line_reader.specs.Texts.{ended_part}
use Rattle.exec_pool.specs.Counted.{StepsValue}
use Rattle.sql_text.specs.Lines.{lines}
use Rattle.cmd_session.specs.Answer.{Answer}
use Rattle.cmd_session.specs.Events.{lines_of}
use Rattle.cmd_session.specs.Session.{SessionValue, StandsFor, TakesCells, most_announced_reads, most_announced_writes}
use Rattle.cmd_session.specs.Spent.{SpentOver, reads_over, writes_over}
use Rattle.cmd_session.specs.State.{State, next_of}
use Rattle.cmd_session.proofs.MostSteps.{told_reads, told_writes}
use Rattle.cmd_session.proofs.ToldEvents.{AreTold, OnlyLines, Told, answers_of, are-answers, at, at-after, events_of}
use Rattle.cmd_session.proofs.ToldEvents as told

-- no more cells were taken than the lines may take
abbrev pub Spent : State → List Told → StepsValue → StepsValue → Type 0
Spent s ts old new = (new.reads ≤ old.reads + reads_over s (answers_of ts)) × (new.writes ≤ old.writes + writes_over s (answers_of ts))

pub spent-none : (s : State) (steps : StepsValue) → Spent s [] steps steps
spent-none s steps = (omega arith, omega arith)

reads-push : (s : State) (ts : List Told) (number : ℕ) (text : List ℕ) (answer : Answer)
    → reads_over s (answers_of (ts ++ told.line number text answer ∷ [])) ≡ reads_over s (answers_of ts) + most_announced_reads (at s ts).queries
unfolding reads_over at
reads-push s [] number text answer = omega arith
reads-push s (told.line other line known ∷ ts) number text answer = omega (arith, reads-push (next_of s known) ts number text answer)
reads-push s (told.fault other ∷ ts) number text answer = reads-push s ts number text answer

writes-push : (s : State) (ts : List Told) (number : ℕ) (text : List ℕ) (answer : Answer)
    → writes_over s (answers_of (ts ++ told.line number text answer ∷ [])) ≡ writes_over s (answers_of ts) + most_announced_writes (at s ts).queries
unfolding writes_over at
writes-push s [] number text answer = omega arith
writes-push s (told.line other line known ∷ ts) number text answer = omega (arith, writes-push (next_of s known) ts number text answer)
writes-push s (told.fault other ∷ ts) number text answer = writes-push s ts number text answer

-- one line more
pub spent-line : (s : State) (ts : List Told) (k : SessionValue) (steps spent now : StepsValue) (number : ℕ) (text : List ℕ) (answer : Answer) → Spent s ts steps spent → StandsFor k (at s ts) → TakesCells k.registry.live spent now
    → Spent s (ts ++ told.line number text answer ∷ []) steps now
spent-line s ts k steps spent now number text answer known stands takes = (
  omega (arith, known.0, reads-push s ts number text answer, told_reads k.registry (at s ts).queries now.reads spent.reads stands.queries takes.0),
  omega (arith, known.1, writes-push s ts number text answer, told_writes k.registry (at s ts).queries now.writes spent.writes stands.queries takes.1),
)

-- one line more may have been begun behind those that were answered
pub spent-over : (s : State) (text : List ℕ) (ts : List Told) (others : List (List ℕ)) (k : SessionValue) (steps spent now : StepsValue)
    → (lines text ≡ lines_of 1 (events_of ts) ++ others) ⊎ (lines (ended_part text) ≡ lines_of 1 (events_of ts) ++ others) → OnlyLines ts → AreTold s ts → Spent s ts steps spent → StandsFor k (at s ts)
    → TakesCells k.registry.live spent now → SpentOver s text steps now
spent-over s text ts others k steps spent now whole only are known stands takes =
    let read = told_reads k.registry (at s ts).queries now.reads spent.reads stands.queries takes.0 in
    let wrote = told_writes k.registry (at s ts).queries now.writes spent.writes stands.queries takes.1 in
    record {
      answered = lines_of 1 (events_of ts);
      others = others;
      whole = whole;
      answers = answers_of ts;
      are = are-answers s ts only are;
      reads = subst (λ (u : State). now.reads ≤ steps.reads + (reads_over s (answers_of ts) + most_announced_reads u.queries)) (at-after s ts) (omega (arith, known.0, read));
      writes = subst (λ (u : State). now.writes ≤ steps.writes + (writes_over s (answers_of ts) + most_announced_writes u.queries)) (at-after s ts) (omega (arith, known.1, wrote));
    }
