-- What of the texts of events was passed on, and what is held, whichever source they came from.
use Rattle.std.proofs.Common.{◌≡◌, ℕ, ◌≤◌, List, [], ◌∷◌, ◌++◌, sym, ap, ◌∙◌, subst, append_assoc, append-nil, length-append, arith, None, Some, IfSome}
use Rattle.std.specs.declared.option.Option.{Option}
use Rattle.std.specs.Io.KnownBytes.{Appends}
use Rattle.std.proofs.KnownBytes.{Appends-nil}
use Rattle.io_streams.specs.Sink.{SinkState, Wrote, BrokeOff}
use Rattle.io_streams.specs.Gathered.{gathered_seen, StaysHeld}
use Rattle.cmd_session.specs.State.{State}
use Rattle.cmd_session.proofs.Passing.{Passed, passed-more, passed-flush, passed-all, IfSome-map}
use Rattle.cmd_session.proofs.ToldEvents.{Told, IsTold, reply, at, replied, AreTold, replied-none, replied-append, replied-push, AreTold-push}
use Rattle.cmd_session.proofs.Stops.{Stopped, stopped}

-- Each of these events came to this, one after another. The texts of those that were answered before the last read of a source stand
-- below. Those of the pending events, which came since, may be held.
pub record Held (s : State) (answered pending : List Told) (before below : SinkState) (held : List ℕ) : Type 0 where
  pub are : AreTold s (answered ++ pending)
  pub sunk : IfSome before.written (λ _. Passed before.written below.written (replied s answered) (replied (at s answered) pending) held)
  pub later : before.faults ≤ below.faults

-- while a line was fetched the events stayed as they were, or all of them came to stand below
pub data Moves (answered pending answered' pending' : List Told) : Type 0 where
  stay : answered' ≡ answered → pending' ≡ pending → Moves answered pending answered' pending'
  sink : answered' ≡ answered ++ pending → pending' ≡ [] → Moves answered pending answered' pending'

pub moves-all : (answered pending answered' pending' : List Told) → Moves answered pending answered' pending' → answered' ++ pending' ≡ answered ++ pending
moves-all answered pending answered' pending' (stay a p) = ap (λ l. l ++ pending') a ∙ ap (λ l. answered ++ l) p
moves-all answered pending answered' pending' (sink a p) = ap (λ l. l ++ pending') a ∙ ap (λ l. (answered ++ pending) ++ l) p ∙ append-nil (answered ++ pending)

pub IfSome-each : {X : Type 0} (o : Option X) (P : X → Type 0) → ((x : X) → P x) → IfSome o P
IfSome-each None P f = tt
IfSome-each (Some x) P f = f x

none-passed : (s : State) (before : SinkState) (held : List ℕ) → held ≡ [] → Passed before.written before.written (replied s []) (replied (at s []) []) held
none-passed s before held e = record {
  passed = [];
  written = subst (Appends before.written before.written) (sym (ap (λ l. l ++ []) (replied-none s))) (Appends-nil before.written);
  whole = e ∙ sym (replied-none (at s []));
}

-- nothing came
pub held-none : (s : State) (before : SinkState) (held : List ℕ) → held ≡ [] → Held s [] [] before before held
held-none s before held empty = record {
  are = tt;
  sunk = IfSome-each before.written (λ _. Passed before.written before.written (replied s []) (replied (at s []) []) held) (λ _. none-passed s before held empty);
  later = omega arith;
}

-- what was held is written, so the texts of all events stand below
pub held-all : (s : State) (answered pending : List Told) (before below below' : SinkState) (held : List ℕ) → Held s answered pending before below held
    → Appends below.written below'.written held → Appends before.written below'.written (replied s (answered ++ pending))
held-all s answered pending before below below' held h w =
    subst (Appends before.written below'.written) (sym (replied-append s answered pending))
    (passed-all before.written below.written below'.written (replied s answered) (replied (at s answered) pending) held h.sunk w)

pub held-flushed : (s : State) (answered pending : List Told) (before below below' : SinkState) (held held' : List ℕ) → Held s answered pending before below held
    → Wrote below below' held → held' ≡ [] → Held s (answered ++ pending) [] before below' held'
held-flushed s answered pending before below below' held held' h wrote none =
    let all = answered ++ pending in
    let below-all = held-all s answered pending before below below' held h wrote.bytes in
    record {
      are = subst (AreTold s) (sym (append-nil all)) h.are;
      sunk = IfSome-each before.written (λ _. Passed before.written below'.written (replied s all) (replied (at s all) []) held') (λ _. record {
        passed = [];
        written = subst (Appends before.written below'.written) (sym (append-nil (replied s all))) below-all;
        whole = none ∙ sym (replied-none (at s all));
      });
      later = omega (arith, h.later, wrote.later.faults);
    }

-- the text of one more event was written to the gatherer
pub held-more : (s : State) (answered pending : List Told) (before below below' : SinkState) (held held' : List ℕ) (name name' : ℕ) (t : Told) → Held s answered pending before below held
    → IsTold (at s (answered ++ pending)) t → Wrote (gathered_seen below name held) (gathered_seen below' name' held') (reply (at s (answered ++ pending)) t)
    → Held s answered (pending ++ t ∷ []) before below' held'
held-more s answered pending before below below' held held' name name' t h told wrote =
    let all = answered ++ pending in
    let more = passed-more before.written below.written below'.written (replied s answered) (replied (at s answered) pending) held held' (reply (at s all) t) h.sunk wrote.bytes wrote.later.passed in
    record {
      are = subst (AreTold s) (append_assoc answered pending (t ∷ [])) (AreTold-push s all t h.are told);
      sunk = subst (λ u. IfSome before.written (λ _. Passed before.written below'.written (replied s answered) u held')) (sym (replied-push s answered pending t)) more;
      later = omega (arith, h.later, wrote.later.faults);
    }

-- nothing was written to the gatherer
pub held-still : (s : State) (answered pending : List Told) (before below below' : SinkState) (held held' : List ℕ) (name name' : ℕ) → Held s answered pending before below held
    → Wrote (gathered_seen below name held) (gathered_seen below' name' held') [] → Held s answered pending before below' held'
held-still s answered pending before below below' held held' name name' h wrote =
    let more = passed-more before.written below.written below'.written (replied s answered) (replied (at s answered) pending) held held' [] h.sunk wrote.bytes wrote.later.passed in
    record {
      are = h.are;
      sunk = subst (λ u. IfSome before.written (λ _. Passed before.written below'.written (replied s answered) u held')) (append-nil (replied (at s answered) pending)) more;
      later = omega (arith, h.later, wrote.later.faults);
    }

-- the sink failed while what was held was written
pub held-stopped : (s : State) (answered pending : List Told) (before below below' : SinkState) (held kept : List ℕ) → Held s answered pending before below held
    → StaysHeld below below' held kept → IfSome before.written (λ _. Stopped s answered pending before below')
held-stopped s answered pending before below below' held kept h stays =
    let passed = passed-flush before.written below.written below'.written (replied s answered) (replied (at s answered) pending) held stays.front kept h.sunk stays.whole stays.wrote.bytes in
    IfSome-map before.written (λ _. Passed before.written below'.written (replied s answered) (replied (at s answered) pending) kept) (λ _. Stopped s answered pending before below')
    (λ _ q. stopped s answered pending before below' kept (omega (arith, stays.some)) q) passed

-- the sink failed in the text of one more event, or in an earlier one that was held
pub held-broke : (s : State) (answered pending : List Told) (before below below' : SinkState) (held held' : List ℕ) (name name' : ℕ) (t : Told) → Held s answered pending before below held
    → BrokeOff (gathered_seen below name held) (gathered_seen below' name' held') (reply (at s (answered ++ pending)) t)
    → IfSome before.written (λ _. Stopped s answered (pending ++ t ∷ []) before below')
held-broke s answered pending before below below' held held' name name' t h broke =
    let pushed = pending ++ t ∷ [] in
    let more = passed-more before.written below.written below'.written (replied s answered) (replied (at s answered) pending) held held' broke.front h.sunk broke.wrote.bytes broke.wrote.later.passed in
    let begun : replied (at s answered) pushed ≡ (replied (at s answered) pending ++ broke.front) ++ broke.rest =
    replied-push s answered pending t ∙ ap (λ l. replied (at s answered) pending ++ l) broke.whole ∙ sym (append_assoc (replied (at s answered) pending) broke.front broke.rest) in
    IfSome-map before.written (λ _. Passed before.written below'.written (replied s answered) (replied (at s answered) pending ++ broke.front) held') (λ _. Stopped s answered pushed before below')
    (λ _ q. stopped s answered pushed before below' (held' ++ broke.rest) (omega (arith, length-append pending (t ∷ [])))
    (record { passed = q.passed; written = q.written; whole = sym (append_assoc q.passed held' broke.rest) ∙ ap (λ l. l ++ broke.rest) q.whole ∙ sym begun }))
    more
