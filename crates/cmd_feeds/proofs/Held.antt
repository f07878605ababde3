-- What of the texts of events was passed on, and what is held, where feeds have locks.
use Rattle.std.proofs.Common.{◌≡◌, ℕ, ◌≤◌, List, [], ◌∷◌, ◌++◌, sym, ap, ◌∙◌, subst, append_assoc, append-nil, length-append, arith, IfSome}
use Rattle.std.specs.Io.KnownBytes.{Appends}
use Rattle.std.proofs.KnownBytes.{Appends-nil}
use Rattle.io_streams.specs.Sink.{SinkState, Wrote, BrokeOff}
use Rattle.io_streams.specs.Gathered.{gathered_seen, StaysHeld}
use Rattle.std.specs.declared.option.Option.{Option}
use Rattle.cmd_session.specs.Lock.{Lock}
use Rattle.cmd_session.specs.State.{State}
use Rattle.cmd_session.proofs.Passing.{Passed, passed-more, passed-flush, passed-all, IfSome-map}
use Rattle.cmd_session.proofs.ToldEvents.{Told}
use Rattle.cmd_session.proofs.Held.{IfSome-each}
use Rattle.cmd_feeds.proofs.Told.{IsTold, reply, at, replied, AreTold, replied-none, replied-append, replied-push, AreTold-push}
use Rattle.cmd_feeds.proofs.Stops.{Stopped, stopped}

-- Each of these events came to this, one after another. The texts of those that were answered before the last read of a source stand
-- below. Those of the pending events, which came since, may be held.
pub record Held (gates : List (Option Lock)) (s : State) (answered pending : List Told) (before below : SinkState) (held : List ℕ) : Type 0 where
  pub are : AreTold gates s (answered ++ pending)
  pub sunk : IfSome before.written (λ _. Passed before.written below.written (replied gates s answered) (replied gates (at gates s answered) pending) held)
  pub later : before.faults ≤ below.faults

none-passed : (gates : List (Option Lock)) (s : State) (before : SinkState) (held : List ℕ) → held ≡ [] → Passed before.written before.written (replied gates s []) (replied gates (at gates s []) []) held
none-passed gates s before held e = record {
  passed = [];
  written = subst (Appends before.written before.written) (sym (ap (λ l. l ++ []) (replied-none gates s))) (Appends-nil before.written);
  whole = e ∙ sym (replied-none gates (at gates s []));
}

-- nothing came
pub held-none : (gates : List (Option Lock)) (s : State) (before : SinkState) (held : List ℕ) → held ≡ [] → Held gates s [] [] before before held
held-none gates s before held empty = record {
  are = tt;
  sunk = IfSome-each before.written (λ _. Passed before.written before.written (replied gates s []) (replied gates (at gates s []) []) held) (λ _. none-passed gates s before held empty);
  later = omega arith;
}

-- what was held is written, so the texts of all events stand below
pub held-all : (gates : List (Option Lock)) (s : State) (answered pending : List Told) (before below below' : SinkState) (held : List ℕ) → Held gates s answered pending before below held
    → Appends below.written below'.written held → Appends before.written below'.written (replied gates s (answered ++ pending))
held-all gates s answered pending before below below' held h w =
    subst (Appends before.written below'.written) (sym (replied-append gates s answered pending))
    (passed-all before.written below.written below'.written (replied gates s answered) (replied gates (at gates s answered) pending) held h.sunk w)

pub held-flushed : (gates : List (Option Lock)) (s : State) (answered pending : List Told) (before below below' : SinkState) (held held' : List ℕ) → Held gates s answered pending before below held
    → Wrote below below' held → held' ≡ [] → Held gates s (answered ++ pending) [] before below' held'
held-flushed gates s answered pending before below below' held held' h wrote none =
    let all = answered ++ pending in
    let below-all = held-all gates s answered pending before below below' held h wrote.bytes in
    record {
      are = subst (AreTold gates s) (sym (append-nil all)) h.are;
      sunk = IfSome-each before.written (λ _. Passed before.written below'.written (replied gates s all) (replied gates (at gates s all) []) held') (λ _. record {
        passed = [];
        written = subst (Appends before.written below'.written) (sym (append-nil (replied gates s all))) below-all;
        whole = none ∙ sym (replied-none gates (at gates s all));
      });
      later = omega (arith, h.later, wrote.later.faults);
    }

-- the text of one more event was written to the gatherer
pub held-more : (gates : List (Option Lock)) (s : State) (answered pending : List Told) (before below below' : SinkState) (held held' : List ℕ) (name name' : ℕ) (t : Told) → Held gates s answered pending before below held
    → IsTold gates (at gates s (answered ++ pending)) t → Wrote (gathered_seen below name held) (gathered_seen below' name' held') (reply gates (at gates s (answered ++ pending)) t)
    → Held gates s answered (pending ++ t ∷ []) before below' held'
held-more gates s answered pending before below below' held held' name name' t h told wrote =
    let all = answered ++ pending in
    let more = passed-more before.written below.written below'.written (replied gates s answered) (replied gates (at gates s answered) pending) held held' (reply gates (at gates s all) t) h.sunk wrote.bytes wrote.later.passed in
    record {
      are = subst (AreTold gates s) (append_assoc answered pending (t ∷ [])) (AreTold-push gates s all t h.are told);
      sunk = subst (λ u. IfSome before.written (λ _. Passed before.written below'.written (replied gates s answered) u held')) (sym (replied-push gates s answered pending t)) more;
      later = omega (arith, h.later, wrote.later.faults);
    }

-- nothing was written to the gatherer
pub held-still : (gates : List (Option Lock)) (s : State) (answered pending : List Told) (before below below' : SinkState) (held held' : List ℕ) (name name' : ℕ) → Held gates s answered pending before below held
    → Wrote (gathered_seen below name held) (gathered_seen below' name' held') [] → Held gates s answered pending before below' held'
held-still gates s answered pending before below below' held held' name name' h wrote =
    let more = passed-more before.written below.written below'.written (replied gates s answered) (replied gates (at gates s answered) pending) held held' [] h.sunk wrote.bytes wrote.later.passed in
    record {
      are = h.are;
      sunk = subst (λ u. IfSome before.written (λ _. Passed before.written below'.written (replied gates s answered) u held')) (append-nil (replied gates (at gates s answered) pending)) more;
      later = omega (arith, h.later, wrote.later.faults);
    }

-- the sink failed while what was held was written
pub held-stopped : (gates : List (Option Lock)) (s : State) (answered pending : List Told) (before below below' : SinkState) (held kept : List ℕ) → Held gates s answered pending before below held
    → StaysHeld below below' held kept → IfSome before.written (λ _. Stopped gates s answered pending before below')
held-stopped gates s answered pending before below below' held kept h stays =
    let passed = passed-flush before.written below.written below'.written (replied gates s answered) (replied gates (at gates s answered) pending) held stays.front kept h.sunk stays.whole stays.wrote.bytes in
    IfSome-map before.written (λ _. Passed before.written below'.written (replied gates s answered) (replied gates (at gates s answered) pending) kept) (λ _. Stopped gates s answered pending before below')
    (λ _ q. stopped gates s answered pending before below' kept (omega (arith, stays.some)) q) passed

-- the sink failed in the text of one more event, or in an earlier one that was held
pub held-broke : (gates : List (Option Lock)) (s : State) (answered pending : List Told) (before below below' : SinkState) (held held' : List ℕ) (name name' : ℕ) (t : Told) → Held gates s answered pending before below held
    → BrokeOff (gathered_seen below name held) (gathered_seen below' name' held') (reply gates (at gates s (answered ++ pending)) t)
    → IfSome before.written (λ _. Stopped gates s answered (pending ++ t ∷ []) before below')
held-broke gates s answered pending before below below' held held' name name' t h broke =
    let pushed = pending ++ t ∷ [] in
    let more = passed-more before.written below.written below'.written (replied gates s answered) (replied gates (at gates s answered) pending) held held' broke.front h.sunk broke.wrote.bytes broke.wrote.later.passed in
    let begun : replied gates (at gates s answered) pushed ≡ (replied gates (at gates s answered) pending ++ broke.front) ++ broke.rest =
    replied-push gates s answered pending t ∙ ap (λ l. replied gates (at gates s answered) pending ++ l) broke.whole ∙ sym (append_assoc (replied gates (at gates s answered) pending) broke.front broke.rest) in
    IfSome-map before.written (λ _. Passed before.written below'.written (replied gates s answered) (replied gates (at gates s answered) pending ++ broke.front) held') (λ _. Stopped gates s answered pushed before below')
    (λ _ q. stopped gates s answered pushed before below' (held' ++ broke.rest) (omega (arith, length-append pending (t ∷ [])))
    (record { passed = q.passed; written = q.written; whole = sym (append_assoc q.passed held' broke.rest) ∙ ap (λ l. l ++ broke.rest) q.whole ∙ sym begun }))
    more
