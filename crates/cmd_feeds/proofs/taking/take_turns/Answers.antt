use Rattle.std.proofs.Common.{◌++◌, ◌+◌, ◌∙◌, refl, sym, ap, arith, length, replicate, ℕ}
use Rattle.std.proofs.lemmas.List.{length-replicate}
use Rattle.cmd_feeds.specs.Gates.{under}
use Rattle.cmd_feeds.specs.Visited.{new_lane}
use Rattle.cmd_feeds.proofs.Advance.{around-round}
use Rattle.cmd_feeds.proofs.Around.{around-enter}
use Rattle.cmd_feeds.proofs.Bounds.{around-begins, inside-state, rows-size, all-closed, size-map}
use Rattle.cmd_feeds.proofs.Ends.{ends-finished}
use Rattle.cmd_feeds.proofs.Told.{at}
use Rattle.cmd_feeds.proofs.Visits.{leads, around-next}
use Rattle.cmd_feeds.proofs.taking.take_turns.Goals as goal

pub rounds-init : goal.rounds-init
rounds-init g c = record {
  around = λ s stands. around-begins _ s _ _ _ _ _ _ (c.requires.new ∙ ap (λ (n : ℕ). replicate n new_lane) (sym (size-map g.I.Source.seen c.args.feeds.now))) c.lines-lines.ensures c.requires.held stands;
  lanes = ap length c.requires.new ∙ length-replicate (length c.args.feeds.now) new_lane;
  feeds = refl;
  room = omega (arith, c.lines-lines.ensures, c.requires.room);
  same = refl;
}

pub returns-then-not-any_open-clause-ran : goal.returns-then-not-any_open-clause-ran
returns-then-not-any_open-clause-ran g c = λ s stands.
    ends-finished _ _ s _ _ _ _ _ _ _ _ _ _ (c.rounds.invariant.around s stands).course c.rounds.invariant.room (sym c.any_open.ensures ∙ c.if-not-any_open.true) c.finish.ensures.finished

pub visit-requires-clause-stands : goal.visit-requires-clause-stands
visit-requires-clause-stands g c =
    let known = c.requires.stands in
    inside-state _ known.state _ _ _ _ _ (around-enter _ known.state _ _ _ _ _ _ _ _ _ _ _ (c.visits.invariant.around known.state known.stands) c.set_gate.ensures)

pub visit-requires-clause-counted : goal.visit-requires-clause-counted
visit-requires-clause-counted g c =
    let known = c.requires.stands in
    (around-enter _ known.state _ _ _ _ _ _ _ _ _ _ _ (c.visits.invariant.around known.state known.stands) c.set_gate.ensures).counted

pub returns-in-Some-clause-ran : goal.returns-in-Some-clause-ran
returns-in-Some-clause-ran g c = λ s stands.
    let i = c.visits.invariant.around s stands in
    let inside = around-enter _ s _ _ _ _ _ _ _ _ _ _ _ i c.set_gate.ensures in
    let size = rows-size _ s _ _ _ _ _ _ _ _ _ i.course in
    leads _ _ s _ _ _ _ _ _ _ _ _ _ _ _ _ _ _ _ i.course inside (omega (arith, c.visits-test.true, size, c.visits.auto.lanes, c.visits.invariant.lanes, c.rounds.invariant.lanes)) c.visits.invariant.room
    (c.in-Some.ensures.visited (under c.args.gates.now (1 + c.visits.place) (at c.args.gates.now s (i.course.answered ++ i.course.pending))) inside.stands)

pub visits-preserved : goal.visits-preserved
visits-preserved g c = record {
  around = λ s stands.
      let i = c.visits.invariant.around s stands in
      let inside = around-enter _ s _ _ _ _ _ _ _ _ _ _ _ i c.set_gate.ensures in
      let size = rows-size _ s _ _ _ _ _ _ _ _ _ i.course in
      around-next _ s _ _ _ _ _ _ _ _ _ _
      (leads _ _ s _ _ _ _ _ _ _ _ _ _ _ _ _ _ _ _ i.course inside (omega (arith, c.visits-test.true, size, c.visits.auto.lanes, c.visits.invariant.lanes, c.rounds.invariant.lanes)) c.visits.invariant.room
      (c.in-None.ensures.visited (under c.args.gates.now (1 + c.visits.place) (at c.args.gates.now s (i.course.answered ++ i.course.pending))) inside.stands));
  lanes = c.visit.auto.lanes ∙ c.visits.invariant.lanes;
  feeds = c.visit.auto.feeds ∙ c.visits.invariant.feeds;
  room = c.in-None.ensures.room;
  same = c.in-None.ensures.same_reference ∙ c.visits.invariant.same;
}

pub rounds-preserved : goal.rounds-preserved
rounds-preserved g c = record {
  around = λ s stands.
      let i = c.visits.invariant.around s stands in
      let size = rows-size _ s _ _ _ _ _ _ _ _ _ i.course in
      around-round _ s _ _ _ _ _ _ _ _ _ _ i (omega (arith, c.visits-test.false, c.visits.auto.place-end, size, c.visits.auto.lanes, c.visits.invariant.lanes, c.rounds.invariant.lanes));
  lanes = c.visits.invariant.lanes;
  feeds = c.visits.invariant.feeds;
  room = c.visits.invariant.room;
  same = c.visits.invariant.same;
}

pub returns-clause-ran : goal.returns-clause-ran
returns-clause-ran g c = λ s stands.
    let i = c.rounds.invariant.around s stands in
    ends-finished _ _ s _ _ _ _ _ _ _ _ _ _ i.course c.rounds.invariant.room (all-closed _ s _ _ _ _ _ _ _ _ i.course (omega (arith, c.rounds-test.false, c.rounds.invariant.room))) c.finish-2.ensures.finished
