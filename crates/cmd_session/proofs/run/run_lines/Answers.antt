use Rattle.std.proofs.Common.{◌++◌, ◌∙◌, [], refl, arith}
use Rattle.cmd_session.proofs.ToldEvents.{at}
use Rattle.cmd_session.proofs.AnsweredLines.{rows_leave}
use Rattle.cmd_session.proofs.AnsweredProgress.{progress-answered}
use Rattle.cmd_session.proofs.Progress.{begins, counted, progress-line, has-state}
use Rattle.cmd_session.proofs.Exits.{ends-as, ends-done, ends-full, full-answered, full-flushed, ends-read_fault, ends-byte_limit, ends-stopped, ends-memory}
use Rattle.cmd_session.proofs.SpentExits.{spent-turned, spent-uncounted}
use Rattle.cmd_session.specs.declared.one_turn.Turn.TheVariants as turns
use Rattle.cmd_session.proofs.run.run_lines.Goals as goal

pub answering-init : goal.answering-init
answering-init g c = record {
  progress = λ s stands. begins s _ _ _ _ _ c.requires.reader c.requires.held stands;
  same = refl;
}

pub next_turn-requires-clause-stands : goal.next_turn-requires-clause-stands
next_turn-requires-clause-stands g c =
    let known = c.requires.stands in
    has-state known.state _ _ _ _ _ _ _ (c.answering.invariant.progress known.state known.stands)

pub answering-preserved : goal.answering-preserved
answering-preserved g c = record {
  progress = λ s stands.
      let p = c.answering.invariant.progress s stands in
      let turn = c.in-Answered.ensures.turned in
      let q = progress-answered s _ _ _ _ _ _ _ _ _ _ _ _ _ _ p turn.rows in
      progress-line s _ _ _ _ _ _ _ _ _ _ _ _ _ _ _ q (turn.turned (at s (q.answered ++ q.pending)) q.stands) turn.takes;
  same = c.in-Answered.ensures.same_reference ∙ c.answering.invariant.same;
}

pub answering-smaller : goal.answering-smaller
answering-smaller g c =
    let known = c.requires.stands in
    let p = c.answering.invariant.progress known.state known.stands in
    let turn = c.in-Answered.ensures.turned in
    let leaves = rows_leave _ _ _ _ _ _ _ _ _ _ _ (has-state known.state _ _ _ _ _ _ _ p) turn.rows in
    let line = turn.turned leaves.state.state leaves.state.stands in
    let given = counted line.long _ _ _ _ _ _ _ _ line.came in
    omega (arith, given.lines, given.few, leaves.later)

pub returns-in-Ended-clause-streams : goal.returns-in-Ended-clause-streams
returns-in-Ended-clause-streams g c = λ s stands.
    let p = c.answering.invariant.progress s stands in
    let turn = c.in-Ended.ensures.turned in
    let q = progress-answered s _ _ _ _ _ _ _ _ _ _ _ _ _ _ p turn.rows in
    ends-done s _ _ _ _ _ _ _ _ _ _ _ q (turn.turned (at s (q.answered ++ q.pending)) q.stands).0

pub returns-in-Ended-clause-done : goal.returns-in-Ended-clause-done
returns-in-Ended-clause-done g c = λ done s stands.
    let p = c.answering.invariant.progress s stands in
    let turn = c.in-Ended.ensures.turned in
    let q = progress-answered s _ _ _ _ _ _ _ _ _ _ _ _ _ _ p turn.rows in
    let ended = turn.turned (at s (q.answered ++ q.pending)) q.stands in
    ends-as s _ _ _ _ _ _ _ _ _ _ _ _ q ended.0 ended.1

pub returns-in-Ended-clause-flushed : goal.returns-in-Ended-clause-flushed
returns-in-Ended-clause-flushed g c = λ done.
    let known = c.requires.stands in
    let p = c.answering.invariant.progress known.state known.stands in
    let turn = c.in-Ended.ensures.turned in
    let q = progress-answered known.state _ _ _ _ _ _ _ _ _ _ _ _ _ _ p turn.rows in
    (turn.turned (at known.state (q.answered ++ q.pending)) q.stands).0.none

pub returns-then-is_full-clause-streams : goal.returns-then-is_full-clause-streams
returns-then-is_full-clause-streams g c = λ s stands.
    let p = c.answering.invariant.progress s stands in
    ends-full _ s _ _ _ _ _ _ _ _ _ _ _ p (c.if-is_full.ensures.full refl) c.end_uncounted.ensures.ends

pub returns-then-is_full-clause-done : goal.returns-then-is_full-clause-done
returns-then-is_full-clause-done g c = λ done s stands.
    let p = c.answering.invariant.progress s stands in
    full-answered _ s _ _ _ _ _ _ _ _ _ _ _ done p c.end_uncounted.ensures.ends

pub returns-then-is_full-clause-flushed : goal.returns-then-is_full-clause-flushed
returns-then-is_full-clause-flushed g c = λ done. full-flushed _ _ _ _ _ _ _ _ _ done c.end_uncounted.ensures.ends

pub returns-in-Failed-clause-streams : goal.returns-in-Failed-clause-streams
returns-in-Failed-clause-streams g c = λ s stands.
    let p = c.answering.invariant.progress s stands in
    let turn = c.in-Failed.ensures.turned in
    let q = progress-answered s _ _ _ _ _ _ _ _ _ _ _ _ _ _ p turn.rows in
    ends-read_fault s _ _ _ _ _ _ _ _ _ _ _ q (turn.turned (at s (q.answered ++ q.pending)) q.stands).0

pub returns-in-Full-clause-streams : goal.returns-in-Full-clause-streams
returns-in-Full-clause-streams g c = λ s stands.
    let p = c.answering.invariant.progress s stands in
    let turn = c.in-Full.ensures.turned in
    let q = progress-answered s _ _ _ _ _ _ _ _ _ _ _ _ _ _ p turn.rows in
    ends-byte_limit s _ _ _ _ _ _ _ _ _ _ _ q (turn.turned (at s (q.answered ++ q.pending)) q.stands).0

pub returns-in-Stopped-clause-streams : goal.returns-in-Stopped-clause-streams
returns-in-Stopped-clause-streams g c = λ s stands.
    let p = c.answering.invariant.progress s stands in
    let turn = c.in-Stopped.ensures.turned in
    let q = progress-answered s _ _ _ _ _ _ _ _ _ _ _ _ _ _ p turn.rows in
    ends-stopped s _ _ _ _ _ _ _ _ _ _ _ _ q (turn.turned (at s (q.answered ++ q.pending)) q.stands)

pub returns-in-Memory-clause-streams : goal.returns-in-Memory-clause-streams
returns-in-Memory-clause-streams g c = λ s stands.
    let p = c.answering.invariant.progress s stands in
    let turn = c.in-Memory.ensures.turned in
    let q = progress-answered s _ _ _ _ _ _ _ _ _ _ _ _ _ _ p turn.rows in
    ends-memory s _ _ _ _ _ _ _ _ _ _ _ q (turn.turned (at s (q.answered ++ q.pending)) q.stands)

pub returns-in-Ended-clause-steps : goal.returns-in-Ended-clause-steps
returns-in-Ended-clause-steps g c = λ s stands.
    let p = c.answering.invariant.progress s stands in
    let turn = c.in-Ended.ensures.turned in
    let q = progress-answered s _ _ _ _ _ _ _ _ _ _ _ _ _ _ p turn.rows in
    spent-turned turns.Ended s _ _ _ _ _ _ _ _ _ _ _ _ _ _ _ q (turn.turned (at s (q.answered ++ q.pending)) q.stands) turn.takes

pub returns-in-Failed-clause-steps : goal.returns-in-Failed-clause-steps
returns-in-Failed-clause-steps g c = λ s stands.
    let p = c.answering.invariant.progress s stands in
    let turn = c.in-Failed.ensures.turned in
    let q = progress-answered s _ _ _ _ _ _ _ _ _ _ _ _ _ _ p turn.rows in
    spent-turned turns.Failed s _ _ _ _ _ _ _ _ _ _ _ _ _ _ _ q (turn.turned (at s (q.answered ++ q.pending)) q.stands) turn.takes

pub returns-in-Full-clause-steps : goal.returns-in-Full-clause-steps
returns-in-Full-clause-steps g c = λ s stands.
    let p = c.answering.invariant.progress s stands in
    let turn = c.in-Full.ensures.turned in
    let q = progress-answered s _ _ _ _ _ _ _ _ _ _ _ _ _ _ p turn.rows in
    spent-turned turns.Full s _ _ _ _ _ _ _ _ _ _ _ _ _ _ _ q (turn.turned (at s (q.answered ++ q.pending)) q.stands) turn.takes

pub returns-in-Stopped-clause-steps : goal.returns-in-Stopped-clause-steps
returns-in-Stopped-clause-steps g c = λ s stands.
    let p = c.answering.invariant.progress s stands in
    let turn = c.in-Stopped.ensures.turned in
    let q = progress-answered s _ _ _ _ _ _ _ _ _ _ _ _ _ _ p turn.rows in
    spent-turned turns.Stopped s _ _ _ _ _ _ _ _ _ _ _ _ _ _ _ q (turn.turned (at s (q.answered ++ q.pending)) q.stands) turn.takes

pub returns-in-Memory-clause-steps : goal.returns-in-Memory-clause-steps
returns-in-Memory-clause-steps g c = λ s stands.
    let p = c.answering.invariant.progress s stands in
    let turn = c.in-Memory.ensures.turned in
    let q = progress-answered s _ _ _ _ _ _ _ _ _ _ _ _ _ _ p turn.rows in
    spent-turned turns.Memory s _ _ _ _ _ _ _ _ _ _ _ [] _ _ _ q (turn.turned (at s (q.answered ++ q.pending)) q.stands) turn.takes

pub returns-then-is_full-clause-steps : goal.returns-then-is_full-clause-steps
returns-then-is_full-clause-steps g c = λ s stands.
    let p = c.answering.invariant.progress s stands in
    spent-uncounted _ s _ _ _ _ _ _ _ _ _ _ _ _ _ p c.end_uncounted.ensures.ends
