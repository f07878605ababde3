use Rattle.std.proofs.Common.{◌≡◌, ◌++◌, ◌∙◌, refl, arith}
use Rattle.cmd_session.specs.declared.run.Ending.TheVariants as endings
use Rattle.cmd_session.proofs.ToldEvents.{at}
use Rattle.cmd_session.proofs.Progress.{came-begun, counted}
use Rattle.cmd_each.specs.OneLine.{joined}
use Rattle.cmd_each.proofs.FormedProgress.{begins, progress-line}
use Rattle.cmd_each.proofs.FormedExits.{ends-reply}
use Rattle.cmd_each.proofs.FormedEnds.{ends-over, over-answered, over-flushed, not-done, ends-full, ends-lacking, same-name}
use Rattle.cmd_each.proofs.run.run_each.Goals as goal

pub answering-init : goal.answering-init
answering-init g c = record {
  progress = λ s stands. begins joined s _ _ _ _ _ c.requires.reader c.requires.held stands;
  same = refl;
}

pub answer-requires-clause-short : goal.answer-requires-clause-short
answer-requires-clause-short g c = (counted c.in-Given.long _ _ _ _ _ _ _ _ c.in-Given.ensures.comes).short

pub answering-preserved : goal.answering-preserved
answering-preserved g c = record {
  progress = λ s stands.
      let p = c.answering.invariant.progress s stands in
      progress-line joined s _ _ _ _ _ _ _ _ _ _ _ _ p (record {
        long = c.in-Given.long;
        between = _;
        left = _;
        came = c.in-Given.ensures.comes;
        name = _;
        name' = _;
        answers = λ text begun. c.in-Done.ensures (at s (p.answered ++ p.pending)) text begun p.stands;
      });
  same =
      let known = c.requires.stands in
      let p = c.answering.invariant.progress known.state known.stands in
      let line = came-begun c.in-Given.long _ _ _ _ _ _ _ _ c.in-Given.ensures.comes in
      same-name joined _ _ _ _ (g.O.Sink.seen c.next_line.new.output.sink.now) (g.O.Sink.seen c.answer.new.output.sink.now) _ _ _ _ (c.in-Done.ensures (at known.state (p.answered ++ p.pending)) line.0 line.1 p.stands)
      ∙ c.in-Given.ensures.same_reference
      ∙ c.answering.invariant.same;
}

pub answering-smaller : goal.answering-smaller
answering-smaller g c =
    let given = counted c.in-Given.long _ _ _ _ _ _ _ _ c.in-Given.ensures.comes in
    omega (arith, given.lines, given.few)

pub returns-in-Over-clause-streams : goal.returns-in-Over-clause-streams
returns-in-Over-clause-streams g c = λ s stands. ends-over joined _ s _ _ _ _ _ _ _ _ _ _ _ (c.answering.invariant.progress s stands) c.in-Over.ensures.comes

pub returns-in-Over-clause-done : goal.returns-in-Over-clause-done
returns-in-Over-clause-done g c = λ done s stands. over-answered joined _ s _ _ _ _ _ _ _ _ _ _ _ done (c.answering.invariant.progress s stands) c.in-Over.ensures.comes

pub returns-in-Over-clause-flushed : goal.returns-in-Over-clause-flushed
returns-in-Over-clause-flushed g c = λ done. over-flushed _ _ _ _ _ _ _ _ _ done c.in-Over.ensures.comes

pub returns-then-is_full-clause-streams : goal.returns-then-is_full-clause-streams
returns-then-is_full-clause-streams g c = λ s stands.
    ends-full joined _ c.in-Given.long s _ _ _ _ _ _ _ _ _ _ _ _ _ (c.answering.invariant.progress s stands) (c.if-is_full.ensures.full refl) c.in-Given.ensures.comes c.end_flushed.ensures.ends

pub returns-then-is_full-clause-done : goal.returns-then-is_full-clause-done
returns-then-is_full-clause-done g c = λ done s stands. let bad : endings.ByteLimit ≡ endings.Done = not-done _ _ _ _ _ _ c.end_flushed.ensures.ends done in cc

pub returns-then-is_full-clause-flushed : goal.returns-then-is_full-clause-flushed
returns-then-is_full-clause-flushed g c = λ done. let bad : endings.ByteLimit ≡ endings.Done = not-done _ _ _ _ _ _ c.end_flushed.ensures.ends done in cc

pub returns-in-WriteFault-clause-streams : goal.returns-in-WriteFault-clause-streams
returns-in-WriteFault-clause-streams g c = λ s stands.
    let p = c.answering.invariant.progress s stands in
    ends-reply joined s _ _ _ _ _ _ _ _ _ _ _ _ p (record {
      long = c.in-Given.long;
      between = _;
      left = _;
      came = c.in-Given.ensures.comes;
      name = _;
      name' = _;
      answers = λ text begun. c.in-WriteFault.ensures (at s (p.answered ++ p.pending)) text begun p.stands;
    })

pub returns-in-WriteFault-clause-same_reference : goal.returns-in-WriteFault-clause-same_reference
returns-in-WriteFault-clause-same_reference g c =
    let known = c.requires.stands in
    let p = c.answering.invariant.progress known.state known.stands in
    let line = came-begun c.in-Given.long _ _ _ _ _ _ _ _ c.in-Given.ensures.comes in
    same-name joined _ _ _ _ (g.O.Sink.seen c.next_line.new.output.sink.now) (g.O.Sink.seen c.answer.new.output.sink.now) _ _ _ _ (c.in-WriteFault.ensures (at known.state (p.answered ++ p.pending)) line.0 line.1 p.stands)
    ∙ c.in-Given.ensures.same_reference
    ∙ c.answering.invariant.same

pub returns-in-Memory-clause-streams : goal.returns-in-Memory-clause-streams
returns-in-Memory-clause-streams g c = λ s stands.
    let p = c.answering.invariant.progress s stands in
    ends-lacking joined _ s _ _ _ _ _ _ _ _ _ _ _ _ _ _ p (record {
      long = c.in-Given.long;
      between = _;
      left = _;
      came = c.in-Given.ensures.comes;
      name = _;
      name' = _;
      answers = λ text begun. c.in-Memory.ensures (at s (p.answered ++ p.pending)) text begun p.stands;
    }) c.end_flushed-in-Memory.ensures.ends

pub returns-in-Memory-clause-done : goal.returns-in-Memory-clause-done
returns-in-Memory-clause-done g c = λ done s stands. let bad : endings.Memory ≡ endings.Done = not-done _ _ _ _ _ _ c.end_flushed-in-Memory.ensures.ends done in cc

pub returns-in-Memory-clause-flushed : goal.returns-in-Memory-clause-flushed
returns-in-Memory-clause-flushed g c = λ done. let bad : endings.Memory ≡ endings.Done = not-done _ _ _ _ _ _ c.end_flushed-in-Memory.ensures.ends done in cc

pub returns-in-Memory-clause-same_reference : goal.returns-in-Memory-clause-same_reference
returns-in-Memory-clause-same_reference g c =
    let known = c.requires.stands in
    let p = c.answering.invariant.progress known.state known.stands in
    let line = came-begun c.in-Given.long _ _ _ _ _ _ _ _ c.in-Given.ensures.comes in
    c.end_flushed-in-Memory.ensures.same_reference
    ∙ same-name joined _ _ _ _ (g.O.Sink.seen c.next_line.new.output.sink.now) (g.O.Sink.seen c.answer.new.output.sink.now) _ _ _ _ (c.in-Memory.ensures (at known.state (p.answered ++ p.pending)) line.0 line.1 p.stands)
    ∙ c.in-Given.ensures.same_reference
    ∙ c.answering.invariant.same
