use Rattle.sem_query.specs.Parts.{pairs}
use Rattle.std.proofs.Common.{◌≡◌, ◌∙◌, true, sym, arith, rules}
use Rattle.exec_join.specs.Repeats.{IsTold}
use Rattle.exec_join.specs.Remaining.{left_of}
use Rattle.exec_join.proofs.RepeatLaws.{none-passed, more-passed, level-passed}
use Rattle.exec_join.proofs.probe.Probe.pass_repeats.Goals as goal

pub levels-init : goal.levels-init
levels-init c =
    record {
      underway = c.requires.underway;
      left = λ read. none-passed c.args.q.now.distinct c.args.tuple.now.items (left_of c.args.q.now.select c.args.part.now read c.args.self.now);
      reads = omega arith;
    }

pub levels-preserved : goal.levels-preserved
levels-preserved c =
    let p = c.levels.self in
    let distinct : c.args.q.now.distinct ≡ true = sym c.distinct.ensures ∙ c.if-not-distinct.false in
    let told : IsTold (pairs p.q.now) c.args.q.now.select c.args.part.now p.arriving p.row.now.items p.room.now.chosen.items c.args.tuple.now.items = search rules in
    record {
      underway = c.retreat.ensures.underway;
      left = λ read.
          more-passed c.args.q.now.distinct c.args.tuple.now.items _ _ _ (c.levels.invariant.left read)
          (level-passed c.args.q.now.select c.args.part.now read p c.retreat.new.self c.args.q.now.distinct c.args.tuple.now.items distinct c.levels-test.true told (c.retreat.ensures.left c.args.q.now.select read));
      reads = omega (arith, c.retreat.ensures.reads, c.levels.invariant.reads);
    }
