use Rattle.std.proofs.Common.{subst}
use Rattle.adv_key_decision.specs.Judged.{by_stream, OnAllEqual}
use Rattle.adv_key_decision.proofs.Followed.{torn}
use Rattle.adv_key_decision.proofs.judging.judge.Goals as goal

pub judge_equal-requires-clause-equal : goal.judge_equal-requires-clause-equal
judge_equal-requires-clause-equal c = subst (OnAllEqual c.args.q.now (by_stream c.args.choice.now) c.in-Some.key) c.if-are_all_equal.true c.are_all_equal.ensures

pub returns-else-are_all_equal : goal.returns-else-are_all_equal
returns-else-are_all_equal c =
    torn c.args.q.now (by_stream c.args.choice.now) c.in-Some.key c.in-Some.ensures
    (subst (OnAllEqual c.args.q.now (by_stream c.args.choice.now) c.in-Some.key) c.if-are_all_equal.false c.are_all_equal.ensures)
