use Rattle.std.proofs.Common.{sym}
use Rattle.plan_links.proofs.Gathered.{not_from}
use Rattle.adv_key_decision.specs.Judged.{by_stream}
use Rattle.adv_key_decision.proofs.Followed.{apart-plain, apart-told, deduped}
use Rattle.adv_key_decision.proofs.judging.judge_equal.Goals as goal

pub returns-then-not-distinct : goal.returns-then-not-distinct
returns-then-not-distinct c = apart-plain c.args.q.now (by_stream c.args.choice.now) c.args.key c.requires.key c.requires.equal (sym c.if-not-distinct.ensures)

pub returns-then-is_selected : goal.returns-then-is_selected
returns-then-is_selected c = apart-told c.args.q.now (by_stream c.args.choice.now) c.args.key c.requires.key c.requires.equal (c.is_selected.ensures.0 c.if-is_selected.true)

pub returns-else-is_selected : goal.returns-else-is_selected
returns-else-is_selected c =
    deduped c.args.q.now (by_stream c.args.choice.now) c.args.key c.requires.key c.requires.equal (sym c.if-not-distinct.ensures) (not_from _ c.is_selected.ensures.1 c.if-is_selected.false)
