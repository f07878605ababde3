use Rattle.std.proofs.Common.{◌∙◌, Some, map, sym, ap}
use Rattle.sem_whole.specs.Plan.{is_more}
use Rattle.plan_whole.specs.Columns.{atom_of}
use Rattle.plan_whole.proofs.Choosing.{not_several, may_be}
use Rattle.plan_whole.proofs.extreme.candidate.Goals as goal

pub returns-then-is_more : goal.returns-then-is_more
returns-then-is_more c =
    may_be c.args.closed.now (map atom_of c.args.links.now) c.args.a c.name_of.result c.kept_range-ends.result c.name_of.ensures (sym c.is_same.ensures ∙ c.if-not-is_same.false)
    (c.has_read.ensures.0 c.if-not-has_read.false) (c.is_one_way.ensures.0 c.if-not-is_one_way.false) c.kept_range-ends.ensures
    (sym (c.is_more.ensures ∙ ap (λ o. is_more o (Some 1)) c.room.ensures) ∙ c.if-is_more.true)

pub returns-else-is_more : goal.returns-else-is_more
returns-else-is_more c = not_several c.args.closed.now (map atom_of c.args.links.now) c.args.a c.kept_range-ends.result c.kept_range-ends.ensures (sym (c.is_more.ensures ∙ ap (λ o. is_more o (Some 1)) c.room.ensures) ∙ c.if-is_more.false)
