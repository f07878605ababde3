use Rattle.plan_forms.proofs.Told.{split_drafted}
use Rattle.plan_forms.proofs.split.split_parts.Goals as goal

pub returns-in-Ok-clause-plans : goal.returns-in-Ok-clause-plans
returns-in-Ok-clause-plans c = split_drafted c.args.q.now c.in-Ok.draft c.requires.compact c.requires.plain c.in-Ok.ensures.0 c.in-Ok.ensures.1 c.parts_of.result.items c.parts_of.ensures
