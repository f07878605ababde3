use Rattle.plan_layout.proofs.Planning.{few_drafts}
use Rattle.sem_query.specs.Parts.{sign_lists}
use Rattle.plan_layout.proofs.UnsetPlans.{unset_plans, part_fault}
use Rattle.plan_layout.proofs.plan.part_plans.Goals as goal

pub returns-in-Ok-clause-plans : goal.returns-in-Ok-clause-plans
returns-in-Ok-clause-plans c = unset_plans c.args.q.now c.args.parts.now c.in-Ok.draft _ c.requires.parts c.in-Ok.ensures c.parts_of.ensures

pub returns-in-Ok-clause-few : goal.returns-in-Ok-clause-few
returns-in-Ok-clause-few c = rw c.parts_of.ensures (few_drafts c.args.parts.now c.in-Ok.draft.parts.items c.requires.few c.in-Ok.ensures.1)

pub returns-in-Ok-clause-meets : goal.returns-in-Ok-clause-meets
returns-in-Ok-clause-meets c = c.in-Ok.ensures.2

pub returns-in-Err-clause-fault : goal.returns-in-Err-clause-fault
returns-in-Err-clause-fault c = part_fault c.args.q.now (sign_lists c.args.parts.now) c.in-Err.why c.in-Err.ensures
