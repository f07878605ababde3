use Rattle.std.proofs.Common.{refl}
use Rattle.plan_forms.proofs.MadePlans.{made_draft}
use Rattle.plan_forms.proofs.boxing.part_plan.Goals as goal

pub returns-clause-draft : goal.returns-clause-draft
returns-clause-draft c =
    made_draft c.args.q.now c.args.front.now.signs.items c.args.made
    record { signs = c.new.result; local = c.args.made.local; streams = c.stream_plans-streams.result.0; equal = c.args.made.equal; less = c.args.made.less; soft = c.args.made.soft }
    c.args.first c.stream_plans-streams.result.1 c.as_slice.result.now c.requires c.as_slice.ensures.value c.stream_plans-streams.ensures c.new.ensures refl refl refl refl
