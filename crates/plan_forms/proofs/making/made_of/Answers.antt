use Rattle.std.proofs.Common.{subst}
use Rattle.plan_forms.specs.Own.{AreOwnStreams}
use Rattle.plan_forms.proofs.Opened.{first_open}
use Rattle.plan_forms.proofs.making.made_of.Goals as goal

pub made_with-requires-clause-streams : goal.made_with-requires-clause-streams
made_with-requires-clause-streams c = subst (λ z. AreOwnStreams c.args.closed.now z c.in-Ok.streams.items) c.as_slice.ensures.value c.in-Ok.ensures

pub returns-in-Err : goal.returns-in-Err
returns-in-Err c = first_open c.args.closed.now c.args.part.now c.requires c.as_slice.result.now c.as_slice.ensures.value c.in-Err.open c.in-Err.ensures
