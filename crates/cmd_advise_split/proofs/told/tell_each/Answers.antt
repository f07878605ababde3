use Rattle.std.proofs.Common.{refl}
use Rattle.plan_closure.proofs.Zips.{zip_more_at}
use Rattle.cmd_advise_split.specs.Finding.{IsTold}
use Rattle.cmd_advise_split.proofs.told.tell_each.Goals as goal

pub loop-i-preserved : goal.loop-i-preserved
loop-i-preserved c =
    zip_more_at (IsTold c.args.queries.now) c.args.choices.now c.args.choices.now _ _ c.loop-i.i _ _ refl c.loop-i-test.true c.loop-i.invariant c.in_ok-one.ensures c.in_ok-push_told.ensures
