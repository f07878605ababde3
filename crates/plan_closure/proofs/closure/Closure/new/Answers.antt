use Rattle.std.proofs.Common.{refl}
use Rattle.plan_closure.proofs.Facts.{start_closure}
use Rattle.plan_closure.proofs.closure.Closure.new.Goals as goal

pub returns : goal.returns
returns c = start_closure _ c.args.attrs c.requires refl refl refl c.unlinked.ensures
