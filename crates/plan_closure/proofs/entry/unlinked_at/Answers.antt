use Rattle.std.proofs.Common.{refl}
use Rattle.plan_closure.specs.Entries.{self}
use Rattle.plan_closure.proofs.entry.unlinked_at.Goals as goal

pub returns-then-k : goal.returns-then-k
returns-then-k c = self _ c.if-k.true refl refl refl
