use Rattle.std.specs.Prelude.{Bool, true, false, not, IsTrue, IsFalse}
use Rattle.std.proofs.Common.{refl}
use Rattle.fam_fooling_sets.specs.Drawing.{selected}
use Rattle.fam_fooling_sets.proofs.moved.is_open_selected.Goals as goal

unset : (b : Bool) → IsTrue (not b) → IsFalse b
unset true t = absurd cc
unset false t = refl

pub returns-clause-open : goal.returns-clause-open
returns-clause-open c t = selected (c.is_selected.ensures c.if-not-is_selected.false) (λ d h. c.has_domain.ensures d h (unset c.has_domain.result t))
