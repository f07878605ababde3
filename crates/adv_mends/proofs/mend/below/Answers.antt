use Rattle.std.proofs.Common.{refl, w64}
use Rattle.std.proofs.lemmas.Int.{to_z-of_z}
use Rattle.adv_mends.specs.Ends.{below}
use Rattle.adv_mends.proofs.mend.below.Goals as goal

pub returns-clause-value : goal.returns-clause-value
unfolding below
returns-clause-value c =
    rw (to_z-of_z w64 c.lowered.result (record { sfits = c.lowered.type_inv }), to_z-of_z w64 c.lowered-2.result (record { sfits = c.lowered-2.type_inv }), c.lowered.ensures, c.lowered-2.ensures) refl
