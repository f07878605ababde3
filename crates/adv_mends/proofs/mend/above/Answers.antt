use Rattle.std.proofs.Common.{refl, w64}
use Rattle.std.proofs.lemmas.Int.{to_z-of_z}
use Rattle.adv_mends.specs.Ends.{above}
use Rattle.adv_mends.proofs.mend.above.Goals as goal

pub returns-clause-value : goal.returns-clause-value
unfolding above
returns-clause-value c =
    rw (to_z-of_z w64 c.raised.result (record { sfits = c.raised.type_inv }), to_z-of_z w64 c.raised-2.result (record { sfits = c.raised-2.type_inv }), c.raised.ensures, c.raised-2.ensures) refl
