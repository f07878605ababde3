use Rattle.std.proofs.Common.{ℕ, leb, cond, refl}
use Rattle.std.proofs.lemmas.Simd.{splat_is_map, zip2_of_maps, zip2_splat}
use Rattle.io_row_reader.proofs.PairEnds.{marks_are}
use Rattle.io_row_reader.proofs.lanes.marks_of.Goals as goal

pub returns : goal.returns
returns c =
    let v = c.args.lanes in
    marks_are _ v _ c.fits-lanes.0 c.fits-lanes.1 (zip2_of_maps (λ a b. cond (leb a b) 255 0) _ _ v (splat_is_map v 16 10 c.fits-lanes.0) (zip2_splat {Y = ℕ} _ v 16 48 c.fits-lanes.0)) refl
