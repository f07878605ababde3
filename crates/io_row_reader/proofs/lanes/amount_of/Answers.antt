use Rattle.std.proofs.Common.{◌≡◌, ◌-◌, ◌++◌, ℕ, List, length, map, take, replicate, ap, ◌∙◌}
use Rattle.std.proofs.lemmas.List.{length-map}
use Rattle.std.proofs.lemmas.Simd.{zip2_splat}
use Rattle.io_row_reader.proofs.DigitLanes.{behind_zeros_is, minus}
use Rattle.io_row_reader.proofs.LaneNumbers.{number}
use Rattle.io_row_reader.proofs.LanePlaces.{behind, behind_long}
use Rattle.io_row_reader.proofs.lanes.amount_of.Goals as goal

pub swizzle : goal.swizzle
swizzle c = (behind c.args.lanes c.args.digits c.fits-lanes.0 c.requires.few).fits

pub numbers_of-requires : goal.numbers_of-requires
numbers_of-requires c =
    let v = c.args.lanes in
    let n = c.args.digits in
    let above = zip2_splat {Y = ℕ} _ v 16 48 c.fits-lanes.0 in
    let put = behind _ n (ap length above ∙ length-map v minus ∙ c.fits-lanes.0) c.requires.few in
    (behind_zeros_is _ v (16 - n) n c.requires.digits (put.is ∙ ap (λ (l : List ℕ). replicate (16 - n) 0 ++ take n l) above)).small

pub returns : goal.returns
returns c =
    let v = c.args.lanes in
    let n = c.args.digits in
    let above = zip2_splat {Y = ℕ} _ v 16 48 c.fits-lanes.0 in
    let long : length (map minus v) ≡ 16 = length-map v minus ∙ c.fits-lanes.0 in
    let put = behind _ n (ap length above ∙ long) c.requires.few in
    let padded = behind_zeros_is _ v (16 - n) n c.requires.digits (put.is ∙ ap (λ (l : List ℕ). replicate (16 - n) 0 ++ take n l) above) in
    number _ _ _ (behind_long _ _ n put.is (ap length above ∙ long) c.requires.few) padded.small c.numbers_of.ensures.first c.numbers_of.ensures.second ∙ padded.number
