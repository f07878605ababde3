use Rattle.std.proofs.Common.{◌≡◌, length, take, drop, refl, ◌∙◌, arith, ℕ}
use Rattle.std.proofs.lemmas.Simd.{zip2_splat}
use Rattle.io_row_reader.proofs.PairAmounts.{both_placed, pair_at, placed, placed_halves, sixteen}
use Rattle.io_row_reader.proofs.PairEnds.{two_ends}
use Rattle.io_row_reader.proofs.pairs.pair_at.Goals as goal

pub bounds-text-start-2 : goal.bounds-text-start-2
bounds-text-start-2 c =
    let lanes = take 16 (drop c.args.start c.args.text.now) in
    let long : length lanes ≡ 16 = sixteen c.args.text.now lanes c.args.start c.requires refl in
    let ends = two_ends lanes c.marks_of-marks.result long c.marks_of-marks.ensures (omega (arith, c.if-later-eq0.false)) in
    omega (arith, ends.second, ends.within, c.requires)

pub bounds-order-comma : goal.bounds-order-comma
bounds-order-comma c =
    let lanes = take 16 (drop c.args.start c.args.text.now) in
    let long : length lanes ≡ 16 = sixteen c.args.text.now lanes c.args.start c.requires refl in
    let ends = two_ends lanes c.marks_of-marks.result long c.marks_of-marks.ensures (omega (arith, c.if-later-eq0.false)) in
    omega (arith, ends.second, ends.within)

pub swizzle-digits : goal.swizzle-digits
swizzle-digits c =
    let lanes = take 16 (drop c.args.start c.args.text.now) in
    let long : length lanes ≡ 16 = sixteen c.args.text.now lanes c.args.start c.requires refl in
    let ends = two_ends lanes c.marks_of-marks.result long c.marks_of-marks.ensures (omega (arith, c.if-later-eq0.false)) in
    let p = placed lanes c.marks_of-marks.result _ ends (omega (arith, c.if-order-eq0.false)) in
    (placed_halves lanes _ _ long p).fits

pub numbers_of-requires : goal.numbers_of-requires
numbers_of-requires c =
    let lanes = take 16 (drop c.args.start c.args.text.now) in
    let long : length lanes ≡ 16 = sixteen c.args.text.now lanes c.args.start c.requires refl in
    let ends = two_ends lanes c.marks_of-marks.result long c.marks_of-marks.ensures (omega (arith, c.if-later-eq0.false)) in
    let p = placed lanes c.marks_of-marks.result _ ends (omega (arith, c.if-order-eq0.false)) in
    (both_placed lanes _ _ _ long (zip2_splat {Y = ℕ} _ lanes 16 48 long) p).small

pub returns : goal.returns
returns c =
    let lanes = take 16 (drop c.args.start c.args.text.now) in
    let long : length lanes ≡ 16 = sixteen c.args.text.now lanes c.args.start c.requires refl in
    let ends = two_ends lanes c.marks_of-marks.result long c.marks_of-marks.ensures (omega (arith, c.if-later-eq0.false)) in
    let p = placed lanes c.marks_of-marks.result _ ends (omega (arith, c.if-order-eq0.false)) in
    let both = both_placed lanes _ _ _ long (zip2_splat {Y = ℕ} _ lanes 16 48 long) p in
    pair_at c.args.text.now lanes c.args.start _ _ _ _ c.requires refl p.run p.more p.within p.few c.if-text-start-ne44.false (c.numbers_of.ensures.first ∙ both.left) (c.numbers_of.ensures.second ∙ both.right)
