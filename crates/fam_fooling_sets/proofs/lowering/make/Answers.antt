use Rattle.std.proofs.Common.{ap, ap₂, arith, ℕ, List, slice_index_or}
use Rattle.fam_fooling_sets.specs.Shown.{rows_in}
use Rattle.fam_fooling_sets.proofs.FromPart.{family-of}
use Rattle.fam_fooling_sets.proofs.lowering.make.Goals as goal

pub returns-in-Ok : goal.returns-in-Ok
returns-in-Ok c =
    family-of c.args.q.now c.args.p.now.signs.items c.args.attr c.ground_of-ground.result c.args.n _ (rows_in c.args.blanks.now) (let l = c.ranges.n.fits in omega (arith, l)) c.new-basis.ensures.within c.requires.part
    c.ground_of-ground.ensures.ground c.requires.read c.requires.free c.requires.there (ap rows_in c.ground_of-ground.ensures.blanks) c.requires.blanks
    (ap₂ (λ (xs : List ℕ) (i : ℕ). slice_index_or xs i 0) c.from.ensures.value c.from-in-Ok.ensures) c.in-Ok.ensures
