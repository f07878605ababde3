use Rattle.std.proofs.Common.{refl, ap₂, List, ℕ, slice_index_or}
use Rattle.fam_fooling_sets.proofs.Drawn.{drawn-family}
use Rattle.fam_fooling_sets.proofs.moved.drawn.Goals as goal

pub returns-in-Ok : goal.returns-in-Ok
returns-in-Ok c =
    drawn-family c.args.q.now c.attrs.ensures.limits c.args.attr _ c.args.all.now _ record { attrs_are = c.attrs.ensures.value; from_is = c.from.ensures.value; named_is = refl } c.requires.open c.requires.blanks
    (ap₂ (λ (xs : List ℕ) (i : ℕ). slice_index_or xs i 0) c.from-in-Ok.ensures.value c.from-in-Ok-2.ensures) c.requires.solutions c.requires.few c.in-Ok.ensures
