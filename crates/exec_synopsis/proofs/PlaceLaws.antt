-- The place of a row, dim by dim.
use Rattle.std.proofs.Common.{◌≡◌, ℕ, zero, suc, ◌+◌, ◌*◌, ◌<◌, ◌≤◌, ◌^◌, List, [], ◌∷◌, length, drop, get_or, sym, ap, ◌∙◌, subst, arith, ℤ, ◌≤ℤ◌, ◌-ℤ◌}
use Rattle.std.specs.Prelude.{nat_abs}
use Rattle.std.proofs.lemmas.List.{drop_more, drop_all}
use Rattle.sem_query.specs.Boxes.{dim_size, box_size, AreFull, AreNumbered, AreInside}
use Rattle.sem_query.specs.declared.plan.Dim.{Dim}
use Rattle.sem_query.specs.Cells.{dim_values, row_place}
use Rattle.sem_query.proofs.BoxLaws.{full-dim-size}

both-positive : (a b : ℕ) → 0 < a → 0 < b → 0 < a * b
both-positive zero b l m = absurd (omega (arith, l))
both-positive (suc a) zero l m = absurd (omega (arith, m))
both-positive (suc a) (suc b) l m = omega arith

pub full-positive : (ds : List Dim) → AreFull ds → 0 < box_size ds
full-positive [] h = omega arith
full-positive (d ∷ ds) h = both-positive (dim_size d) (box_size ds) (full-dim-size d h.0) (full-positive ds h.1)

within-total : (x B P T : ℕ) → 0 < B → x * B + P ≡ T → x ≤ T
within-total x zero P T l e = absurd (omega (arith, l))
within-total x (suc B) P T l e = omega (arith, e)

-- what is known at one dim
pub record AtDim (v : ℕ → ℤ) (dims : List Dim) (i : ℕ) (d : Dim) (a T : ℕ) : Type 0 where
  pub low : d.lo ≤ℤ v d.attr.column
  pub high : v d.attr.column ≤ℤ d.hi
  pub size : dim_size d < 2 ^ 32
  pub place : (a * dim_size d + nat_abs (v d.attr.column -ℤ d.lo)) * box_size (drop (i + 1) dims) + row_place (drop (i + 1) dims) v ≡ T
  pub within : a * dim_size d + nat_abs (v d.attr.column -ℤ d.lo) ≤ T
  pub full : AreFull (drop (i + 1) dims)
  pub sound : AreNumbered (drop (i + 1) dims)
  pub inside : AreInside (drop (i + 1) dims) (dim_values (drop (i + 1) dims) v)

from-here : (v : ℕ → ℤ) (dims : List Dim) (i : ℕ) (d : Dim) (a T : ℕ) → AreFull (d ∷ drop (i + 1) dims) → AreNumbered (d ∷ drop (i + 1) dims) → AreInside (d ∷ drop (i + 1) dims) (dim_values (d ∷ drop (i + 1) dims) v)
    → a * box_size (d ∷ drop (i + 1) dims) + row_place (d ∷ drop (i + 1) dims) v ≡ T → AtDim v dims i d a T
from-here v dims i d a T full sound inside e =
    let n = nat_abs (v d.attr.column -ℤ d.lo) in
    let B = box_size (drop (i + 1) dims) in
    let P = row_place (drop (i + 1) dims) v in
    let p : (a * dim_size d + n) * B + P ≡ T = shape a (dim_size d) n B P ∙ e in
    record {
      low = inside.0;
      high = inside.1;
      size = sound.0;
      place = p;
      within = within-total (a * dim_size d + n) B P T (full-positive (drop (i + 1) dims) full.1) p;
      full = full.1;
      sound = sound.2;
      inside = inside.2;
    }
  where
    shape : (a D n B P : ℕ) → (a * D + n) * B + P ≡ a * (D * B) + (n * B + P)
    shape a D n B P = omega arith

pub at-dim : (v : ℕ → ℤ) (dims : List Dim) (i : ℕ) (d o : Dim) (a T : ℕ) → i < length dims → d ≡ get_or dims i o → AreFull (drop i dims) → AreNumbered (drop i dims) → AreInside (drop i dims) (dim_values (drop i dims) v)
    → a * box_size (drop i dims) + row_place (drop i dims) v ≡ T → AtDim v dims i d a T
at-dim v dims i d o a T l is full sound inside e =
    let m : drop i dims ≡ d ∷ drop (i + 1) dims = drop_more dims i o l ∙ ap (λ x. x ∷ drop (i + 1) dims) (sym is) in
    from-here v dims i d a T (subst AreFull m full) (subst AreNumbered m sound) (subst (λ ds. AreInside ds (dim_values ds v)) m inside)
    (subst (λ ds. a * box_size ds + row_place ds v ≡ T) m e)

-- at the end
pub at-end : (v : ℕ → ℤ) (dims : List Dim) (i a T : ℕ) → length dims ≤ i → a * box_size (drop i dims) + row_place (drop i dims) v ≡ T → a ≡ T
at-end v dims i a T l e = let f = subst (λ ds. a * box_size ds + row_place ds v ≡ T) (drop_all i dims l) e in omega (arith, f)

-- a place is below the size of the box, and so fits
pub total-fits : (dims : List Dim) → AreNumbered dims → box_size dims < 2 ^ 32
total-fits [] h = omega arith
total-fits (d ∷ dims) h = h.1
