-- Elements of lists by their places.
use Rattle.std.proofs.Common.{◌≡◌, ℕ, zero, suc, Some, List, [], ◌∷◌, ◌++◌, Contains, slice_get}
use Rattle.std.proofs.lemmas.Option.{slice_get_within, get_or_from_slice_get}
use Rattle.plan_constraints.specs.declared.constraint.Constraint.{Constraint}

pub contains_at : (cs : List Constraint) (e : ℕ) (c : Constraint) → slice_get cs e ≡ Some c → Contains cs c
contains_at cs e c h = (e, slice_get_within cs e c h, get_or_from_slice_get cs e c c h)

pub slice_get-append : {A : Type 0} (xs ys : List A) (e : ℕ) (x : A) → slice_get xs e ≡ Some x → slice_get (xs ++ ys) e ≡ Some x
slice_get-append [] ys zero x h = cc
slice_get-append [] ys (suc e) x h = cc
slice_get-append (y ∷ xs) ys zero x h = h
slice_get-append (y ∷ xs) ys (suc e) x h = slice_get-append xs ys e x h
