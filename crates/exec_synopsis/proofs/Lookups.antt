-- What a look-up in a list finds.
use Rattle.std.proofs.Common.{◌≡◌, ℕ, zero, suc, ◌<◌, get_or, List, [], ◌∷◌, length, refl, arith}
use Rattle.std.specs.Prelude.{Some, None, slice_get}

pub some-is : {X : Type 0} (x y : X) → Some x ≡ Some y → x ≡ y
some-is x y e = cc

pub none-is : {X : Type 0} (x : X) → None ≡ Some x → ⊥
none-is x e = cc

pub get-there : {X : Type 0} (xs : List X) (i : ℕ) (d : X) → i < length xs → slice_get xs i ≡ Some (get_or xs i d)
get-there [] i d l = absurd (omega (arith, l))
get-there (x ∷ xs) zero d l = refl
get-there (x ∷ xs) (suc i) d l = get-there xs i d (omega (arith, l))
