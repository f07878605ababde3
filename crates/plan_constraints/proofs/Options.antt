-- What two options that are equal hold.
use Rattle.std.proofs.Common.{◌≡◌, Option, Some, None}

pub some_is : {A : Type 0} {x y : A} → let O : Type 0 = Option A in ◌≡◌ {A = O} (Some x) (Some y) → x ≡ y
some_is h = cc

pub none_is : {A : Type 0} {x : A} → let O : Type 0 = Option A in ◌≡◌ {A = O} None (Some x) → ⊥
none_is h = cc
