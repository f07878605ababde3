-- A list whose elements have different images in another list is no longer than that list.
use Rattle.std.proofs.Common.{◌≡◌, ◌+◌, ◌≤◌, List, [], ◌∷◌, length, refl, arith}
use Rattle.sem_query.proofs.Has.{Has, first, later}

-- no two elements have one image
abbrev pub AreApart : {X Y : Type 0} → (X → Y) → List X → Type 0
AreApart f [] = Unit {0}
AreApart {X} f (x ∷ xs) = ((z : X) → Has xs z → f z ≡ f x → ⊥) × AreApart f xs

-- the list without one of its elements
record Rest {Y : Type 0} (ys : List Y) (x : Y) : Type 0 where
  items : List Y
  size : length items + 1 ≡ length ys
  others : (z : Y) → Has ys z → (z ≡ x → ⊥) → Has items z

but_first : {Y : Type 0} (x : Y) (ys : List Y) (z : Y) → Has (x ∷ ys) z → (z ≡ x → ⊥) → Has ys z
but_first x ys z first n = absurd (n refl)
but_first x ys z (later h) n = h

but_later : {Y : Type 0} (y : Y) (ys zs : List Y) (z x : Y) → ((w : Y) → Has ys w → (w ≡ x → ⊥) → Has zs w) → Has (y ∷ ys) z → (z ≡ x → ⊥) → Has (y ∷ zs) z
but_later y ys zs z x f first n = first
but_later y ys zs z x f (later h) n = later (f z h n)

rest_of : {Y : Type 0} (ys : List Y) (x : Y) → Has ys x → Rest ys x
rest_of [] x h = elim h [ ]
rest_of (y ∷ ys) x first = record { items = ys; size = omega arith; others = but_first y ys }
rest_of (y ∷ ys) x (later h) =
    let r : Rest ys x = rest_of ys x h in
    record { items = y ∷ r.items; size = omega (arith, r.size); others = λ z i n. but_later y ys r.items z x r.others i n }

pub no_longer : {X Y : Type 0} (f : X → Y) (xs : List X) (ys : List Y) → AreApart f xs → ((z : X) → Has xs z → Has ys (f z)) → length xs ≤ length ys
no_longer f [] ys d h = omega arith
no_longer {X} {Y} f (x ∷ xs) ys d h =
    let r : Rest ys (f x) = rest_of ys (f x) (h x first) in
    let k : length xs ≤ length r.items = no_longer f xs r.items d.1 (λ z i. r.others (f z) (h z (later i)) (d.0 z i)) in
    omega (arith, k, r.size)
