-- What cannot be refuted. Where the goal is absurd, it may be used as if it were so.
use Rattle.std.proofs.Common.{◌≡◌, Bool, true, ◌⊎◌, inl, inr, List, [], ◌∷◌, AllPairs, IsTrue, arith}
use Rattle.std.specs.Prelude.{All}
use Rattle.std.proofs.lemmas.List.Elements.{All-nil, All-cons}
use Rattle.std.proofs.lemmas.List.Kept.{AllPairs-cons}
use Rattle.sem_query.proofs.Has.{Has, first, later}
use Rattle.sem_query.proofs.Unique.{Ascends, none, more}

abbrev pub Possible : Type 0 → Type 0
Possible A = (A → ⊥) → ⊥

pub possible : {A : Type 0} → A → Possible A
possible a n = n a

pub followed : {A B : Type 0} → Possible A → (A → Possible B) → Possible B
followed h f n = h (λ a. f a n)

-- each statement holds or is absurd
pub either : {A : Type 0} → Possible (A ⊎ (A → ⊥))
either n = n (inr (λ a. n (inl a)))

-- the elements of a list at which something holds, in their order
pub data Sifted {X : Type 0} (P : X → Type 0) : List X → List X → Type 0 where
  nothing : Sifted P [] []
  kept : {x : X} {xs ys : List X} → P x → Sifted P xs ys → Sifted P (x ∷ xs) (x ∷ ys)
  dropped : {x : X} {xs ys : List X} → (P x → ⊥) → Sifted P xs ys → Sifted P (x ∷ xs) ys

module _ {X : Type 0} (P : X → Type 0) where
  pub sifted : (xs : List X) → Possible ((ys : List X) × Sifted P xs ys)
  sifted [] = possible ([], nothing)
  sifted (x ∷ xs) = followed (sifted xs) (λ r. followed (either {A = P x}) (λ o. elim o [
    | inl p ↦ possible (x ∷ r.0, kept p r.1)
    | inr n ↦ possible (r.0, dropped n r.1)
  ]))

  pub sifted-from : (xs ys : List X) → Sifted P xs ys → (x : X) → Has ys x → P x × Has xs x
  sifted-from xs ys nothing x h = elim h [ ]
  sifted-from xs ys (kept p s) x first = (p, first)
  sifted-from xs ys (kept {xs = us} {ys = vs} p s) x (later h) = let r = sifted-from us vs s x h in (r.0, later r.1)
  sifted-from xs ys (dropped {xs = us} n s) x h = let r = sifted-from us ys s x h in (r.0, later r.1)

  pub sifted-into : (xs ys : List X) → Sifted P xs ys → (x : X) → Has xs x → P x → Has ys x
  sifted-into xs ys nothing x h o = elim h [ ]
  sifted-into xs ys (kept p s) x first o = first
  sifted-into xs ys (kept {xs = us} {ys = vs} p s) x (later h) o = later (sifted-into us vs s x h o)
  sifted-into xs ys (dropped n s) x first o = absurd (n o)
  sifted-into xs ys (dropped {xs = us} n s) x (later h) o = sifted-into us ys s x h o

  pub sifted-ascends : (lt : X → X → Bool) (xs ys : List X) → Sifted P xs ys → Ascends lt xs → Ascends lt ys
  sifted-ascends lt xs ys nothing a = none
  sifted-ascends lt xs ys (kept {xs = us} {ys = vs} p s) (more f a) =
      more (λ y h. f y (sifted-from us vs s y h).1) (sifted-ascends lt us vs s a)
  sifted-ascends lt xs ys (dropped {xs = us} n s) (more f a) = sifted-ascends lt us ys s a

-- two lists of one length, each element standing to the one at its place
pub data Paired {X Y : Type 0} (R : X → Y → Type 0) : List X → List Y → Type 0 where
  nil : Paired R [] []
  cons : {x : X} {y : Y} {xs : List X} {ys : List Y} → R x y → Paired R xs ys → Paired R (x ∷ xs) (y ∷ ys)

module _ {X Y : Type 0} (R : X → Y → Type 0) where
  pub paired-all : (xs : List X) → ((x : X) → Has xs x → Possible ((y : Y) × R x y)) → Possible ((ys : List Y) × Paired R xs ys)
  paired-all [] f = possible ([], nil)
  paired-all (x ∷ xs) f =
      followed (f x first) (λ o. followed (paired-all xs (λ z h. f z (later h))) (λ r. possible (o.0 ∷ r.0, cons o.1 r.1)))

  pub paired-from : (xs : List X) (ys : List Y) → Paired R xs ys → (y : Y) → Has ys y → (x : X) × Has xs x × R x y
  paired-from xs ys nil y h = elim h [ ]
  paired-from xs ys (cons {x = x} r p) y first = (x, first, r)
  paired-from xs ys (cons {xs = us} {ys = vs} r p) y (later h) = let o = paired-from us vs p y h in (o.0, later o.1, o.2)

  pub paired-into : (xs : List X) (ys : List Y) → Paired R xs ys → (x : X) → Has xs x → (y : Y) × Has ys y × R x y
  paired-into xs ys nil x h = elim h [ ]
  paired-into xs ys (cons {y = y} r p) x first = (y, first, r)
  paired-into xs ys (cons {xs = us} {ys = vs} r p) x (later h) = let o = paired-into us vs p x h in (o.0, later o.1, o.2)

  -- an order of the one is an order of the other
  pub paired-ascends : (lt : X → X → Bool) (less : Y → Y → Bool) → ((x z : X) (y w : Y) → R x y → R z w → lt x z ≡ true → less y w ≡ true)
      → (xs : List X) (ys : List Y) → Paired R xs ys → Ascends lt xs → Ascends less ys
  paired-ascends lt less f xs ys nil a = none
  paired-ascends lt less f xs ys (cons {x = x} {y = y} {xs = us} {ys = vs} r p) (more g a) =
      more (λ w h. let o = paired-from us vs p w h in f x o.0 y w r o.2 (g o.0 o.1)) (paired-ascends lt less f us vs p a)

pub all-from-has : {X : Type 0} (P : X → Type 0) (xs : List X) → ((x : X) → Has xs x → P x) → All P xs
all-from-has P [] h = All-nil P
all-from-has P (x ∷ xs) h = All-cons P x xs (h x first) (all-from-has P xs (λ y k. h y (later k)))

pub pairs-ascend : {X : Type 0} (lt : X → X → Bool) (xs : List X) → Ascends lt xs → AllPairs (λ x y. IsTrue (lt x y)) xs
pairs-ascend lt [] a = λ i j d h k. absurd (omega (arith, k))
pairs-ascend lt (x ∷ xs) (more f a) = AllPairs-cons (λ x y. IsTrue (lt x y)) x xs (all-from-has (λ y. IsTrue (lt x y)) xs f) (pairs-ascend lt xs a)
