-- Put in order, elements are no more than there are different ones.
use Rattle.std.proofs.Common.{◌≡◌, ◌+◌, ◌≤◌, ◌⊎◌, inl, inr, Bool, true, false, cond, ◌||◌, List, [], ◌∷◌, length, refl, ap, sym, subst, arith}
use Rattle.std.specs.List.{list_any, AllByRecursion}
use Rattle.sem_query.specs.Query.{with_new}
use Rattle.sem_query.proofs.Has.{Has, first, later, Has-head}
use Rattle.sem_query.proofs.Unique.{Ascends, none, more}
use Rattle.sem_query.proofs.Ascending.{Ascends-with_new}
use Rattle.sql_parser.specs.Limits.{number_of_different}

-- a test is met or not
pub flag : (b : Bool) → (b ≡ true) ⊎ (b ≡ false)
flag true = inl refl
flag false = inr refl

-- elements put in one by one, from the last on
abbrev pub put_all : {C X : Type 0} → (X → X → Bool) → (C → X) → List C → List X
put_all lt f [] = []
put_all lt f (c ∷ cs) = with_new lt (f c) (put_all lt f cs)

-- a strict order in which all elements can be compared
pub record IsOrder {X : Type 0} (lt : X → X → Bool) : Type 0 where
  pub asymmetric : (a b : X) → lt a b ≡ true → lt b a ≡ false
  pub along : (a b c : X) → lt a b ≡ true → lt b c ≡ true → lt a c ≡ true
  pub total : (a b : X) → lt a b ≡ false → lt b a ≡ false → a ≡ b

or_after : (p q : Bool) → (p || q) ≡ true → p ≡ false → q ≡ true
or_after true q h k = let e : true ≡ false = k in cc
or_after false q h k = h

-- one more at most
pub with_new-most : {X : Type 0} (lt : X → X → Bool) (x : X) (ys : List X) → length (with_new lt x ys) ≤ length ys + 1
with_new-most lt x [] = omega arith
with_new-most {X} lt x (y ∷ ys) = by (lt x y) (lt y x) (with_new-most lt x ys) where
  by : (b c : Bool) → length (with_new lt x ys) ≤ length ys + 1 → length (cond {A = List X} b (x ∷ y ∷ ys) (cond c (y ∷ with_new lt x ys) (y ∷ ys))) ≤ length (y ∷ ys) + 1
  by true c h = omega arith
  by false true h = omega arith
  by false false h = omega arith

module _ {X : Type 0} (lt : X → X → Bool) (order : IsOrder lt) where
  never : (x : X) → lt x x ≡ false
  never x = elim (flag (lt x x)) [ inl h ↦ order.asymmetric x x h | inr h ↦ h ]

  -- an element that is there is not put in again
  with_new-there : (x : X) (ys : List X) → Ascends lt ys → Has ys x → with_new lt x ys ≡ ys
  with_new-there x [] a h = elim h [ ]
  with_new-there x (y ∷ ys) (more p a) first = rw never refl
  with_new-there x (y ∷ ys) (more p a) (later h) =
      let below : lt y x ≡ true = p x h in
      rw (order.asymmetric y x below, below) (ap (λ l. y ∷ l) (with_new-there x ys a h))

  -- an element that is put in is there
  with_new-has : (x : X) (ys : List X) → Has (with_new lt x ys) x
  with_new-has x [] = first
  with_new-has x (y ∷ ys) = by (lt x y) (lt y x) refl refl (with_new-has x ys) where
    by : (b c : Bool) → lt x y ≡ b → lt y x ≡ c → Has (with_new lt x ys) x → Has (cond b (x ∷ y ∷ ys) (cond c (y ∷ with_new lt x ys) (y ∷ ys))) x
    by true c l m r = first
    by false true l m r = later r
    by false false l m r = Has-head x y ys (sym (order.total x y l m))

  -- the others stay
  with_new-holds : (x : X) (ys : List X) (z : X) → Has ys z → Has (with_new lt x ys) z
  with_new-holds x [] z h = elim h [ ]
  with_new-holds x (y ∷ ys) z h = by (lt x y) (lt y x) z h (with_new-holds x ys z) where
    by : (b c : Bool) (w : X) → Has (y ∷ ys) w → (Has ys w → Has (with_new lt x ys) w) → Has (cond b (x ∷ y ∷ ys) (cond c (y ∷ with_new lt x ys) (y ∷ ys))) w
    by true c w h f = later h
    by false true w first f = first
    by false true w (later h) f = later (f h)
    by false false w h f = h

  module _ {C : Type 0} (same : C → C → Bool) (f : C → X) (alike : (c d : C) → same c d ≡ true → f c ≡ f d) where
    Ascends-put_all : (cs : List C) → Ascends lt (put_all lt f cs)
    Ascends-put_all [] = none
    Ascends-put_all (c ∷ cs) = Ascends-with_new lt order.along (f c) (put_all lt f cs) (Ascends-put_all cs)

    -- what is the same as one of some is among them
    put_all-has : (c : C) (cs : List C) → list_any (same c) cs ≡ true → Has (put_all lt f cs) (f c)
    put_all-has c [] h = let e : false ≡ true = h in cc
    put_all-has c (d ∷ ds) h = elim (flag (same c d)) [
      | inl e ↦ subst (λ z. Has (with_new lt (f d) (put_all lt f ds)) z) (sym (alike c d e)) (with_new-has (f d) (put_all lt f ds))
      | inr e ↦ with_new-holds (f d) (put_all lt f ds) (f c) (put_all-has c ds (or_after (same c d) (list_any (same c) ds) h e))
    ]

    -- there are no more than different ones
    pub length-put_all : (cs : List C) → length (put_all lt f cs) ≤ number_of_different same cs
    length-put_all [] = omega arith
    length-put_all (c ∷ cs) = by (list_any (same c) cs) refl (length-put_all cs) where
      by : (b : Bool) → list_any (same c) cs ≡ b → length (put_all lt f cs) ≤ number_of_different same cs → length (with_new lt (f c) (put_all lt f cs)) ≤ cond b (number_of_different same cs) (number_of_different same cs + 1)
      by true e h = let k : length (with_new lt (f c) (put_all lt f cs)) ≡ length (put_all lt f cs) = ap length (with_new-there (f c) (put_all lt f cs) (Ascends-put_all cs) (put_all-has c cs e)) in omega arith
      by false e h = let k : length (with_new lt (f c) (put_all lt f cs)) ≤ length (put_all lt f cs) + 1 = with_new-most lt (f c) (put_all lt f cs) in omega arith

-- what holds of the others and of a new one holds of all
pub all_with_new : {X : Type 0} (P : X → Type 0) (lt : X → X → Bool) (x : X) (ys : List X) → P x → AllByRecursion P ys → AllByRecursion P (with_new lt x ys)
all_with_new P lt x [] p h = (p, tt)
all_with_new {X = X} P lt x (y ∷ ys) p h = by (lt x y) (lt y x) (all_with_new P lt x ys p h.1) where
  by : (b c : Bool) → AllByRecursion P (with_new lt x ys) → AllByRecursion P (cond {A = List X} b (x ∷ y ∷ ys) (cond c (y ∷ with_new lt x ys) (y ∷ ys)))
  by true c r = (p, h)
  by false true r = (h.0, r)
  by false false r = h

pub all_put : {C X : Type 0} (P : X → Type 0) (lt : X → X → Bool) (f : C → X) (cs : List C) → AllByRecursion (λ c. P (f c)) cs → AllByRecursion P (put_all lt f cs)
all_put P lt f [] h = tt
all_put P lt f (c ∷ cs) h = all_with_new P lt (f c) (put_all lt f cs) h.0 (all_put P lt f cs h.1)
