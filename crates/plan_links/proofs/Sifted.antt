-- What is left of a list by a property: one more element, members, order and length.
use Rattle.std.proofs.Common.{◌≡◌, ℕ, zero, suc, ◌+◌, ◌<◌, ◌≤◌, Bool, true, IsTrue, List, [], ◌∷◌, ◌++◌, length, take, get_or, AllPairs, sym, subst, arith}
use Rattle.std.proofs.lemmas.List.{take_more, take_all}
use Rattle.std.proofs.lemmas.List.Elements.{Contains-get_or}
use Rattle.std.proofs.lemmas.List.Kept.{AllPairs-cons}
use Rattle.sem_query.proofs.Has.{Has, first, later, Has-from_contains}
use Rattle.sem_query.proofs.Unique.{Ascends, none, more}
use Rattle.plan_links.specs.Sifting.{Sifts, done, kept, dropped}

module _ {X : Type 0} (P : X → Type 0) where
  sift_kept : {xs ys : List X} (x : X) → P x → Sifts P xs ys → Sifts P (xs ++ x ∷ []) (ys ++ x ∷ [])
  sift_kept x p done = kept p done
  sift_kept x p (kept r s) = kept r (sift_kept x p s)
  sift_kept x p (dropped n s) = dropped n (sift_kept x p s)

  sift_dropped : {xs ys : List X} (x : X) → ¬ P x → Sifts P xs ys → Sifts P (xs ++ x ∷ []) ys
  sift_dropped x p done = dropped p done
  sift_dropped x p (kept r s) = kept r (sift_dropped x p s)
  sift_dropped x p (dropped n s) = dropped n (sift_dropped x p s)

  -- the next element stays, or does not
  pub kept_next : (xs ys : List X) (i : ℕ) (d : X) → i < length xs → P (get_or xs i d) → Sifts P (take i xs) ys → Sifts P (take (i + 1) xs) (ys ++ get_or xs i d ∷ [])
  kept_next xs ys i d l p s = subst (λ z. Sifts P z (ys ++ get_or xs i d ∷ [])) (sym (take_more xs i d l)) (sift_kept (get_or xs i d) p s)

  pub dropped_next : (xs ys : List X) (i : ℕ) (d : X) → i < length xs → ¬ P (get_or xs i d) → Sifts P (take i xs) ys → Sifts P (take (i + 1) xs) ys
  dropped_next xs ys i d l p s = subst (λ z. Sifts P z ys) (sym (take_more xs i d l)) (sift_dropped (get_or xs i d) p s)

  pub sift_end : (xs ys : List X) (i : ℕ) → length xs ≤ i → Sifts P (take i xs) ys → Sifts P xs ys
  sift_end xs ys i l s = subst (λ z. Sifts P z ys) (take_all i xs l) s

  pub member_from : {xs ys : List X} (z : X) → Sifts P xs ys → Has ys z → Has xs z × P z
  member_from z done h = elim h [ ]
  member_from z (kept p s) first = (first, p)
  member_from z (kept p s) (later h) = let r = member_from z s h in (later r.0, r.1)
  member_from z (dropped n s) h = let r = member_from z s h in (later r.0, r.1)

  pub member_of : {xs ys : List X} (z : X) → Sifts P xs ys → Has xs z → P z → Has ys z
  member_of z done h p = elim h [ ]
  member_of z (kept r s) first p = first
  member_of z (kept r s) (later h) p = later (member_of z s h p)
  member_of z (dropped n s) first p = absurd (n p)
  member_of z (dropped n s) (later h) p = member_of z s h p

  -- of what is left by one property, the elements that have another which says more
  pub sift_twice : (Q : X → Type 0) → ((x : X) → P x → Q x) → {xs ls ys : List X} → Sifts Q xs ls → Sifts P ls ys → Sifts P xs ys
  sift_twice Q f done done = done
  sift_twice Q f (kept q s) (kept p t) = kept p (sift_twice Q f s t)
  sift_twice Q f (kept q s) (dropped n t) = dropped n (sift_twice Q f s t)
  sift_twice Q f (dropped n s) t = dropped (λ p. n (f _ p)) (sift_twice Q f s t)

  pub sift_length : (xs ys : List X) → Sifts P xs ys → length ys ≤ length xs
  sift_length xs ys done = omega arith
  sift_length (x ∷ xs) (y ∷ ys) (kept p s) = let r = sift_length xs ys s in omega (arith, r)
  sift_length (x ∷ xs) ys (dropped n s) = let r = sift_length xs ys s in omega (arith, r)

  pub sift_ascends : (lt : X → X → Bool) {xs ys : List X} → Sifts P xs ys → Ascends lt xs → Ascends lt ys
  sift_ascends lt done a = none
  sift_ascends lt (kept p s) (more f a) = more (λ y h. f y (member_from y s h).0) (sift_ascends lt s a)
  sift_ascends lt (dropped n s) (more f a) = sift_ascends lt s a

-- what ascends does so at each two places
pub pairs_ascend : {X : Type 0} (lt : X → X → Bool) (xs : List X) → Ascends lt xs → AllPairs (λ x y. IsTrue (lt x y)) xs
pairs_ascend lt [] a = λ i j d l m. absurd (omega arith)
pairs_ascend lt (x ∷ xs) (more f a) = AllPairs-cons (λ x y. IsTrue (lt x y)) x xs (λ k d l. f (get_or xs k d) (Has-from_contains xs _ (Contains-get_or xs k d l))) (pairs_ascend lt xs a)

pub Has-take : {X : Type 0} (n : ℕ) (xs : List X) (z : X) → Has (take n xs) z → Has xs z
Has-take zero xs z h = elim h [ ]
Has-take (suc n) [] z h = elim h [ ]
Has-take (suc n) (x ∷ xs) z first = first
Has-take (suc n) (x ∷ xs) z (later h) = later (Has-take n xs z h)

pub Ascends-take : {X : Type 0} (lt : X → X → Bool) (n : ℕ) (xs : List X) → Ascends lt xs → Ascends lt (take n xs)
Ascends-take lt zero xs a = none
Ascends-take lt (suc n) [] a = none
Ascends-take lt (suc n) (x ∷ xs) (more f a) = more (λ z h. f z (Has-take n xs z h)) (Ascends-take lt n xs a)

pub Ascends-append : {X : Type 0} (lt : X → X → Bool) (xs ys : List X) → Ascends lt xs → Ascends lt ys → ((x y : X) → Has xs x → Has ys y → lt x y ≡ true) → Ascends lt (xs ++ ys)
Ascends-append lt [] ys a b f = b
Ascends-append {X} lt (x ∷ xs) ys (more g a) b f = more (λ z h. by z h) (Ascends-append lt xs ys a b (λ y z h k. f y z (later h) k)) where
  over : (ws : List X) (z : X) → ((w : X) → Has ws w → lt x w ≡ true) → Has (ws ++ ys) z → lt x z ≡ true
  over [] z p h = f x z first h
  over (w ∷ ws) z p first = p w first
  over (w ∷ ws) z p (later h) = over ws z (λ v i. p v (later i)) h

  by : (z : X) → Has (xs ++ ys) z → lt x z ≡ true
  by z h = over xs z g h
