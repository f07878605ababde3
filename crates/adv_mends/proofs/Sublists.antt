-- Sublists are ordered, and shorter but for the list itself.
use Rattle.std.proofs.Common.{◌≡◌, ◌≢◌, ℕ, zero, suc, ◌-◌, ◌<◌, ◌≤◌, Bool, true, false, cond, nat_eq, List, [], ◌∷◌, length, take, drop, slice_index_or, refl, ap, subst, arith, ◌⊎◌, inl, inr}
use Rattle.std.proofs.lemmas.Bool.Decides.{nat_tests}
use Rattle.std.proofs.lemmas.List.{take_rest}
use Rattle.sem_query.specs.declared.atom.Attr.{Attr}
use Rattle.sem_query.specs.Query.{attr_eq}
use Rattle.sem_query.proofs.Has.{Has, first, later}
use Rattle.sem_query.proofs.Once.{attr_same}
use Rattle.sem_query.proofs.OneGroup.{attr_eq-itself}
use Rattle.adv_mends.specs.Sublists.{IsSublist, none, kept, left}
use Rattle.adv_mends.specs.SetSearch.{behind}

-- nothing is a sublist of every list
pub sublist-nil : {A : Type 0} (ys : List A) → IsSublist [] ys
sublist-nil [] = none
sublist-nil (y ∷ ys) = left (sublist-nil ys)

-- a list is one of its own
pub sublist-refl : {A : Type 0} (xs : List A) → IsSublist xs xs
sublist-refl [] = none
sublist-refl (x ∷ xs) = kept (sublist-refl xs)

-- what stands behind the first element is a sublist of what the whole is one of
pub sublist-tail : {A : Type 0} {x : A} {xs ys : List A} → IsSublist (x ∷ xs) ys → IsSublist xs ys
sublist-tail (kept s) = left s
sublist-tail (left s) = left (sublist-tail s)

-- a sublist of a sublist is one
pub sublist-trans : {A : Type 0} {xs ys zs : List A} → IsSublist xs ys → IsSublist ys zs → IsSublist xs zs
sublist-trans s none = s
sublist-trans s (left t) = left (sublist-trans s t)
sublist-trans (kept s) (kept t) = kept (sublist-trans s t)
sublist-trans (left s) (kept t) = left (sublist-trans s t)

-- it is no longer
pub sublist-length : {A : Type 0} {xs ys : List A} → IsSublist xs ys → length xs ≤ length ys
sublist-length none = omega arith
sublist-length (kept s) = omega (arith, sublist-length s)
sublist-length (left s) = omega (arith, sublist-length s)

-- and where it is as long, it is the list
pub sublist-same : {A : Type 0} {xs ys : List A} → IsSublist xs ys → length xs ≡ length ys → xs ≡ ys
sublist-same none e = refl
sublist-same (kept {x = x} {xs = xs} {ys = ys} s) e = let t : xs ≡ ys = sublist-same s (omega (arith, e)) in ap (λ l. x ∷ l) t
sublist-same (left s) e = absurd (omega (arith, sublist-length s, e))

-- of two numbers the first is at most the second, or greater
pub le_or_lt : (m n : ℕ) → (m ≤ n) ⊎ (n < m)
le_or_lt zero n = inl (omega arith)
le_or_lt (suc m) zero = inr (omega arith)
le_or_lt (suc m) (suc n) = elim (le_or_lt m n) [ inl h ↦ inl (omega (arith, h)) | inr h ↦ inr (omega (arith, h)) ]

-- so any other is shorter
pub sublist-shorter : {A : Type 0} {xs ys : List A} → IsSublist xs ys → xs ≢ ys → length xs < length ys
sublist-shorter s d = by_length _ _ (sublist-length s) (λ e. d (sublist-same s e)) where
  by_length : (m n : ℕ) → m ≤ n → (m ≡ n → ⊥) → m < n
  by_length m n l f = elim (le_or_lt (suc m) n) [ inl h ↦ h | inr h ↦ absurd (f (omega (arith, l, h))) ]

-- each element of a sublist stands in the list
pub sublist-has : {A : Type 0} {xs ys : List A} {x : A} → IsSublist xs ys → Has xs x → Has ys x
sublist-has none h = elim h [ ]
sublist-has (kept s) first = first
sublist-has (kept s) (later h) = later (sublist-has s h)
sublist-has (left s) h = later (sublist-has s h)

-- two lists that begin alike: the one is a sublist of the other where what follows is
sublist-kept : {A : Type 0} {x y : A} {xs ys : List A} → IsSublist (x ∷ xs) (y ∷ ys) → x ≡ y → IsSublist xs ys
sublist-kept (kept s) e = s
sublist-kept (left s) e = sublist-tail s

-- two that begin otherwise: where the whole is a sublist of what follows in the other
sublist-left : {A : Type 0} {x y : A} {xs ys : List A} → IsSublist (x ∷ xs) (y ∷ ys) → (x ≡ y → ⊥) → IsSublist (x ∷ xs) ys
sublist-left (kept s) d = absurd (d refl)
sublist-left (left s) d = s

-- some columns are a sublist of others where those that are not yet found are one of what stands behind
step : (a b : Attr) (xs ys : List Attr) (t : Bool) → attr_eq a b ≡ t → (IsSublist (cond t xs (a ∷ xs)) ys → IsSublist (a ∷ xs) (b ∷ ys)) × (IsSublist (a ∷ xs) (b ∷ ys) → IsSublist (cond t xs (a ∷ xs)) ys)
step a b xs ys true e =
    let same : a ≡ b = attr_same a b e in
    ((λ s. subst (λ z. IsSublist (a ∷ xs) (z ∷ ys)) same (kept s)), (λ s. sublist-kept s same))
step a b xs ys false e = ((λ s. left s), (λ s. sublist-left s (λ same. let t : attr_eq a b ≡ true = subst (λ z. attr_eq a z ≡ true) same (attr_eq-itself a) in absurd cc)))

by_first : (columns : List Attr) (b : Attr) (ys : List Attr) → (IsSublist (behind b columns) ys → IsSublist columns (b ∷ ys)) × (IsSublist columns (b ∷ ys) → IsSublist (behind b columns) ys)
by_first [] b ys = ((λ s. left s), (λ s. sublist-nil ys))
by_first (a ∷ xs) b ys = step a b xs ys (attr_eq a b) refl

pub sublist-step : (columns others : List Attr) (d : Attr) (after : List Attr) → 1 ≤ length others → after ≡ behind (slice_index_or others 0 d) columns
    → (IsSublist after (take (length others - 1) (drop 1 others)) → IsSublist columns others) × (IsSublist columns others → IsSublist after (take (length others - 1) (drop 1 others)))
sublist-step columns [] d after l e = absurd (omega (arith, l))
sublist-step columns (b ∷ ys) d after l e = rw (take_rest (b ∷ ys) 1, e) (by_first columns b ys)

zero_of : (n : ℕ) → nat_eq n 0 ≡ true → n ≡ 0
zero_of n h = grind (arith, nat_tests)

pub sublist-nothing : (columns others : List Attr) (n : ℕ) → length others < 1 → n ≡ length columns → (nat_eq n 0 ≡ true → IsSublist columns others) × (IsSublist columns others → nat_eq n 0 ≡ true)
sublist-nothing [] [] n l e = ((λ h. none), (λ s. rw e refl))
sublist-nothing (a ∷ xs) [] n l e = ((λ h. absurd (omega (arith, zero_of n h, e))), (λ s. elim s [ ]))
sublist-nothing columns (b ∷ ys) n l e = absurd (omega (arith, l))

-- what stands behind the first column, by cases
pub behind-same : (columns : List Attr) (d b : Attr) → 1 ≤ length columns → attr_eq (slice_index_or columns 0 d) b ≡ true → take (length columns - 1) (drop 1 columns) ≡ behind b columns
behind-same [] d b l e = absurd (omega (arith, l))
behind-same (a ∷ xs) d b l e = rw (take_rest (a ∷ xs) 1, e) refl

pub behind-other : (columns : List Attr) (d b : Attr) → 1 ≤ length columns → attr_eq (slice_index_or columns 0 d) b ≡ false → columns ≡ behind b columns
behind-other [] d b l e = absurd (omega (arith, l))
behind-other (a ∷ xs) d b l e = rw e refl

pub behind-none : (columns : List Attr) (b : Attr) → length columns < 1 → columns ≡ behind b columns
behind-none [] b l = refl
behind-none (a ∷ xs) b l = absurd (omega (arith, l))

-- what stands at a place stands in the list
pub at_place : {A : Type 0} (xs : List A) (i : ℕ) (d : A) → i < length xs → Has xs (slice_index_or xs i d)
at_place [] i d l = absurd (omega (arith, l))
at_place (x ∷ xs) zero d l = first
at_place (x ∷ xs) (suc i) d l = later (at_place xs i d (omega (arith, l)))
