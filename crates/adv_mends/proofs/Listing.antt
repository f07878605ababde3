-- The list of all sets of at most three columns.
use Rattle.std.proofs.Common.{◌≡◌, ℕ, zero, suc, ◌<◌, ◌≤◌, inl, inr, List, [], ◌∷◌, ◌++◌, length, take, slice_index_or, refl, ap, sym, subst, ◌∙◌, arith, append_assoc, append-nil}
use Rattle.sem_query.specs.declared.atom.Attr.{Attr}
use Rattle.sem_query.proofs.Has.{Has, first, later, Has-append_left, Has-append_right, Has-append_cases}
use Rattle.adv_mends.specs.Sublists.{IsSublist, kept, left}
use Rattle.adv_mends.specs.Sets.{sets_with, sets_of}
use Rattle.adv_mends.proofs.Sublists.{sublist-nil}

-- a set that begins with some columns and has so many more of others
pub record IsSetWith (begin : List Attr) (more : ℕ) (columns set : List Attr) : Type 0 where
  pub behind : List Attr
  pub is : set ≡ begin ++ behind
  pub within : IsSublist behind columns
  pub many : length behind ≡ more

-- each of the listed sets is one
pub set-with : (begin : List Attr) (more : ℕ) (columns set : List Attr) → Has (sets_with begin more columns) set → IsSetWith begin more columns set
set-with begin zero columns set first = record { behind = []; is = sym (append-nil begin); within = sublist-nil columns; many = refl }
set-with begin zero columns set (later h) = elim h [ ]
set-with begin (suc more) [] set h = elim h [ ]
set-with begin (suc more) (a ∷ others) set h =
    elim (Has-append_cases (sets_with (begin ++ a ∷ []) more others) (sets_with begin (suc more) others) set h) [
      | inl k ↦ let w = set-with (begin ++ a ∷ []) more others set k in
          record { behind = a ∷ w.behind; is = w.is ∙ append_assoc begin (a ∷ []) w.behind; within = kept w.within; many = ap suc w.many }
      | inr k ↦ let w = set-with begin (suc more) others set k in
          record { behind = w.behind; is = w.is; within = left w.within; many = w.many }
    ]

-- and each such set is listed
pub listed-with : (begin : List Attr) (more : ℕ) (columns behind : List Attr) → IsSublist behind columns → length behind ≡ more → Has (sets_with begin more columns) (begin ++ behind)
listed-with begin zero columns [] s e = subst (λ z. Has (begin ∷ []) z) (sym (append-nil begin)) first
listed-with begin zero columns (a ∷ behind) s e = absurd (omega (arith, e))
listed-with begin (suc more) [] [] s e = absurd (omega (arith, e))
listed-with begin (suc more) [] (a ∷ behind) s e = elim s [ ]
listed-with begin (suc more) (a ∷ others) (b ∷ behind) (kept s) e =
    Has-append_left (sets_with begin (suc more) others) (subst (λ z. Has (sets_with (begin ++ a ∷ []) more others) z) (append_assoc begin (a ∷ []) behind) (listed-with (begin ++ a ∷ []) more others behind s (omega (arith, e))))
listed-with begin (suc more) (a ∷ others) behind (left s) e = Has-append_right (sets_with (begin ++ a ∷ []) more others) (listed-with begin (suc more) others behind s e)

-- the lists of one size each, of no size but these
pub data IsOfSize (columns set : List Attr) : Type 0 where
  sized : IsSublist set columns → length set ≤ 3 → IsOfSize columns set

from_with : (n : ℕ) (columns set : List Attr) → n ≤ 3 → Has (sets_with [] n columns) set → IsOfSize columns set
from_with n columns set few h =
    let w = set-with [] n columns set h in
    subst (IsOfSize columns) (sym w.is) (sized w.within (omega (arith, few, w.many)))

module _ (columns : List Attr) where
  abbrev S : ℕ → List (List Attr)
  S n = sets_with [] n columns

  by_one : (set : List Attr) → Has (S 0 ++ S 1) set → IsOfSize columns set
  by_one set k = elim (Has-append_cases (S 0) (S 1) set k) [ inl i ↦ from_with 0 columns set (omega arith) i | inr i ↦ from_with 1 columns set (omega arith) i ]

  by_two : (set : List Attr) → Has ((S 0 ++ S 1) ++ S 2) set → IsOfSize columns set
  by_two set k = elim (Has-append_cases (S 0 ++ S 1) (S 2) set k) [ inl i ↦ by_one set i | inr i ↦ from_with 2 columns set (omega arith) i ]

  by_three : (set : List Attr) → Has (((S 0 ++ S 1) ++ S 2) ++ S 3) set → IsOfSize columns set
  by_three set k = elim (Has-append_cases ((S 0 ++ S 1) ++ S 2) (S 3) set k) [ inl i ↦ by_two set i | inr i ↦ from_with 3 columns set (omega arith) i ]

  -- each listed set is a sublist of the columns, with at most three of them
  pub listed-is : (set : List Attr) → Has (sets_of columns) set → IsOfSize columns set
  unfolding sets_of
  listed-is set h = by_three set h

  of_length : (set : List Attr) (n : ℕ) → IsSublist set columns → length set ≡ n → n ≤ 3 → Has (((S 0 ++ S 1) ++ S 2) ++ S 3) set
  of_length set zero s e l = Has-append_left (S 3) (Has-append_left (S 2) (Has-append_left (S 1) (listed-with [] 0 columns set s e)))
  of_length set (suc zero) s e l = Has-append_left (S 3) (Has-append_left (S 2) (Has-append_right (S 0) (listed-with [] 1 columns set s e)))
  of_length set (suc (suc zero)) s e l = Has-append_left (S 3) (Has-append_right (S 0 ++ S 1) (listed-with [] 2 columns set s e))
  of_length set (suc (suc (suc zero))) s e l = Has-append_right ((S 0 ++ S 1) ++ S 2) (listed-with [] 3 columns set s e)
  of_length set (suc (suc (suc (suc n)))) s e l = absurd (omega (arith, l))

  -- and each such sublist is listed
  pub listed : (set : List Attr) → IsSublist set columns → length set ≤ 3 → Has (sets_of columns) set
  unfolding sets_of
  listed set s l = of_length set (length set) s refl l

-- no set is larger than one behind it
pub data BySize : List (List Attr) → Type 0 where
  nothing : BySize []
  more_of : {set : List Attr} {sets : List (List Attr)} → ((other : List Attr) → Has sets other → length set ≤ length other) → BySize sets → BySize (set ∷ sets)

-- sets of one size
one_size : (n : ℕ) (sets : List (List Attr)) → ((set : List Attr) → Has sets set → length set ≡ n) → BySize sets
one_size n [] f = nothing
one_size n (set ∷ sets) f = more_of {set = set} (λ other h. omega (arith, f set first, f other (later h))) (one_size n sets (λ other h. f other (later h)))

-- sets of one size and then larger ones
joined : (xs ys : List (List Attr)) → BySize xs → BySize ys → ((x y : List Attr) → Has xs x → Has ys y → length x ≤ length y) → BySize (xs ++ ys)
joined [] ys a b f = b
joined (x ∷ xs) ys (more_of g a) b f = more_of {set = x} (λ other h. elim (Has-append_cases xs ys other h) [ inl k ↦ g other k | inr k ↦ f x other first k ]) (joined xs ys a b (λ z y h k. f z y (later h) k))

module _ (columns : List Attr) where
  size_of : (n : ℕ) (set : List Attr) → Has (S columns n) set → length set ≡ n
  size_of n set h = let w = set-with [] n columns set h in ap length w.is ∙ w.many

  size_upto : (n m : ℕ) (set : List Attr) → Has (S columns n) set → n ≤ m → length set ≤ m
  size_upto n m set h l = omega (arith, size_of n set h, l)

  upto_one : (set : List Attr) → Has (S columns 0 ++ S columns 1) set → length set ≤ 1
  upto_one set h = elim (Has-append_cases (S columns 0) (S columns 1) set h) [ inl k ↦ size_upto 0 1 set k (omega arith) | inr k ↦ size_upto 1 1 set k (omega arith) ]

  upto_two : (set : List Attr) → Has ((S columns 0 ++ S columns 1) ++ S columns 2) set → length set ≤ 2
  upto_two set h = elim (Has-append_cases (S columns 0 ++ S columns 1) (S columns 2) set h) [ inl k ↦ omega (arith, upto_one set k) | inr k ↦ size_upto 2 2 set k (omega arith) ]

  each_size : (n : ℕ) → BySize (S columns n)
  each_size n = one_size n (S columns n) (size_of n)

  first_two : BySize (S columns 0 ++ S columns 1)
  first_two = joined (S columns 0) (S columns 1) (each_size 0) (each_size 1) (λ x y h k. omega (arith, size_of 0 x h, size_of 1 y k))

  first_three : BySize ((S columns 0 ++ S columns 1) ++ S columns 2)
  first_three = joined (S columns 0 ++ S columns 1) (S columns 2) first_two (each_size 2) (λ x y h k. omega (arith, upto_one x h, size_of 2 y k))

  -- the smaller sets stand first
  pub listed-by_size : BySize (sets_of columns)
  unfolding sets_of
  listed-by_size = joined ((S columns 0 ++ S columns 1) ++ S columns 2) (S columns 3) first_three (each_size 3) (λ x y h k. omega (arith, upto_two x h, size_of 3 y k))

-- a set that is smaller than the one at a place stands before it
pub smaller-before : (sets : List (List Attr)) (i : ℕ) (d set : List Attr) → BySize sets → i < length sets → Has sets set → length set < length (slice_index_or sets i d) → Has (take i sets) set
smaller-before [] i d set b l h s = elim h [ ]
smaller-before (x ∷ sets) zero d set (more_of f b) l first s = absurd (omega (arith, s))
smaller-before (x ∷ sets) zero d set (more_of f b) l (later h) s = absurd (omega (arith, s, f set h))
smaller-before (x ∷ sets) (suc i) d set (more_of f b) l first s = first
smaller-before (x ∷ sets) (suc i) d set (more_of f b) l (later h) s = later (smaller-before sets i d set b (omega (arith, l)) h s)
