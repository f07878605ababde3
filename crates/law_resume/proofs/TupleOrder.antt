-- Tuples in ascending order, and one more behind them.
use Rattle.std.proofs.Common.{◌≡◌, ℕ, suc, ◌<◌, true, false, cond, not, ◌||◌, ℤ, List, [], ◌∷◌, ◌++◌, length, filter, get_or, refl, ap, ◌∙◌, subst, arith}
use Rattle.std.specs.List.{list_any, AllByRecursion}
use Rattle.sem_query.specs.Tuples.{is_before, is_same, insert_sorted, sorted, distinct_tuples}
use Rattle.sem_query.specs.Merge.{merged_table}
use Rattle.sem_laws.proofs.Order.{same-is, before-itself, before-trans}
use Rattle.sem_laws.proofs.Tests.{false_if, not_both}
use Rattle.exec_registry.specs.Sound.{AreAscending}

-- each stands before all later ones
abbrev pub Ascend : List (List ℤ) → Type 0
Ascend [] = Unit {0}
Ascend (t ∷ ts) = AllByRecursion (λ u. is_before t u ≡ true) ts × Ascend ts

all_before : (t : List ℤ) (ts us : List (List ℤ)) → ((j : ℕ) (d : List ℤ) → j < length us → is_before t (get_or us j d) ≡ true) → AllByRecursion (λ u. is_before t u ≡ true) us
all_before t ts [] h = tt
all_before t ts (u ∷ us) h = (h 0 u (omega arith), all_before t ts us (λ j d l. h (suc j) d (omega (arith, l))))

pub ascend_from : (ts : List (List ℤ)) → AreAscending ts → Ascend ts
ascend_from [] h = tt
ascend_from (t ∷ ts) h =
    (all_before t ts ts (λ j d l. h 0 (suc j) d (omega arith) (omega (arith, l))), ascend_from ts (λ i j d l m. h (suc i) (suc j) d (omega (arith, l)) (omega (arith, m))))

-- a front of them is such a one
all_front : (P : List ℤ → Type 0) (a b : List (List ℤ)) → AllByRecursion P (a ++ b) → AllByRecursion P a
all_front P [] b h = tt
all_front P (t ∷ a) b h = (h.0, all_front P a b h.1)

pub ascend_front : (a b : List (List ℤ)) → Ascend (a ++ b) → Ascend a
ascend_front [] b h = tt
ascend_front (t ∷ a) b h = (all_front (λ u. is_before t u ≡ true) a b h.0, ascend_front a b h.1)

-- one that stands before another is not the same
not_same : (t u : List ℤ) → is_before t u ≡ true → is_same u t ≡ false
not_same t u h = false_if (is_same u t) (λ e. not_both (is_before t t) (subst (λ x. is_before t x ≡ true) (same-is u t e) h) (before-itself t))

not_back : (t u : List ℤ) → is_before t u ≡ true → is_before u t ≡ false
not_back t u h = false_if (is_before u t) (λ e. not_both (is_before t t) (before-trans t u t h e) (before-itself t))

all_stay : (t : List ℤ) (ts : List (List ℤ)) → AllByRecursion (λ u. is_before t u ≡ true) ts → filter (λ u. not (is_same u t)) ts ≡ ts
all_stay t [] h = refl
all_stay t (u ∷ ts) h =
    ap (λ b. cond (not b) (u ∷ filter (λ x. not (is_same x t)) ts) (filter (λ x. not (is_same x t)) ts)) (not_same t u h.0) ∙ ap (λ us. u ∷ us) (all_stay t ts h.1)

once_each : (ts : List (List ℤ)) → Ascend ts → distinct_tuples ts ≡ ts
once_each [] h = refl
once_each (t ∷ ts) h = ap (λ us. t ∷ filter (λ u. not (is_same u t)) us) (once_each ts h.1) ∙ ap (λ us. t ∷ us) (all_stay t ts h.0)

placed_first : (t : List ℤ) (ts : List (List ℤ)) → AllByRecursion (λ u. is_before t u ≡ true) ts → insert_sorted t ts ≡ t ∷ ts
placed_first t [] h = refl
placed_first t (u ∷ ts) h = ap (λ b. cond b (u ∷ insert_sorted t ts) (t ∷ u ∷ ts)) (not_back t u h.0)

in_order : (ts : List (List ℤ)) → Ascend ts → sorted ts ≡ ts
in_order [] h = refl
in_order (t ∷ ts) h = ap (insert_sorted t) (in_order ts h.1) ∙ placed_first t ts h.0

-- a tuple behind all others is put at the end, and was not there
pub merged_behind : (ts : List (List ℤ)) (t : List ℤ) → Ascend (ts ++ t ∷ []) → merged_table ts (t ∷ []) ≡ ts ++ t ∷ []
merged_behind ts t h = ap sorted (once_each (ts ++ t ∷ []) h) ∙ in_order (ts ++ t ∷ []) h

last_after : (P : List ℤ → Type 0) (ts : List (List ℤ)) (t : List ℤ) → AllByRecursion P (ts ++ t ∷ []) → P t
last_after P [] t h = h.0
last_after P (u ∷ ts) t h = last_after P ts t h.1

pub not_there : (ts : List (List ℤ)) (t : List ℤ) → Ascend (ts ++ t ∷ []) → list_any (is_same t) ts ≡ false
not_there [] t h = refl
not_there (u ∷ ts) t h = ap (λ b. b || list_any (is_same t) ts) (not_same u t (last_after (λ x. is_before u x ≡ true) ts t h.0)) ∙ not_there ts t h.1
