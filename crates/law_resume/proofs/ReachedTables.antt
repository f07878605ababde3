-- A table of printed tuples after more tuples: it ascends, and has the tuples of both.
use Rattle.std.proofs.Common.{◌≡◌, ℕ, zero, suc, ◌<◌, ◌⊎◌, inl, inr, Bool, true, false, cond, not, ◌==◌, ℤ, List, [], ◌∷◌, ◌++◌, filter, length, get_or, refl, sym, subst, arith, AllPairs}
use Rattle.std.specs.List.{list_any, AllByRecursion}
use Rattle.std.specs.Option.{option_to_list}
use Rattle.sem_query.specs.declared.plan.PartPlan.{PartPlan}
use Rattle.sem_query.specs.Query.{QueryValue, is_filter}
use Rattle.sem_query.specs.Tuples.{is_before, is_same, insert_sorted, sorted, distinct_tuples, new_tuples}
use Rattle.sem_query.specs.Meaning.{Arrival}
use Rattle.sem_query.specs.Filter.{filter_tuple}
use Rattle.sem_query.specs.Combinations.{Reading}
use Rattle.sem_query.specs.Merge.{merged_table}
use Rattle.sem_query.specs.Future.{waiting, future}
use Rattle.sem_query.proofs.Has.{Has, first, later, Has-append_cases, Has-filter_from, Has-filter_holds}
use Rattle.sem_laws.proofs.OnePartFits.{has_cases}
use Rattle.sem_laws.proofs.Order.{same-itself, before-three, before-trans}
use Rattle.sem_laws.proofs.PlanTests.{not-true}
use Rattle.sem_laws.proofs.TableRoom.{Distinct}
use Rattle.sem_laws.proofs.Tests.{not_both}
use Rattle.law_resume.proofs.TupleOrder.{Ascend}

-- what holds of each member holds of all, and the other way round
all_from : (P : List ℤ → Type 0) (ts : List (List ℤ)) → ((t : List ℤ) → Has ts t → P t) → AllByRecursion P ts
all_from P [] h = tt
all_from P (t ∷ ts) h = (h t first, all_from P ts (λ u m. h u (later m)))

member_of : (P : List ℤ → Type 0) (ts : List (List ℤ)) (t : List ℤ) → AllByRecursion P ts → Has ts t → P t
member_of P [] t h m = elim m [ ]
member_of P (u ∷ ts) t h m = elim (has_cases u t ts m) [ inl e ↦ subst P e h.0 | inr k ↦ member_of P ts t h.1 k ]

-- the tuples in order are the same
placed_has : (t : List ℤ) (us : List (List ℤ)) (z : List ℤ) → Has (insert_sorted t us) z → (t ≡ z) ⊎ Has us z
placed_has t [] z h = has_cases t z [] h
placed_has t (u ∷ us) z h = by (is_before u t) (placed_has t us z) h
  where
    by : (b : Bool) → (Has (insert_sorted t us) z → (t ≡ z) ⊎ Has us z) → Has (cond b (u ∷ insert_sorted t us) (t ∷ u ∷ us)) z → (t ≡ z) ⊎ Has (u ∷ us) z
    by true rest m = elim (has_cases u z (insert_sorted t us) m) [
      | inl e ↦ inr (subst (λ x. Has (u ∷ us) x) e first)
      | inr k ↦ elim (rest k) [ inl e ↦ inl e | inr l ↦ inr (later l) ]
    ]
    by false rest m = has_cases t z (u ∷ us) m

ascending_has : (ts : List (List ℤ)) (z : List ℤ) → Has (sorted ts) z → Has ts z
ascending_has [] z h = elim h [ ]
ascending_has (t ∷ ts) z h = elim (placed_has t (sorted ts) z h) [
  | inl e ↦ subst (λ x. Has (t ∷ ts) x) e first
  | inr k ↦ later (ascending_has ts z k)
]

once_has : (ts : List (List ℤ)) (z : List ℤ) → Has (distinct_tuples ts) z → Has ts z
once_has [] z h = elim h [ ]
once_has (t ∷ ts) z h = elim (has_cases t z (filter (λ u. not (is_same u t)) (distinct_tuples ts)) h) [
  | inl e ↦ subst (λ x. Has (t ∷ ts) x) e first
  | inr k ↦ later (once_has ts z (Has-filter_from (λ u. not (is_same u t)) (distinct_tuples ts) z k))
]

-- each once, they differ
distinct_filter : (p : List ℤ → Bool) (ts : List (List ℤ)) → Distinct ts → Distinct (filter p ts)
distinct_filter p [] d = tt
distinct_filter p (t ∷ ts) d = by (p t) (distinct_filter p ts d.1)
  where
    by : (b : Bool) → Distinct (filter p ts) → Distinct (cond b (t ∷ filter p ts) (filter p ts))
    by true rest = ((λ m. d.0 (Has-filter_from p ts t m)), rest)
    by false rest = rest

once_distinct : (ts : List (List ℤ)) → Distinct (distinct_tuples ts)
once_distinct [] = tt
once_distinct (t ∷ ts) = (
  (λ m. not_both (is_same t t) (same-itself t) (not-true (is_same t t) (Has-filter_holds (λ u. not (is_same u t)) (distinct_tuples ts) t m))),
  distinct_filter (λ u. not (is_same u t)) (distinct_tuples ts) (once_distinct ts),
)

-- in order they ascend
placed_ascends : (t : List ℤ) (us : List (List ℤ)) → (Has us t → ⊥) → Ascend us → Ascend (insert_sorted t us)
placed_ascends t [] new a = (tt, tt)
placed_ascends t (u ∷ us) new a = by (is_before u t) refl (placed_ascends t us (λ m. new (later m)) a.1)
  where
    before : is_before u t ≡ false → is_before t u ≡ true
    before e = elim (before-three t u) [
      | inl b ↦ b
      | inr o ↦ elim o [ inl b ↦ absurd (not_both (is_before u t) b e) | inr s ↦ absurd (new (subst (λ x. Has (u ∷ us) x) (sym s) first)) ]
    ]

    by : (b : Bool) → is_before u t ≡ b → Ascend (insert_sorted t us) → Ascend (cond b (u ∷ insert_sorted t us) (t ∷ u ∷ us))
    by true e rest = (
      all_from (λ z. is_before u z ≡ true) (insert_sorted t us) (λ z m. elim (placed_has t us z m) [
        | inl s ↦ subst (λ x. is_before u x ≡ true) s e
        | inr k ↦ member_of (λ x. is_before u x ≡ true) us z a.0 k
      ]),
      rest,
    )
    by false e rest = (
      (before e, all_from (λ z. is_before t z ≡ true) us (λ z m. before-trans t u z (before e) (member_of (λ x. is_before u x ≡ true) us z a.0 m))),
      a,
    )

distinct_ascends : (ts : List (List ℤ)) → Distinct ts → Ascend (sorted ts)
distinct_ascends [] d = tt
distinct_ascends (t ∷ ts) d = placed_ascends t (sorted ts) (λ m. d.0 (ascending_has ts t m)) (distinct_ascends ts d.1)

-- each before all later ones, by their places
later_at : (t : List ℤ) (us : List (List ℤ)) (j : ℕ) (d : List ℤ) → AllByRecursion (λ u. is_before t u ≡ true) us → j < length us → is_before t (get_or us j d) ≡ true
later_at t [] j d h l = absurd (omega (arith, l))
later_at t (u ∷ us) zero d h l = h.0
later_at t (u ∷ us) (suc j) d h l = later_at t us j d h.1 (omega (arith, l))

ascend_at : (ts : List (List ℤ)) → Ascend ts → AllPairs (λ t u. is_before t u ≡ true) ts
ascend_at [] a i j d l m = absurd (omega (arith, m))
ascend_at (t ∷ ts) a i zero d l m = absurd (omega (arith, l))
ascend_at (t ∷ ts) a zero (suc j) d l m = later_at t ts j d a.0 (omega (arith, m))
ascend_at (t ∷ ts) a (suc i) (suc j) d l m = ascend_at ts a.1 i j d (omega (arith, l)) (omega (arith, m))

-- a table of both
pub merged_ascends : (ts us : List (List ℤ)) → AllPairs (λ t u. is_before t u ≡ true) (merged_table ts us)
merged_ascends ts us = ascend_at (merged_table ts us) (distinct_ascends (distinct_tuples (ts ++ us)) (once_distinct (ts ++ us)))

pub merged_has : (ts us : List (List ℤ)) (t : List ℤ) → Has (merged_table ts us) t → Has ts t ⊎ Has us t
merged_has ts us t h = Has-append_cases ts us t (once_has (ts ++ us) t (ascending_has (distinct_tuples (ts ++ us)) t h))

-- what a query that is no filter answers waits
pub future_waits : (q : QueryValue) (plan : List PartPlan) (read : Reading) (table : List (List ℤ)) (r : Arrival) (t : List ℤ) → is_filter q ≡ false
    → Has (future q plan read table r) t → Has (waiting q plan read r) t
unfolding future
future_waits q plan read table r t n h = by (is_filter q) (list_any (λ stream. r.stream == stream) q.from) q.distinct n h
  where
    ws : List (List ℤ)
    ws = waiting q plan read r

    by : (a b c : Bool) → a ≡ false
        → Has (cond a (option_to_list (filter_tuple q r)) (cond b (cond c (sorted (new_tuples table ws)) (sorted ws)) [])) t → Has ws t
    by true b c e m = absurd cc
    by false true true e m = once_has ws t (Has-filter_from (λ u. not (list_any (is_same u) table)) (distinct_tuples ws) t (ascending_has (new_tuples table ws) t m))
    by false true false e m = ascending_has ws t m
    by false false c e m = elim m [ ]
