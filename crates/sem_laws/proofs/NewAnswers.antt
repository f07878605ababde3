-- What a row adds to the answers, told by how often each tuple is answered.
use Rattle.std.proofs.Common.{◌≡◌, ℕ, zero, suc, ◌+◌, ◌-◌, ◌*◌, min, ◌<◌, inl, inr, List, [], ◌∷◌, ◌++◌, map, cond, not, Bool, true, false, ◌==◌, refl, sym, ap, ◌∙◌, subst, arith, ℤ}
use Rattle.std.specs.List.{list_any}
use Rattle.sem_laws.proofs.Sums.{sums, bit}
use Rattle.sem_laws.proofs.Tests.{true_or_false, not_both, same_bool, or-false}
use Rattle.sem_laws.proofs.OnePartFits.{has_cases}
use Rattle.sem_laws.proofs.Counts.{times, times-answers, gives, Absent, nested-outside}
use Rattle.sem_laws.proofs.Order.{times-ascending, times-minus, times-fresh, times-once, any-times, times-any, ascending-rises, same-counts, Rises}
use Rattle.sem_query.specs.Query.{QueryValue}
use Rattle.sem_query.specs.Meaning.{Arrival, by_column, answers, new_answers}
use Rattle.sem_query.specs.Tuples.{is_same, sorted, bag_minus, distinct_tuples, new_tuples}
use Rattle.sem_query.specs.Cells.{printed}

-- by the outcome of the test whether FROM names the stream
pub outside : (stream : ℕ) (from : List ℕ) → list_any (λ s. stream == s) from ≡ false → Absent stream from
outside stream [] h s k = elim k [ ]
outside stream (t ∷ from) h s k = elim (has_cases t s from k) [
  | inl e ↦ subst (λ x. (stream == x) ≡ false) e (or-false (stream == t) _ h).0
  | inr l ↦ outside stream from (or-false (stream == t) _ h).1 s l
]

new-plain : (q : QueryValue) (h : List Arrival) (r : Arrival) → q.distinct ≡ false
    → new_answers q h r ≡ sorted (bag_minus (answers q (h ++ r ∷ [])) (answers q h))
unfolding new_answers
new-plain q h r e =
    ap (λ b. cond b (sorted (new_tuples (answers q h) (answers q (h ++ r ∷ [])))) (sorted (bag_minus (answers q (h ++ r ∷ [])) (answers q h)))) e

new-distinct : (q : QueryValue) (h : List Arrival) (r : Arrival) → q.distinct ≡ true
    → new_answers q h r ≡ sorted (new_tuples (answers q h) (answers q (h ++ r ∷ [])))
unfolding new_answers
new-distinct q h r e =
    ap (λ b. cond b (sorted (new_tuples (answers q h) (answers q (h ++ r ∷ [])))) (sorted (bag_minus (answers q (h ++ r ∷ [])) (answers q h)))) e

-- how often the new answers have a tuple
pub times-new-plain : (q : QueryValue) (h : List Arrival) (r : Arrival) (z : List ℤ) → q.distinct ≡ false
    → times z (new_answers q h r) ≡ times z (answers q (h ++ r ∷ [])) - times z (answers q h)
times-new-plain q h r z e = ap (times z) (new-plain q h r e) ∙ times-ascending z _ ∙ times-minus z _ _

new-rises : (q : QueryValue) (h : List Arrival) (r : Arrival) → Rises (new_answers q h r)
new-rises q h r = elim (true_or_false q.distinct) [
  | inl e ↦ subst Rises (sym (new-distinct q h r e)) (ascending-rises (new_tuples (answers q h) (answers q (h ++ r ∷ []))))
  | inr e ↦ subst Rises (sym (new-plain q h r e)) (ascending-rises (bag_minus (answers q (h ++ r ∷ [])) (answers q h)))
]

-- equal counts of the new answers and of an ascending list
pub is_new : (q : QueryValue) (h : List Arrival) (r : Arrival) (ts : List (List ℤ))
    → ((z : List ℤ) → times z ts ≡ times z (new_answers q h r)) → sorted ts ≡ new_answers q h r
is_new q h r ts f =
    same-counts (sorted ts) (new_answers q h r) (ascending-rises ts) (new-rises q h r) (λ z. times-ascending z ts ∙ f z)

pub none-times : (z : List ℤ) (ts : List (List ℤ)) → list_any (is_same z) ts ≡ false → times z ts ≡ 0
none-times z ts h = by (times z ts) refl
  where
    by : (n : ℕ) → times z ts ≡ n → times z ts ≡ 0
    by zero e = e
    by (suc n) e = absurd (not_both (list_any (is_same z) ts) (times-any z ts (omega (arith, e))) h)

-- how often the new answers have a tuple, with DISTINCT
pub times-new-distinct : (q : QueryValue) (h : List Arrival) (r : Arrival) (z : List ℤ) → q.distinct ≡ true
    → times z (new_answers q h r) ≡ bit (not (list_any (is_same z) (answers q h))) * min 1 (times z (answers q (h ++ r ∷ [])))
times-new-distinct q h r z e =
    ap (times z) (new-distinct q h r e) ∙ times-ascending z (new_tuples (answers q h) (answers q (h ++ r ∷ [])))
    ∙ times-fresh z (answers q h) (answers q (h ++ r ∷ []))

-- nothing new where the counts stay
no_more : (q : QueryValue) (h : List Arrival) (r : Arrival) (z : List ℤ) → times z (answers q (h ++ r ∷ [])) ≡ times z (answers q h)
    → times z (new_answers q h r) ≡ 0
no_more q h r z same = elim (true_or_false q.distinct) [
  | inr e ↦ omega (arith, times-new-plain q h r z e, same)
  | inl e ↦ times-new-distinct q h r z e ∙ none (list_any (is_same z) (answers q h)) refl
]
  where
    none : (b : Bool) → list_any (is_same z) (answers q h) ≡ b → bit (not b) * min 1 (times z (answers q (h ++ r ∷ []))) ≡ 0
    none true e = omega arith
    none false e = omega (arith, same, none-times z (answers q h) e)

-- a row of a stream outside FROM has no answers
pub outside-new : (q : QueryValue) (h : List Arrival) (r : Arrival) → Absent r.stream q.from → [] ≡ new_answers q h r
unfolding sums
outside-new q h r a = is_new q h r [] (λ z. sym (no_more q h r z
    (times-answers q z (h ++ r ∷ []) ∙ nested-outside h r q.from (λ c. gives q z (map by_column c)) a ∙ sym (times-answers q z h))))

times-printed : (q : QueryValue) (h : List Arrival) (z : List ℤ) → q.distinct ≡ true
    → list_any (is_same z) (printed q h) ≡ list_any (is_same z) (answers q h)
times-printed q h z e =
    let p : printed q h ≡ sorted (distinct_tuples (answers q h)) = ap (λ b. cond b (sorted (distinct_tuples (answers q h))) []) e in
    let n : times z (printed q h) ≡ min 1 (times z (answers q h))
    = ap (times z) p ∙ times-ascending z (distinct_tuples (answers q h)) ∙ times-once z (answers q h) in
    same_bool _ _
    (λ a. times-any z (answers q h) (omega (arith, n, any-times z (printed q h) a)))
    (λ a. times-any z (printed q h) (omega (arith, n, any-times z (answers q h) a)))

both_or_neither : (m n : ℕ) → (0 < m → 0 < n) → (0 < n → 0 < m) → min 1 m ≡ min 1 n
both_or_neither zero zero f g = refl
both_or_neither zero (suc n) f g = absurd (omega (arith, g (omega arith)))
both_or_neither (suc m) zero f g = absurd (omega (arith, f (omega arith)))
both_or_neither (suc m) (suc n) f g = omega arith

-- with DISTINCT it is enough that something waits for a tuple where the row adds to its count
pub distinct-suffices : (q : QueryValue) (h : List Arrival) (r : Arrival) (wait : List (List ℤ)) (more : List ℤ → ℕ)
    → q.distinct ≡ true
    → ((z : List ℤ) → times z (answers q (h ++ r ∷ [])) ≡ times z (answers q h) + more z)
    → ((z : List ℤ) → 0 < more z → 0 < times z wait) → ((z : List ℤ) → 0 < times z wait → 0 < more z)
    → sorted (new_tuples (printed q h) wait) ≡ new_answers q h r
distinct-suffices q h r wait more e grow up down =
    is_new q h r (new_tuples (printed q h) wait) (λ z.
    times-fresh z (printed q h) wait
    ∙ ap (λ b. bit (not b) * min 1 (times z wait)) (times-printed q h z e)
    ∙ by z (list_any (is_same z) (answers q h)) refl
    ∙ sym (times-new-distinct q h r z e))
  where
    by : (z : List ℤ) (b : Bool) → list_any (is_same z) (answers q h) ≡ b
        → bit (not b) * min 1 (times z wait) ≡ bit (not b) * min 1 (times z (answers q (h ++ r ∷ [])))
    by z true f = omega arith
    by z false f = ap (λ n. 1 * n) (both_or_neither (times z wait) (times z (answers q (h ++ r ∷ [])))
        (λ a. omega (arith, grow z, down z a)) (λ a. up z (omega (arith, grow z, none-times z (answers q h) f, a))))
