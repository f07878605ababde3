-- Plans whose parts serve, and which take each combination once, suffice.
use Rattle.std.proofs.Common.{◌≡◌, ◌≢◌, ◌||◌, sym, AllPairs, Contains, ℕ, zero, suc, ◌<◌, inl, inr, List, [], ◌∷◌, length, cond, Bool, true, false, ◌==◌, refl, ap, ◌∙◌, subst, arith, nat_eq, ℤ, slice_index_or, option_to_list}
use Rattle.std.specs.List.{list_any}
use Rattle.std.proofs.lemmas.List.Elements.{All-contains}
use Rattle.sem_query.specs.declared.plan.PartPlan.{PartPlan}
use Rattle.sem_query.specs.Query.{QueryValue, is_filter}
use Rattle.sem_query.specs.Meaning.{Arrival, new_answers}
use Rattle.sem_query.specs.Tuples.{sorted, new_tuples}
use Rattle.sem_query.specs.Filter.{filter_tuple}
use Rattle.sem_query.specs.Boxes.{box_size}
use Rattle.sem_query.specs.Plan.{stream_at}
use Rattle.sem_query.specs.Cells.{printed}
use Rattle.sem_query.specs.Combinations.{Reading}
use Rattle.sem_query.specs.Future.{waiting, future}
use Rattle.sem_query.proofs.Has.{Has, first, later, Contains-from_has}
use Rattle.sem_laws.proofs.Queries.{IsQuery, query_within}
use Rattle.sem_laws.proofs.Counts.{Once, here, there}
use Rattle.sem_laws.proofs.CountsGrow.{Stands}
use Rattle.sem_laws.proofs.NewAnswers.{outside, outside-new}
use Rattle.sem_laws.proofs.OnePartFits.{has_cases}
use Rattle.sem_laws.proofs.Tests.{not_both, false_if, or-cases, nat_true}
use Rattle.sem_query.specs.Serving.{Serves}
use Rattle.sem_laws.specs.ServingLaws.{ServingPlansSuffice}
use Rattle.sem_laws.proofs.ServedCounts.{counts_suffice}
use Rattle.sem_laws.proofs.ServedDistinct.{distinct_suffice}

has_at : (xs : List ℕ) (k : ℕ) (d : ℕ) → k < length xs → Has xs (slice_index_or xs k d)
has_at [] k d l = absurd (omega (arith, l))
has_at (x ∷ xs) zero d l = first
has_at (x ∷ xs) (suc k) d l = later (has_at xs k d (omega (arith, l)))

-- FROM names the stream of the row once
pub once_in : (stream : ℕ) (from : List ℕ) → AllPairs (λ x y. x ≢ y) from → list_any (λ s. stream == s) from ≡ true
    → Once stream from
once_in stream [] d h = absurd cc
once_in stream (s ∷ from) d h =
    by (stream == s) refl h (λ k. once_in stream from (λ i j e a b. d (suc i) (suc j) e (omega (arith, a)) (omega (arith, b))) k)
  where
    later_differs : (t : ℕ) → Has from t → s ≢ t
    later_differs t k =
        let c : Contains from t = Contains-from_has from t k in
        let n : s ≢ slice_index_or from c.0 t = d 0 (suc c.0) t (omega arith) (omega (arith, c.1)) in
        λ e. n (e ∙ sym c.2)

    by : (b : Bool) → (stream == s) ≡ b → (b || list_any (λ s. stream == s) from) ≡ true
        → (list_any (λ s. stream == s) from ≡ true → Once stream from) → Once stream (s ∷ from)
    by true e g f =
        here e (λ t k. false_if (stream == t) (λ o. later_differs t k (sym (nat_true stream s e) ∙ nat_true stream t o)))
    by false e g f = there e (f g)

-- FROM with two different members is longer than one
two_members : (stream other : ℕ) (from : List ℕ) → list_any (λ s. stream == s) from ≡ true → Has from other
    → (stream == other) ≡ false → nat_eq (length from) 1 ≡ false
two_members stream other [] h k e = absurd cc
two_members stream other (s ∷ []) h k e = elim (has_cases s other [] k) [
  | inl f ↦ elim (or-cases (stream == s) false h) [
    | inl g ↦ absurd (not_both (stream == other) (subst (λ t. (stream == t) ≡ true) f g) e)
    | inr g ↦ absurd cc
  ]
  | inr l ↦ elim l [ ]
]
two_members stream other (s ∷ t ∷ from) h k e = grind arith

module _ (q : QueryValue) (plan : List PartPlan) (read : Reading) (table : List (List ℤ)) (r : Arrival) where
  abbrev named : Bool
  named = list_any (λ stream. r.stream == stream) q.from

  abbrev own : List (List ℤ)
  own = option_to_list (filter_tuple q r)

  abbrev kept : List (List ℤ)
  kept = cond q.distinct (sorted (new_tuples table (waiting q plan read r))) (sorted (waiting q plan read r))

  abbrev chosen : Bool → Bool → List (List ℤ)
  chosen a b = cond b own (cond a kept [])

  future_is : (a b : Bool) → named ≡ a → is_filter q ≡ b → future q plan read table r ≡ chosen a b
  unfolding future
  future_is a b e f = ap (λ a. chosen a (is_filter q)) e ∙ ap (λ b. chosen a b) f

pub serving_plans_suffice : ServingPlansSuffice
serving_plans_suffice q plan within n is h keep_h read given r keep_r = by (list_any (λ stream. r.stream == stream) q.from) refl
  where
    well : IsQuery q
    well = query_within q within

    stands : Stands q plan h read
    stands p k place i l b = given p (Contains-from_has plan p k) place i l b

    serves : (p : PartPlan) → Has plan p → Serves q p
    serves p k = All-contains (Serves q) plan p is.serves (Contains-from_has plan p k)

    by : (b : Bool) → list_any (λ stream. r.stream == stream) q.from ≡ b → future q plan read (printed q h) r ≡ new_answers q h r
    by false e = future_is q plan read (printed q h) r false false e n ∙ outside-new q h r (outside r.stream q.from e)
    by true e = future_is q plan read (printed q h) r true false e n ∙ by_kind q.distinct refl
      where
        once : Once r.stream q.from
        once = once_in r.stream q.from well.once e

        full : (p : PartPlan) → Has plan p → (place stream : ℕ) → place < length q.from → slice_index_or q.from place 0 ≡ stream
            → (r.stream == stream) ≡ false → (stream_at p place).size ≡ box_size (stream_at p place).dims.items
        full p k place stream l f o =
            (serves p k).keeps.size place l
            ∙ ap (λ b. cond b 0 (box_size (stream_at p place).dims.items)) (two_members r.stream stream q.from e (subst (λ t. Has q.from t) f (has_at q.from place 0 l)) o)

        by_kind : (b : Bool) → q.distinct ≡ b
            → cond q.distinct (sorted (new_tuples (printed q h) (waiting q plan read r))) (sorted (waiting q plan read r)) ≡ new_answers q h r
        by_kind true d =
            ap (λ b. cond b (sorted (new_tuples (printed q h) (waiting q plan read r))) (sorted (waiting q plan read r))) d
            ∙ distinct_suffice q plan is well d h r keep_h keep_r read stands once full
        by_kind false d =
            ap (λ b. cond b (sorted (new_tuples (printed q h) (waiting q plan read r))) (sorted (waiting q plan read r))) d
            ∙ counts_suffice q plan is well d h r keep_h keep_r read stands once full
