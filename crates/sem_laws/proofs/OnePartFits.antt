-- Where all atoms hold, a combination that keeps to the domains fits exactly one part of the plan; elsewhere none.
use Rattle.std.proofs.Common.{◌≡◌, ℕ, ◌⊎◌, inl, inr, List, [], ◌∷◌, map, length, Bool, true, false, refl, sym, ap, ◌∙◌, subst, arith, ℤ}
use Rattle.std.proofs.lemmas.List.Elements.{All-contains}
use Rattle.sem_query.proofs.Has.{Has, first, later, Has-from_contains, Contains-from_has, Has-map}
use Rattle.sem_query.proofs.Unique.{Ascends, more, ascends_from, signs_strict}
use Rattle.sem_laws.proofs.Sums.{sums, bit, sums_none}
use Rattle.sem_laws.proofs.Tests.{true_or_false, not_both, false_if}
use Rattle.sem_laws.proofs.Admission.{fits, fits-if, fits-then}
use Rattle.sem_query.specs.declared.part.Sign.{Sign}
use Rattle.sem_query.specs.Query.{QueryValue}
use Rattle.sem_query.specs.Assignment.{holds, KeepsDomains}
use Rattle.sem_query.specs.Parts.{signs_of, signs_lt, InPart, IsPart}
use Rattle.sem_query.specs.Meaning.{joined}
use Rattle.sem_query.specs.declared.plan.PartPlan.{PartPlan}
use Rattle.sem_query.specs.Plan.{IsPartPlan, ArePartPlans}
use Rattle.sem_laws.proofs.Queries.{IsQuery}

pub has_cases : {A : Type 0} (y x : A) (ys : List A) → Has (y ∷ ys) x → (y ≡ x) ⊎ Has ys x
has_cases y x ys first = inl refl
has_cases y x ys (later h) = inr h

apart_from : (s t : List Sign) → signs_lt s t ≡ true → s ≡ t → ⊥
apart_from s t l e = let m : signs_lt t s ≡ true = cc in signs_strict.apart s t l m

-- one part of an ascending list has these signs
one_at : (t : PartPlan → Bool) (s : List Sign) (plan : List PartPlan) → Ascends signs_lt (map (λ p. p.signs.items) plan)
    → Has (map (λ p. p.signs.items) plan) s
    → ((p : PartPlan) → Has plan p → p.signs.items ≡ s → t p ≡ true)
    → ((p : PartPlan) → Has plan p → t p ≡ true → p.signs.items ≡ s) → sums (λ p. bit (t p)) plan ≡ 1
unfolding sums
one_at t s [] a h f g = elim h [ ]
one_at t s (p ∷ plan) (more b a) h f g =
    elim (has_cases p.signs.items s (map (λ p. p.signs.items) plan) h) [
      | inl e ↦ (
          let here : bit (t p) ≡ 1 = ap bit (f p first e) in
          let rest : sums (λ p. bit (t p)) plan ≡ 0 = sums_none t plan (λ r k. false_if (t r) (λ i.
          apart_from p.signs.items r.signs.items (b r.signs.items (Has-map (λ p. p.signs.items) k)) (e ∙ sym (g r (later k) i)))) in
          omega (arith, here, rest))
      | inr k ↦ (
          let here : bit (t p) ≡ 0 = ap bit (false_if (t p) (λ i. apart_from p.signs.items s (b s k) (g p first i))) in
          omega (arith, here, one_at t s plan a k (λ r l. f r (later l)) (λ r l. g r (later l))))
    ]

module _ (q : QueryValue) (plan : List PartPlan) (is : ArePartPlans q plan) (well : IsQuery q) (vs : List (ℕ → ℤ)) (whole : length vs ≡ length q.from) (keeps : KeepsDomains q (joined vs)) where
  part_plan : (p : PartPlan) → Has plan p → IsPartPlan q p
  part_plan p k = All-contains (IsPartPlan q) plan p is.plans (Contains-from_has plan p k)

  is_part : (p : PartPlan) → Has plan p → IsPart q p.signs.items
  is_part p k =
      All-contains (IsPart q) (map (λ p. p.signs.items) plan) p.signs.items is.parts.each (Contains-from_has _ p.signs.items (Has-map (λ p. p.signs.items) k))

  pub one_part_fits : bit (holds q (joined vs)) ≡ sums (λ p. bit (fits q p vs)) plan
  one_part_fits = by (true_or_false (holds q (joined vs)))
    where
      by : (holds q (joined vs) ≡ true) ⊎ (holds q (joined vs) ≡ false)
          → bit (holds q (joined vs)) ≡ sums (λ p. bit (fits q p vs)) plan
      by (inl h) =
          let s : List Sign = signs_of q (joined vs) in
          let i : InPart q s (joined vs) = record { holds = h; domains = keeps; signs = refl } in
          ap bit h
          ∙ sym (one_at (λ p. fits q p vs) s plan (ascends_from signs_lt _ is.parts.ascending) (Has-from_contains _ s (is.parts.all s record { one = joined vs; inside = i }))
          (λ p k e. fits-if q p (part_plan p k) (is_part p k) well vs whole (subst (λ u. InPart q u (joined vs)) (sym e) i))
          (λ p k f. sym (fits-then q p (part_plan p k) (is_part p k) well vs whole keeps f).signs))
      by (inr h) =
          ap bit h ∙ sym (sums_none (λ p. fits q p vs) plan (λ p k. false_if (fits q p vs) (λ f.
          not_both (holds q (joined vs)) ((fits-then q p (part_plan p k) (is_part p k) well vs whole keeps f).holds) h)))
