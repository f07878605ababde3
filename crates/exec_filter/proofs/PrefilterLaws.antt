-- Each stream of FROM has its filter, and a row that does not come in is refused.
use Rattle.std.proofs.Common.{◌≡◌, ◌≢◌, ℕ, zero, suc, ◌+◌, ◌<◌, ◌==◌, ◌&&◌, cond, Bool, true, false, List, [], ◌∷◌, ◌++◌, length, get_or, refl, sym, ap, ◌∙◌, subst, arith, inl, inr, slice_get, Some}
use Rattle.std.proofs.lemmas.Bool.Decides.{nat_tests}
use Rattle.std.proofs.lemmas.Option.{slice_get-get_or}
use Rattle.sem_query.specs.declared.plan.PartPlan.{PartPlan}
use Rattle.sem_query.specs.declared.plan.Numbers.{Numbers}
use Rattle.sem_query.specs.declared.plan.Plan.{Plan}
use Rattle.sem_query.specs.declared.plan.Plan.TheVariants as plan
use Rattle.sem_query.specs.Query.{QueryValue, IsWithinLimits}
use Rattle.sem_query.specs.Meaning.{Arrival, by_column}
use Rattle.sem_query.specs.Admission.{admits}
use Rattle.sem_laws.proofs.Tests.{and-right, not_both, true_or_false, nat_true}
use Rattle.exec_synopsis.proofs.PrepareLaws.{pushed-get, pushed-length}
use Rattle.exec_filter.specs.declared.prefilter.StreamFilter.{StreamFilter}
use Rattle.exec_filter.specs.declared.prefilter.Prefilter.{Prefilter}
use Rattle.exec_filter.specs.Prefilter.{lets_in, comes_in, IsPrefilter, Passes, AreStreamFilters}

-- two tests in either order
pub either_order : (a b : Bool) → (a && b) ≡ (b && a)
either_order true true = refl
either_order true false = refl
either_order false true = refl
either_order false false = refl

same_number : (n : ℕ) → (n == n) ≡ true
same_number n = grind (arith, nat_tests)

comes_first : (r : Arrival) (e : StreamFilter) (es : List StreamFilter) → e.stream ≡ r.stream → comes_in r (e ∷ es) ≡ lets_in e (by_column r.values)
comes_first r e es k =
    ap (λ b. cond b (lets_in e (by_column r.values)) (comes_in r es)) (ap (λ s. s == r.stream) k ∙ same_number r.stream)

-- the first of its number
comes_at : (r : Arrival) (es : List StreamFilter) (i : ℕ) (o : StreamFilter) → i < length es → (get_or es i o).stream ≡ r.stream
    → ((j : ℕ) → j < i → (get_or es j o).stream ≢ r.stream) → comes_in r es ≡ lets_in (get_or es i o) (by_column r.values)
comes_at r [] i o l at before = absurd (omega (arith, l))
comes_at r (e ∷ es) zero o l at before = comes_first r e es at
comes_at r (e ∷ es) (suc i) o l at before =
    let other : (e.stream == r.stream) ≡ false = elim (true_or_false (e.stream == r.stream)) [
      | inr f ↦ f
      | inl t ↦ absurd (before 0 (omega arith) (nat_true e.stream r.stream t))
    ] in
    ap (λ b. cond b (lets_in e (by_column r.values)) (comes_in r es)) other
    ∙ comes_at r es i o (omega (arith, l)) at (λ j k. before (suc j) (omega (arith, k)))

-- the streams of FROM with their ranges over all parts
pub parts_prefilter : (q : QueryValue) → IsWithinLimits q → (p : Plan) (parts : List PartPlan) (numbers : Numbers) (prefilter : Prefilter) → p ≡ plan.Parts parts numbers
    → AreStreamFilters q.from parts (prefilter.front ∷ prefilter.others.items) → IsPrefilter q p prefilter
parts_prefilter q limits p parts numbers prefilter is are =
    subst (λ x. IsPrefilter q x prefilter) (sym is) (λ r shut n d place l here at.
    let items : List StreamFilter = prefilter.front ∷ prefilter.others.items in
    let o : StreamFilter = prefilter.front in
    let e : StreamFilter = get_or items place o in
    let there : (i : ℕ) → i < length q.from → slice_get items i ≡ Some (get_or items i o) = λ i k. slice_get-get_or items i o (let s = are.size in omega (arith, k, s)) in
    let stream : (i : ℕ) → i < length q.from → (get_or items i o).stream ≡ get_or q.from i 0 = λ i k. are.streams i (get_or items i o) (there i k) in
    let first : (j : ℕ) → j < place → (get_or items j o).stream ≢ r.stream
    = λ j k same. limits.different j place 0 k here (sym (stream j (omega (arith, k, here))) ∙ same ∙ sym at) in
    let whole = comes_at r items place o (let s = are.size in omega (arith, here, s)) (stream place here ∙ at) first in
    elim (true_or_false (admits q (get_or parts n d) place (by_column r.values))) [
      | inr f ↦ f
      | inl t ↦ absurd (not_both (lets_in e (by_column r.values)) (are.ranges place e (there place here) n d l (by_column r.values) (and-right _ _ t)) (sym whole ∙ shut))
    ])

-- one stream more
pub stream_filters_more : (from : List ℕ) (parts : List PartPlan) (before items : List StreamFilter) (e : StreamFilter) (n : ℕ) → items ≡ before ++ e ∷ [] → length before ≡ n
    → ((place : ℕ) (e : StreamFilter) → slice_get before place ≡ Some e → e.stream ≡ get_or from place 0)
    → ((place : ℕ) (e : StreamFilter) → slice_get before place ≡ Some e → Passes parts place (lets_in e))
    → e.stream ≡ get_or from n 0 → Passes parts n (lets_in e)
    → (length items ≡ n + 1)
    × ((place : ℕ) (e : StreamFilter) → slice_get items place ≡ Some e → e.stream ≡ get_or from place 0)
    × ((place : ℕ) (e : StreamFilter) → slice_get items place ≡ Some e → Passes parts place (lets_in e))
stream_filters_more from parts before items e n is size streams ranges at own =
    let P : ℕ → StreamFilter → Type 0 = λ place x. x.stream ≡ get_or from place 0 in
    let R : ℕ → StreamFilter → Type 0 = λ place x. Passes parts place (lets_in x) in (
      pushed-length before e items n is size,
      subst (λ (xs : List StreamFilter). (place : ℕ) (x : StreamFilter) → slice_get xs place ≡ Some x → P place x) (sym is) (pushed-get P before e streams (subst (λ m. P m e) (sym size) at)),
      subst (λ (xs : List StreamFilter). (place : ℕ) (x : StreamFilter) → slice_get xs place ≡ Some x → R place x) (sym is) (pushed-get R before e ranges (subst (λ m. R m e) (sym size) own)),
    )
