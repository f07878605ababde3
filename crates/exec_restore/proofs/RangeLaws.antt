-- The ranges of the selected columns, step by step.
use Rattle.std.proofs.Common.{◌≡◌, ℕ, zero, suc, ◌+◌, ◌<◌, cond, Bool, true, false, List, [], ◌∷◌, length, refl, sym, ap, ◌∙◌, arith, slice_get, get_or, Some, None}
use Rattle.std.specs.List.{position_from}
use Rattle.std.specs.Option.{unwrap_or}
use Rattle.std.proofs.lemmas.Iterator.Adapters.{position_from-zero}
use Rattle.std.proofs.lemmas.Option.{slice_get-get_or}
use Rattle.std.proofs.lemmas.List.Quantifiers.{position-Some}
use Rattle.sem_query.specs.declared.atom.Attr.{Attr}
use Rattle.sem_query.specs.declared.plan.Dim.{Dim}
use Rattle.sem_query.specs.declared.plan.PartPlan.{PartPlan}
use Rattle.sem_query.specs.Query.{QueryValue}
use Rattle.sem_query.specs.Parts.{pairs}
use Rattle.sem_query.specs.Plan.{dims_at}
use Rattle.sem_query.specs.Combinations.{is_tied}
use Rattle.sem_query.specs.Ranges.{first_tied, range_of}
use Rattle.exec_synopsis.specs.Classes.{are_tied}
use Rattle.exec_synopsis.specs.Preparing.{class_of}

-- the first dim that is tied to a column
first-is : (q : QueryValue) (part : PartPlan) (dims : List Dim) (a : Attr) (k : ℕ) (d : Dim) → k < length dims → are_tied (pairs q) part (get_or dims k d).attr a ≡ true
    → ((j : ℕ) → j < k → are_tied (pairs q) part (get_or dims j d).attr a ≡ false) → get_or dims k d ≡ first_tied (is_tied q part) dims a
first-is q part [] a k d l t none = absurd (omega (arith, l))
first-is q part (o ∷ dims) a zero d l t none = sym (ap (λ b. cond b o (first_tied (is_tied q part) dims a)) t)
first-is q part (o ∷ dims) a (suc k) d l t none =
    let no : are_tied (pairs q) part o.attr a ≡ false = none 0 (omega arith) in
    first-is q part dims a k d (omega (arith, l)) t (λ j m. none (suc j) (omega (arith, m)))
    ∙ sym (ap (λ b. cond b o (first_tied (is_tied q part) dims a)) no)

-- the dim at the place of the class of a column tells its range
pub range-some : (q : QueryValue) (part : PartPlan) (a : Attr) (k : ℕ) (none : Dim) → class_of (pairs q) part a ≡ Some k
    → unwrap_or (slice_get (dims_at part a.stream) k) none ≡ range_of q part a
range-some q part a k none e =
    let p = position-Some (λ (o : Dim). are_tied (pairs q) part o.attr a) (dims_at part a.stream) k none e in
    ap (λ o. unwrap_or o none) (slice_get-get_or (dims_at part a.stream) k none p.0)
    ∙ first-is q part (dims_at part a.stream) a k none p.0 p.1 p.2

-- where no dim is tied to a column, 0 alone is told of it
first-none : (q : QueryValue) (part : PartPlan) (dims : List Dim) (a : Attr) (i : ℕ) → position_from (λ (o : Dim). are_tied (pairs q) part o.attr a) i dims ≡ None
    → first_tied (is_tied q part) [] a ≡ first_tied (is_tied q part) dims a
first-none q part [] a i e = refl
first-none q part (d ∷ dims) a i e = by (are_tied (pairs q) part d.attr a) e (first-none q part dims a (i + 1))
  where
    by : (b : Bool) → cond b (Some i) (position_from (λ (o : Dim). are_tied (pairs q) part o.attr a) (i + 1) dims) ≡ None
        → (position_from (λ (o : Dim). are_tied (pairs q) part o.attr a) (i + 1) dims ≡ None → first_tied (is_tied q part) [] a ≡ first_tied (is_tied q part) dims a)
        → first_tied (is_tied q part) [] a ≡ cond b d (first_tied (is_tied q part) dims a)
    by true f g = absurd cc
    by false f g = g f

pub range-none : (q : QueryValue) (part : PartPlan) (a : Attr) → class_of (pairs q) part a ≡ None → first_tied (is_tied q part) [] a ≡ range_of q part a
range-none q part a e =
    first-none q part (dims_at part a.stream) a 0
    (sym (position_from-zero (λ (o : Dim). are_tied (pairs q) part o.attr a) (dims_at part a.stream)) ∙ e)
