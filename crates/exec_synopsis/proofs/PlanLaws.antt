-- What the walk needs of the plan, at every place.
use Rattle.std.proofs.Common.{◌≡◌, ◌≢◌, ℕ, ◌<◌, ◌≤◌, inl, inr, Bool, true, false, List, [], length, refl, sym, ap, ◌∙◌, subst, arith, All, AllPairs, if◌then◌else◌, nat_eq}
use Rattle.std.proofs.lemmas.Bool.{cases_lt}
use Rattle.std.proofs.lemmas.Bool.Decides.{nat_tests}
use Rattle.std.proofs.lemmas.List.{get_or_past}
use Rattle.sem_query.specs.declared.part.Pair.{Pair}
use Rattle.sem_query.specs.declared.plan.Dim.{Dim}
use Rattle.sem_query.specs.declared.plan.PartPlan.{PartPlan}
use Rattle.sem_query.specs.Query.{QueryValue}
use Rattle.sem_query.specs.Boxes.{box_size, AreFull}
use Rattle.sem_query.specs.Parts.{pairs}
use Rattle.sem_query.specs.Plan.{stream_at, dims_at}
use Rattle.exec_synopsis.specs.Classes.{are_tied}
use Rattle.exec_synopsis.specs.Premises.{IsWalked, IsLaidOut}

-- no dim is empty, each is of its stream, and none is in the class of an earlier one
pub record AreNamedDims (ps : List Pair) (part : PartPlan) (place : ℕ) (dims : List Dim) : Type 0 where
  pub full : AreFull dims
  pub streams : All (λ (d : Dim). d.attr.stream ≡ place) dims
  pub names : AllPairs (λ (d e : Dim). are_tied ps part d.attr e.attr ≡ false) dims

abbrev pub IsNamed : List Pair → PartPlan → Type 0
IsNamed ps part = (place : ℕ) → AreNamedDims ps part place (dims_at part place)

pub named : (q : QueryValue) (part : PartPlan) → IsWalked q part → IsNamed (pairs q) part
named q part w place = elim (cases_lt place (length part.streams.items)) [
  | inl l ↦
      let p = w.places place (omega (arith, l, w.plan.count)) in
      record { full = p.full; streams = p.streams; names = p.names }
  | inr m ↦ subst (λ dims. AreNamedDims (pairs q) part place dims) (sym (past m)) (record {
    full = tt;
    streams = λ k d l. absurd (omega (arith, l));
    names = λ i j o a b. absurd (omega (arith, b));
  })
]
  where
    past : length part.streams.items ≤ place → dims_at part place ≡ []
    past m = ap (λ s. s.dims.items) (get_or_past part.streams.items place _ m)

-- where there are two streams, the box of each is there
pub laid-out : (q : QueryValue) (part : PartPlan) (w : IsWalked q part) (cells : ℕ) → w.cells ≤ cells → 1 < length q.from → (place : ℕ) → place < length part.streams.items → IsLaidOut (stream_at part place) cells
laid-out q part w cells within several place l =
    let h : place < length q.from = omega (arith, l, w.plan.count) in
    let p = w.places place h in
    let s = w.plan.size place h in
    record {
      full = p.full;
      size = s ∙ by (nat_eq (length q.from) 1) refl;
      room = omega (arith, p.room, within);
      few = omega (arith, p.room, w.few);
    }
  where
    by : (t : Bool) → nat_eq (length q.from) 1 ≡ t → (if t then 0 else box_size (dims_at part place)) ≡ box_size (dims_at part place)
    by true e = absurd (grind (arith, nat_tests))
    by false e = refl

-- at another place than the arriving row's there is such a box
pub laid-beside : (q : QueryValue) (part : PartPlan) (w : IsWalked q part) (cells : ℕ) → w.cells ≤ cells → (arriving place : ℕ) → arriving < length part.streams.items → place < length part.streams.items → place ≢ arriving → IsLaidOut (stream_at part place) cells
laid-beside q part w cells within arriving place a l n =
    laid-out q part w cells within (let c = w.plan.count in let m : 1 < length part.streams.items = grind arith in omega (arith, m, c)) place l

-- at each place where there are two streams, in terms of the places of FROM
pub laid-from : (q : QueryValue) (part : PartPlan) (w : IsWalked q part) (cells : ℕ) → w.cells ≤ cells → 1 < length q.from → (place : ℕ) → place < length q.from → IsLaidOut (stream_at part place) cells
laid-from q part w cells within several place l = laid-out q part w cells within several place (omega (arith, l, w.plan.count))
