-- A query of which no split part breaks anything has a plan of its parts whose boxes follow each other, so an evaluator of few states.
use Rattle.std.proofs.Common.{◌≡◌, ℕ, zero, suc, ◌+◌, ◌<◌, ◌≤◌, ◌^◌, inl, inr, List, [], ◌∷◌, length, slice_index_or, nat_eq, if◌then◌else◌, Option, Some, None, refl, sym, ap, ◌∙◌, subst, arith}
use Rattle.std.specs.List.{AllZip}
use Rattle.sem_query.specs.declared.atom.Attr.{Attr}
use Rattle.sem_query.specs.declared.first_break.Break.{Break}
use Rattle.sem_query.specs.declared.part.Sign.{Sign}
use Rattle.sem_query.specs.declared.plan.Dim.{Dim}
use Rattle.sem_query.specs.declared.plan.PartPlan.{PartPlan}
use Rattle.sem_query.specs.declared.plan.StreamPlan.{StreamPlan}
use Rattle.sem_query.specs.Meaning.{Arrival}
use Rattle.sem_query.specs.Members.{Has}
use Rattle.sem_query.specs.Plan.{stream_at, dims_at, FollowIn, Follow}
use Rattle.sem_query.specs.Query.{QueryValue, IsWithinLimits, is_filter}
use Rattle.sem_laws.specs.Sufficiency.{IsPlannedAnywhere, nothing, anywhere}
use Rattle.sem_laws.proofs.LaidOut.{no_stream}
use Rattle.sem_laws.proofs.Tests.{true_or_false}
use Rattle.sem_whole.specs.Whole.{StreamKeep}
use Rattle.sem_forms.specs.Part.{AreOwnDims, AreEqualDims, IsOwnStream, IsWholePartPlan}
use Rattle.sem_query.specs.Boxes.{box_size}
use Rattle.sem_forms.specs.Split.{part_query}
use Rattle.sem_forms.specs.SplitBreaks.{IsPartBreak, broken, unbounded, none, BreaksAt}
use Rattle.sem_forms.proofs.SplitServes.{IsPlanOf, split_plans_serve}
use Rattle.sem_lower_bounds.specs.Served.{HasFewForOn, HasFewStatesOn}
use Rattle.sem_lower_bounds.specs.States.{Evaluator}
use Rattle.sem_lower_bounds.specs.Within.{IsRightOn, NeedsStatesOn, NeedsStatesWithin}
use Rattle.sem_lower_bounds.proofs.FewStates.{serving-has-few-states}
use Rattle.sem_split_bounds.specs.Accepted.{UnbrokenPartsHaveFewStates, UnbrokenPartsNeedFewStates}

-- ---- a part whose boxes begin at a number

-- the streams, their boxes one after another from a number on, and the number behind them
streams_from : ℕ → List StreamPlan → List StreamPlan
streams_from next [] = []
streams_from next (s ∷ streams) = record s { base = next } ∷ streams_from (next + s.size) streams

end_of : ℕ → List StreamPlan → ℕ
end_of next [] = next
end_of next (s ∷ streams) = end_of (next + s.size) streams

part_from : ℕ → PartPlan → PartPlan
part_from next p = record p { streams = record { items = streams_from next p.streams.items } }

follow_in : (next : ℕ) (streams : List StreamPlan) (rest : ℕ → Type 0) → rest (end_of next streams) → FollowIn next (streams_from next streams) rest
unfolding streams_from end_of
follow_in next [] rest h = h
follow_in next (s ∷ streams) rest h = (refl, follow_in (next + s.size) streams rest h)

as_many : (next : ℕ) (streams : List StreamPlan) → length (streams_from next streams) ≡ length streams
unfolding streams_from
as_many next [] = refl
as_many next (s ∷ streams) = ap suc (as_many (next + s.size) streams)

-- at each place they are the same but for where the box begins
record IsMoved (s t : StreamPlan) : Type 0 where
  dims : t.dims.items ≡ s.dims.items
  kind : t.kind ≡ s.kind
  size : t.size ≡ s.size

moved_at : (next : ℕ) (streams : List StreamPlan) (place : ℕ) → IsMoved (slice_index_or streams place no_stream) (slice_index_or (streams_from next streams) place no_stream)
unfolding streams_from
moved_at next [] place = record { dims = refl; kind = refl; size = refl }
moved_at next (s ∷ streams) zero = record { dims = refl; kind = refl; size = refl }
moved_at next (s ∷ streams) (suc place) = moved_at (next + s.size) streams place

moved_part : (next : ℕ) (p : PartPlan) (place : ℕ) → IsMoved (stream_at p place) (stream_at (part_from next p) place)
unfolding part_from
moved_part next p place = moved_at next p.streams.items place

own_moved : (r : QueryValue) (keep : StreamKeep) (s t : StreamPlan) → IsMoved s t → IsOwnStream r keep s → IsOwnStream r keep t
own_moved r keep s t m o = record {
  dims = subst (AreOwnDims r keep.dims) (sym m.dims) o.dims;
  kind = m.kind ∙ o.kind;
  size = m.size ∙ subst (λ (dims : List Dim). s.size ≡ (if nat_eq (length r.from) 1 then 0 else box_size dims)) (sym m.dims) o.size;
}

equal_moved : (r : QueryValue) (ds es : ℕ → List Dim) → ((place : ℕ) → es place ≡ ds place) → (a b : Attr) → AreEqualDims r ds a b → AreEqualDims r es a b
equal_moved r ds es same a b e = record {
  before = e.before;
  left = (e.left.0, subst (λ (dims : List Dim). Has dims e.left.0) (sym (same a.stream)) e.left.1, e.left.2);
  right = (e.right.0, subst (λ (dims : List Dim). Has dims e.right.0) (sym (same b.stream)) e.right.1, e.right.2);
  below = e.below;
  above = e.above;
}

plan_moved : (r : QueryValue) (next : ℕ) (p : PartPlan) → IsWholePartPlan r p → IsWholePartPlan r (part_from next p)
unfolding part_from
plan_moved r next p is = record {
  links = is.links;
  keeps = is.keeps;
  plan = is.plan;
  signs = is.signs;
  local = is.local;
  local_ascends = is.local_ascends;
  count = as_many next p.streams.items ∙ is.count;
  streams = λ place l. own_moved r (is.keeps place) (stream_at p place) (stream_at (part_from next p) place) (moved_part next p place) (is.streams place l);
  equal = λ a b. (
    λ h. equal_moved r (dims_at p) (dims_at (part_from next p)) (λ place. (moved_part next p place).dims) a b ((is.equal a b).0 h),
    λ e. (is.equal a b).1 (equal_moved r (dims_at (part_from next p)) (dims_at p) (λ place. sym (moved_part next p place).dims) a b e),
  );
  equal_ascends = is.equal_ascends;
  less = is.less;
  soft = is.soft;
}

-- ---- the plans of all parts

-- a part that breaks nothing has a plan
part_plan : (r : QueryValue) (b : Option Break) → b ≡ None → IsPartBreak r b → (p : PartPlan) × IsWholePartPlan r p
part_plan r b e (broken links x d i) = absurd cc
part_plan r b e (unbounded f x i a o) = absurd cc
part_plan r b e (none p is i) = (p, is)

record PlansFrom (q : QueryValue) (parts : List (List Sign)) (next : ℕ) : Type 0 where
  plan : List PartPlan
  plans : AllZip (IsPlanOf q) parts plan
  follow : Follow next plan

plans_from : (q : QueryValue) (parts : List (List Sign)) → ((n : ℕ) → n < length parts → BreaksAt q parts n None) → (next : ℕ) → PlansFrom q parts next
unfolding part_from
plans_from q [] fine next = record { plan = []; plans = tt; follow = tt }
plans_from q (ss ∷ parts) fine next =
    let at : BreaksAt q (ss ∷ parts) 0 None = fine 0 (omega arith) in
    let e : at.signs ≡ ss = some_signs at.signs ss (sym at.at) in
    let p = part_plan (part_query q at.signs) None refl at.breaks in
    let rest = plans_from q parts (λ n l. let o = fine (suc n) (omega (arith, l)) in record { signs = o.signs; at = o.at; breaks = o.breaks }) (end_of next p.0.streams.items) in
    record {
      plan = part_from next p.0 ∷ rest.plan;
      plans = (plan_moved (part_query q ss) next p.0 (subst (λ s. IsWholePartPlan (part_query q s) p.0) e p.1), rest.plans);
      follow = follow_in next p.0.streams.items (λ n. Follow n rest.plan) rest.follow;
    }
  where
    some_signs : (s t : List Sign) → Some s ≡ Some t → s ≡ t
    some_signs s t e = cc

-- ---- the two laws

pub unbroken-parts-have-few-states : UnbrokenPartsHaveFewStates
unbroken-parts-have-few-states q within is = elim (true_or_false (is_filter q)) [
  | inl f ↦ serving-has-few-states q [] within (nothing f refl) tt
  | inr f ↦ (
      let o : PlansFrom q is.parts 0 = plans_from q is.parts is.first 0 in
      serving-has-few-states q o.plan within (anywhere f (split_plans_serve q o.plan within record { parts = is.parts; are = is.are; plans = o.plans })) o.follow)
]

-- an evaluator of few states refutes that many are needed
few_refute : (kind : Arrival → Type 0) (q : QueryValue) (e : Evaluator) → IsRightOn kind q e → HasFewStatesOn kind e → ¬ NeedsStatesOn kind q
few_refute kind q e right few needs = needs (λ b all. (
    let o : HasFewForOn kind e b = few b in
    let m : 2 ^ o.n ≤ o.most = all e right o.n o.most o.states in
    omega (arith, m, o.few)))

-- so does a plan that serves
pub serving_refutes : (q : QueryValue) (plan : List PartPlan) → IsWithinLimits q → IsPlannedAnywhere q plan → Follow 0 plan → ¬ NeedsStatesWithin q
serving_refutes q plan within is follow =
    let o = serving-has-few-states q plan within is follow in
    few_refute _ q o.0 o.1 o.2

pub unbroken-parts-need-few-states : UnbrokenPartsNeedFewStates
unbroken-parts-need-few-states q within is =
    let o = unbroken-parts-have-few-states q within is in
    few_refute _ q o.0 o.1 o.2
