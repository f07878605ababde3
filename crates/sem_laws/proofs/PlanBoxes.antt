-- The boxes of a plan are laid out by its bases; and so are its different boxes, where each begins at the first that is the same.
use Rattle.std.proofs.Common.{◌≡◌, ℕ, zero, suc, ◌+◌, ◌<◌, ◌≤◌, inl, inr, List, [], ◌∷◌, ◌++◌, map, filter, length, cond, Bool, true, false, not, refl, sym, ap, ◌∙◌, subst, arith, slice_index_or, Contains, append_assoc}
use Rattle.std.specs.List.{range_with_len}
use Rattle.sem_query.specs.declared.plan.Kind.{Kind}
use Rattle.sem_query.specs.declared.plan.StreamPlan.{StreamPlan}
use Rattle.sem_query.specs.declared.plan.PartPlan.{PartPlan}
use Rattle.sem_query.specs.Query.{QueryValue}
use Rattle.sem_query.specs.Plan.{stream_at, Follow, FollowIn}
use Rattle.sem_query.specs.Cells.{cell_of, upto, by_box, laid_out, synopsis}
use Rattle.sem_query.specs.Merge.{merged_cells, merge}
use Rattle.sem_query.specs.Numbers.{places, cell_count}
use Rattle.sem_query.specs.Sharing.{Box, box_at, size_in, boxes_in, same_box, different_boxes, boxes, spread, sizes_in, start_in, synopsis_in, merge_in}
use Rattle.sem_query.specs.Serving.{AreBased}
use Rattle.sem_query.proofs.Has.{Has, first, Has-from_contains, Contains-from_has, Has-append_left, Has-append_right, Has-map}
use Rattle.sem_laws.specs.Sharing.{Begins, AreBoxesOf, PlansHaveBoxes, SynopsesAreOfBoxes}
use Rattle.sem_laws.proofs.Tests.{filter-passes}
use Rattle.sem_laws.proofs.OnePartFits.{has_cases}
use Rattle.sem_laws.proofs.LaidOut.{no_stream}
use Rattle.sem_laws.proofs.Numbering.{laid-out-length, cover}
use Rattle.sem_laws.proofs.RowMerge.{get-has}
use Rattle.sem_laws.proofs.Extremes.{flat_map-from}
use Rattle.sem_laws.proofs.Walking.{has-range}
use Rattle.sem_laws.proofs.SameBoxes.{same-itself, stands-for, is-among, has-of_filter, sizes-cons, begins-at_start}
use Rattle.sem_laws.proofs.SharedCells.{sizes-append, spread-length, Lies, lies-in}

-- the streams of a part are those from a place of FROM on
abbrev AreFrom : PartPlan → ℕ → List StreamPlan → Type 0
AreFrom part start streams = (k : ℕ) → k < length streams → slice_index_or streams k no_stream ≡ stream_at part (start + k)

abbrev listed : PartPlan → ℕ → List StreamPlan → List Box
listed part start streams = map (box_at part) (range_with_len start (length streams))

from-next : (part : PartPlan) (start : ℕ) (s : StreamPlan) (streams : List StreamPlan) → AreFrom part start (s ∷ streams) → AreFrom part (start + 1) streams
from-next part start s streams f k l =
    f (suc k) (omega (arith, l)) ∙ ap (stream_at part) (let e : start + suc k ≡ start + 1 + k = omega arith in e)

from-first : (part : PartPlan) (start : ℕ) (s : StreamPlan) (streams : List StreamPlan) → AreFrom part start (s ∷ streams) → s ≡ stream_at part start
from-first part start s streams f = f 0 (omega arith) ∙ ap (stream_at part) (let e : start + 0 ≡ start = omega arith in e)

-- what is laid out by the boxes of a part
by-boxes : {X : Type 0} (f : PartPlan → ℕ → ℕ → X) (part : PartPlan) (start : ℕ) (streams : List StreamPlan) → AreFrom part start streams
    → by_box (f part) start streams ≡ spread f (listed part start streams)
by-boxes f part start [] a = refl
by-boxes f part start (s ∷ streams) a =
    let e : s.size ≡ (stream_at part start).size = ap (λ (t : StreamPlan). t.size) (from-first part start s streams a) in
    let n : suc start ≡ start + 1 = omega arith in
    (λ j. upto (f part start) (e j) ++ by_box (f part) (n j) streams)
    ∙ ap (λ xs. upto (f part start) (stream_at part start).size ++ xs) (by-boxes f part (start + 1) streams (from-next part start s streams a))

spread-append : {X : Type 0} (f : PartPlan → ℕ → ℕ → X) (xs ys : List Box) → spread f (xs ++ ys) ≡ spread f xs ++ spread f ys
spread-append f [] ys = refl
spread-append f (x ∷ xs) ys =
    ap (λ l. upto (f x.part x.place) (size_in x) ++ l) (spread-append f xs ys)
    ∙ sym (append_assoc (upto (f x.part x.place) (size_in x)) (spread f xs) (spread f ys))

whole-part : (part : PartPlan) → AreFrom part 0 part.streams.items
whole-part part k l = ap (stream_at part) (let e : k ≡ 0 + k = omega arith in e)

-- what is laid out by a plan is laid out by its boxes
pub laid-by-boxes : {X : Type 0} (f : PartPlan → ℕ → ℕ → X) (plan : List PartPlan) → laid_out f plan ≡ spread f (boxes_in plan)
laid-by-boxes f [] = refl
laid-by-boxes f (part ∷ plan) =
    (λ j. by-boxes f part 0 part.streams.items (whole-part part) j ++ laid-by-boxes f plan j)
    ∙ sym (spread-append f (listed part 0 part.streams.items) (boxes_in plan))

pub count-of-boxes : (plan : List PartPlan) → cell_count plan ≡ sizes_in (boxes_in plan)
count-of-boxes plan =
    sym (laid-out-length (λ part place (i : ℕ). (stream_at part place).kind) plan)
    ∙ ap (length {A = Kind}) (laid-by-boxes (λ part place i. (stream_at part place).kind) plan)
    ∙ spread-length (λ part place i. (stream_at part place).kind) (boxes_in plan)

pub synopses-are-of-boxes : SynopsesAreOfBoxes
unfolding synopsis synopsis_in merge merge_in
synopses-are-of-boxes q plan = record {
  cells = λ h. laid-by-boxes (cell_of q h) plan;
  merges = λ cs ds. ap (λ (ks : List Kind). merged_cells ks cs ds) (laid-by-boxes (λ part place i. (stream_at part place).kind) plan);
  count = count-of-boxes plan;
}

-- where a box stands in a list of boxes whose cells begin at a number
pub record Stands (list : List Box) (b : Box) (next at : ℕ) : Type 0 where
  pub before : List Box
  pub after : List Box
  pub whole : list ≡ before ++ b ∷ after
  pub there : at ≡ next + sizes_in before

stands-in : (part : PartPlan) (start next : ℕ) (streams : List StreamPlan) (rest : ℕ → Type 0) → FollowIn next streams rest → AreFrom part start streams
    → (k : ℕ) → k < length streams → Stands (listed part start streams) (box_at part (start + k)) next (slice_index_or streams k no_stream).base
stands-in part start next [] rest f a k l = absurd (omega (arith, l))
stands-in part start next (s ∷ streams) rest f a zero l = record {
  before = [];
  after = listed part (start + 1) streams;
  whole = (let e : start ≡ start + 0 = omega arith in ap (λ (n : ℕ). box_at part n ∷ listed part (start + 1) streams) e);
  there = (let b = f.0 in omega (arith, b));
}
stands-in part start next (s ∷ streams) rest f a (suc k) l =
    let r = stands-in part (start + 1) (next + s.size) streams rest f.1 (from-next part start s streams a) k (omega (arith, l)) in
    let e : start + 1 + k ≡ start + suc k = omega arith in
    let z : s.size ≡ size_in (box_at part start) = ap (λ (t : StreamPlan). t.size) (from-first part start s streams a) in
    record {
      before = box_at part start ∷ r.before;
      after = r.after;
      whole = ap (λ (xs : List Box). box_at part start ∷ xs) (r.whole ∙ ap (λ (n : ℕ). r.before ++ box_at part n ∷ r.after) e);
      there = (let t = r.there in let c = sizes-cons (box_at part start) r.before in omega (arith, t, c, z));
    }

rest-after : (part : PartPlan) (start next : ℕ) (streams : List StreamPlan) (rest : ℕ → Type 0) → FollowIn next streams rest → AreFrom part start streams
    → rest (next + sizes_in (listed part start streams))
rest-after part start next [] rest f a = subst rest (omega arith) f
rest-after part start next (s ∷ streams) rest f a =
    let z : s.size ≡ size_in (box_at part start) = ap (λ (t : StreamPlan). t.size) (from-first part start s streams a) in
    let c = sizes-cons (box_at part start) (listed part (start + 1) streams) in
    subst rest (omega (arith, z, c)) (rest-after part (start + 1) (next + s.size) streams rest f.1 (from-next part start s streams a))

pub stands-plan : (next : ℕ) (plan : List PartPlan) → Follow next plan → (part : PartPlan) → Has plan part → (place : ℕ) → place < length part.streams.items
    → Stands (boxes_in plan) (box_at part place) next (stream_at part place).base
stands-plan next [] f part h place l = elim h [ ]
stands-plan next (o ∷ plan) f part h place l = elim (has_cases o part plan h) [
  | inl e ↦ (
      let r = stands-in o 0 next o.streams.items (λ n. Follow n plan) f (whole-part o) place (let m : place < length o.streams.items = subst (λ (p : PartPlan). place < length p.streams.items) (sym e) l in m) in
      let z : 0 + place ≡ place = omega arith in
      subst (λ (p : PartPlan). Stands (boxes_in (o ∷ plan)) (box_at p place) next (stream_at p place).base) e record {
        before = r.before;
        after = r.after ++ boxes_in plan;
        whole = ap (λ (xs : List Box). xs ++ boxes_in plan) (r.whole ∙ ap (λ (n : ℕ). r.before ++ box_at o n ∷ r.after) z)
            ∙ append_assoc r.before (box_at o place ∷ r.after) (boxes_in plan);
        there = r.there;
      })
  | inr m ↦ (
      let n : ℕ = sizes_in (listed o 0 o.streams.items) in
      let r = stands-plan (next + n) plan (rest-after o 0 next o.streams.items (λ n. Follow n plan) f (whole-part o)) part m place l in
      record {
        before = listed o 0 o.streams.items ++ r.before;
        after = r.after;
        whole = ap (λ (xs : List Box). listed o 0 o.streams.items ++ xs) r.whole ∙ sym (append_assoc (listed o 0 o.streams.items) r.before (box_at part place ∷ r.after));
        there = (let t = r.there in let s = sizes-append (listed o 0 o.streams.items) r.before in omega (arith, t, s));
      })
]

alone-in : (part : PartPlan) (start n : ℕ) (b : Box) → Has (map (box_at part) (range_with_len start n)) b → (part ≡ b.part) × (b.place < start + n)
alone-in part start zero b h = elim h [ ]
alone-in part start (suc n) b h = elim (has_cases (box_at part start) b (map (box_at part) (range_with_len (start + 1) n)) h) [
  | inl e ↦ (ap (λ (c : Box). c.part) e, (let p : start ≡ b.place = ap (λ (c : Box). c.place) e in omega (arith, p)))
  | inr m ↦ (let r = alone-in part (start + 1) n b m in (r.0, (let l = r.1 in omega (arith, l))))
]

alone-plan : (plan : List PartPlan) (b : Box) → Has (boxes_in plan) b → (part : PartPlan) × Has plan part × (part ≡ b.part) × (b.place < length part.streams.items)
alone-plan plan b h =
    let r = flat_map-from (λ part. map (box_at part) (places part)) plan b h in
    let a = alone-in r.0 0 (length r.0.streams.items) b r.2 in
    (r.0, r.1, a.0, (let l = a.1 in omega (arith, l)))

pub alone-of : (plan : List PartPlan) (b : Box) → Has (boxes_in plan) b → Contains plan b.part × (b.place < length b.part.streams.items)
alone-of plan b h =
    let r = alone-plan plan b h in
    subst (λ (p : PartPlan). Contains plan p × (b.place < length p.streams.items)) r.2 (Contains-from_has plan r.0 r.1, r.3)

has-listed : (part : PartPlan) (start n place : ℕ) → start ≤ place → place < start + n → Has (map (box_at part) (range_with_len start n)) (box_at part place)
has-listed part start n place l m = Has-map (box_at part) (has-range start n place l m)

pub has-box : (plan : List PartPlan) (part : PartPlan) → Has plan part → (place : ℕ) → place < length part.streams.items → Has (boxes_in plan) (box_at part place)
has-box [] part h place l = elim h [ ]
has-box (o ∷ plan) part h place l = elim (has_cases o part plan h) [
  | inl e ↦ subst (λ (p : PartPlan). Has (boxes_in (o ∷ plan)) (box_at p place)) e
      (Has-append_left (boxes_in plan) (has-listed o 0 (length o.streams.items) place (omega arith) (let m : place < length o.streams.items = subst (λ (p : PartPlan). place < length p.streams.items) (sym e) l in omega (arith, m))))
  | inr m ↦ Has-append_right (listed o 0 o.streams.items) (has-box plan part m place l)
]

plain-boxes : (q : QueryValue) (plan : List PartPlan) → Follow 0 plan → AreBoxesOf q plan (boxes_in plan)
plain-boxes q plan bases = record {
  each =
      λ part known place l.
      let r = stands-plan 0 plan bases part (Has-from_contains plan part known) place l in
      record {
        before = r.before;
        same = box_at part place;
        after = r.after;
        whole = r.whole;
        is = same-itself q (box_at part place);
        there = (let t = r.there in omega (arith, t));
      };
  alone = λ b c. alone-of plan b (Has-from_contains (boxes_in plan) b c);
  covers =
      λ n l.
      let c = cover 0 plan bases n (let s = count-of-boxes plan in omega (arith, s, l)) in
      record {
        part = c.part;
        place = c.place;
        i = c.i;
        known = Contains-from_has plan c.part (get-has plan c.number c.part c.box.at);
        there = c.box.there;
        inside = c.box.inside;
        at = (let t = c.at in omega (arith, t));
      };
}

-- no two of these boxes are the same
abbrev pub Apart : QueryValue → List Box → Type 0
Apart q [] = Unit {0}
Apart q (x ∷ xs) = ((b : Box) → Has xs b → same_box q x b ≡ false) × Apart q xs

apart-filter : (q : QueryValue) (p : Box → Bool) (xs : List Box) → Apart q xs → Apart q (filter p xs)
apart-filter q p [] a = tt
apart-filter q p (x ∷ xs) a = by (p x) (apart-filter q p xs a.1)
  where
    by : (t : Bool) → Apart q (filter p xs) → Apart q (cond t (x ∷ filter p xs) (filter p xs))
    by true r = (λ b h. a.0 b (has-of_filter p xs b h), r)
    by false r = r

pub apart-different : (q : QueryValue) (xs : List Box) → Apart q (different_boxes q xs)
apart-different q [] = tt
apart-different q (x ∷ xs) = (
  λ b h. turned (same_box q x b) (filter-passes (λ c. not (same_box q x c)) (different_boxes q xs) b h),
  apart-filter q (λ c. not (same_box q x c)) (different_boxes q xs) (apart-different q xs),
)
  where
    turned : (t : Bool) → not t ≡ true → t ≡ false
    turned true e = absurd cc
    turned false e = refl

-- a box that stands in such a list begins at its own place
pub start-own : (q : QueryValue) (before : List Box) (b : Box) (after : List Box) → Apart q (before ++ b ∷ after) → start_in q (before ++ b ∷ after) b ≡ sizes_in before
start-own q [] b after a = ap (λ (t : Bool). cond t 0 (size_in b + start_in q after b)) (same-itself q b)
start-own q (x ∷ before) b after a =
    let f : same_box q x b ≡ false = a.0 b (Has-append_right before first) in
    ap (λ (t : Bool). cond t 0 (size_in x + start_in q (before ++ b ∷ after) b)) f
    ∙ ap (λ (n : ℕ). size_in x + n) (start-own q before b after a.1) ∙ sym (sizes-cons x before)

shared-boxes : (q : QueryValue) (plan : List PartPlan) → AreBased true q plan → AreBoxesOf q plan (boxes q plan)
shared-boxes q plan bases = record {
  each =
      λ part known place l.
      let s = stands-for q (boxes_in plan) (box_at part place) (has-box plan part (Has-from_contains plan part known) place l) in
      subst (Begins q (boxes q plan) (box_at part place)) (sym (bases part known place l)) (begins-at_start q (boxes q plan) (box_at part place) s.0 s.1 s.2);
  alone = λ b c. alone-of plan b (is-among q (boxes_in plan) b (Has-from_contains (boxes q plan) b c));
  covers =
      λ n l.
      let c : Lies (boxes q plan) n = lies-in (boxes q plan) n l in
      let h : Has (boxes q plan) c.box = subst (λ (xs : List Box). Has xs c.box) (sym c.whole) (Has-append_right c.before first) in
      let a = alone-of plan c.box (is-among q (boxes_in plan) c.box h) in
      let o : start_in q (boxes q plan) c.box ≡ sizes_in c.before
      = ap (λ (xs : List Box). start_in q xs c.box) c.whole ∙ start-own q c.before c.box c.after (subst (Apart q) c.whole (apart-different q (boxes_in plan))) in
      record {
        part = c.box.part;
        place = c.box.place;
        i = c.i;
        known = a.0;
        there = a.1;
        inside = c.inside;
        at = (let b = bases c.box.part a.0 c.box.place a.1 in let t = c.there in omega (arith, b, o, t));
      };
}

pub plans-have-boxes : PlansHaveBoxes
plans-have-boxes false q plan bases = plain-boxes q plan bases
plans-have-boxes true q plan bases = shared-boxes q plan bases
