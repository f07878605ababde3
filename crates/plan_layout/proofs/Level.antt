-- What a box is does not depend on where it begins: a plan of which each box is set where it begins among the different ones is the plan
-- with shared cells.
use Rattle.std.proofs.Common.{◌≡◌, ℕ, zero, suc, ◌+◌, ◌<◌, Bool, true, false, not, ◌&&◌, nat_eq, cond, List, [], ◌∷◌, ◌++◌, map, filter, length, slice_index_or, refl, sym, ap, ap₂, ◌∙◌, subst, arith}
use Rattle.std.specs.List.{sum_by, range_with_len}
use Rattle.std.proofs.lemmas.List.{map-append, length-map, get_or-map}
use Rattle.std.proofs.lemmas.List.Sums.{sum_by-cons}
use Rattle.sem_query.specs.declared.plan.Kind.{Kind}
use Rattle.sem_query.specs.declared.plan.StreamPlan.{StreamPlan}
use Rattle.sem_query.specs.declared.plan.PartPlan.{PartPlan}
use Rattle.sem_query.specs.Query.{QueryValue}
use Rattle.sem_query.specs.Parts.{AreParts, pairs}
use Rattle.sem_query.specs.Plan.{stream_at, IsStreamPlan, IsPartPlan, IsPlan}
use Rattle.sem_query.specs.Numbers.{places, answer_bound, work}
use Rattle.sem_query.specs.Sharing.{Box, box_at, size_in, boxes_in, same_signs, same_locals, locals_at, same_dims, same_kind, same_box, different_boxes, boxes, sizes_in, start_in, shared_cells, IsSharedPlan}
use Rattle.sem_query.proofs.Has.{Has, first, later, Has-from_contains}
use Rattle.plan_layout.specs.Boxed.{size_for, boxed_streams, boxed_part, cells_for, boxed}
use Rattle.plan_layout.specs.Drafts.{signs_of}
use Rattle.plan_layout.specs.Shared.{started_streams, started_part, shared}
use Rattle.plan_layout.proofs.Setting.{answers-same, work-same}

-- a stream, a part and a box as if all began at 0
abbrev level_stream : StreamPlan → StreamPlan
level_stream s = record s { base = 0 }

abbrev level : PartPlan → PartPlan
level part = record part { streams = record { items = map level_stream part.streams.items } }

abbrev level_box : Box → Box
level_box b = box_at (level b.part) b.place

level-at : (streams : List StreamPlan) (k : ℕ)
    → slice_index_or (map level_stream streams) k record { dims = record { items = [] }; kind = Kind.Present; base = 0; size = 0 }
    ≡ level_stream (slice_index_or streams k record { dims = record { items = [] }; kind = Kind.Present; base = 0; size = 0 })
level-at [] k = refl
level-at (s ∷ streams) zero = refl
level-at (s ∷ streams) (suc k) = level-at streams k

stream-level : (b : Box) → stream_at (level_box b).part b.place ≡ level_stream (stream_at b.part b.place)
stream-level b = level-at b.part.streams.items b.place

size-level : (b : Box) → size_in (level_box b) ≡ size_in b
size-level b = ap (λ (s : StreamPlan). s.size) (stream-level b)

same-level : (q : QueryValue) (b c : Box) → same_box q (level_box b) (level_box c) ≡ same_box q b c
same-level q b c = λ i.
    nat_eq b.place c.place
    && ((same_signs b.place (pairs q) b.part.signs.items c.part.signs.items && same_locals (locals_at b.part b.place) (locals_at c.part c.place))
    && (same_dims (stream-level b i).dims.items (stream-level c i).dims.items && same_kind (stream-level b i).kind (stream-level c i).kind))

filter-level : (q : QueryValue) (b : Box) (xs : List Box) → filter (λ c. not (same_box q (level_box b) c)) (map level_box xs) ≡ map level_box (filter (λ c. not (same_box q b c)) xs)
filter-level q b [] = refl
filter-level q b (x ∷ xs) =
    (λ i. cond (not (same-level q b x i)) (level_box x ∷ filter-level q b xs i) (filter-level q b xs i))
    ∙ by (not (same_box q b x))
  where
    by : (t : Bool) → cond t (level_box x ∷ map level_box (filter (λ c. not (same_box q b c)) xs)) (map level_box (filter (λ c. not (same_box q b c)) xs))
        ≡ map level_box (cond t (x ∷ filter (λ c. not (same_box q b c)) xs) (filter (λ c. not (same_box q b c)) xs))
    by true = refl
    by false = refl

different-level : (q : QueryValue) (xs : List Box) → different_boxes q (map level_box xs) ≡ map level_box (different_boxes q xs)
different-level q [] = refl
different-level q (x ∷ xs) =
    ap (λ l. level_box x ∷ l) (ap (filter (λ c. not (same_box q (level_box x) c))) (different-level q xs) ∙ filter-level q x (different_boxes q xs))

start-level : (q : QueryValue) (xs : List Box) (b : Box) → start_in q (map level_box xs) (level_box b) ≡ start_in q xs b
start-level q [] b = refl
start-level q (x ∷ xs) b = λ i. cond (same-level q x b i) 0 (size-level x i + start-level q xs b i)

sizes-level : (xs : List Box) → sizes_in (map level_box xs) ≡ sizes_in xs
sizes-level [] = refl
sizes-level (x ∷ xs) = sum_by-cons size_in (level_box x) (map level_box xs) ∙ ap₂ (λ m n. m + n) (size-level x) (sizes-level xs) ∙ sym (sum_by-cons size_in x xs)

listed-level : (part : PartPlan) (ns : List ℕ) → map (box_at (level part)) ns ≡ map level_box (map (box_at part) ns)
listed-level part [] = refl
listed-level part (n ∷ ns) = ap (λ l. box_at (level part) n ∷ l) (listed-level part ns)

boxes-level : (plan : List PartPlan) → boxes_in (map level plan) ≡ map level_box (boxes_in plan)
boxes-level [] = refl
boxes-level (part ∷ plan) =
    ap₂ (λ (ns : List ℕ) (bs : List Box). map (box_at (level part)) ns ++ bs) (ap (λ n. range_with_len 0 n) (length-map part.streams.items level_stream)) (boxes-level plan)
    ∙ ap (λ bs. bs ++ map level_box (boxes_in plan)) (listed-level part (places part))
    ∙ sym (map-append level_box (map (box_at part) (places part)) (boxes_in plan))

-- the different boxes of a plan, as if all began at 0
all-level : (q : QueryValue) (plan : List PartPlan) → boxes q (map level plan) ≡ map level_box (boxes q plan)
all-level q plan = ap (different_boxes q) (boxes-level plan) ∙ different-level q (boxes_in plan)

-- ---- boxes that are set where they begin in a list

module _ (q : QueryValue) (list : List Box) where
  streams-level : (part : PartPlan) (place : ℕ) (streams : List StreamPlan) → map level_stream (started_streams q list part place streams) ≡ map level_stream streams
  streams-level part place [] = refl
  streams-level part place (s ∷ streams) = ap (λ l. level_stream s ∷ l) (streams-level part (place + 1) streams)

  part-level : (part : PartPlan) → level (started_part q list part) ≡ level part
  part-level part = ap (λ (ss : List StreamPlan). record part { streams = record { items = ss } }) (streams-level part 0 part.streams.items)

  plan-level : (plan : List PartPlan) → map level (map (started_part q list) plan) ≡ map level plan
  plan-level [] = refl
  plan-level (part ∷ plan) = ap₂ (λ (p : PartPlan) (ps : List PartPlan). p ∷ ps) (part-level part) (plan-level plan)

  started-at : (part : PartPlan) (place : ℕ) (streams : List StreamPlan) (k : ℕ) (d : StreamPlan) → k < length streams
      → slice_index_or (started_streams q list part place streams) k d ≡ record (slice_index_or streams k d) { base = start_in q list (box_at part (place + k)) }
  started-at part place [] k d l = absurd (omega (arith, l))
  started-at part place (s ∷ streams) zero d l =
      let at : place ≡ place + 0 = omega arith in
      ap (λ (n : ℕ). record s { base = start_in q list (box_at part n) }) at
  started-at part place (s ∷ streams) (suc k) d l =
      let at : (place + 1) + k ≡ place + suc k = omega arith in
      started-at part (place + 1) streams k d (omega (arith, l)) ∙ ap (λ (n : ℕ). record (slice_index_or streams k d) { base = start_in q list (box_at part n) }) at

  pub length-started : (part : PartPlan) (place : ℕ) (streams : List StreamPlan) → length (started_streams q list part place streams) ≡ length streams
  length-started part place [] = refl
  length-started part place (s ∷ streams) = ap suc (length-started part (place + 1) streams)

  pub stream-started : (part : PartPlan) (k : ℕ) → k < length part.streams.items → stream_at (started_part q list part) k ≡ record (stream_at part k) { base = start_in q list (box_at part k) }
  stream-started part k l =
      let at : 0 + k ≡ k = omega arith in
      started-at part 0 part.streams.items k _ l ∙ ap (λ (n : ℕ). record (stream_at part k) { base = start_in q list (box_at part n) }) at

  is_started : (part : PartPlan) → IsPartPlan q part → IsPartPlan q (started_part q list part)
  is_started part h = record {
    equal = h.equal;
    equal_ascends = h.equal_ascends;
    less = h.less;
    less_ascends = h.less_ascends;
    local = h.local;
    soft = h.soft;
    count = length-started part 0 part.streams.items ∙ h.count;
    streams =
        λ k l.
        let s = h.streams k l in
        subst (IsStreamPlan q part.signs.items k) (sym (stream-started part k (omega (arith, l, h.count)))) record { dims = s.dims; kind = s.kind; size = s.size };
  }

  -- setting the boxes one after the other does not see where they began
  streams-boxed : (part : PartPlan) (place next : ℕ) (streams : List StreamPlan) → boxed_streams q next (started_streams q list part place streams) ≡ boxed_streams q next streams
  streams-boxed part place next [] = refl
  streams-boxed part place next (s ∷ streams) = ap (λ l. record s { base = next; size = size_for q s } ∷ l) (streams-boxed part (place + 1) (next + size_for q s) streams)

  cells-started : (part : PartPlan) (place : ℕ) (streams : List StreamPlan) → sum_by (size_for q) (started_streams q list part place streams) ≡ sum_by (size_for q) streams
  cells-started part place [] = refl
  cells-started part place (s ∷ streams) =
      sum_by-cons (size_for q) record s { base = start_in q list (box_at part place) } (started_streams q list part (place + 1) streams)
      ∙ ap (λ n. size_for q s + n) (cells-started part (place + 1) streams) ∙ sym (sum_by-cons (size_for q) s streams)

  plan-boxed : (next : ℕ) (plan : List PartPlan) → boxed q next (map (started_part q list) plan) ≡ boxed q next plan
  plan-boxed next [] = refl
  plan-boxed next (part ∷ plan) =
      ap₂ (λ (ss : List StreamPlan) (n : ℕ). record part { streams = record { items = ss } } ∷ boxed q (next + n) (map (started_part q list) plan))
      (streams-boxed part 0 next part.streams.items) (cells-started part 0 part.streams.items)
      ∙ ap (λ l. boxed_part q next part ∷ l) (plan-boxed (next + cells_for q part) plan)

-- ---- the plan with shared cells

pub from-map : (f : PartPlan → PartPlan) (xs : List PartPlan) (y : PartPlan) → Has (map f xs) y → (x : PartPlan) × Has xs x × (y ≡ f x)
from-map f [] y h = elim h [ ]
from-map f (x ∷ xs) y first = (x, first, refl)
from-map f (x ∷ xs) y (later h) = let r = from-map f xs y h in (r.0, later r.1, r.2)

module _ (q : QueryValue) (plan : List PartPlan) where
  lists : map level_box (boxes q (shared q plan)) ≡ map level_box (boxes q plan)
  lists = sym (all-level q (shared q plan)) ∙ ap (boxes q) (plan-level q (boxes q plan) plan) ∙ all-level q plan

  pub start-shared : (part : PartPlan) (k : ℕ) → start_in q (boxes q plan) (box_at part k) ≡ start_in q (boxes q (shared q plan)) (box_at (started_part q (boxes q plan) part) k)
  start-shared part k =
      sym (start-level q (boxes q plan) (box_at part k))
      ∙ (λ i. start_in q (sym lists i) (box_at (sym (part-level q (boxes q plan) part) i) k))
      ∙ start-level q (boxes q (shared q plan)) (box_at (started_part q (boxes q plan) part) k)

  pub shared_count : shared_cells q (shared q plan) ≡ shared_cells q plan
  shared_count = sym (sizes-level (boxes q (shared q plan))) ∙ ap sizes_in lists ∙ sizes-level (boxes q plan)

  signs-shared : (list : List Box) (ps : List PartPlan) → signs_of (map (started_part q list) ps) ≡ signs_of ps
  signs-shared list [] = refl
  signs-shared list (p ∷ ps) = ap (λ l. p.signs.items ∷ l) (signs-shared list ps)

  pub is_shared : IsPlan q plan → IsSharedPlan q (shared q plan)
  is_shared h = record {
    parts = subst (AreParts q) (sym (signs-shared (boxes q plan) plan)) h.parts;
    plans =
        λ k d l.
        let m : k < length plan = omega (arith, l, length-map plan (started_part q (boxes q plan))) in
        subst (IsPartPlan q) (sym (get_or-map (started_part q (boxes q plan)) plan k d d m)) (is_started q (boxes q plan) (slice_index_or plan k d) (h.plans k d m));
    bases =
        λ part c place l.
        let r = from-map (started_part q (boxes q plan)) plan part (Has-from_contains (shared q plan) part c) in
        let m : place < length r.0.streams.items = omega (arith, l, ap (λ (p : PartPlan). length p.streams.items) r.2, length-started q (boxes q plan) r.0 0 r.0.streams.items) in
        ap (λ (p : PartPlan). (stream_at p place).base) r.2
        ∙ ap (λ (s : StreamPlan). s.base) (stream-started q (boxes q plan) r.0 place m)
        ∙ start-shared r.0 place
        ∙ ap (λ (p : PartPlan). start_in q (boxes q (shared q plan)) (box_at p place)) (sym r.2);
  }

  -- the other numbers are those of the plan
  boxed-shared : boxed q 0 (shared q plan) ≡ boxed q 0 plan
  boxed-shared = plan-boxed q (boxes q plan) 0 plan

  pub answers_shared : answer_bound q (shared q plan) ≡ answer_bound q plan
  answers_shared = sym (answers-same q (shared q plan)) ∙ ap (answer_bound q) boxed-shared ∙ answers-same q plan

  pub work_shared : work (shared q plan) ≡ work plan
  work_shared = sym (work-same q (shared q plan)) ∙ ap work boxed-shared ∙ work-same q plan
