-- Boxes set one after the other where the first one that is the same begins.
use Rattle.std.proofs.Common.{◌≡◌, ◌≢◌, ℕ, zero, suc, ◌+◌, ◌-◌, ◌^◌, ◌<◌, ◌≤◌, min, ◌⊎◌, inl, inr, Bool, true, false, ◌||◌, nat_eq, cond, List, [], ◌∷◌, ◌++◌, map, take, length, set, slice_index_or, append_assoc, refl, sym, ap, ap₂, ◌∙◌, subst, arith, length-set}
use Rattle.std.specs.List.{sum_by, list_any, range_with_len}
use Rattle.std.proofs.lemmas.Bool.Decides.{nat_tests}
use Rattle.std.proofs.lemmas.List.{take_more, take_all, map-append, get_or-set_same, get_or-set_other, get_or_default}
use Rattle.std.proofs.lemmas.List.Sums.{sum_by-cons, sum_by-append}
use Rattle.std.proofs.lemmas.Grind.{flat_map-append}
use Rattle.sem_query.specs.declared.plan.StreamPlan.{StreamPlan}
use Rattle.sem_query.specs.declared.plan.PartPlan.{PartPlan}
use Rattle.sem_query.specs.Query.{QueryValue}
use Rattle.sem_query.specs.Plan.{stream_at}
use Rattle.sem_query.specs.Numbers.{places}
use Rattle.sem_query.specs.Sharing.{Box, box_at, boxes_in, size_in, same_box, different_boxes, boxes, sizes_in, start_in}
use Rattle.sem_query.proofs.Has.{Has, first, later}
use Rattle.sem_laws.proofs.Tests.{true_or_false, not_both, nat_true, any_if, append-nothing}
use Rattle.sem_laws.proofs.SameBoxes.{same-itself}
use Rattle.sem_laws.proofs.GrowingBoxes.{different-more, start-stays}
use Rattle.plan_layout.specs.declared.boxes.Slot.{Slot}
use Rattle.plan_layout.specs.declared.boxes.Boxes.{Boxes}
use Rattle.plan_layout.specs.Capped.{capped}
use Rattle.plan_layout.specs.Boxed.{size_for, boxed_streams, boxed_part, cells_for, boxed}
use Rattle.plan_layout.specs.Listed.{no_part, box_in, listed, with_box, IsSlot, AreListed}
use Rattle.plan_layout.specs.Shared.{started_streams, started_part, shared, AreShared, with_slot, boxes_before, IsPlaced, ArePlaced}
use Rattle.plan_layout.proofs.Setting.{as_many}
use Rattle.plan_layout.proofs.Sharing.{range-push}
use Rattle.plan_layout.proofs.Bare.{streams_in, size_of_box}

-- ---- a box that is set, as the plan sees it

module _ (q : QueryValue) where
  streams-set : (next : ℕ) (streams : List StreamPlan) (k : ℕ) (d : StreamPlan) (base size : ℕ)
      → boxed_streams q next (set streams k record (slice_index_or streams k d) { base = base; size = size }) ≡ boxed_streams q next streams
  streams-set next [] k d base size = refl
  streams-set next (s ∷ streams) zero d base size = refl
  streams-set next (s ∷ streams) (suc k) d base size = ap (λ l. record s { base = next; size = size_for q s } ∷ l) (streams-set (next + size_for q s) streams k d base size)

  sizes-set : (streams : List StreamPlan) (k : ℕ) (d : StreamPlan) (base size : ℕ)
      → sum_by (size_for q) (set streams k record (slice_index_or streams k d) { base = base; size = size }) ≡ sum_by (size_for q) streams
  sizes-set [] k d base size = refl
  sizes-set (s ∷ streams) zero d base size = sum_by-cons (size_for q) record s { base = base; size = size } streams ∙ sym (sum_by-cons (size_for q) s streams)
  sizes-set (s ∷ streams) (suc k) d base size =
      sum_by-cons (size_for q) s (set streams k record (slice_index_or streams k d) { base = base; size = size }) ∙ ap (λ n. size_for q s + n) (sizes-set streams k d base size)
      ∙ sym (sum_by-cons (size_for q) s streams)

  boxed-set : (next : ℕ) (parts : List PartPlan) (i : ℕ) (x d : PartPlan) → ((n : ℕ) → boxed_part q n x ≡ boxed_part q n (slice_index_or parts i d)) → cells_for q x ≡ cells_for q (slice_index_or parts i d)
      → boxed q next (set parts i x) ≡ boxed q next parts
  boxed-set next [] i x d h e = refl
  boxed-set next (p ∷ parts) zero x d h e = ap₂ (λ o n. o ∷ boxed q (next + n) parts) (h next) e
  boxed-set next (p ∷ parts) (suc i) x d h e = ap (λ l. boxed_part q next p ∷ l) (boxed-set (next + cells_for q p) parts i x d h e)

  -- the plan of the parts does not depend on where they say that a box stands
  pub slot-set : (parts : List PartPlan) (i place : ℕ) (p x : PartPlan) (slot : Slot) → x ≡ with_slot (slice_index_or parts i p) place slot → boxed q 0 (set parts i x) ≡ boxed q 0 parts
  slot-set parts i place p x slot e =
      let o : PartPlan = slice_index_or parts i p in
      boxed-set 0 parts i x p
      (λ n. ap (boxed_part q n) e ∙ ap (λ ss. record o { streams = record { items = ss } }) (streams-set n o.streams.items place _ slot.base slot.size))
      (ap (cells_for q) e ∙ sizes-set o.streams.items place _ slot.base slot.size)

-- the box that is set
slot-there : (p : PartPlan) (place : ℕ) (slot : Slot) → place < length p.streams.items → stream_at (with_slot p place slot) place ≡ record (stream_at p place) { base = slot.base; size = slot.size }
slot-there p place slot l = get_or-set_same p.streams.items place record (stream_at p place) { base = slot.base; size = slot.size } _ l

-- and another box
slot-other : (p : PartPlan) (place there : ℕ) (slot : Slot) → there ≢ place → stream_at (with_slot p place slot) there ≡ stream_at p there
slot-other p place there slot other = get_or-set_other p.streams.items place there record (stream_at p place) { base = slot.base; size = slot.size } _ other

-- ---- one box more

-- a list of boxes with one more goes on from what it was
with-more : (q : QueryValue) (list : List Box) (b : Box) → (more : List Box) × (with_box q list b ≡ list ++ more)
with-more q list b = by (list_any (λ c. same_box q c b) list)
  where
    by : (t : Bool) → (more : List Box) × (cond t list (list ++ b ∷ []) ≡ list ++ more)
    by true = ([], sym (append-nothing list))
    by false = (b ∷ [], refl)

has-last : (xs : List Box) (b : Box) → Has (xs ++ b ∷ []) b
has-last [] b = first
has-last (x ∷ xs) b = later (has-last xs b)

-- and the one more is in it
with-known : (q : QueryValue) (list : List Box) (b : Box) → list_any (λ c. same_box q c b) (with_box q list b) ≡ true
with-known q list b = by (list_any (λ c. same_box q c b) list) refl
  where
    by : (t : Bool) → list_any (λ c. same_box q c b) list ≡ t → list_any (λ c. same_box q c b) (cond t list (list ++ b ∷ [])) ≡ true
    by true e = e
    by false e = any_if (λ c. same_box q c b) (list ++ b ∷ []) b (has-last list b) (same-itself q b)

any-more : (f : Box → Bool) (xs ys : List Box) → list_any f xs ≡ true → list_any f (xs ++ ys) ≡ true
any-more f [] ys h = absurd cc
any-more f (x ∷ xs) ys h = by (f x) h (any-more f xs ys)
  where
    by : (t : Bool) → (t || list_any f xs) ≡ true → (list_any f xs ≡ true → list_any f (xs ++ ys) ≡ true) → (t || list_any f (xs ++ ys)) ≡ true
    by true e g = refl
    by false e g = g e

-- a box that is placed stays where it is as the list goes on
placed-stays : (q : QueryValue) (list more new : List Box) (count others : ℕ) (b : Box) (s : StreamPlan) → new ≡ list ++ more → (others < 2 ^ 32 → count < 2 ^ 32)
    → IsPlaced q list count b s → IsPlaced q new others b s
placed-stays q list more new count others b s e small h = record {
  known = ap (list_any (λ c. same_box q c b)) e ∙ any-more (λ c. same_box q c b) list more h.known;
  slot = λ l.
      let k = h.slot (small l) in
      record { base = k.base ∙ sym (ap (λ (bs : List Box). start_in q bs b) e ∙ start-stays q list more b h.known); size = k.size };
}

cells-less : (list more new : List Box) (count others : ℕ) → new ≡ list ++ more → count ≡ capped (sizes_in list) → others ≡ capped (sizes_in new) → others < 2 ^ 32 → count < 2 ^ 32
cells-less list more new count others e f g l = by (2 ^ 64 - 1) (2 ^ 32) (sizes_in list) (sizes_in more) count others f (g ∙ ap capped (ap sizes_in e ∙ sum_by-append size_in list more)) l (omega arith)
  where
    by : (u w a b m n : ℕ) → m ≡ min a u → n ≡ min (a + b) u → n < w → w ≤ u → m < w
    by u w a b m n e f l h = omega arith

before-more : (plan : List PartPlan) (i place : ℕ) → boxes_before plan i (place + 1) ≡ boxes_before plan i place ++ box_in plan i place ∷ []
before-more plan i place =
    ap (λ ns. boxes_in (take i plan) ++ map (box_in plan i) ns) (range-push place)
    ∙ ap (λ bs. boxes_in (take i plan) ++ bs) (map-append (box_in plan i) (range_with_len 0 place) (place ∷ []))
    ∙ sym (append_assoc (boxes_in (take i plan)) (map (box_in plan i) (range_with_len 0 place)) (box_in plan i place ∷ []))

module _ (q : QueryValue) (parts : List PartPlan) (old new : Boxes) (i place : ℕ) (p x : PartPlan) (slot : Slot) (within : i < length parts)
    (here : place < length (slice_index_or parts i no_part).streams.items) (is : x ≡ with_slot (slice_index_or parts i p) place slot)
    (h : ArePlaced q (boxed q 0 parts) parts old i place) (entries : AreListed q (boxed q 0 parts) new)
    (listed_new : listed (boxed q 0 parts) new ≡ with_box q (listed (boxed q 0 parts) old) (box_in (boxed q 0 parts) i place))
    (found : new.cells < 2 ^ 32 → IsSlot q (listed (boxed q 0 parts) new) (box_in (boxed q 0 parts) i place) slot) where
  is_part : x ≡ with_slot (slice_index_or parts i no_part) place slot
  is_part = is ∙ ap (λ (o : PartPlan). with_slot o place slot) (get_or_default parts i p no_part within)

  IsIn : ℕ → ℕ → Type 0
  IsIn k there = IsPlaced q (listed (boxed q 0 parts) new) new.cells (box_in (boxed q 0 parts) k there) (stream_at (slice_index_or (set parts i x) k no_part) there)

  more : (more : List Box) × (listed (boxed q 0 parts) new ≡ listed (boxed q 0 parts) old ++ more)
  more = let m = with-more q (listed (boxed q 0 parts) old) (box_in (boxed q 0 parts) i place) in (m.0, listed_new ∙ m.1)

  stays : (k there : ℕ) → IsPlaced q (listed (boxed q 0 parts) old) old.cells (box_in (boxed q 0 parts) k there) (stream_at (slice_index_or parts k no_part) there)
      → stream_at (slice_index_or (set parts i x) k no_part) there ≡ stream_at (slice_index_or parts k no_part) there → IsIn k there
  unfolding IsIn
  stays k there g e =
      subst (IsPlaced q (listed (boxed q 0 parts) new) new.cells (box_in (boxed q 0 parts) k there)) (sym e)
      (placed-stays q (listed (boxed q 0 parts) old) more.0 (listed (boxed q 0 parts) new) old.cells new.cells (box_in (boxed q 0 parts) k there)
      (stream_at (slice_index_or parts k no_part) there) more.1
      (cells-less (listed (boxed q 0 parts) old) more.0 (listed (boxed q 0 parts) new) old.cells new.cells more.1 h.entries.cells entries.cells) g)

  own_part : slice_index_or (set parts i x) i no_part ≡ with_slot (slice_index_or parts i no_part) place slot
  own_part = get_or-set_same parts i x no_part within ∙ is_part

  own_box : IsIn i place
  unfolding IsIn
  own_box =
      subst (IsPlaced q (listed (boxed q 0 parts) new) new.cells (box_in (boxed q 0 parts) i place))
      (sym (ap (λ (o : PartPlan). stream_at o place) own_part ∙ slot-there (slice_index_or parts i no_part) place slot here)) record {
        known = ap (list_any (λ c. same_box q c (box_in (boxed q 0 parts) i place))) listed_new ∙ with-known q (listed (boxed q 0 parts) old) (box_in (boxed q 0 parts) i place);
        slot = λ l. let k = found l in record { base = k.base; size = k.size };
      }

  count_same : (k : ℕ) → length (slice_index_or (set parts i x) k no_part).streams.items ≡ length (slice_index_or parts k no_part).streams.items
  count_same k = by (true_or_false (nat_eq k i))
    where
      by : (nat_eq k i ≡ true) ⊎ (nat_eq k i ≡ false) → length (slice_index_or (set parts i x) k no_part).streams.items ≡ length (slice_index_or parts k no_part).streams.items
      by (inl e) =
          let f : k ≡ i = nat_true k i e in
          subst (λ (m : ℕ). length (slice_index_or (set parts i x) m no_part).streams.items ≡ length (slice_index_or parts m no_part).streams.items) (sym f)
          (ap (λ (o : PartPlan). length o.streams.items) own_part ∙ length-set (slice_index_or parts i no_part).streams.items place _)
      by (inr e) = ap (λ (o : PartPlan). length o.streams.items) (get_or-set_other parts i k x no_part (λ f. not_both (nat_eq k i) (grind (arith, nat_tests, f)) e))

  all : (k there : ℕ) → k < length parts → there < length (slice_index_or parts k no_part).streams.items → (k < i) ⊎ ((k ≡ i) × (there < place + 1)) → IsIn k there
  unfolding IsIn
  all k there l m (inl early) =
      stays k there (h.placed k there l m (inl early)) (ap (λ (o : PartPlan). stream_at o there) (get_or-set_other parts i k x no_part (λ e. absurd (omega (arith, early, e)))))
  all k there l m (inr (same, before)) = elim (before_or there place before) [
    | inl early ↦ stays k there (h.placed k there l m (inr (same, early)))
        (ap (λ (n : ℕ). stream_at (slice_index_or (set parts i x) n no_part) there) same ∙ ap (λ (o : PartPlan). stream_at o there) own_part
        ∙ slot-other (slice_index_or parts i no_part) place there slot (λ e. absurd (omega (arith, early, e)))
        ∙ ap (λ (n : ℕ). stream_at (slice_index_or parts n no_part) there) (sym same))
    | inr at ↦ subst (λ (n : ℕ). IsIn n there) (sym same) (subst (λ (n : ℕ). IsIn i n) (sym at) own_box)
  ]
    where
      before_or : (k n : ℕ) → k < n + 1 → (k < n) ⊎ (k ≡ n)
      before_or k n l = grind arith

  next : ArePlaced q (boxed q 0 parts) (set parts i x) new i (place + 1)
  unfolding IsIn
  next = record {
    same = slot-set q parts i place p x slot is;
    entries = entries;
    boxes =
        listed_new ∙ ap (λ (bs : List Box). with_box q bs (box_in (boxed q 0 parts) i place)) h.boxes
        ∙ sym (ap (different_boxes q) (before-more (boxed q 0 parts) i place) ∙ different-more q (boxes_before (boxed q 0 parts) i place) (box_in (boxed q 0 parts) i place));
    placed = λ k there l m e. all k there (omega (arith, l, length-set parts i x)) (omega (arith, m, count_same k)) e;
  }

pub placed_next : (q : QueryValue) (plan parts : List PartPlan) (old new : Boxes) (i place : ℕ) (p x : PartPlan) (slot : Slot) → i < length parts
    → place < length (slice_index_or parts i no_part).streams.items → x ≡ with_slot (slice_index_or parts i p) place slot → ArePlaced q plan parts old i place
    → AreListed q (boxed q 0 parts) new → listed (boxed q 0 parts) new ≡ with_box q (listed (boxed q 0 parts) old) (box_in (boxed q 0 parts) i place)
    → (new.cells < 2 ^ 32 → IsSlot q (listed (boxed q 0 parts) new) (box_in (boxed q 0 parts) i place) slot) → ArePlaced q plan (set parts i x) new i (place + 1)
placed_next q plan parts old new i place p x slot l m is h entries e found =
    subst (λ (o : List PartPlan). ArePlaced q o (set parts i x) new i (place + 1)) h.same
    (next q parts old new i place p x slot l m is (subst (λ (o : List PartPlan). ArePlaced q o parts old i place) (sym h.same) h) entries e found)

-- ---- after the last box of a part

-- parts of one plan have as many streams
pub streams_same : (q : QueryValue) (parts others : List PartPlan) (i : ℕ) → boxed q 0 parts ≡ boxed q 0 others → i < length parts
    → length (slice_index_or parts i no_part).streams.items ≡ length (slice_index_or others i no_part).streams.items
streams_same q parts others i e l =
    let n : length parts ≡ length others = sym (as_many q 0 parts) ∙ ap length e ∙ as_many q 0 others in
    sym (streams_in q parts i l 0) ∙ ap (λ (o : List PartPlan). length (slice_index_or o i no_part).streams.items) e ∙ streams_in q others i (omega (arith, l, n)) 0

before-part : (plan : List PartPlan) (i count : ℕ) → i < length plan → count ≡ length (slice_index_or plan i no_part).streams.items → boxes_before plan i count ≡ boxes_before plan (i + 1) 0
before-part plan i count l e =
    ap (λ n. boxes_in (take i plan) ++ map (box_in plan i) (range_with_len 0 n)) e
    ∙ ap (λ bs. boxes_in (take i plan) ++ bs) (sym (append-nothing (map (box_in plan i) (places (slice_index_or plan i no_part)))))
    ∙ sym (flat_map-append (λ (part : PartPlan). map (box_at part) (places part)) (take i plan) (slice_index_or plan i no_part ∷ []))
    ∙ ap boxes_in (sym (take_more plan i no_part l))
    ∙ sym (append-nothing (boxes_in (take (i + 1) plan)))

part-done : (q : QueryValue) (parts : List PartPlan) (list : Boxes) (i count : ℕ) → i < length parts → count ≡ length (slice_index_or parts i no_part).streams.items
    → ArePlaced q (boxed q 0 parts) parts list i count → ArePlaced q (boxed q 0 parts) parts list (i + 1) 0
part-done q parts list i count l e h = record {
  same = refl;
  entries = h.entries;
  boxes = h.boxes ∙ ap (different_boxes q) (before-part (boxed q 0 parts) i count (omega (arith, l, as_many q 0 parts)) (e ∙ sym (streams_in q parts i l 0)));
  placed = λ k there m n o. h.placed k there m n (elim o [
    | inl early ↦ elim (before_or k i early) [ inl before ↦ inl before | inr at ↦ inr (at, subst (λ (j : ℕ). there < j) (sym e) (subst (λ (j : ℕ). there < length (slice_index_or parts j no_part).streams.items) at n)) ]
    | inr late ↦ absurd (omega (arith, late.1))
  ]);
}
  where
    before_or : (k n : ℕ) → k < n + 1 → (k < n) ⊎ (k ≡ n)
    before_or k n l = grind arith

pub part_done : (q : QueryValue) (plan parts : List PartPlan) (list : Boxes) (i count : ℕ) → i < length parts → count ≡ length (slice_index_or parts i no_part).streams.items
    → ArePlaced q plan parts list i count → ArePlaced q plan parts list (i + 1) 0
part_done q plan parts list i count l e h =
    subst (λ (o : List PartPlan). ArePlaced q o parts list (i + 1) 0) h.same
    (part-done q parts list i count l e (subst (λ (o : List PartPlan). ArePlaced q o parts list i count) (sym h.same) h))

-- ---- after the last part

module _ (q : QueryValue) (list : List Box) where
  streams-started : (part : PartPlan) (place next : ℕ) (streams : List StreamPlan) (d : StreamPlan)
      → ((k : ℕ) → k < length streams → ((slice_index_or streams k d).base ≡ start_in q list (box_at part (place + k))) × ((slice_index_or streams k d).size ≡ size_for q (slice_index_or streams k d)))
      → started_streams q list part place (boxed_streams q next streams) ≡ streams
  streams-started part place next [] d h = refl
  streams-started part place next (s ∷ streams) d h =
      let first = h 0 (omega arith) in
      let at : place + 0 ≡ place = omega arith in
      let base : start_in q list (box_at part place) ≡ s.base = sym (first.0 ∙ ap (λ (n : ℕ). start_in q list (box_at part n)) at) in
      ap₂ (λ (b n : ℕ). record s { base = b; size = n } ∷ started_streams q list part (place + 1) (boxed_streams q (next + size_for q s) streams)) base (sym first.1)
      ∙ ap (λ l. s ∷ l) (streams-started part (place + 1) (next + size_for q s) streams d (λ k l.
      let r = h (suc k) (omega (arith, l)) in
      let m : place + suc k ≡ (place + 1) + k = omega arith in
      (r.0 ∙ ap (λ (n : ℕ). start_in q list (box_at part n)) m, r.1)))

  parts-started : (next : ℕ) (parts : List PartPlan)
      → ((k there : ℕ) → k < length parts → there < length (slice_index_or parts k no_part).streams.items
      → ((stream_at (slice_index_or parts k no_part) there).base ≡ start_in q list (box_in (boxed q next parts) k there))
      × ((stream_at (slice_index_or parts k no_part) there).size ≡ size_for q (stream_at (slice_index_or parts k no_part) there)))
      → map (started_part q list) (boxed q next parts) ≡ parts
  parts-started next [] h = refl
  parts-started next (p ∷ parts) h =
      ap₂ (λ (ss : List StreamPlan) (ps : List PartPlan). record p { streams = record { items = ss } } ∷ ps)
      (streams-started (boxed_part q next p) 0 next p.streams.items _ (λ k l.
      let r = h 0 k (omega arith) l in
      let m : k ≡ 0 + k = omega arith in
      (r.0 ∙ ap (λ (n : ℕ). start_in q list (box_at (boxed_part q next p) n)) m, r.1)))
      (parts-started (next + cells_for q p) parts (λ k there l m. h (suc k) there (omega (arith, l)) m))

all-before : (q : QueryValue) (plan : List PartPlan) (n : ℕ) → length plan ≤ n → different_boxes q (boxes_before plan n 0) ≡ boxes q plan
all-before q plan n l = ap (different_boxes q) (append-nothing (boxes_in (take n plan)) ∙ ap boxes_in (take_all n plan l))

shared-all : (q : QueryValue) (parts : List PartPlan) (list : Boxes) (n : ℕ) → length parts ≤ n → ArePlaced q (boxed q 0 parts) parts list n 0 → list.cells < 2 ^ 32
    → shared q (boxed q 0 parts) ≡ parts
shared-all q parts list n l h small =
    let e : listed (boxed q 0 parts) list ≡ boxes q (boxed q 0 parts) = h.boxes ∙ all-before q (boxed q 0 parts) n (omega (arith, l, as_many q 0 parts)) in
    ap (λ (bs : List Box). map (started_part q bs) (boxed q 0 parts)) (sym e)
    ∙ parts-started q (listed (boxed q 0 parts) list) 0 parts (λ k there m o.
    let s = (h.placed k there m o (inl (omega (arith, l, m)))).slot small in
    (s.base, s.size ∙ size_of_box q parts k m there o))

pub all_shared : (q : QueryValue) (old new : List PartPlan) (list : Boxes) (n : ℕ) → length new ≤ n → ArePlaced q (boxed q 0 old) new list n 0 → AreShared q old new list.cells
all_shared q old new list n l h =
    let size : length new ≡ length old = sym (as_many q 0 new) ∙ ap length h.same ∙ as_many q 0 old in
    record {
      size = size;
      cells = h.entries.cells ∙ ap (λ (bs : List Box). capped (sizes_in bs)) (h.boxes ∙ all-before q (boxed q 0 old) n (omega (arith, l, size, as_many q 0 old)));
      boxes = λ small. ap (shared q) (sym h.same) ∙ shared-all q new list n l (subst (λ (o : List PartPlan). ArePlaced q o new list n 0) (sym h.same) h) small;
    }
