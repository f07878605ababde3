-- In a plan, a box that no earlier part has begins no earlier than those of all earlier parts: where cells are shared too, since the different
-- boxes are laid out in the order in which they come.
use Rattle.std.proofs.Common.{◌≡◌, ℕ, zero, suc, ◌+◌, ◌<◌, ◌≤◌, cond, Bool, true, false, not, ◌||◌, List, [], ◌∷◌, ◌++◌, map, filter, length, take, drop, slice_get, slice_index_or, Some, inl, inr, refl, sym, ap, ◌∙◌, subst, arith, All}
use Rattle.std.proofs.lemmas.List.{take-append-drop}
use Rattle.std.proofs.lemmas.List.Concat.{flat_map-append}
use Rattle.std.proofs.lemmas.List.Elements.{All-contains, filter-append}
use Rattle.sem_query.specs.declared.plan.StreamPlan.{StreamPlan}
use Rattle.sem_query.specs.declared.plan.PartPlan.{PartPlan}
use Rattle.sem_query.specs.declared.plan.Plan.{Plan}
use Rattle.sem_query.specs.declared.plan.Plan.TheVariants as plan
use Rattle.sem_query.specs.Query.{QueryValue}
use Rattle.sem_query.specs.Numbers.{places, parts_of}
use Rattle.sem_query.specs.Plan.{stream_at, Follow, FollowIn}
use Rattle.sem_query.specs.Serving.{KeepsStreams, AreBased}
use Rattle.sem_query.specs.Sharing.{Box, box_at, size_in, boxes_in, same_box, different_boxes, boxes, sizes_in, start_in}
use Rattle.sem_query.proofs.Has.{Has, first, later, Has-from_contains, Contains-from_has}
use Rattle.sem_laws.proofs.Tests.{any_from, any_if, not_both, or-false, same_bool, true_or_false}
use Rattle.sem_laws.proofs.OnePartFits.{has_cases}
use Rattle.sem_laws.proofs.LaidOut.{no_stream}
use Rattle.sem_laws.proofs.SameBoxes.{are-same, same-then, same-turned, sizes-cons, stands-for, is-among}
use Rattle.sem_laws.proofs.GrowingBoxes.{has_same}
use Rattle.sem_laws.proofs.PlanBoxes.{has-box, alone-of}
use Rattle.sem_laws.proofs.Walking.{serving-keep}
use Rattle.exec_part_index.specs.Owners.{has_base, BeginBehind}
use Rattle.exec_query.proofs.Inserting.{get_has}
use Rattle.exec_part_index.proofs.Owning.{begins-there}
use Rattle.sem_forms.specs.Forms.{IsServingForm}

-- boxes that follow from a number on begin there or behind
in-from : (next : ℕ) (streams : List StreamPlan) (rest : ℕ → Type 0) → FollowIn next streams rest → (k : ℕ) → k < length streams
    → next ≤ (slice_index_or streams k no_stream).base
in-from next [] rest f k l = absurd (omega (arith, l))
in-from next (s ∷ streams) rest f zero l = (let b = f.0 in omega (arith, b))
in-from next (s ∷ streams) rest f (suc k) l = (let r = in-from (next + s.size) streams rest f.1 k (omega (arith, l)) in omega (arith, r))

-- what follows them stands behind them all
in-then : (next : ℕ) (streams : List StreamPlan) (rest : ℕ → Type 0) → FollowIn next streams rest
    → (m : ℕ) × rest m × (next ≤ m) × ((k : ℕ) → k < length streams → (slice_index_or streams k no_stream).base ≤ m)
in-then next [] rest f = (next, f, omega arith, λ k l. absurd (omega (arith, l)))
in-then next (s ∷ streams) rest f =
    let r = in-then (next + s.size) streams rest f.1 in
    let up = r.2 in
    let b = f.0 in
    (r.0, r.1, omega (arith, up), all r.0 r.3 (omega (arith, up, b)))
  where
    all : (m : ℕ) → ((k : ℕ) → k < length streams → (slice_index_or streams k no_stream).base ≤ m) → s.base ≤ m
        → (k : ℕ) → k < length (s ∷ streams) → (slice_index_or (s ∷ streams) k no_stream).base ≤ m
    all m h b zero l = b
    all m h b (suc k) l = h k (omega (arith, l))

follow-from : (next : ℕ) (list : List PartPlan) → Follow next list → (part : PartPlan) → Has list part → (place : ℕ) → place < length part.streams.items
    → next ≤ (stream_at part place).base
follow-from next [] f part h place l = elim h [ ]
follow-from next (o ∷ list) f part h place l = elim (has_cases o part list h) [
  | inl e ↦ subst (λ (p : PartPlan). next ≤ (stream_at p place).base) e
      (in-from next o.streams.items (λ n. Follow n list) f place (subst (λ (p : PartPlan). place < length p.streams.items) (sym e) l))
  | inr k ↦ (
      let r = in-then next o.streams.items (λ n. Follow n list) f in
      let up = r.2 in
      let b = follow-from r.0 list r.1 part k place l in
      omega (arith, up, b))
]

follow-behind : (next : ℕ) (list : List PartPlan) → Follow next list → (i : ℕ) (part earlier : PartPlan) → slice_get list i ≡ Some part → Has (take i list) earlier
    → (place : ℕ) → place < length part.streams.items → place < length earlier.streams.items → (stream_at earlier place).base ≤ (stream_at part place).base
follow-behind next [] f i part earlier at h place l m = elim (get_has [] i part at) [ ]
follow-behind next (o ∷ list) f zero part earlier at h place l m = elim h [ ]
follow-behind next (o ∷ list) f (suc i) part earlier at h place l m =
    let r = in-then next o.streams.items (λ n. Follow n list) f in
    elim (has_cases o earlier (take i list) h) [
      | inl e ↦ subst (λ (p : PartPlan). (stream_at p place).base ≤ (stream_at part place).base) e (
          let a = r.3 place (subst (λ (p : PartPlan). place < length p.streams.items) (sym e) m) in
          let b = follow-from r.0 list r.1 part (get_has list i part at) place l in
          omega (arith, a, b))
      | inr k ↦ follow-behind r.0 list r.1 i part earlier at k place l m
    ]

-- boxes that are the same begin at one number
same-alike : (q : QueryValue) (x b c : Box) → same_box q b c ≡ true → same_box q x b ≡ same_box q x c
same-alike q x b c e = same_bool (same_box q x b) (same_box q x c) (λ h. same-then q x b c h e) (λ h. same-then q x c b h (same-turned q b c e))

start-same : (q : QueryValue) (xs : List Box) (b c : Box) → same_box q b c ≡ true → start_in q xs b ≡ start_in q xs c
start-same q [] b c e = refl
start-same q (x ∷ xs) b c e = λ j. cond (same-alike q x b c e j) 0 (size_in x + start-same q xs b c e j)

-- a box that stands among some begins within them
start-among : (q : QueryValue) (xs ys : List Box) (c : Box) → has_same q xs c ≡ true → start_in q (xs ++ ys) c ≤ sizes_in xs
start-among q [] ys c h = absurd cc
start-among q (x ∷ xs) ys c h = by (same_box q x c) refl (λ k. start-among q xs ys c k)
  where
    by : (t : Bool) → same_box q x c ≡ t → (has_same q xs c ≡ true → start_in q (xs ++ ys) c ≤ sizes_in xs)
        → cond t 0 (size_in x + start_in q (xs ++ ys) c) ≤ sizes_in (x ∷ xs)
    by true e f = omega arith
    by false e f =
        let r = f (ap (λ t. t || has_same q xs c) (sym e) ∙ h) in
        let s = sizes-cons x xs in
        omega (arith, r, s)

-- one that does not begins behind them
start-behind : (q : QueryValue) (xs ys : List Box) (b : Box) → has_same q xs b ≡ false → sizes_in xs ≤ start_in q (xs ++ ys) b
start-behind q [] ys b h = omega arith
start-behind q (x ∷ xs) ys b h =
    let o = or-false (same_box q x b) (has_same q xs b) h in
    let r = start-behind q xs ys b o.1 in
    let s = sizes-cons x xs in
    let e : start_in q (x ∷ xs ++ ys) b ≡ size_in x + start_in q (xs ++ ys) b = ap (λ t. cond t 0 (size_in x + start_in q (xs ++ ys) b)) o.0 in
    omega (arith, r, s, e)

-- the different boxes of the first boxes are the first different boxes
different-front : (q : QueryValue) (xs ys : List Box) → (zs : List Box) × (different_boxes q (xs ++ ys) ≡ different_boxes q xs ++ zs)
different-front q [] ys = (different_boxes q ys, refl)
different-front q (x ∷ xs) ys =
    let r = different-front q xs ys in (
      filter (λ c. not (same_box q x c)) r.0,
      ap (λ (l : List Box). x ∷ filter (λ c. not (same_box q x c)) l) r.1
          ∙ ap (λ (l : List Box). x ∷ l) (filter-append (λ c. not (same_box q x c)) (different_boxes q xs) r.0),
    )

taken-has : (list : List PartPlan) (i : ℕ) (p : PartPlan) → Has (take i list) p → Has list p
taken-has list zero p h = elim h [ ]
taken-has [] (suc i) p h = elim h [ ]
taken-has (o ∷ list) (suc i) p h = elim (has_cases o p (take i list) h) [
  | inl e ↦ subst (λ (x : PartPlan). Has (o ∷ list) x) e first
  | inr k ↦ later (taken-has list i p k)
]

module _ (q : QueryValue) (list : List PartPlan) (bases : AreBased true q list) (i : ℕ) (part earlier : PartPlan) (at : slice_get list i ≡ Some part) (before : Has (take i list) earlier)
    (place : ℕ) (l : place < length part.streams.items) (m : place < length earlier.streams.items) (own : has_base (take i list) part place ≡ false) where
  abbrev front : List Box
  front = boxes_in (take i list)

  abbrev D : List Box
  D = different_boxes q front

  split : (zs : List Box) × (boxes q list ≡ D ++ zs)
  split =
      let r = different-front q front (boxes_in (drop i list)) in
      let e : boxes_in list ≡ front ++ boxes_in (drop i list)
      = ap boxes_in (sym (take-append-drop i list)) ∙ flat_map-append (λ (part : PartPlan). map (box_at part) (places part)) (take i list) (drop i list) in
      (r.0, ap (different_boxes q) e ∙ r.1)

  base-is : (p : PartPlan) → Has list p → (o : ℕ) → o < length p.streams.items → (stream_at p o).base ≡ start_in q (boxes q list) (box_at p o)
  base-is p h o k = bases p (Contains-from_has list p h) o k

  none : has_same q D (box_at part place) ≡ false
  none = elim (true_or_false (has_same q D (box_at part place))) [
    | inr h ↦ h
    | inl h ↦ absurd (
        let o = any_from (λ c. same_box q c (box_at part place)) D h in
        let a = alone-of (take i list) o.0 (is-among q front o.0 o.1) in
        let k : Has (take i list) o.0.part = Has-from_contains (take i list) o.0.part a.0 in
        let s = are-same q o.0 (box_at part place) o.2 in
        let e : (stream_at o.0.part place).base ≡ (stream_at part place).base
        = ap (λ (n : ℕ). (stream_at o.0.part n).base) (sym s.place) ∙ base-is o.0.part (taken-has list i o.0.part k) o.0.place a.1
        ∙ start-same q (boxes q list) o.0 (box_at part place) o.2 ∙ sym (base-is part (get_has list i part at) place l) in
        not_both (has_base (take i list) part place) (begins-there (take i list) part o.0.part place k e) own)
  ]

  pub shared-behind : (stream_at earlier place).base ≤ (stream_at part place).base
  shared-behind =
      let o = stands-for q front (box_at earlier place) (has-box (take i list) earlier before place m) in
      let a = start-among q D split.0 (box_at earlier place) (any_if (λ c. same_box q c (box_at earlier place)) D o.0 o.1 o.2) in
      let b = start-behind q D split.0 (box_at part place) none in
      let e : (stream_at earlier place).base ≡ start_in q (D ++ split.0) (box_at earlier place)
      = base-is earlier (taken-has list i earlier before) place m ∙ ap (λ (bs : List Box). start_in q bs (box_at earlier place)) split.1 in
      let f : (stream_at part place).base ≡ start_in q (D ++ split.0) (box_at part place)
      = base-is part (get_has list i part at) place l ∙ ap (λ (bs : List Box). start_in q bs (box_at part place)) split.1 in
      omega (arith, a, b, e, f)

pub begin-behind : (shared : Bool) (q : QueryValue) (list : List PartPlan) → All (KeepsStreams q) list → AreBased shared q list → BeginBehind (length q.from) list
begin-behind shared q list keeps bases place i part earlier l at c own = by shared bases
  where
    before : Has (take i list) earlier
    before = Has-from_contains (take i list) earlier c

    there : (p : PartPlan) → Has list p → place < length p.streams.items
    there p h = (let n = (All-contains (KeepsStreams q) list p keeps (Contains-from_has list p h)).count in omega (arith, n, l))

    in_part : place < length part.streams.items
    in_part = there part (get_has list i part at)

    in_earlier : place < length earlier.streams.items
    in_earlier = there earlier (taken-has list i earlier before)

    by : (shared : Bool) → AreBased shared q list → (stream_at earlier place).base ≤ (stream_at part place).base
    by false bases = follow-behind 0 list bases i part earlier at before place in_part in_earlier
    by true bases = shared-behind q list bases i part earlier at before place in_part in_earlier own

-- of any plan; a filter has no parts
pub plan-behind : (shared : Bool) (q : QueryValue) (p : Plan) → IsServingForm shared q p → BeginBehind (length q.from) (parts_of p)
plan-behind shared q plan.Filter is = λ place i part earlier l at c own. elim (get_has [] i part at) [ ]
plan-behind shared q (plan.Parts list numbers) is = begin-behind shared q list (serving-keep q list is.1.serves) is.2
