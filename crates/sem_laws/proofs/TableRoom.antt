-- Every answer is among the tuples that the answer bound counts.
use Rattle.std.proofs.Common.{◌≡◌, ℕ, zero, suc, ◌+◌, ◌<◌, ◌≤◌, inl, inr, List, [], ◌∷◌, map, filter, length, cond, not, Bool, true, false, refl, sym, ap, ◌∙◌, subst, arith, ℤ, pos, ◌+ℤ◌, ◌-ℤ◌, ◌≤ℤ◌, nat_abs, Contains, ◌&&◌}
use Rattle.std.proofs.lemmas.Int.{ints}
use Rattle.std.proofs.lemmas.List.{length-map}
use Rattle.std.proofs.lemmas.List.Elements.{All-contains}
use Rattle.sem_query.proofs.Has.{Has, first, later, Has-from_contains, Contains-from_has, Has-map, Has-map_from, Has-filter, Has-filter_from, Has-head, same_map}
use Rattle.sem_query.proofs.Unique.{Ascends, more, ascends_from}
use Rattle.sem_laws.proofs.Sums.{bit, sums}
use Rattle.sem_laws.proofs.Tests.{and-left, and-right, all_at, filter-passes, true_or_false, not_both, attr_eq-is, attr_eq-itself}
use Rattle.sem_laws.proofs.Admission.{fits, passes_at}
use Rattle.sem_laws.proofs.OnePartFits.{has_cases}
use Rattle.sem_laws.proofs.Places.{range_low, range_high}
use Rattle.sem_query.proofs.BoxLaws as Boxes
use Rattle.std.proofs.lemmas.List.Sums.{sum_by-cons}
use Rattle.sem_query.specs.Boxes.{box_size, values_from, box}
use Rattle.sem_query.specs.Ranges.{selected_ranges}
use Rattle.sem_laws.proofs.ServedCounts.{one_takes}
use Rattle.sem_laws.proofs.Extremes.{has-flat_map, flat_map-from, some-summand}
use Rattle.sem_laws.proofs.Order.{before-itself}
use Rattle.sem_laws.proofs.LaidOut.{length-more}
use Rattle.sem_query.specs.declared.atom.Attr.{Attr}
use Rattle.sem_query.specs.Query.{QueryValue, attr_eq}
use Rattle.sem_query.specs.Assignment.{Assignment, holds, projected}
use Rattle.sem_query.specs.Parts.{pairs}
use Rattle.sem_query.specs.declared.plan.Dim.{Dim}
use Rattle.sem_query.specs.Meaning.{Arrival, rows, product, by_column, at_place, joined, assignment_of, answers}
use Rattle.sem_query.specs.Domains.{RowsKeep}
use Rattle.sem_laws.proofs.Keeping.{combination-keeps, history-keeps}
use Rattle.sem_query.specs.Tuples.{is_before}
use Rattle.sem_query.specs.declared.plan.PartPlan.{PartPlan}
use Rattle.sem_query.specs.Plan.{dims_at}
use Rattle.sem_query.specs.Serving.{IsKept, Serves}
use Rattle.sem_laws.proofs.Queries.{IsQuery, query_within}
use Rattle.sem_query.specs.Boxes.{dim_size}
use Rattle.sem_query.specs.Admission.{alone, admits, keeps_signs, keeps_local, in_range}
use Rattle.sem_query.specs.Combinations.{linked, is_tied}
use Rattle.sem_query.specs.Ranges.{different, first_tied, range_of, at_column, all_tuples}
use Rattle.sem_query.specs.Numbers.{answer_bound}
use Rattle.sem_laws.specs.Rooms.{TableHasRoom, AnswersAreCounted}

-- no member stands twice
abbrev pub Distinct : {X : Type 0} → List X → Type 0
Distinct [] = Unit {0}
Distinct (x ∷ xs) = (Has xs x → ⊥) × Distinct xs

-- a list with one member left out
record Left {X : Type 0} (x : X) (ys : List X) : Type 0 where
  pub others : List X
  pub size : suc (length others) ≡ length ys
  pub keeps : (z : X) → (x ≡ z → ⊥) → Has ys z → Has others z

leave : {X : Type 0} (x : X) (ys : List X) → Has ys x → Left x ys
leave x [] h = elim h [ ]
leave x (y ∷ ys) h = elim (has_cases y x ys h) [
  | inl e ↦ record { others = ys; size = refl; keeps = λ z n k. elim (has_cases y z ys k) [ inl f ↦ absurd (n (sym e ∙ f)) | inr l ↦ l ] }
  | inr k ↦ (let o = leave x ys k in record { others = y ∷ o.others; size = ap (λ n. suc n) o.size; keeps = λ z n j. elim (has_cases y z ys j) [ inl f ↦ Has-head z y o.others f | inr l ↦ later (o.keeps z n l) ] })
]

pub no_longer : {X : Type 0} (xs ys : List X) → Distinct xs → ((z : X) → Has xs z → Has ys z) → length xs ≤ length ys
no_longer [] ys d h = omega arith
no_longer {X} (x ∷ xs) ys d h =
    let o : Left x ys = leave x ys (h x first) in
    let k : length xs ≤ length o.others
    = no_longer xs o.others d.1 (λ z i. o.keeps z (λ e. d.0 (subst (λ y. Has xs y) (sym e) i)) (h z (later i))) in
    omega (arith, k, o.size)

climbs-distinct : (ts : List (List ℤ)) → Ascends is_before ts → Distinct ts
climbs-distinct [] a = tt
climbs-distinct (t ∷ ts) (more f a) = ((λ k. not_both (is_before t t) (f t k) (before-itself t)), climbs-distinct ts a)

-- the values of a dim
abbrev pub values_in : Dim → List ℤ
values_in d = values_from d.lo (dim_size d)

-- how many tuples there are
pub length-all : AnswersAreCounted
length-all q [] = refl
length-all q (p ∷ plan) =
    let rest : length (all_tuples q plan) ≡ answer_bound q plan = length-all q plan in
    let here : length (map (λ xs. map (at_column (different q.select) xs) q.select) (box (selected_ranges q p))) ≡ box_size (selected_ranges q p)
    = length-map (box (selected_ranges q p)) (λ xs. map (at_column (different q.select) xs) q.select)
    ∙ Boxes.length-box (selected_ranges q p) in
    length-more (map (λ xs. map (at_column (different q.select) xs) q.select) (box (selected_ranges q p))) (all_tuples q plan)
    ∙ (λ i. here i + rest i)
    ∙ sym (sum_by-cons (λ part. box_size (selected_ranges q part)) p plan)

-- the different columns
has-different : (xs : List Attr) (a : Attr) → Has xs a → Has (different xs) a
has-different [] a h = elim h [ ]
has-different (b ∷ xs) a h = elim (true_or_false (attr_eq b a)) [
  | inl e ↦ Has-head a b _ (attr_eq-is b a e)
  | inr e ↦ elim (has_cases b a xs h) [
    | inl f ↦ Has-head a b _ f
    | inr k ↦ later (Has-filter (λ c. not (attr_eq b c)) (ap not e) (has-different xs a k))
  ]
]

different-from : (xs : List Attr) (a : Attr) → Has (different xs) a → Has xs a
different-from [] a h = elim h [ ]
different-from (b ∷ xs) a h = elim (has_cases b a (filter (λ c. not (attr_eq b c)) (different xs)) h) [
  | inl e ↦ Has-head a b xs e
  | inr k ↦ later (different-from xs a (Has-filter_from (λ c. not (attr_eq b c)) (different xs) a k))
]

at_column-is : (cs : List Attr) (v : Assignment) (a : Attr) → Has cs a → at_column cs (map v cs) a ≡ v a
at_column-is [] v a h = elim h [ ]
at_column-is (b ∷ cs) v a h = by (attr_eq b a) refl (at_column-is cs v a)
  where
    by : (c : Bool) → attr_eq b a ≡ c → (Has cs a → at_column cs (map v cs) a ≡ v a)
        → cond c (v b) (at_column cs (map v cs) a) ≡ v a
    by true e f = ap v (attr_eq-is b a e)
    by false e f = f (elim (has_cases b a cs h) [
      | inl g ↦ absurd (not_both (attr_eq b a) (subst (λ x. attr_eq b x ≡ true) g (attr_eq-itself b)) e)
      | inr k ↦ k
    ])

has-box : (g : Attr → Dim) (v : Assignment) (cs : List Attr) → ((a : Attr) → Has cs a → Has (values_in (g a)) (v a))
    → Has (box (map g cs)) (map v cs)
has-box g v [] h = first
has-box g v (a ∷ cs) h =
    has-flat_map (λ x. map (λ c. x ∷ c) (box (map g cs))) (values_in (g a)) (v a) (v a ∷ map v cs) (h a first)
    (Has-map (λ c. v a ∷ c) (has-box g v cs (λ b k. h b (later k))))

-- an assignment whose selected columns lie in the ranges of a part has its tuple among all
pub tuple-in : (q : QueryValue) (plan : List PartPlan) (p : PartPlan) → Has plan p → (v : Assignment)
    → ((a : Attr) → Has q.select a → Has (values_in (range_of q p a)) (v a)) → Has (all_tuples q plan) (projected q v)
tuple-in q plan p k v h =
    let g : List ℤ → List ℤ = λ xs. map (at_column (different q.select) xs) q.select in
    let e : g (map v (different q.select)) ≡ projected q v
    = same_map (at_column (different q.select) (map v (different q.select))) v q.select (λ a i. at_column-is (different q.select) v a (has-different q.select a i)) in
    has-flat_map (λ part. map g (box (selected_ranges q part))) plan p (projected q v) k
    (subst (λ t. Has (map g (box (selected_ranges q p))) t) e (Has-map g (has-box (range_of q p) v (different q.select) (λ a i. h a (different-from q.select a i)))))

pub has-from : (lo : ℤ) (n i : ℕ) → i < n → Has (values_from lo n) (lo +ℤ pos i)
has-from lo zero i h = absurd (omega (arith, h))
has-from lo (suc n) zero h = Has-head _ lo _ (omega (arith, ints))
has-from lo (suc n) (suc i) h =
    let e : ((lo +ℤ pos 1) +ℤ pos i) ≡ (lo +ℤ pos (suc i)) = omega (arith, ints) in
    later (subst (λ z. Has (values_from (lo +ℤ pos 1) n) z) e (has-from (lo +ℤ pos 1) n i (omega (arith, h))))

pub value-in : (d : Dim) (x : ℤ) → d.lo ≤ℤ x → x ≤ℤ d.hi → Has (values_in d) x
value-in d x l u =
    subst (λ y. Has (values_in d) y) (Boxes.step-back d.lo x l) (has-from d.lo (dim_size d) (nat_abs (x -ℤ d.lo)) (Boxes.range-inside d.lo d.hi x l u))

-- the range of a column is that of a dim to which it is tied
pub first_tied-is : (are_tied : Attr → Attr → Bool) (dims : List Dim) (a : Attr) (d : Dim) → Has dims d → are_tied d.attr a ≡ true
    → Has dims (first_tied are_tied dims a) × (are_tied (first_tied are_tied dims a).attr a ≡ true)
first_tied-is are_tied [] a d k t = elim k [ ]
first_tied-is are_tied (o ∷ dims) a d k t = by (are_tied o.attr a) refl (first_tied-is are_tied dims a d)
  where
    by : (b : Bool) → are_tied o.attr a ≡ b
        → (Has dims d → are_tied d.attr a ≡ true → Has dims (first_tied are_tied dims a) × (are_tied (first_tied are_tied dims a).attr a ≡ true))
        → Has (o ∷ dims) (cond b o (first_tied are_tied dims a)) × (are_tied (cond b o (first_tied are_tied dims a)).attr a ≡ true)
    by true e f = (first, e)
    by false e f = elim (has_cases o d dims k) [
      | inl g ↦ absurd (not_both (are_tied o.attr a) (subst (λ x. are_tied x.attr a ≡ true) (sym g) t) e)
      | inr l ↦ (let r = f l t in (later r.0, r.1))
    ]

-- a part's combinations have their tuples in its box
pub fits-in : (q : QueryValue) (plan : List PartPlan) (p : PartPlan) → Has plan p → Serves q p → IsQuery q
    → (vs : List (ℕ → ℤ)) → length vs ≡ length q.from → fits q p vs ≡ true → Has (all_tuples q plan) (projected q (joined vs))
fits-in q plan p k serves well vs whole h = tuple-in q plan p k (joined vs) one
  where
    one : (a : Attr) → Has q.select a → Has (values_in (range_of q p a)) (joined vs a)
    one a i =
        let n : ℕ = a.stream in
        let c : Contains q.select a = Contains-from_has q.select a i in
        let l : n < length q.from = well.select a c in
        let v : ℕ → ℤ = at_place vs n in
        let t : admits q p n v ≡ true
        = passes_at (admits q p) 0 vs n n (and-left _ (linked p (joined vs)) h) (omega (arith, l, whole)) (omega arith) in
        let dims : List Dim = dims_at p n in
        let o : IsKept q p a = serves.selected a c in
        let r = first_tied-is (is_tied q p) dims a o.dim (Has-from_contains dims o.dim o.among) o.tied in
        let d : Dim = range_of q p a in
        let g : in_range v d ≡ true
        = all_at (in_range v) dims d (and-right (keeps_signs n (alone v) (pairs q) p.signs.items && keeps_local n (alone v) p.local) _ t) r.0 in
        let s : d.attr.stream ≡ n = All-contains (λ (x : Dim). x.attr.stream ≡ n) dims d (serves.keeps.dims n l) (Contains-from_has dims d r.0) in
        let e : v d.attr.column ≡ v a.column = serves.classes n l v t d.attr a s refl r.1 in
        subst (λ x. Has (values_in d) x) e (value-in d (v d.attr.column) (range_low _ d.lo d.hi g) (range_high _ d.lo d.hi g))

pub product-length : {X : Type 0} (ls : List (List X)) (c : List X) → Has (product ls) c → length c ≡ length ls
product-length [] c h = elim (has_cases [] c [] h) [ inl e ↦ ap length (sym e) | inr k ↦ elim k [ ] ]
product-length (l ∷ ls) c h =
    let m = flat_map-from (λ x. map (λ o. x ∷ o) (product ls)) l c h in
    let o = Has-map_from (λ o. m.0 ∷ o) (product ls) c m.2 in
    ap length (sym o.2) ∙ ap (λ n. suc n) (product-length ls o.0 o.1)

pub table-has-room : TableHasRoom
table-has-room q plan within is = (
  λ h keep t k. Contains-from_has (all_tuples q plan) t (inside h keep t (Has-from_contains (answers q h) t k)),
  λ table up all. subst (λ n. length table ≤ n) (length-all q plan)
      (no_longer table (all_tuples q plan) (climbs-distinct table (ascends_from is_before table up))
      (λ z k. Has-from_contains (all_tuples q plan) z (All-contains (Contains (all_tuples q plan)) table z all (Contains-from_has table z k)))),
)
  where
    well : IsQuery q
    well = query_within q within

    inside : (h : List Arrival) → RowsKeep q h → (t : List ℤ) → Has (answers q h) t → Has (all_tuples q plan) t
    inside h keep t k =
        let m
        = Has-map_from (λ c. projected q (assignment_of c)) (filter (λ c. holds q (assignment_of c)) (product (map (rows h) q.from))) t k in
        let c : List (List ℤ) = m.0 in
        let held : holds q (assignment_of c) ≡ true
        = filter-passes (λ c. holds q (assignment_of c)) (product (map (rows h) q.from)) c m.1 in
        let among : Has (product (map (rows h) q.from)) c
        = Has-filter_from (λ c. holds q (assignment_of c)) (product (map (rows h) q.from)) c m.1 in
        let whole : length (map by_column c) ≡ length q.from
        = length-map c by_column
        ∙ product-length (map (rows h) q.from) c (Has-filter_from (λ c. holds q (assignment_of c)) (product (map (rows h) q.from)) c m.1)
        ∙ length-map q.from (rows h) in
        let one : 1 ≡ sums (λ p. bit (fits q p (map by_column c))) plan
        = sym (ap bit held) ∙ one_takes q plan is.once (map by_column c) whole (combination-keeps q well (rows h) (history-keeps q h keep) c among) in
        let s = some-summand (λ p. bit (fits q p (map by_column c))) plan (omega (arith, one)) in
        let p : PartPlan = s.0 in
        let serves : Serves q p = All-contains (Serves q) plan p is.serves (Contains-from_has plan p s.1) in
        subst (λ u. Has (all_tuples q plan) u) m.2
        (fits-in q plan p s.1 serves well (map by_column c) whole (positive (fits q p (map by_column c)) s.2))
      where
        positive : (b : Bool) → 0 < bit b → b ≡ true
        positive true h = refl
        positive false h = absurd (omega (arith, h))
