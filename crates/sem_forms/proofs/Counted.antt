-- The announced answers are room for all tuples of a plan, and of one part they are its own.
use Rattle.std.proofs.Common.{◌≡◌, ℕ, zero, suc, ◌+◌, ◌*◌, ◌≤◌, min, ℤ, ◌≤ℤ◌, int_lt, pos, ◌+ℤ◌, ◌-ℤ◌, nat_abs, Bool, true, false, cond, IsTrue, List, [], ◌∷◌, map, length, AllPairs, Contains, inl, inr, refl, ap, ◌∙◌, subst, arith}
use Rattle.std.specs.Prelude.{IsFalse}
use Rattle.std.proofs.lemmas.Int.{ints}
use Rattle.std.proofs.lemmas.List.{length-map}
use Rattle.std.proofs.lemmas.List.Elements.{All-contains}
use Rattle.sem_query.specs.declared.atom.Attr.{Attr}
use Rattle.sem_query.specs.declared.plan.Dim.{Dim}
use Rattle.sem_query.specs.declared.plan.PartPlan.{PartPlan}
use Rattle.sem_query.specs.Query.{QueryValue}
use Rattle.sem_query.specs.Boxes.{values_from, dim_size, box_size, box}
use Rattle.sem_query.specs.Numbers.{answer_bound}
use Rattle.sem_query.specs.Ranges.{different, range_of, selected_ranges, at_column, all_tuples}
use Rattle.sem_query.specs.Sharing.{numbers_for}
use Rattle.sem_query.specs.Tuples.{is_before}
use Rattle.sem_query.proofs.BoxLaws.{length-box, step-back}
use Rattle.sem_query.proofs.Has.{Has, Has-from_contains, Contains-from_has, Has-map, Has-map_from, Has-flat_map, Has-flat_map_from}
use Rattle.sem_query.proofs.Unique.{Ascends, more, ascends_from}
use Rattle.sem_laws.proofs.OnePartFits.{has_cases}
use Rattle.sem_laws.proofs.Order.{before-itself}
use Rattle.sem_laws.proofs.TableRoom.{Distinct, no_longer, value-in, length-all}
use Rattle.sem_laws.proofs.Tests.{not_both}
use Rattle.sem_forms.specs.Answers.{least_end, greatest_end, hull, hull_bound, announced_answers, HoldsAllTuples}
use Rattle.sem_forms.specs.Parts.{form_numbers}
use Rattle.sem_forms.specs.Laws.{AnnouncedAnswersHold}

-- ---- the hull of a column holds its range in each part

least_below : (q : QueryValue) (ps : List PartPlan) (a : Attr) (z : ℤ) → least_end q ps a z ≤ℤ z
least_below q [] a z = omega (arith, ints)
least_below q (p ∷ ps) a z = by (int_lt (range_of q p a).lo z) refl (least_below q ps a)
  where
    by : (b : Bool) → int_lt (range_of q p a).lo z ≡ b → ((x : ℤ) → least_end q ps a x ≤ℤ x) → least_end q ps a (cond b (range_of q p a).lo z) ≤ℤ z
    by true e f = (let l : least_end q ps a (range_of q p a).lo ≤ℤ (range_of q p a).lo = f (range_of q p a).lo in grind (arith, ints, e, l))
    by false e f = f z

least_of : (q : QueryValue) (ps : List PartPlan) (a : Attr) (z : ℤ) (p : PartPlan) → Has ps p → least_end q ps a z ≤ℤ (range_of q p a).lo
least_of q [] a z p h = elim h [ ]
least_of q (o ∷ ps) a z p h = by (int_lt (range_of q o a).lo z) refl (λ x. least_of q ps a x p)
  where
    own : (x : ℤ) → x ≤ℤ (range_of q o a).lo → (Has ps p → least_end q ps a x ≤ℤ (range_of q p a).lo) → least_end q ps a x ≤ℤ (range_of q p a).lo
    own x l f = elim (has_cases o p ps h) [
      | inl e ↦ (let m : least_end q ps a x ≤ℤ x = least_below q ps a x in subst (λ (r : PartPlan). least_end q ps a x ≤ℤ (range_of q r a).lo) e (omega (arith, ints, l, m)))
      | inr k ↦ f k
    ]

    by : (b : Bool) → int_lt (range_of q o a).lo z ≡ b → ((x : ℤ) → Has ps p → least_end q ps a x ≤ℤ (range_of q p a).lo)
        → least_end q ps a (cond b (range_of q o a).lo z) ≤ℤ (range_of q p a).lo
    by true e f = own (range_of q o a).lo (omega (arith, ints)) (f (range_of q o a).lo)
    by false e f = own z (grind (arith, ints, e)) (f z)

greatest_above : (q : QueryValue) (ps : List PartPlan) (a : Attr) (z : ℤ) → z ≤ℤ greatest_end q ps a z
greatest_above q [] a z = omega (arith, ints)
greatest_above q (p ∷ ps) a z = by (int_lt z (range_of q p a).hi) refl (greatest_above q ps a)
  where
    by : (b : Bool) → int_lt z (range_of q p a).hi ≡ b → ((x : ℤ) → x ≤ℤ greatest_end q ps a x) → z ≤ℤ greatest_end q ps a (cond b (range_of q p a).hi z)
    by true e f = (let l : (range_of q p a).hi ≤ℤ greatest_end q ps a (range_of q p a).hi = f (range_of q p a).hi in grind (arith, ints, e, l))
    by false e f = f z

greatest_of : (q : QueryValue) (ps : List PartPlan) (a : Attr) (z : ℤ) (p : PartPlan) → Has ps p → (range_of q p a).hi ≤ℤ greatest_end q ps a z
greatest_of q [] a z p h = elim h [ ]
greatest_of q (o ∷ ps) a z p h = by (int_lt z (range_of q o a).hi) refl (λ x. greatest_of q ps a x p)
  where
    own : (x : ℤ) → (range_of q o a).hi ≤ℤ x → (Has ps p → (range_of q p a).hi ≤ℤ greatest_end q ps a x) → (range_of q p a).hi ≤ℤ greatest_end q ps a x
    own x l f = elim (has_cases o p ps h) [
      | inl e ↦ (let m : x ≤ℤ greatest_end q ps a x = greatest_above q ps a x in subst (λ (r : PartPlan). (range_of q r a).hi ≤ℤ greatest_end q ps a x) e (omega (arith, ints, l, m)))
      | inr k ↦ f k
    ]

    by : (b : Bool) → int_lt z (range_of q o a).hi ≡ b → ((x : ℤ) → Has ps p → (range_of q p a).hi ≤ℤ greatest_end q ps a x)
        → (range_of q p a).hi ≤ℤ greatest_end q ps a (cond b (range_of q o a).hi z)
    by true e f = own (range_of q o a).hi (omega (arith, ints)) (f (range_of q o a).hi)
    by false e f = own z (grind (arith, ints, e)) (f z)

-- one range lies within another
abbrev IsWithin : Dim → Dim → Type 0
IsWithin d e = (e.lo ≤ℤ d.lo) × (d.hi ≤ℤ e.hi)

ranges_in_hull : (q : QueryValue) (o : PartPlan) (ps : List PartPlan) (p : PartPlan) → Has (o ∷ ps) p → (a : Attr) → IsWithin (range_of q p a) (hull q o ps a)
ranges_in_hull q o ps p h a = elim (has_cases o p ps h) [
  | inl e ↦ subst (λ (r : PartPlan). IsWithin (range_of q r a) (hull q o ps a)) e (least_below q ps a (range_of q o a).lo, greatest_above q ps a (range_of q o a).hi)
  | inr k ↦ (least_of q ps a (range_of q o a).lo p k, greatest_of q ps a (range_of q o a).hi p k)
]

-- ---- the tuples of each part lie in the hulls

value_from : (first : ℤ) (n : ℕ) (x : ℤ) → Has (values_from first n) x → (first ≤ℤ x) × (x ≤ℤ ((first +ℤ pos n) -ℤ pos 1))
value_from z zero x h = elim h [ ]
value_from z (suc n) x h = elim (has_cases z x (values_from (z +ℤ pos 1) n) h) [
  | inl e ↦ (omega (arith, ints, e), omega (arith, ints, e))
  | inr k ↦ (let r = value_from (z +ℤ pos 1) n x k in let l = r.0 in let m = r.1 in (omega (arith, ints, l), omega (arith, ints, m)))
]

value_in_range : (d : Dim) (x : ℤ) → Has (values_from d.lo (dim_size d)) x → (d.lo ≤ℤ x) × (x ≤ℤ d.hi)
value_in_range d x = by (int_lt d.hi d.lo) refl
  where
    by : (b : Bool) → int_lt d.hi d.lo ≡ b → Has (values_from d.lo (cond b 0 (nat_abs (d.hi -ℤ d.lo) + 1))) x → (d.lo ≤ℤ x) × (x ≤ℤ d.hi)
    by true e h = elim h [ ]
    by false e h =
        let l : d.lo ≤ℤ d.hi = grind (arith, ints, e) in
        let r : (d.lo ≤ℤ x) × (x ≤ℤ ((d.lo +ℤ pos (nat_abs (d.hi -ℤ d.lo) + 1)) -ℤ pos 1)) = value_from d.lo (nat_abs (d.hi -ℤ d.lo) + 1) x h in
        let s : (d.lo +ℤ pos (nat_abs (d.hi -ℤ d.lo))) ≡ d.hi = step-back d.lo d.hi l in
        let m = r.1 in
        (r.0, omega (arith, ints, m, s))

-- each combination in the ranges is one in wider ranges
box_within : (f g : Attr → Dim) → ((a : Attr) → IsWithin (f a) (g a)) → (columns : List Attr) (xs : List ℤ) → Has (box (map f columns)) xs → Has (box (map g columns)) xs
box_within f g wide [] xs h = h
box_within f g wide (a ∷ columns) xs h =
    let m : (x : ℤ) × Has (values_from (f a).lo (dim_size (f a))) x × Has (map (λ o. x ∷ o) (box (map f columns))) xs
    = Has-flat_map_from (λ x. map (λ o. x ∷ o) (box (map f columns))) (values_from (f a).lo (dim_size (f a))) xs h in
    let o : (o : List ℤ) × Has (box (map f columns)) o × (m.0 ∷ o ≡ xs) = Has-map_from (λ o. m.0 ∷ o) (box (map f columns)) xs m.2 in
    let r : ((f a).lo ≤ℤ m.0) × (m.0 ≤ℤ (f a).hi) = value_in_range (f a) m.0 m.1 in
    let w : IsWithin (f a) (g a) = wide a in
    let low : (g a).lo ≤ℤ m.0 = (let b = r.0 in let c = w.0 in omega (arith, ints, b, c)) in
    let high : m.0 ≤ℤ (g a).hi = (let b = r.1 in let c = w.1 in omega (arith, ints, b, c)) in
    subst (Has (box (map g (a ∷ columns)))) o.2
    (Has-flat_map (λ x. map (λ o. x ∷ o) (box (map g columns))) (values_from (g a).lo (dim_size (g a))) m.0 (m.0 ∷ o.0) (value-in (g a) m.0 low high)
    (Has-map (λ o. m.0 ∷ o) (box_within f g wide columns o.0 o.1)))

-- the tuple of a combination
abbrev tuple_of : QueryValue → List ℤ → List ℤ
tuple_of q xs = map (at_column (different q.select) xs) q.select

tuples_in_hulls : (q : QueryValue) (o : PartPlan) (ps : List PartPlan) (t : List ℤ) → Has (all_tuples q (o ∷ ps)) t → Has (map (tuple_of q) (box (map (hull q o ps) (different q.select)))) t
tuples_in_hulls q o ps t h =
    let m : (p : PartPlan) × Has (o ∷ ps) p × Has (map (tuple_of q) (box (selected_ranges q p))) t = Has-flat_map_from (λ part. map (tuple_of q) (box (selected_ranges q part))) (o ∷ ps) t h in
    let x : (xs : List ℤ) × Has (box (selected_ranges q m.0)) xs × (tuple_of q xs ≡ t) = Has-map_from (tuple_of q) (box (selected_ranges q m.0)) t m.2 in
    subst (Has (map (tuple_of q) (box (map (hull q o ps) (different q.select))))) x.2
    (Has-map (tuple_of q) (box_within (range_of q m.0) (hull q o ps) (ranges_in_hull q o ps m.0 m.1) (different q.select) x.0 x.1))

-- ---- so the bounds are room for all

climbs : (ts : List (List ℤ)) → Ascends is_before ts → Distinct ts
climbs [] a = tt
climbs (t ∷ ts) (more f a) = ((λ k. not_both (is_before t t) (f t k) (before-itself t)), climbs ts a)

-- an ascending table is no longer than a list that has its tuples
has_room : (us table : List (List ℤ)) → AllPairs (λ t u. IsTrue (is_before t u)) table → ((t : List ℤ) → Has table t → Has us t) → length table ≤ length us
has_room us table up f = no_longer table us (climbs table (ascends_from is_before table up)) f

holds_answers : (q : QueryValue) (plan : List PartPlan) → HoldsAllTuples q plan (answer_bound q plan)
holds_answers q plan table up all =
    subst (λ n. length table ≤ n) (length-all q plan)
    (has_room (all_tuples q plan) table up (λ t k. Has-from_contains (all_tuples q plan) t (All-contains (Contains (all_tuples q plan)) table t all (Contains-from_has table t k))))

holds_hulls : (q : QueryValue) (plan : List PartPlan) → HoldsAllTuples q plan (hull_bound q plan)
holds_hulls q [] table up all = has_room [] table up (λ t k. Has-from_contains [] t (All-contains (Contains (all_tuples q [])) table t all (Contains-from_has table t k)))
holds_hulls q (o ∷ ps) table up all =
    let dims : List Dim = map (hull q o ps) (different q.select) in
    let n : length (map (tuple_of q) (box dims)) ≡ box_size dims = length-map (box dims) (tuple_of q) ∙ length-box dims in
    subst (λ n. length table ≤ n) n
    (has_room (map (tuple_of q) (box dims)) table up
    (λ t k. tuples_in_hulls q o ps t (Has-from_contains (all_tuples q (o ∷ ps)) t (All-contains (Contains (all_tuples q (o ∷ ps))) table t all (Contains-from_has table t k)))))

holds_announced : (q : QueryValue) (plan : List PartPlan) → HoldsAllTuples q plan (announced_answers q plan)
holds_announced q plan table up all = by q.compact
  where
    by : (b : Bool) → length table ≤ cond b (min (answer_bound q plan) (hull_bound q plan)) (answer_bound q plan)
    by true = (let m = holds_answers q plan table up all in let n = holds_hulls q plan table up all in omega (arith, m, n))
    by false = holds_answers q plan table up all

pub announced_answers_hold : AnnouncedAnswersHold
announced_answers_hold shared q plan = holds_announced q plan

-- ---- where the numbers are those of the parts

pub plain_numbers : (shared : Bool) (q : QueryValue) (plan : List PartPlan) → IsFalse q.compact → form_numbers shared q plan ≡ numbers_for shared q plan
plain_numbers shared q plan c =
    ap (λ (b : Bool). record (numbers_for shared q plan) { answers = cond b (min (answer_bound q plan) (hull_bound q plan)) (answer_bound q plan) }) c ∙ own shared
  where
    own : (b : Bool) → record (numbers_for b q plan) { answers = answer_bound q plan } ≡ numbers_for b q plan
    own false = refl
    own true = refl

-- one part is its own hull
one_hull : (q : QueryValue) (part : PartPlan) → hull_bound q (part ∷ []) ≡ answer_bound q (part ∷ [])
one_hull q part = same (different q.select) ∙ alone (box_size (selected_ranges q part))
  where
    same : (columns : List Attr) → box_size (map (hull q part []) columns) ≡ box_size (map (range_of q part) columns)
    same [] = refl
    same (a ∷ columns) = ap (λ n. dim_size (range_of q part a) * n) (same columns)

    alone : (n : ℕ) → n ≡ 0 + n
    alone n = omega arith

pub one_part_answers : (q : QueryValue) (part : PartPlan) → announced_answers q (part ∷ []) ≡ answer_bound q (part ∷ [])
one_part_answers q part = by q.compact
  where
    least : (m n : ℕ) → n ≡ m → min m n ≡ m
    least m n e = omega (arith, e)

    by : (b : Bool) → cond b (min (answer_bound q (part ∷ [])) (hull_bound q (part ∷ []))) (answer_bound q (part ∷ [])) ≡ answer_bound q (part ∷ [])
    by true = least (answer_bound q (part ∷ [])) (hull_bound q (part ∷ [])) (one_hull q part)
    by false = refl
