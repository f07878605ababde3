-- The ranges of the selected columns lie among the integers that may be written, so that their tuples are of integers of 64 bits.
use Rattle.std.proofs.Common.{◌≡◌, ℕ, zero, suc, ◌<◌, ◌≤◌, ◌^◌, inl, inr, Bool, true, false, cond, not, ◌||◌, int_eq, nat_lt, ℤ, pos, negsuc, ◌+ℤ◌, ◌-ℤ◌, ◌≤ℤ◌, List, [], ◌∷◌, map, Contains, IsFalse, refl, sym, ap, ap₂, ◌∙◌, subst, arith}
use Rattle.std.specs.List.{AllByRecursion, list_any}
use Rattle.std.specs.declared.option.Option.TheVariants.{None}
use Rattle.std.proofs.lemmas.Bool.Decides.{nat_tests, Decides-int_eq}
use Rattle.std.proofs.lemmas.Int.{ints, by_lt_z}
use Rattle.std.proofs.lemmas.List.Elements.{All-contains}
use Rattle.sql_text.specs.Value.{fits_i64}
use Rattle.sem_query.specs.declared.atom.Attr.{Attr}
use Rattle.sem_query.specs.declared.atom.Atom.{Atom}
use Rattle.sem_query.specs.declared.atom.Domain.{Domain}
use Rattle.sem_query.specs.declared.atom.Element.{Element}
use Rattle.sem_query.specs.declared.atom.Element.TheVariants as element
use Rattle.sem_query.specs.declared.atom.Op.{Op}
use Rattle.sem_query.specs.declared.atom.Op.TheVariants as ops
use Rattle.sem_query.specs.declared.part.Sign.{Sign}
use Rattle.sem_query.specs.declared.plan.Dim.{Dim}
use Rattle.sem_query.specs.declared.plan.PartPlan.{PartPlan}
use Rattle.sem_query.specs.Query.{QueryValue, IsWithinLimits, IsShort, IsDomain, is_filter, attr_eq, attrs_of, consts_of}
use Rattle.sem_query.specs.Assignment.{Assignment, value, compares, lies_in, AtomHolds}
use Rattle.sem_query.specs.Parts.{pairs, sign, sign_at, signs_of, InPart}
use Rattle.sem_query.specs.Order.{IsElement, IsLeast, IsGreatest}
use Rattle.sem_query.specs.Violation.{IsViolation}
use Rattle.sem_query.specs.Plan.{ArePartPlans, dims_at}
use Rattle.sem_query.specs.Combinations.{any_ties, binds, is_tied}
use Rattle.sem_query.specs.Boxes.{dim_size, values_from, box}
use Rattle.sem_query.specs.Ranges.{different, first_tied, range_of, selected_ranges, at_column, all_tuples}
use Rattle.sem_query.proofs.Has.{Has, first, later, Contains-from_has, Has-map_from, Has-filter_from, Has-flat_map_from, same_map}
use Rattle.sem_query.proofs.Holding.{Holds-each, Holds-from_each}
use Rattle.sem_query.proofs.Elements.{SidesIn, sides_in, element_from_has}
use Rattle.sem_query.proofs.Local.{PairIn, pair_named}
use Rattle.sem_query.proofs.Domains.{lies_low, lies_high, keeps_each, each_keeps}
use Rattle.sem_query.proofs.BoxLaws.{range-below}
use Rattle.sem_laws.proofs.OnePartFits.{has_cases}
use Rattle.sem_laws.proofs.Tests.{same_bool}
use Rattle.sem_laws.proofs.Tying.{ranges-are-exact}
use Rattle.plan_split_pairs.specs.SplitParts.{IsSplitPart}
use Rattle.sem_whole.specs.Signed.{IsWellFormed}
use Rattle.sem_whole.proofs.Formed.{well_formed}
use Rattle.sem_forms.specs.Part.{IsWholePartPlan}
use Rattle.sem_forms.specs.Split.{part_query, IsSplitPlan}
use Rattle.sem_forms.specs.Parts as parted
use Rattle.sem_forms.specs.Parts.{IsFormViolation, IsPartsFor}
use Rattle.sem_forms.specs.Forms.{MeetsForm, IsFormPlan}
use Rattle.sem_forms.specs.Forms as forms
use Rattle.sem_forms.proofs.WholeServes.{selected_own}
use Rattle.sem_forms.proofs.FormLinks.{no_ties}
use Rattle.sem_forms.proofs.PartQueries.{part_queries_are_well_formed}
use Rattle.sem_forms.proofs.SplitServes.{zip_right}
use Rattle.sem_forms.proofs.PartsVerdicts.{plain_violation}
use Rattle.sem_forms.proofs.Forms.{plans_of}
use Rattle.law_resume.proofs.Spreading.{lowest, highest, Spreads, lowered, raised, lowering, raising, lower_still, higher_still}
use Rattle.law_resume.proofs.OwnRanges.{low_written, high_written}

-- an integer of 64 bits
abbrev pub Fits : ℤ → Type 0
Fits z = fits_i64 z ≡ true

module _ (f : ℤ → ℤ) (s : Spreads f) where
  equal_kept : (x y : ℤ) → int_eq (f x) (f y) ≡ int_eq x y
  equal_kept x y =
      same_bool (int_eq (f x) (f y)) (int_eq x y) (λ h. (Decides-int_eq x y).1 (s.same x y ((Decides-int_eq (f x) (f y)).0 h)))
      (λ h. (Decides-int_eq (f x) (f y)).1 (ap f ((Decides-int_eq x y).0 h)))

  compares_kept : (o : Op) (x y : ℤ) → compares o (f x) (f y) ≡ compares o x y
  compares_kept ops.Lt x y = s.less x y
  compares_kept ops.Eq x y = equal_kept x y
  compares_kept ops.Gt x y = s.less y x
  compares_kept ops.Le x y = ap not (s.less y x)
  compares_kept ops.Ge x y = ap not (s.less x y)
  compares_kept ops.Ne x y = ap not (equal_kept x y)

  sign_kept : (x y : ℤ) → sign (f x) (f y) ≡ sign x y
  sign_kept x y = ap₂ (λ (a b : Bool). cond {A = Sign} a Sign.Lt (cond b Sign.Gt Sign.Eq)) (s.less x y) (s.less y x)

  module _ (q : QueryValue) (w : IsWithinLimits q) (signs : List Sign) (v : Assignment) (i : InPart q signs v) where
    unfoldable moved : Assignment
    moved a = f (v a)

    const_stays : (k : ℤ) → Contains (consts_of q.atoms) k → f k ≡ k
    const_stays k c = (let h : IsShort k = All-contains IsShort (consts_of q.atoms) k w.consts c in s.stays k h.low h.high)

    value_moved : (e : Element) → IsElement q e → value e moved ≡ f (value e v)
    unfolding moved
    value_moved (element.Attr a) h = refl
    value_moved (element.Const k) h = sym (const_stays k h)

    atom_moved : (t : Atom) → Has q.atoms t → AtomHolds moved t
    atom_moved t h =
        let sides : SidesIn q.atoms t = sides_in q.atoms t h in
        let l : value t.left moved ≡ f (value t.left v) = value_moved t.left (element_from_has q t.left sides.left) in
        let r : value t.right moved ≡ f (value t.right v) = value_moved t.right (element_from_has q t.right sides.right) in
        let m : compares t.op (value t.left v) (value t.right v) ≡ true = Holds-each q v i.holds t h in
        ap₂ (λ (y z : ℤ). compares t.op y z) l r ∙ compares_kept t.op (value t.left v) (value t.right v) ∙ m

    domain_moved : (d : Domain) → Has q.domains d → lies_in d (moved d.attr) ≡ true
    unfolding moved
    domain_moved d h =
        let k : lies_in d (v d.attr) ≡ true = keeps_each q v i.domains d h in
        let own : IsDomain q d = All-contains (IsDomain q) q.domains d w.domains (Contains-from_has q.domains d h) in
        let low : d.lo ≤ℤ v d.attr = lies_low d (v d.attr) k in
        let high : v d.attr ≤ℤ d.hi = lies_high d (v d.attr) k in
        let from : lowest ≤ℤ d.lo = own.low.low in
        let to : d.hi ≤ℤ highest = own.high.high in
        subst (λ (z : ℤ). lies_in d z ≡ true) (sym (s.stays (v d.attr) (omega (arith, ints, low, from)) (omega (arith, ints, high, to)))) k

    signs_moved : signs_of q moved ≡ signs
    signs_moved =
        same_map (sign_at moved) (sign_at v) (pairs q)
        (λ p h. let sides : PairIn (attrs_of q.atoms) (consts_of q.atoms) p = pair_named q p h in
        ap₂ sign (value_moved (element.Attr p.left) (Contains-from_has _ _ sides.left)) (value_moved p.right (element_from_has q p.right sides.right))
        ∙ sign_kept (v p.left) (value p.right v))
        ∙ i.signs

    moved_in_part : InPart q signs moved
    moved_in_part = record { holds = Holds-from_each q moved atom_moved; domains = each_keeps q moved domain_moved; signs = signs_moved }

    moved_at : (a : Attr) → moved a ≡ f (v a)
    unfolding moved
    moved_at a = refl

-- the least and the greatest value of a column in a part may be written
least_within : (q : QueryValue) → IsWithinLimits q → (s : List Sign) (a : Attr) (low : ℤ) → IsLeast q s a low → lowest ≤ℤ low
least_within q w s a low h =
    by_lt_z low lowest
    (λ l. let above : low ≤ℤ moved lowered lowering q w s h.at h.inside a = h.above (moved lowered lowering q w s h.at h.inside) (moved_in_part lowered lowering q w s h.at h.inside) in
    let is : moved lowered lowering q w s h.at h.inside a ≡ low -ℤ pos 1 = moved_at lowered lowering q w s h.at h.inside a ∙ ap lowered h.reached ∙ lower_still low l in
    omega (arith, ints, above, is))
    (λ l. omega (arith, ints, l))

greatest_within : (q : QueryValue) → IsWithinLimits q → (s : List Sign) (a : Attr) (high : ℤ) → IsGreatest q s a high → high ≤ℤ highest
greatest_within q w s a high h =
    by_lt_z highest high
    (λ l. let below : moved raised raising q w s h.at h.inside a ≤ℤ high = h.below (moved raised raising q w s h.at h.inside) (moved_in_part raised raising q w s h.at h.inside) in
    let is : moved raised raising q w s h.at h.inside a ≡ high +ℤ pos 1 = moved_at raised raising q w s h.at h.inside a ∙ ap raised h.reached ∙ higher_still high l in
    omega (arith, ints, below, is))
    (λ l. omega (arith, ints, l))

-- integers that may be written have 64 bits
fits_up : (n : ℕ) → n ≤ 999999999999999 → nat_lt n (2 ^ 63) ≡ true
fits_up n l = grind (arith, nat_tests)

pub within_fits : (z : ℤ) → lowest ≤ℤ z → z ≤ℤ highest → Fits z
within_fits (pos n) l u = fits_up n (omega (arith, ints, u))
within_fits (negsuc n) l u = fits_up n (omega (arith, ints, l))

pub zero_fits : Fits (pos 0)
zero_fits = fits_up 0 (omega arith)

-- a value among so many integers from the first on
from_values : (lo : ℤ) (n : ℕ) (x : ℤ) → Has (values_from lo n) x → (k : ℕ) × (k < n) × ((lo +ℤ pos k) ≡ x)
from_values lo zero x h = elim h [ ]
from_values lo (suc n) x h = elim (has_cases lo x (values_from (lo +ℤ pos 1) n) h) [
  | inl e ↦ (0, omega arith, omega (arith, ints, e))
  | inr m ↦ (let r = from_values (lo +ℤ pos 1) n x m in let l = r.1 in let e = r.2 in (suc r.0, omega (arith, l), omega (arith, ints, e)))
]

-- the values of columns, where each lies in its range
column_fits : (cs : List Attr) (xs : List ℤ) (a : Attr) → AllByRecursion Fits xs → Fits (at_column cs xs a)
column_fits [] xs a h = zero_fits
column_fits (b ∷ cs) [] a h = zero_fits
column_fits (b ∷ cs) (x ∷ xs) a h = by (attr_eq b a) (column_fits cs xs a h.1)
  where
    by : (c : Bool) → Fits (at_column cs xs a) → Fits (cond c x (at_column cs xs a))
    by true rest = h.0
    by false rest = rest

all_columns_fit : (cs : List Attr) (xs : List ℤ) → AllByRecursion Fits xs → (select : List Attr) → AllByRecursion Fits (map (at_column cs xs) select)
all_columns_fit cs xs h [] = tt
all_columns_fit cs xs h (a ∷ select) = (column_fits cs xs a h, all_columns_fit cs xs h select)

-- the different columns are among the columns
different_among : (columns : List Attr) (a : Attr) → Has (different columns) a → Has columns a
different_among [] a h = elim h [ ]
different_among (b ∷ columns) a h = elim (has_cases b a _ h) [
  | inl e ↦ subst (λ (x : Attr). Has (b ∷ columns) x) e first
  | inr k ↦ later (different_among columns a (Has-filter_from (λ c. not (attr_eq b c)) (different columns) a k))
]

-- the ranges of the selected columns go between integers that may be written
abbrev AreWritten : QueryValue → List PartPlan → Type 0
AreWritten q plan = (part : PartPlan) → Has plan part → (a : Attr) → Has q.select a → (lowest ≤ℤ (range_of q part a).lo) × ((range_of q part a).hi ≤ℤ highest)

parts_written : (q : QueryValue) (plan : List PartPlan) → IsWithinLimits q → IsFalse (is_filter q) → ArePartPlans q plan → IsViolation q None → AreWritten q plan
parts_written q plan within plain is violation part k a i =
    let r = ranges-are-exact q plan within plain is violation part (Contains-from_has plan part k) a (Contains-from_has q.select a i) in
    (least_within q within part.signs.items a (range_of q part a).lo r.0, greatest_within q within part.signs.items a (range_of q part a).hi r.1)

-- those of a whole form are the own ranges of the columns
own_written : (q : QueryValue) (part : PartPlan) → IsWellFormed q → IsWholePartPlan q part → (a : Attr) → Has q.select a → (lowest ≤ℤ (range_of q part a).lo) × ((range_of q part a).hi ≤ℤ highest)
own_written q part formed is a i =
    let own = selected_own q formed part is a (Contains-from_has q.select a i) in
    (low_written q formed a (range_of q part a).lo own.low, high_written q formed a (range_of q part a).hi own.high)

whole_written : (q : QueryValue) (part : PartPlan) → IsWithinLimits q → IsWholePartPlan q part → AreWritten q (part ∷ [])
whole_written q part within is other k a i = elim (has_cases part other [] k) [
  | inl e ↦ subst (λ (p : PartPlan). (lowest ≤ℤ (range_of q p a).lo) × ((range_of q p a).hi ≤ℤ highest)) e (own_written q part (well_formed q within) is a i)
  | inr n ↦ elim n [ ]
]

-- without signs no pair ties two columns, so of a part without signs any two queries have the same ranges
tied_alike : (q r : QueryValue) (part : PartPlan) → part.signs.items ≡ [] → (a b : Attr) → is_tied r part a b ≡ is_tied q part a b
tied_alike q r part e a b =
    let none : (x : QueryValue) → any_ties a b (pairs x) part.signs.items ≡ false = λ x. ap (any_ties a b (pairs x)) e ∙ no_ties a b (pairs x) in
    ap (λ t. (attr_eq a b || t) || list_any (binds a b) part.local) (none r ∙ sym (none q))

first_alike : (f g : Attr → Attr → Bool) → ((a b : Attr) → f a b ≡ g a b) → (dims : List Dim) (a : Attr) → first_tied f dims a ≡ first_tied g dims a
first_alike f g same [] a = refl
first_alike f g same (d ∷ dims) a = ap₂ (λ (t : Bool) (e : Dim). cond t d e) (same d.attr a) (first_alike f g same dims a)

-- the ranges of a part of the split form are own ranges of the query with its signs
split_written : (q : QueryValue) → IsWithinLimits q → (ss : List Sign) → IsSplitPart q ss → (part : PartPlan) → IsWholePartPlan (part_query q ss) part
    → (a : Attr) → Has q.select a → (lowest ≤ℤ (range_of q part a).lo) × ((range_of q part a).hi ≤ℤ highest)
split_written q within ss of part is a i =
    let r : QueryValue = part_query q ss in
    let same : range_of r part a ≡ range_of q part a = first_alike (is_tied r part) (is_tied q part) (tied_alike q r part is.signs) (dims_at part a.stream) a in
    subst (λ (d : Dim). (lowest ≤ℤ d.lo) × (d.hi ≤ℤ highest)) same (own_written r part (part_queries_are_well_formed q within ss of) is a i)

split_plan_written : (q : QueryValue) (plan : List PartPlan) → IsWithinLimits q → IsSplitPlan q plan → AreWritten q plan
split_plan_written q plan within is part k a i =
    let own = zip_right (λ ss p. IsWholePartPlan (part_query q ss) p) is.parts plan is.plans part k in
    split_written q within own.0 (All-contains (IsSplitPart q) is.parts own.0 is.are.each (Contains-from_has is.parts own.0 own.1)) part own.2 a i

parts_of_written : (shared : Bool) (q : QueryValue) (plan : List PartPlan) → IsWithinLimits q → IsFalse (is_filter q) → IsFormViolation q None → IsPartsFor shared q plan → AreWritten q plan
parts_of_written shared q plan within plain none (parted.IsPartsFor.plain c is) = parts_written q plan within plain (plans_of shared q plan is) (plain_violation q None plain c none)
parts_of_written shared q plan within plain none (parted.IsPartsFor.split c is) = split_plan_written q plan within is.0

plan_written : (shared : Bool) (q : QueryValue) (plan : List PartPlan) → IsWithinLimits q → IsFalse (is_filter q) → MeetsForm q → IsFormPlan shared q plan → AreWritten q plan
plan_written shared q plan within plain met (forms.whole c part fits follow e) = subst (AreWritten q) (sym e) (whole_written q part within fits.plan)
plan_written shared q plan within plain met (forms.parts none is) = parts_of_written shared q plan within plain (met plain none).1 is

module _ (q : QueryValue) (plan : List PartPlan) (written : AreWritten q plan) where
  range_fits : (part : PartPlan) → Has plan part → (a : Attr) → Has q.select a → (x : ℤ) → (range_of q part a).lo ≤ℤ x → x ≤ℤ (range_of q part a).hi → Fits x
  range_fits part k a i x l u =
      let r = written part k a i in
      let low : lowest ≤ℤ (range_of q part a).lo = r.0 in
      let high : (range_of q part a).hi ≤ℤ highest = r.1 in
      within_fits x (omega (arith, ints, l, low)) (omega (arith, ints, u, high))

  box_fits : (part : PartPlan) → Has plan part → (cs : List Attr) → ((a : Attr) → Has cs a → Has q.select a) → (xs : List ℤ) → Has (box (map (range_of q part) cs)) xs → AllByRecursion Fits xs
  box_fits part k [] own xs h = elim (has_cases [] xs [] h) [
    | inl e ↦ subst (λ (ys : List ℤ). AllByRecursion Fits ys) e tt
    | inr n ↦ elim n [ ]
  ]
  box_fits part k (c ∷ cs) own xs h =
      let d : Dim = range_of q part c in
      let others : List (List ℤ) = box (map (range_of q part) cs) in
      let m = Has-flat_map_from (λ x. map (λ ys. x ∷ ys) others) (values_from d.lo (dim_size d)) xs h in
      let o = Has-map_from (λ ys. m.0 ∷ ys) others xs m.2 in
      let v = from_values d.lo (dim_size d) m.0 m.1 in
      let at : (d.lo +ℤ pos v.0) ≡ m.0 = v.2 in
      let high : (d.lo +ℤ pos v.0) ≤ℤ d.hi = range-below d.lo d.hi v.0 v.1 in
      subst (λ (ys : List ℤ). AllByRecursion Fits ys) o.2
      (range_fits part k c (own c first) m.0 (omega (arith, ints, at)) (omega (arith, ints, at, high)), box_fits part k cs (λ a i. own a (later i)) o.0 o.1)

  -- each tuple in the ranges of some part is of such integers
  tuple_fits : (t : List ℤ) → Has (all_tuples q plan) t → AllByRecursion Fits t
  tuple_fits t h =
      let m = Has-flat_map_from (λ part. map (λ xs. map (at_column (different q.select) xs) q.select) (box (selected_ranges q part))) plan t h in
      let o = Has-map_from (λ xs. map (at_column (different q.select) xs) q.select) (box (selected_ranges q m.0)) t m.2 in
      subst (λ (ys : List ℤ). AllByRecursion Fits ys) o.2
      (all_columns_fit (different q.select) o.0 (box_fits m.0 m.1 (different q.select) (λ a i. different_among q.select a i) o.0 o.1) q.select)

-- of a plan of any form
pub form_tuple_fits : (shared : Bool) (q : QueryValue) (plan : List PartPlan) → IsWithinLimits q → IsFalse (is_filter q) → MeetsForm q → IsFormPlan shared q plan
    → (t : List ℤ) → Has (all_tuples q plan) t → AllByRecursion Fits t
form_tuple_fits shared q plan within plain met is t h = tuple_fits q plan (plan_written shared q plan within plain met is) t h
