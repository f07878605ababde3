-- Whether a tuple lies in the ranges of some part: the different selected columns have the values that it has at their first places, these
-- values lie in the ranges, and they spell the tuple.
use Rattle.std.proofs.Common.{◌≡◌, ℕ, zero, suc, ◌+◌, ◌<◌, ◌≤ℤ◌, inl, inr, ◌&&◌, ◌||◌, not, int_le, cond, Bool, true, false, ℤ, List, [], ◌∷◌, map, filter, length, drop, get_or, refl, sym, ap, ◌∙◌, subst, arith}
use Rattle.std.specs.List.{list_any}
use Rattle.std.proofs.lemmas.Int.{ints}
use Rattle.std.proofs.lemmas.List.{length-map, drop_more}
use Rattle.sem_query.specs.declared.atom.Attr.{Attr}
use Rattle.sem_query.specs.declared.plan.Dim.{Dim}
use Rattle.sem_query.specs.declared.plan.PartPlan.{PartPlan}
use Rattle.sem_query.specs.Query.{QueryValue, attr_eq}
use Rattle.sem_query.specs.Tuples.{is_same}
use Rattle.sem_query.specs.Boxes.{box, box_size, place_of, values_at, AreInside}
use Rattle.sem_query.specs.Ranges.{different, range_of, selected_ranges, at_column, all_tuples}
use Rattle.sem_query.proofs.Has.{Has, first, later, Has-head, Has-map, Has-map_from, Has-filter_from, Has-filter_holds, Has-flat_map, Has-flat_map_from, same_map}
use Rattle.sem_query.proofs.BoxLaws.{place-below, values-inside, values-place, length-box, at-box, as-many}
use Rattle.sem_laws.proofs.Tests.{and-left, and-right, and-both, any_from, any_if, same_bool, attr_eq-is, attr_eq-itself, not_both}
use Rattle.sem_laws.proofs.Order.{same-is, same-itself}
use Rattle.sem_laws.proofs.OnePartFits.{has_cases}
use Rattle.exec_restore.specs.Loadable.{are_inside}

low-high : (d : Dim) (x : ℤ) → (int_le d.lo x && int_le x d.hi) ≡ true → (d.lo ≤ℤ x) × (x ≤ℤ d.hi)
low-high d x h =
    let l : int_le d.lo x ≡ true = and-left _ (int_le x d.hi) h in
    let u : int_le x d.hi ≡ true = and-right (int_le d.lo x) _ h in
    (grind (arith, ints, l), grind (arith, ints, u))

between : (d : Dim) (x : ℤ) → d.lo ≤ℤ x → x ≤ℤ d.hi → (int_le d.lo x && int_le x d.hi) ≡ true
between d x l u =
    let a : int_le d.lo x ≡ true = grind (arith, ints, l) in
    let b : int_le x d.hi ≡ true = grind (arith, ints, u) in
    and-both (int_le d.lo x) (int_le x d.hi) a b

-- the test says that the values lie in the ranges
inside-then : (dims : List Dim) (xs : List ℤ) → are_inside dims xs ≡ true → AreInside dims xs
inside-then [] [] h = tt
inside-then [] (x ∷ xs) h = absurd cc
inside-then (d ∷ dims) [] h = absurd cc
inside-then (d ∷ dims) (x ∷ xs) h =
    let b = low-high d x (and-left _ (are_inside dims xs) h) in
    (b.0, b.1, inside-then dims xs (and-right (int_le d.lo x && int_le x d.hi) _ h))

inside-if : (dims : List Dim) (xs : List ℤ) → AreInside dims xs → are_inside dims xs ≡ true
inside-if [] [] h = refl
inside-if [] (x ∷ xs) h = absurd h
inside-if (d ∷ dims) [] h = absurd h
inside-if (d ∷ dims) (x ∷ xs) h = and-both (int_le d.lo x && int_le x d.hi) (are_inside dims xs) (between d x h.0 h.1) (inside-if dims xs h.2)

has-get : {A : Type 0} (xs : List A) (i : ℕ) (d : A) → i < length xs → Has xs (get_or xs i d)
has-get [] i d l = absurd (omega (arith, l))
has-get (x ∷ xs) zero d l = first
has-get (x ∷ xs) (suc i) d l = later (has-get xs i d (omega (arith, l)))

-- the combinations of a box are those that lie in the ranges
in-box : (dims : List Dim) (xs : List ℤ) → AreInside dims xs → Has (box dims) xs
in-box dims xs h =
    let l : place_of dims xs < box_size dims = place-below dims xs h in
    subst (λ ys. Has (box dims) ys) (at-box dims (place_of dims xs) l ∙ values-place dims xs h)
    (has-get (box dims) (place_of dims xs) [] (let n = length-box dims in omega (arith, n, l)))

numbered : {A : Type 0} (xs : List A) (x d : A) → Has xs x → (i : ℕ) × (i < length xs) × (get_or xs i d ≡ x)
numbered [] x d h = elim h [ ]
numbered (y ∷ xs) x d first = (0, omega arith, refl)
numbered (y ∷ xs) x d (later h) = let r = numbered xs x d h in (suc r.0, (let l = r.1 in omega (arith, l)), r.2)

box-inside : (dims : List Dim) (xs : List ℤ) → Has (box dims) xs → AreInside dims xs
box-inside dims xs h =
    let r = numbered (box dims) xs [] h in
    let l : r.0 < box_size dims = (let k = r.1 in let n = length-box dims in omega (arith, k, n)) in
    subst (AreInside dims) (sym (at-box dims r.0 l) ∙ r.2) (values-inside dims r.0 l)

-- the different columns are among the columns
pub different-among : (columns : List Attr) (a : Attr) → Has (different columns) a → Has columns a
different-among [] a h = elim h [ ]
different-among (b ∷ columns) a h = elim (has_cases b a (filter (λ c. not (attr_eq b c)) (different columns)) h) [
  | inl e ↦ Has-head a b columns e
  | inr k ↦ later (different-among columns a (Has-filter_from (λ c. not (attr_eq b c)) (different columns) a k))
]

-- the values that columns have in a tuple of theirs
column-value : (columns : List Attr) (v : Attr → ℤ) (a : Attr) → Has columns a → at_column columns (map v columns) a ≡ v a
column-value [] v a h = elim h [ ]
column-value (b ∷ columns) v a h = by (attr_eq b a) refl (column-value columns v a)
  where
    by : (c : Bool) → attr_eq b a ≡ c → (Has columns a → at_column columns (map v columns) a ≡ v a)
        → cond c (v b) (at_column columns (map v columns) a) ≡ v a
    by true e f = ap v (attr_eq-is b a e)
    by false e f = f (elim (has_cases b a columns h) [
      | inl g ↦ absurd (not_both (attr_eq b a) (subst (λ x. attr_eq b x ≡ true) g (attr_eq-itself b)) e)
      | inr k ↦ k
    ])

-- no column stands in the list twice
abbrev pub AreApart : List Attr → Type 0
AreApart [] = Unit {0}
AreApart (a ∷ columns) = ((b : Attr) → Has columns b → attr_eq a b ≡ false) × AreApart columns

apart-filter : (p : Attr → Bool) (columns : List Attr) → AreApart columns → AreApart (filter p columns)
apart-filter p [] h = tt
apart-filter p (a ∷ columns) h = by (p a) (apart-filter p columns h.1)
  where
    by : (b : Bool) → AreApart (filter p columns) → AreApart (cond b (a ∷ filter p columns) (filter p columns))
    by true k = ((λ b m. h.0 b (Has-filter_from p columns b m)), k)
    by false k = k

turned : (b : Bool) → not b ≡ true → b ≡ false
turned true h = absurd cc
turned false h = refl

different-apart : (columns : List Attr) → AreApart (different columns)
different-apart [] = tt
different-apart (a ∷ columns) = (
  (λ b m. turned (attr_eq a b) (Has-filter_holds (λ c. not (attr_eq a c)) (different columns) b m)),
  apart-filter (λ c. not (attr_eq a c)) (different columns) (different-apart columns),
)

-- as many values as there are columns, read column by column
values-back : (columns : List Attr) (xs : List ℤ) → AreApart columns → length columns ≡ length xs → map (at_column columns xs) columns ≡ xs
values-back [] [] apart e = refl
values-back [] (x ∷ xs) apart e = absurd (omega (arith, e))
values-back (a ∷ columns) [] apart e = absurd (omega (arith, e))
values-back (a ∷ columns) (x ∷ xs) apart e =
    let own : cond (attr_eq a a) x (at_column columns xs a) ≡ x = ap (λ c. cond c x (at_column columns xs a)) (attr_eq-itself a) in
    let rest : map (at_column (a ∷ columns) (x ∷ xs)) columns ≡ map (at_column columns xs) columns
    = same_map (at_column (a ∷ columns) (x ∷ xs)) (at_column columns xs) columns (λ b m. ap (λ c. cond c x (at_column columns xs b)) (apart.0 b m)) in
    λ j. own j ∷ (rest ∙ values-back columns xs apart.1 (omega (arith, e))) j

module _ (q : QueryValue) where
  abbrev columns : List Attr
  columns = different q.select

  -- the tuple where the different columns have these values
  abbrev spelled : List ℤ → List ℤ
  spelled xs = map (at_column columns xs) q.select

  -- the values of the different columns in a tuple
  abbrev values : List ℤ → List ℤ
  values t = map (at_column q.select t) columns

  -- a tuple that they spell has them
  values-of : (xs : List ℤ) → length columns ≡ length xs → values (spelled xs) ≡ xs
  values-of xs e =
      same_map (at_column q.select (spelled xs)) (at_column columns xs) columns
      (λ a m. column-value q.select (at_column columns xs) a (different-among q.select a m))
      ∙ values-back columns xs (different-apart q.select) e

  abbrev lies : List ℤ → PartPlan → Bool
  lies t part = are_inside (map (range_of q part) columns) (values t)

  pub among-is : (plan : List PartPlan) (t : List ℤ) → (is_same t (spelled (values t)) && list_any (lies t) plan) ≡ list_any (is_same t) (all_tuples q plan)
  among-is plan t = same_bool _ _ there back
    where
      there : (is_same t (spelled (values t)) && list_any (lies t) plan) ≡ true → list_any (is_same t) (all_tuples q plan) ≡ true
      there h =
          let e : is_same t (spelled (values t)) ≡ true = and-left _ (list_any (lies t) plan) h in
          let m = any_from (lies t) plan (and-right (is_same t (spelled (values t))) _ h) in
          let k : Has (box (selected_ranges q m.0)) (values t) = in-box (selected_ranges q m.0) (values t) (inside-then (selected_ranges q m.0) (values t) m.2) in
          any_if (is_same t) (all_tuples q plan) (spelled (values t))
          (Has-flat_map (λ part. map spelled (box (selected_ranges q part))) plan m.0 (spelled (values t)) m.1 (Has-map spelled k)) e

      back : list_any (is_same t) (all_tuples q plan) ≡ true → (is_same t (spelled (values t)) && list_any (lies t) plan) ≡ true
      back h =
          let u = any_from (is_same t) (all_tuples q plan) h in
          let m = Has-flat_map_from (λ part. map spelled (box (selected_ranges q part))) plan u.0 u.1 in
          let xs = Has-map_from spelled (box (selected_ranges q m.0)) u.0 m.2 in
          let inside : AreInside (selected_ranges q m.0) xs.0 = box-inside (selected_ranges q m.0) xs.0 xs.1 in
          let many : length columns ≡ length xs.0
          = sym (length-map columns (range_of q m.0)) ∙ as-many (selected_ranges q m.0) xs.0 inside in
          let is : t ≡ spelled xs.0 = same-is t u.0 u.2 ∙ sym xs.2 in
          let own : values t ≡ xs.0 = ap values is ∙ values-of xs.0 many in
          let whole : is_same t (spelled (values t)) ≡ true
          = ap (λ ys. is_same t (spelled ys)) own ∙ ap (is_same t) (sym is) ∙ same-itself t in
          and-both _ _ whole
          (any_if (lies t) plan m.0 m.1 (ap (are_inside (selected_ranges q m.0)) own ∙ inside-if (selected_ranges q m.0) xs.0 inside))

-- the same, by names of the columns and of their values
pub among-by : (q : QueryValue) (plan : List PartPlan) (t : List ℤ) (cs : List Attr) (xs : List ℤ) → cs ≡ different q.select
    → xs ≡ map (at_column q.select t) (different q.select)
    → (is_same t (map (at_column cs xs) q.select) && list_any (λ part. are_inside (map (range_of q part) cs) xs) plan) ≡ list_any (is_same t) (all_tuples q plan)
among-by q plan t cs xs e f =
    (λ j. is_same t (map (at_column (e j) (f j)) q.select) && list_any (λ part. are_inside (map (range_of q part) (e j)) (f j)) plan) ∙ among-is q plan t

-- a test of the parts from a number on
pub any-step : (p : PartPlan → Bool) (plan : List PartPlan) (k : ℕ) (part : PartPlan) → k < length plan → part ≡ get_or plan k part
    → list_any p (drop k plan) ≡ (p part || list_any p (drop (k + 1) plan))
any-step p plan k part l e =
    ap (list_any p) (drop_more plan k part l) ∙ ap (λ (x : PartPlan). p x || list_any p (drop (k + 1) plan)) (sym e)
