-- Tables of bounds: for each two elements of a query the most by which the first exceeds the second.
use Rattle.std.proofs.Common.{◌≡◌, List, [], ◌∷◌, map, cond, Bool, true, false, ◌&&◌, not, refl, ap, subst, arith, ℤ, pos, neg_ℤ, int_lt, ◌+ℤ◌, ◌-ℤ◌, ◌<ℤ◌, ◌≤ℤ◌, Some, None}
use Rattle.std.proofs.lemmas.Int.{ints}
use Rattle.std.specs.declared.option.Option.{Option}
use Rattle.std.specs.Ordering.{int_eq}
use Rattle.sem_query.specs.declared.atom.Element.{Element}
use Rattle.sem_query.specs.declared.atom.Element.TheVariants as element
use Rattle.sem_query.specs.declared.part.Sign.{Sign}
use Rattle.sem_query.specs.Query.{attr_eq}
use Rattle.sem_query.specs.Assignment.{Assignment, value}
use Rattle.sem_laws.proofs.Tests.{attr_eq-is}

-- a bound, or none
abbrev pub Bound : Type 0
Bound = Option ℤ

-- the bound holds of two integers
abbrev pub Under : ℤ → ℤ → Bound → Type 0
Under x y None = Unit {0}
Under x y (Some c) = x ≤ℤ (y +ℤ c)

-- the bound of a sum
abbrev pub plus : Bound → Bound → Bound
plus None d = None
plus (Some c) None = None
plus (Some c) (Some d) = Some (c +ℤ d)

-- the lower of two bounds
abbrev pub lower : Bound → Bound → Bound
lower None d = d
lower (Some c) None = Some c
lower (Some c) (Some d) = Some (cond (int_lt d c) d c)

pub under-plus : (x y z : ℤ) (c d : Bound) → Under x y c → Under y z d → Under x z (plus c d)
under-plus x y z None d h k = tt
under-plus x y z (Some c) None h k = tt
under-plus x y z (Some c) (Some d) h k = omega (arith, ints, h, k)

pub under-lower : (x y : ℤ) (c d : Bound) → Under x y c → Under x y d → Under x y (lower c d)
under-lower x y None d h k = k
under-lower x y (Some c) None h k = h
under-lower x y (Some c) (Some d) h k = either (int_lt d c)
  where
    either : (b : Bool) → x ≤ℤ (y +ℤ cond b d c)
    either true = k
    either false = h

-- whether two elements are the same
abbrev pub same_element : Element → Element → Bool
same_element (element.Attr a) (element.Attr b) = attr_eq a b
same_element (element.Attr a) (element.Const k) = false
same_element (element.Const j) (element.Attr b) = false
same_element (element.Const j) (element.Const k) = int_eq j k

int_eq-is : (j k : ℤ) → int_eq j k ≡ true → j ≡ k
int_eq-is j k h = grind (arith, ints, h)

pub same_element-is : (x y : Element) → same_element x y ≡ true → x ≡ y
same_element-is (element.Attr a) (element.Attr b) h = ap element.Attr (attr_eq-is a b h)
same_element-is (element.Attr a) (element.Const k) h = absurd cc
same_element-is (element.Const j) (element.Attr b) h = absurd cc
same_element-is (element.Const j) (element.Const k) h = ap element.Const (int_eq-is j k h)

-- the bounds of one element over each of some elements hold
abbrev pub RowHolds : Assignment → Element → List Element → List Bound → Type 0
RowHolds v x [] row = Unit {0}
RowHolds v x (y ∷ ys) [] = Unit {0}
RowHolds v x (y ∷ ys) (c ∷ row) = Under (value x v) (value y v) c × RowHolds v x ys row

-- those of each of some elements do
abbrev pub TableHolds : Assignment → List Element → List Element → List (List Bound) → Type 0
TableHolds v all [] table = Unit {0}
TableHolds v all (x ∷ xs) [] = Unit {0}
TableHolds v all (x ∷ xs) (row ∷ table) = RowHolds v x all row × TableHolds v all xs table

-- the bound over an element
abbrev pub pick : Element → List Element → List Bound → Bound
pick y [] row = None
pick y (z ∷ zs) [] = None
pick y (z ∷ zs) (c ∷ row) = cond (same_element z y) c (pick y zs row)

-- the bounds of an element
abbrev pub row_at : Element → List Element → List (List Bound) → List Bound
row_at x [] table = []
row_at x (z ∷ zs) [] = []
row_at x (z ∷ zs) (row ∷ table) = cond (same_element z x) row (row_at x zs table)

pub pick-holds : (v : Assignment) (x y : Element) (ys : List Element) (row : List Bound) → RowHolds v x ys row → Under (value x v) (value y v) (pick y ys row)
pick-holds v x y [] row h = tt
pick-holds v x y (z ∷ zs) [] h = tt
pick-holds v x y (z ∷ zs) (c ∷ row) h = by (same_element z y) (λ e. same_element-is z y e) (pick-holds v x y zs row h.1)
  where
    by : (b : Bool) → (b ≡ true → z ≡ y) → Under (value x v) (value y v) (pick y zs row) → Under (value x v) (value y v) (cond b c (pick y zs row))
    by true f k = subst (λ (t : Element). Under (value x v) (value t v) c) (f refl) h.0
    by false f k = k

row-nothing : (v : Assignment) (x : Element) (all : List Element) → RowHolds v x all []
row-nothing v x [] = tt
row-nothing v x (y ∷ ys) = tt

pub row_at-holds : (v : Assignment) (x : Element) (all xs : List Element) (table : List (List Bound)) → TableHolds v all xs table → RowHolds v x all (row_at x xs table)
row_at-holds v x all [] table h = row-nothing v x all
row_at-holds v x all (z ∷ zs) [] h = row-nothing v x all
row_at-holds v x all (z ∷ zs) (row ∷ table) h = by (same_element z x) (λ e. same_element-is z x e) (row_at-holds v x all zs table h.1)
  where
    by : (b : Bool) → (b ≡ true → z ≡ x) → RowHolds v x all (row_at x zs table) → RowHolds v x all (cond b row (row_at x zs table))
    by true f k = subst (λ (t : Element). RowHolds v t all row) (f refl) h.0
    by false f k = k

-- the bound of one element over another
abbrev pub bound : List Element → List (List Bound) → Element → Element → Bound
bound all table x y = pick y all (row_at x all table)

pub bound-holds : (v : Assignment) (all : List Element) (table : List (List Bound)) → TableHolds v all all table → (x y : Element) → Under (value x v) (value y v) (bound all table x y)
bound-holds v all table h x y = pick-holds v x y all (row_at x all table) (row_at-holds v x all all table h)

-- the bounds of x where it is at most so much above y
abbrev pub merged : List Bound → Bound → List Bound → List Bound
merged [] d others = []
merged (c ∷ row) d [] = c ∷ row
merged (c ∷ row) d (e ∷ others) = lower c (plus d e) ∷ merged row d others

merged-holds : (v : Assignment) (x y : Element) (zs : List Element) (row : List Bound) (d : Bound) (others : List Bound)
    → RowHolds v x zs row → Under (value x v) (value y v) d → RowHolds v y zs others → RowHolds v x zs (merged row d others)
merged-holds v x y [] row d others h k l = tt
merged-holds v x y (z ∷ zs) [] d others h k l = tt
merged-holds v x y (z ∷ zs) (c ∷ row) d [] h k l = h
merged-holds v x y (z ∷ zs) (c ∷ row) d (e ∷ others) h k l = (
  under-lower (value x v) (value z v) c (plus d e) h.0 (under-plus (value x v) (value y v) (value z v) d e k l.0),
  merged-holds v x y zs row d others h.1 k l.1,
)

-- the table with one more bound, of x over y
abbrev pub with_bound : List Element → List (List Bound) → Element → Element → ℤ → List (List Bound)
with_bound all table x y c = map (λ row. merged row (plus (pick x all row) (Some c)) (row_at y all table)) table

rows-with : (v : Assignment) (all : List Element) (x y : Element) (c : ℤ) (others : List Bound) (xs : List Element) (table : List (List Bound))
    → value x v ≤ℤ (value y v +ℤ c) → RowHolds v y all others → TableHolds v all xs table
    → TableHolds v all xs (map (λ row. merged row (plus (pick x all row) (Some c)) others) table)
rows-with v all x y c others [] table h l t = tt
rows-with v all x y c others (z ∷ zs) [] h l t = tt
rows-with v all x y c others (z ∷ zs) (row ∷ table) h l t = (
  merged-holds v z y all row (plus (pick x all row) (Some c)) others t.0
      (under-plus (value z v) (value x v) (value y v) (pick x all row) (Some c) (pick-holds v z x all row t.0) h) l,
  rows-with v all x y c others zs table h l t.1,
)

pub with_bound-holds : (v : Assignment) (all : List Element) (table : List (List Bound)) (x y : Element) (c : ℤ)
    → value x v ≤ℤ (value y v +ℤ c) → TableHolds v all all table → TableHolds v all all (with_bound all table x y c)
with_bound-holds v all table x y c h t = rows-with v all x y c (row_at y all table) all table h (row_at-holds v y all all table t) t

-- what is known of two elements before anything is said: of an element over itself, and of constants
abbrev pub start : Element → Element → Bound
start (element.Attr a) (element.Attr b) = cond (attr_eq a b) (Some (pos 0)) None
start (element.Attr a) (element.Const k) = None
start (element.Const j) (element.Attr b) = None
start (element.Const j) (element.Const k) = Some (j -ℤ k)

start-holds : (v : Assignment) (x y : Element) → Under (value x v) (value y v) (start x y)
start-holds v (element.Attr a) (element.Attr b) = by (attr_eq a b) (λ e. attr_eq-is a b e)
  where
    by : (t : Bool) → (t ≡ true → a ≡ b) → Under (v a) (v b) (cond t (Some (pos 0)) None)
    by true f = let e : v a ≡ v b = ap v (f refl) in omega (arith, ints, e)
    by false f = tt
start-holds v (element.Attr a) (element.Const k) = tt
start-holds v (element.Const j) (element.Attr b) = tt
start-holds v (element.Const j) (element.Const k) = omega (arith, ints)

abbrev pub first_table : List Element → List (List Bound)
first_table all = map (λ x. map (start x) all) all

first-row : (v : Assignment) (x : Element) (ys : List Element) → RowHolds v x ys (map (start x) ys)
first-row v x [] = tt
first-row v x (y ∷ ys) = (start-holds v x y, first-row v x ys)

first-rows : (v : Assignment) (all xs : List Element) → TableHolds v all xs (map (λ x. map (start x) all) xs)
first-rows v all [] = tt
first-rows v all (x ∷ xs) = (first-row v x all, first-rows v all xs)

pub first_table-holds : (v : Assignment) (all : List Element) → TableHolds v all all (first_table all)
first_table-holds v all = first-rows v all all

-- how two integers stand to each other, as a relation
abbrev pub Stands : Sign → ℤ → ℤ → Type 0
Stands Sign.Lt x y = x <ℤ y
Stands Sign.Eq x y = x ≡ y
Stands Sign.Gt x y = y <ℤ x

-- the table where two elements stand so
abbrev pub with_sign : List Element → List (List Bound) → Sign → Element → Element → List (List Bound)
with_sign all table Sign.Lt x y = with_bound all table x y (neg_ℤ (pos 1))
with_sign all table Sign.Eq x y = with_bound all (with_bound all table x y (pos 0)) y x (pos 0)
with_sign all table Sign.Gt x y = with_bound all table y x (neg_ℤ (pos 1))

pub with_sign-holds : (v : Assignment) (all : List Element) (table : List (List Bound)) (s : Sign) (x y : Element)
    → Stands s (value x v) (value y v) → TableHolds v all all table → TableHolds v all all (with_sign all table s x y)
with_sign-holds v all table Sign.Lt x y h t = with_bound-holds v all table x y (neg_ℤ (pos 1)) (omega (arith, ints, h)) t
with_sign-holds v all table Sign.Eq x y h t =
    with_bound-holds v all (with_bound all table x y (pos 0)) y x (pos 0) (omega (arith, ints, h))
    (with_bound-holds v all table x y (pos 0) (omega (arith, ints, h)) t)
with_sign-holds v all table Sign.Gt x y h t = with_bound-holds v all table y x (neg_ℤ (pos 1)) (omega (arith, ints, h)) t

-- the bound says so much
abbrev pub at_most : Bound → ℤ → Bool
at_most None c = false
at_most (Some b) c = not (int_lt c b)

pub at_most-is : (x y : ℤ) (b : Bound) (c : ℤ) → at_most b c ≡ true → Under x y b → x ≤ℤ (y +ℤ c)
at_most-is x y None c e h = absurd cc
at_most-is x y (Some b) c e h = let l : b ≤ℤ c = grind (arith, ints, e) in omega (arith, ints, h, l)

-- whether two elements can stand so by the table
abbrev pub possible : List Element → List (List Bound) → Sign → Element → Element → Bool
possible all table Sign.Lt x y = not (at_most (bound all table y x) (pos 0))
possible all table Sign.Eq x y = not (at_most (bound all table x y) (neg_ℤ (pos 1))) && not (at_most (bound all table y x) (neg_ℤ (pos 1)))
possible all table Sign.Gt x y = not (at_most (bound all table x y) (pos 0))

not-false : (b : Bool) → (b ≡ true → ⊥) → not b ≡ true
not-false true f = absurd (f refl)
not-false false f = refl

both-true : (a b : Bool) → a ≡ true → b ≡ true → (a && b) ≡ true
both-true a b h k = rw h k

pub possible-if : (v : Assignment) (all : List Element) (table : List (List Bound)) (s : Sign) (x y : Element)
    → TableHolds v all all table → Stands s (value x v) (value y v) → possible all table s x y ≡ true
possible-if v all table Sign.Lt x y t h =
    not-false _ (λ e. (let l : value y v ≤ℤ (value x v +ℤ pos 0) = at_most-is (value y v) (value x v) (bound all table y x) (pos 0) e (bound-holds v all table t y x) in omega (arith, ints, l, h)))
possible-if v all table Sign.Eq x y t h = both-true _ _
    (not-false _ (λ e. (let l : value x v ≤ℤ (value y v +ℤ neg_ℤ (pos 1)) = at_most-is (value x v) (value y v) (bound all table x y) (neg_ℤ (pos 1)) e (bound-holds v all table t x y) in omega (arith, ints, l, h))))
    (not-false _ (λ e. (let l : value y v ≤ℤ (value x v +ℤ neg_ℤ (pos 1)) = at_most-is (value y v) (value x v) (bound all table y x) (neg_ℤ (pos 1)) e (bound-holds v all table t y x) in omega (arith, ints, l, h))))
possible-if v all table Sign.Gt x y t h =
    not-false _ (λ e. (let l : value x v ≤ℤ (value y v +ℤ pos 0) = at_most-is (value x v) (value y v) (bound all table x y) (pos 0) e (bound-holds v all table t x y) in omega (arith, ints, l, h)))
