-- The worked query has its whole form.
use Rattle.std.proofs.Common.{◌≡◌, ◌↔◌, ℕ, zero, suc, ℤ, pos, neg_ℤ, ◌≤ℤ◌, ◌<ℤ◌, ◌+◌, ◌<◌, nat_abs, ◌⊎◌, inl, inr, List, [], ◌∷◌, true, not, cond, nat_eq, int_lt, Option, Some, None, Contains, refl, sym, ap, ◌∙◌, subst, arith}
use Rattle.std.proofs.lemmas.Bool.Decides.{nat_tests}
use Rattle.std.proofs.lemmas.Int.{ints}
use Rattle.sem_query.specs.declared.atom.Attr.{Attr}
use Rattle.sem_query.specs.declared.atom.Atom.{Atom}
use Rattle.sem_query.specs.declared.atom.Op.{Op}
use Rattle.sem_query.specs.declared.atom.Element.{Element}
use Rattle.sem_query.specs.declared.atom.Element.TheVariants as element
use Rattle.sem_query.specs.declared.plan.Kind.{Kind}
use Rattle.sem_query.specs.Query.{QueryValue, attrs_of, attr_lt}
use Rattle.sem_query.specs.Assignment.{Assignment, value}
use Rattle.sem_query.proofs.Has.{Has, first, later, Has-nil, Has-from_contains}
use Rattle.sem_laws.specs.Cases.{col}
use Rattle.sem_laws.proofs.Limits.{within-limits}
use Rattle.sem_laws.proofs.OnePartFits.{has_cases}
use Rattle.sem_laws.proofs.Tests.{and-left, and-right, and-both}
use Rattle.sem_whole.specs.System.{Difference, system, Solves, Bound, IsOf, AreOneClass}
use Rattle.sem_whole.specs.Links.{Follows, ranges, link, Goes, bounds, less, greater, done, stays, AreLinks}
use Rattle.sem_whole.specs.Ranges.{Range, range, whole, window, flipped}
use Rattle.sem_whole.specs.Kept as kept
use Rattle.sem_whole.specs.Kept.{IsLowest, IsHighest, IsRange, IsKeptAsItIs, IsAsked, as_it_is, IsKeptRange}
use Rattle.sem_whole.specs.Whole as Whole
use Rattle.sem_whole.specs.Whole.{KeptDim, StreamKeep, IsRead, IsServed, Serves, RowMeets, IsWholeForm}
use Rattle.sem_whole.specs.Plan.{IsOfExtreme, of_least, of_greatest, IsPlannedDim, IsPlannedStream}
use Rattle.sem_whole.specs.Cases.{under, under_closed, under_keeps, under_admits, counted, UnderIsWhole}
use Rattle.sem_whole.proofs.CutLaw.{class_itself}

-- a column has one range
low_one : (ds : List Difference) (a : Attr) (l m : Option ℤ) → IsLowest ds a l → IsLowest ds a m → l ≡ m
low_one ds a None None h k = refl
low_one ds a None (Some m) h k = absurd (h m k.0)
low_one ds a (Some l) None h k = absurd (k l h.0)
low_one ds a (Some l) (Some m) h k = let i = h.1 m k.0 in let j = k.1 l h.0 in ap (λ z. Some z) (omega (arith, ints, i, j))

high_one : (ds : List Difference) (a : Attr) (l m : Option ℤ) → IsHighest ds a l → IsHighest ds a m → l ≡ m
high_one ds a None None h k = refl
high_one ds a None (Some m) h k = absurd (h m k.0)
high_one ds a (Some l) None h k = absurd (k l h.0)
high_one ds a (Some l) (Some m) h k = let i = h.1 m k.0 in let j = k.1 l h.0 in ap (λ z. Some z) (omega (arith, ints, i, j))

pub range_one : (ds : List Difference) (a : Attr) (r s : Range) → IsRange ds a r → IsRange ds a s → r ≡ s
range_one ds a r s h k =
    let x : r.lo ≡ s.lo = low_one ds a r.lo s.lo h.low k.low in
    let y : r.hi ≡ s.hi = high_one ds a r.hi s.hi h.high k.high in
    λ i. record { lo = x i; hi = y i }

abbrev q : QueryValue
q = under_closed

abbrev s_a : Attr
s_a = col 0 0

abbrev t_c : Attr
t_c = col 1 0

abbrev links : List Atom
links = under ∷ []

-- the solutions
solves_if : (w : Assignment) → w t_c <ℤ w s_a → pos 1 ≤ℤ w t_c → w t_c ≤ℤ pos 2 → Solves (system under_closed) w
solves_if w a b c d first = omega (arith, ints, a)
solves_if w a b c d (later first) = omega (arith, ints, b)
solves_if w a b c d (later (later first)) = omega (arith, ints, c)
solves_if w a b c d (later (later (later h))) = Has-nil h

under_in : (w : Assignment) → Solves (system under_closed) w → w t_c <ℤ w s_a
under_in w s = let a = s _ first in omega (arith, ints, a)

low_in : (w : Assignment) → Solves (system under_closed) w → pos 1 ≤ℤ w t_c
low_in w s = let a = s _ (later first) in omega (arith, ints, a)

high_in : (w : Assignment) → Solves (system under_closed) w → w t_c ≤ℤ pos 2
high_in w s = let a = s _ (later (later first)) in omega (arith, ints, a)

-- S.a and T.c
at : ℤ → ℤ → Assignment
at a c x = cond (nat_eq x.stream 0) a c

some : (a c : ℤ) → c <ℤ a → pos 1 ≤ℤ c → c ≤ℤ pos 2 → Solves (system under_closed) (at a c)
unfolding at
some a c h i j = solves_if (λ x. cond (nat_eq x.stream 0) a c) h i j

range_c : IsRange (system under_closed) t_c (range (Some (pos 1)) (Some (pos 2)))
unfolding at
range_c = record {
  low = (λ w s. (let a = low_in w s in omega (arith, ints, a)), λ k b. (let a = b (at (pos 3) (pos 1)) (some (pos 3) (pos 1) (omega (arith, ints)) (omega (arith, ints)) (omega (arith, ints))) in omega (arith, ints, a)));
  high = (λ w s. (let a = high_in w s in omega (arith, ints, a)), λ k b. (let a = b (at (pos 3) (pos 2)) (some (pos 3) (pos 2) (omega (arith, ints)) (omega (arith, ints)) (omega (arith, ints))) in omega (arith, ints, a)));
}

range_a : IsRange (system under_closed) s_a (range (Some (pos 2)) None)
unfolding at
range_a = record {
  low = (λ w s. (let a = low_in w s in let b = under_in w s in omega (arith, ints, a, b)), λ k b. (let a = b (at (pos 2) (pos 1)) (some (pos 2) (pos 1) (omega (arith, ints)) (omega (arith, ints)) (omega (arith, ints))) in omega (arith, ints, a)));
  high = λ k b. (let a = b (at (pos (nat_abs k + 3)) (pos 1)) (some (pos (nat_abs k + 3)) (pos 1) (omega (arith, ints)) (omega (arith, ints)) (omega (arith, ints))) in omega (arith, ints, a));
}

stays_so : Goes (system under_closed) [] under → ⊥
unfolding at
stays_so (bounds n f) = by (f _ first)
  where
    by : Follows (system under_closed) [] (element.Attr t_c) (element.Attr s_a) (neg_ℤ (pos 1)) → ⊥
    by (ranges high low a b l) =
        let i = a (at (pos 3) (pos 2)) (some (pos 3) (pos 2) (omega (arith, ints)) (omega (arith, ints)) (omega (arith, ints))) in
        let j = b (at (pos 2) (pos 1)) (some (pos 2) (pos 1) (omega (arith, ints)) (omega (arith, ints)) (omega (arith, ints))) in
        omega (arith, ints, i, j, l)
    by (link t h d k x y a b c e l) = Has-nil h
stays_so (less e f) = absurd cc
stays_so (greater e f) = absurd cc

are_links : AreLinks under_closed links
are_links = stays stays_so done

link_is : (t : Atom) → Has links t → under ≡ t
link_is t h = elim (has_cases under t [] h) [ inl e ↦ e | inr k ↦ Has-nil k ]

attr_same : (a b : Attr) → element.Attr a ≡ element.Attr b → a ≡ b
attr_same a b e = cc

left_is : (t : Atom) → Has links t → (a : Attr) → t.left ≡ element.Attr a → t_c ≡ a
left_is t h a e = attr_same t_c a (ap (λ t. t.left) (link_is t h) ∙ e)

right_is : (t : Atom) → Has links t → (a : Attr) → t.right ≡ element.Attr a → s_a ≡ a
right_is t h a e = attr_same s_a a (ap (λ t. t.right) (link_is t h) ∙ e)

selected_is : (a : Attr) → Contains under_closed.select a → t_c ≡ a
selected_is a h = elim (has_cases t_c a [] (Has-from_contains _ a h)) [ inl e ↦ e | inr k ↦ Has-nil k ]

read_is : (a : Attr) → IsRead under_closed links a → (t_c ≡ a) ⊎ (s_a ≡ a)
read_is a (Whole.selected h) = inl (selected_is a h)
read_is a (Whole.left t h e) = inl (left_is t h a e)
read_is a (Whole.right t h e) = inr (right_is t h a e)

apart : (b : Attr) → t_c ≡ b → AreOneClass (system under_closed) s_a b → ⊥
apart b e c = let f : b.stream ≡ 1 = ap (λ a. a.stream) (sym e) in let g = c.stream in omega (arith, f, g)

apart_too : (b : Attr) → s_a ≡ b → AreOneClass (system under_closed) t_c b → ⊥
apart_too b e c = let f : b.stream ≡ 0 = ap (λ a. a.stream) (sym e) in let g = c.stream in omega (arith, f, g)

not_as_it_is : IsKeptAsItIs under_closed links s_a → ⊥
unfolding at
not_as_it_is (kept.selected b c h) = apart b (selected_is b h) c
not_as_it_is (kept.linked t h e b s c) = let f : Op.Lt ≡ Op.Eq = ap (λ t. t.op) (link_is t h) ∙ e in absurd cc
not_as_it_is (kept.equal b h n i j) = by (has_cases s_a b (t_c ∷ []) (Has-from_contains (attrs_of under_closed.atoms) b h))
  where
    other : t_c ≡ b → ⊥
    other e =
        let k = subst (λ b. Bound (system under_closed) (element.Attr s_a) (element.Attr b) (pos 0)) (sym e) i in
        let m = k (at (pos 2) (pos 1)) (some (pos 2) (pos 1) (omega (arith, ints)) (omega (arith, ints)) (omega (arith, ints))) in
        omega (arith, ints, m)

    by : (s_a ≡ b) ⊎ Has (t_c ∷ []) b → ⊥
    by (inl e) = n (ap (λ a. a.stream) (sym e))
    by (inr k) = elim (has_cases t_c b [] k) [ inl e ↦ other e | inr l ↦ Has-nil l ]

abbrev asked_a : List Range
asked_a = range (Some (pos 1)) (Some (pos 3)) ∷ []

asks_a : (w : Range) → IsAsked under_closed links s_a w → Has asked_a w
asks_a w (as_it_is k) = absurd (not_as_it_is k)
asks_a w (kept.left t h b c eb ec cl r ir) = absurd (apart b (left_is t h b eb) cl)
asks_a w (kept.right t h b c ec eb cl r ir) =
    let e : range (Some (pos 1)) (Some (pos 2)) ≡ r = range_one (system under_closed) t_c _ r range_c (subst (λ c. IsRange (system under_closed) c r) (sym (left_is t h c ec)) ir) in
    subst (λ t. Has asked_a (window (flipped t.op) r)) (link_is t h) (subst (λ r. Has asked_a (window Op.Gt r)) e first)

asked_there : (w : Range) → Has asked_a w → IsAsked under_closed links s_a w
asked_there w h = elim (has_cases (range (Some (pos 1)) (Some (pos 3))) w [] h) [
  | inl e ↦ subst (IsAsked under_closed links s_a) e (kept.right under first s_a t_c refl refl (class_itself (system under_closed) s_a) (range (Some (pos 1)) (Some (pos 2))) range_c)
  | inr k ↦ Has-nil k
]

kept_a : IsKeptRange under_closed links s_a (range (Some (pos 2)) (Some (pos 3)))
kept_a = record { own = range (Some (pos 2)) None; is_own = range_a; asked = asked_a; some = (_, first); all = λ w. (asked_there w, asks_a w); is = refl }

-- T.c is kept as it is, and its link asks for 1 to 3
abbrev asked_c : List Range
asked_c = whole ∷ range (Some (pos 1)) None ∷ []

asks_c : (w : Range) → IsAsked under_closed links t_c w → Has asked_c w
asks_c w (as_it_is k) = first
asks_c w (kept.right t h b c ec eb cl r ir) = absurd (apart_too b (right_is t h b eb) cl)
asks_c w (kept.left t h b c eb ec cl r ir) =
    let e : range (Some (pos 2)) None ≡ r = range_one (system under_closed) s_a _ r range_a (subst (λ c. IsRange (system under_closed) c r) (sym (right_is t h c ec)) ir) in
    subst (λ t. Has asked_c (window t.op r)) (link_is t h) (subst (λ r. Has asked_c (window Op.Lt r)) e (later first))

kept_as_it_is : IsKeptAsItIs under_closed links t_c
kept_as_it_is = kept.selected t_c (class_itself (system under_closed) t_c) (0, omega arith, refl)

asked_there_c : (w : Range) → Has asked_c w → IsAsked under_closed links t_c w
asked_there_c w h = elim (has_cases whole w (range (Some (pos 1)) None ∷ []) h) [
  | inl e ↦ subst (IsAsked under_closed links t_c) e (as_it_is kept_as_it_is)
  | inr k ↦ elim (has_cases (range (Some (pos 1)) None) w [] k) [
    | inl e ↦ subst (IsAsked under_closed links t_c) e (kept.left under first t_c s_a refl refl (class_itself (system under_closed) t_c) (range (Some (pos 2)) None) range_a)
    | inr l ↦ Has-nil l
  ]
]

kept_c : IsKeptRange under_closed links t_c (range (Some (pos 1)) (Some (pos 2)))
kept_c = record { own = range (Some (pos 1)) (Some (pos 2)); is_own = range_c; asked = asked_c; some = (_, first); all = λ w. (asked_there_c w, asks_c w); is = refl }

one_dim : (a : Attr) (lo hi : ℤ) (P : KeptDim → Type 0) → P record { attr = a; range = range (Some lo) (Some hi) } → (d : KeptDim) → Has (counted a lo hi).dims d → P d
one_dim a lo hi P p d h = elim (has_cases _ d [] h) [ inl e ↦ subst P e p | inr k ↦ Has-nil k ]

serves_a : Serves under_closed links 0 (under_keeps 0)
serves_a = record {
  kind = refl;
  stream = one_dim s_a (pos 2) (pos 3) (λ d. d.attr.stream ≡ 0) refl;
  range = one_dim s_a (pos 2) (pos 3) (λ d. IsKeptRange under_closed links d.attr d.range) kept_a;
  all = λ a e r. elim (read_is a r) [
    | inl f ↦ (let g : 1 ≡ a.stream = ap (λ a. a.stream) f in absurd (omega (arith, e, g)))
    | inr f ↦ subst (IsServed under_closed (under_keeps 0)) f (Whole.dim _ first (class_itself (system under_closed) s_a))
  ];
}

serves_c : Serves under_closed links 1 (under_keeps 1)
serves_c = record {
  kind = refl;
  stream = one_dim t_c (pos 1) (pos 2) (λ d. d.attr.stream ≡ 1) refl;
  range = one_dim t_c (pos 1) (pos 2) (λ d. IsKeptRange under_closed links d.attr d.range) kept_c;
  all = λ a e r. elim (read_is a r) [
    | inl f ↦ subst (IsServed under_closed (under_keeps 1)) f (Whole.dim _ first (class_itself (system under_closed) t_c))
    | inr f ↦ (let g : 0 ≡ a.stream = ap (λ a. a.stream) f in absurd (omega (arith, e, g)))
  ];
}

serves_all : (place : ℕ) → place < 2 → Serves under_closed links place (under_keeps place)
serves_all zero l = serves_a
serves_all (suc zero) l = serves_c
serves_all (suc (suc n)) l = absurd (omega (arith, l))

-- the row at a place, and other values elsewhere
beside : ℕ → (ℕ → ℤ) → ℤ → Assignment
beside place v z x = cond (nat_eq x.stream place) (v x.column) z

beside_own : (place : ℕ) (v : ℕ → ℤ) (z : ℤ) (e : Element) → IsOf place e → value e (beside place v z) ≡ value e (λ a. v a.column)
unfolding beside
beside_own place v z (element.Attr a) i = let f : nat_eq a.stream place ≡ true = grind (arith, i) in ap (λ b. cond b (v a.column) z) f
beside_own place v z (element.Const k) i = refl

none_unlike : (place : ℕ) (v : Assignment) (t : Atom) → Has under_closed.atoms t → t.op ≡ Op.Ne → ⊥
none_unlike place v t h e = let f : Op.Lt ≡ Op.Ne = ap (λ t. t.op) (link_is t h) ∙ e in cc

-- a row that is part of a solution meets the local conditions
row_meets : (place : ℕ) (v : ℕ → ℤ) (z : ℤ) → Solves (system under_closed) (beside place v z) → RowMeets under_closed place v
row_meets place v z s = record {
  bounds = λ x y c i j b. (let k = b (beside place v z) s in let e = beside_own place v z x i in let f = beside_own place v z y j in omega (arith, ints, k, e, f));
  unequal = λ t h e i j. absurd (none_unlike place (λ a. v a.column) t h e);
}

not_below : (x y : ℤ) → not (int_lt x y) ≡ true → y ≤ℤ x
not_below x y h = grind (arith, ints)

below_not : (x y : ℤ) → y ≤ℤ x → not (int_lt x y) ≡ true
below_not x y h = grind (arith, ints)

admits_all : (place : ℕ) → place < 2 → (v : ℕ → ℤ) → (under_admits place v ≡ true) ↔ RowMeets under_closed place v
unfolding beside
admits_all zero l v = (
  λ h. (let k : pos 2 ≤ℤ v 0 = not_below (v 0) (pos 2) h in row_meets 0 v (pos 1) (solves_if (beside 0 v (pos 1)) (omega (arith, ints, k)) (omega (arith, ints)) (omega (arith, ints)))),
  λ m. (let k = m.bounds (element.Const (pos 2)) (element.Attr s_a) (pos 0) tt refl range_a.low.0 in below_not (v 0) (pos 2) (omega (arith, ints, k))),
)
admits_all (suc zero) l v = (
  λ h.
      (let k : pos 1 ≤ℤ v 0 = not_below (v 0) (pos 1) (and-left _ _ h) in
      let m : v 0 ≤ℤ pos 2 = not_below (pos 2) (v 0) (and-right (not (int_lt (v 0) (pos 1))) _ h) in
      row_meets 1 v (pos 3) (solves_if (beside 1 v (pos 3)) (omega (arith, ints, m)) (omega (arith, ints, k)) (omega (arith, ints, m)))),
  λ m.
      (let k = m.bounds (element.Const (pos 1)) (element.Attr t_c) (pos 0) tt refl range_c.low.0 in
      let n = m.bounds (element.Attr t_c) (element.Const (pos 2)) (pos 0) refl tt range_c.high.0 in
      and-both _ _ (below_not (v 0) (pos 1) (omega (arith, ints, k))) (below_not (pos 2) (v 0) (omega (arith, ints, n)))),
)
admits_all (suc (suc n)) l v = absurd (omega (arith, l))

ranges_all : (a : Attr) → IsRead under_closed links a → (r : Range) × IsRange (system under_closed) a r
ranges_all a h = elim (read_is a h) [
  | inl e ↦ (range (Some (pos 1)) (Some (pos 2)), subst (λ a. IsRange (system under_closed) a (range (Some (pos 1)) (Some (pos 2)))) e range_c)
  | inr e ↦ (range (Some (pos 2)) None, subst (λ a. IsRange (system under_closed) a (range (Some (pos 2)) None)) e range_a)
]

-- no column comes before these in their streams
none_before_a : (b : Attr) → b.stream ≡ 0 → attr_lt b s_a ≡ true → ⊥
none_before_a b e h = grind (arith, nat_tests, e, h)

none_before_c : (b : Attr) → b.stream ≡ 1 → attr_lt b t_c ≡ true → ⊥
none_before_c b e h = grind (arith, nat_tests, e, h)

no_extreme : (a : Attr) → IsOfExtreme under_closed Kind.Count a → ⊥
no_extreme a (of_least e k c) = absurd cc
no_extreme a (of_greatest e k c) = absurd cc

planned_a : IsPlannedStream under_closed links 0 (under_keeps 0)
planned_a = record {
  kind = refl;
  ascending = λ i j d a b. (let c : j < 1 = b in absurd (omega (arith, a, c)));
  dims = one_dim s_a (pos 2) (pos 3) (λ d. IsPlannedDim under_closed links 0 Kind.Count d) record {
    here = refl;
    name = λ b c. none_before_a b c.stream;
    read = record { member = s_a; inside = class_itself (system under_closed) s_a; read = Whole.right under first refl };
    other = no_extreme s_a;
    range = kept_a;
  };
  all = serves_a.all;
}

planned_c : IsPlannedStream under_closed links 1 (under_keeps 1)
planned_c = record {
  kind = refl;
  ascending = λ i j d a b. (let c : j < 1 = b in absurd (omega (arith, a, c)));
  dims = one_dim t_c (pos 1) (pos 2) (λ d. IsPlannedDim under_closed links 1 Kind.Count d) record {
    here = refl;
    name = λ b c. none_before_c b c.stream;
    read = record { member = t_c; inside = class_itself (system under_closed) t_c; read = Whole.left under first refl };
    other = no_extreme t_c;
    range = kept_c;
  };
  all = serves_c.all;
}

planned_all : (place : ℕ) → place < 2 → IsPlannedStream under_closed links place (under_keeps place)
planned_all zero l = planned_a
planned_all (suc zero) l = planned_c
planned_all (suc (suc n)) l = absurd (omega (arith, l))

pub under_is_whole : UnderIsWhole
under_is_whole = record {
  limits = within-limits under_closed refl;
  form = record { links = are_links; ranges = ranges_all; serves = serves_all; admits = admits_all };
  plan = record { links = are_links; ranges = ranges_all; streams = planned_all; admits = admits_all };
}
