-- The premises of the laws are met by a query that selects a column with a domain and compares others.
use Rattle.std.proofs.Common.{◌≡◌, ◌≢◌, ℕ, zero, suc, ◌-◌, ◌<◌, ◌⊎◌, inl, inr, List, [], ◌∷◌, cond, true, refl, sym, ap, ◌∙◌, subst, arith, nat_eq, ℤ, pos, ◌+ℤ◌, ◌-ℤ◌, ◌<ℤ◌, ◌≤ℤ◌, Contains, All, AllPairs, IsTrue, Some, slice_get}
use Rattle.std.proofs.lemmas.Int.{ints}
use Rattle.sem_query.specs.declared.atom.Attr.{Attr}
use Rattle.sem_query.specs.declared.atom.Domain.{Domain}
use Rattle.sem_query.specs.declared.atom.Element.TheVariants as element
use Rattle.sem_query.specs.declared.atom.Atom.{Atom}
use Rattle.sem_query.specs.declared.atom.Op.{Op}
use Rattle.sem_query.specs.declared.condition.Condition.{Condition}
use Rattle.sem_query.specs.declared.condition.Condition.TheVariants.{C1, C2, C3}
use Rattle.sem_query.specs.declared.part.Sign.{Sign}
use Rattle.sem_query.specs.declared.plan.Kind.{Kind}
use Rattle.sem_query.specs.declared.plan.Link.{Link}
use Rattle.sem_query.specs.declared.plan.PartPlan.{PartPlan}
use Rattle.sem_query.specs.Query.{attr_lt, attrs_of, HasAttr, IsColumn, IsDomain}
use Rattle.sem_query.specs.Assignment.{Assignment, lies_in, AtomHolds}
use Rattle.sem_query.specs.Parts.{pairs, InPart, IsPart}
use Rattle.sem_query.specs.Order.{IsBounded}
use Rattle.sem_query.specs.Links.{IsEquality, IsInequality, IsRedundant, between, equal_left, equal_right, IsMinRef, IsMaxRef, AreTwoRefs, two_mins, two_maxes, both}
use Rattle.sem_query.specs.Violation as Violation
use Rattle.sem_query.specs.Violation.{Failure, Fails, Breaks}
use Rattle.sem_query.specs.Plan.{IsPartPlan, IsPlan, IsStreamPlan, IsDim, AreDims, AreOneClass, NamesClass, IsWanted, selected, left_equal, right_equal, left_less, right_less, link, stream_at}
use Rattle.sem_query.proofs.Has.{Has, first, later, Has-from_contains}
use Rattle.sem_query.proofs.Holding.{Compares-from_test, compares-true, Holds-each, Holds-from_each}
use Rattle.sem_query.proofs.Domains.{lies, lies_low, lies_high, keeps_each, each_keeps}
use Rattle.sem_laws.specs.Cases.{col, atom}
use Rattle.sem_laws.specs.DomainCases.{beside, beside_plan, one_or_two, DomainsArePlanned}
use Rattle.sem_laws.proofs.OnePartFits.{has_cases}

abbrev sa : Attr
sa = col 0 0

abbrev sb : Attr
sb = col 0 1

abbrev tc : Attr
tc = col 1 0

abbrev domain : Domain
domain = record { attr = sa; lo = pos 1; hi = pos 2 }

abbrev less_than : Atom
less_than = atom (element.Attr sb) Op.Lt (element.Attr tc)

abbrev part : PartPlan
part = record {
  signs = record { items = [] };
  streams = record { items = record { dims = record { items = one_or_two sa ∷ [] }; kind = Kind.Least sb; base = 0; size = 2 } ∷ record { dims = record { items = [] }; kind = Kind.Greatest tc; base = 2; size = 1 } ∷ [] };
  equal = record { items = [] };
  less = record { items = link sb tc ∷ [] };
  local = [];
  soft = record { items = [] };
}

all_one : {X : Type 0} (P : X → Type 0) (x : X) → P x → All P (x ∷ [])
all_one P x h zero d l = h
all_one P x h (suc k) d l = absurd (omega (arith, l))

all_two : {X : Type 0} (P : X → Type 0) (x y : X) → P x → P y → All P (x ∷ y ∷ [])
all_two P x y h k zero d l = h
all_two P x y h k (suc zero) d l = k
all_two P x y h k (suc (suc n)) d l = absurd (omega (arith, l))

one_of : {X : Type 0} (x y : X) → Contains (x ∷ []) y → x ≡ y
one_of x y c = elim (has_cases x y [] (Has-from_contains (x ∷ []) y c)) [ inl e ↦ e | inr k ↦ elim k [ ] ]

-- S.a is x, S.b is y, and T.c is z
at : ℤ → ℤ → ℤ → Assignment
at x y z a = cond (nat_eq a.stream 0) (cond (nat_eq a.column 0) x y) z

inside : (x y z : ℤ) → pos 1 ≤ℤ x → x ≤ℤ pos 2 → y <ℤ z → InPart beside [] (at x y z)
unfolding at pairs
inside x y z l u h = record {
  holds = Holds-from_each beside (at x y z) holds;
  domains = each_keeps beside (at x y z) keeps;
  signs = refl;
}
  where
    holds : (t : Atom) → Has (less_than ∷ []) t → AtomHolds (at x y z) t
    holds t first = compares-true Op.Lt y z h
    holds t (later k) = elim k [ ]

    keeps : (d : Domain) → Has (domain ∷ []) d → lies_in d (at x y z d.attr) ≡ true
    keeps d first = lies domain x l u
    keeps d (later k) = elim k [ ]

is_less : (v : Assignment) → InPart beside [] v → v sb <ℤ v tc
is_less v i = Compares-from_test Op.Lt (v sb) (v tc) (Holds-each beside v i.holds less_than first)

is_low : (v : Assignment) → InPart beside [] v → pos 1 ≤ℤ v sa
is_low v i = lies_low domain (v sa) (keeps_each beside v i.domains domain first)

is_high : (v : Assignment) → InPart beside [] v → v sa ≤ℤ pos 2
is_high v i = lies_high domain (v sa) (keeps_each beside v i.domains domain first)

named : (a : Attr) → Contains (attrs_of beside.atoms) a → (sb ≡ a) ⊎ (tc ≡ a)
named a c = elim (has_cases sb a (tc ∷ []) (Has-from_contains (sb ∷ tc ∷ []) a c)) [
  | inl e ↦ inl e
  | inr k ↦ elim (has_cases tc a [] k) [ inl e ↦ inr e | inr l ↦ elim l [ ] ]
]

has_b : Contains (attrs_of beside.atoms) sb
has_b = (0, omega arith, refl)

has_c : Contains (attrs_of beside.atoms) tc
has_c = (1, omega arith, refl)

-- the assignment by which the rest is seen
seen : Assignment
seen = at (pos 1) (pos 0) (pos 1)

seen_inside : InPart beside [] seen
unfolding seen
seen_inside = inside (pos 1) (pos 0) (pos 1) (omega (arith, ints)) (omega (arith, ints)) (omega (arith, ints))

seen_b : seen sb ≡ pos 0
unfolding seen at
seen_b = refl

seen_c : seen tc ≡ pos 1
unfolding seen at
seen_c = refl

unbounded_b : ¬ IsBounded beside [] sb
unfolding at
unbounded_b b =
    let l : b.low ≤ℤ (b.low -ℤ pos 1)
    = b.above (at (pos 1) (b.low -ℤ pos 1) b.low) (inside (pos 1) (b.low -ℤ pos 1) b.low (omega (arith, ints)) (omega (arith, ints)) (omega (arith, ints))) in
    omega (arith, ints)

unbounded_c : ¬ IsBounded beside [] tc
unfolding at
unbounded_c b =
    let l : (b.high +ℤ pos 1) ≤ℤ b.high
    = b.below (at (pos 1) b.high (b.high +ℤ pos 1)) (inside (pos 1) b.high (b.high +ℤ pos 1) (omega (arith, ints)) (omega (arith, ints)) (omega (arith, ints))) in
    omega (arith, ints)

no_equality : (x y : Attr) → IsEquality beside [] x y → ⊥
no_equality x y e = by (named x e.across.left) (named y e.across.right)
  where
    same : seen x ≡ seen y
    same = e.equal.equal seen seen_inside

    by : (sb ≡ x) ⊎ (tc ≡ x) → (sb ≡ y) ⊎ (tc ≡ y) → ⊥
    by (inl f) (inl g) = e.across.across (ap (λ (a : Attr). a.stream) (sym f ∙ g))
    by (inr f) (inr g) = e.across.across (ap (λ (a : Attr). a.stream) (sym f ∙ g))
    by (inl f) (inr g) = let k : pos 0 ≡ pos 1 = sym seen_b ∙ ap seen f ∙ same ∙ sym (ap seen g) ∙ seen_c in absurd (omega (arith, ints, k))
    by (inr f) (inl g) = let k : pos 1 ≡ pos 0 = sym seen_c ∙ ap seen f ∙ same ∙ sym (ap seen g) ∙ seen_b in absurd (omega (arith, ints, k))

not_less : {x y u w : ℤ} → x <ℤ y → x ≡ u → y ≡ w → w ≤ℤ u → ⊥
not_less l e f h = omega (arith, ints, l, e, f, h)

needed : ¬ IsRedundant beside [] sb tc
needed (between (element.Attr a) h f g) = elim (named a h) [
  | inl e ↦ not_less (f.less seen seen_inside) seen_b (sym (ap seen e) ∙ seen_b) (omega (arith, ints))
  | inr e ↦ not_less (g.less seen seen_inside) (sym (ap seen e) ∙ seen_c) seen_c (omega (arith, ints))
]
needed (between (element.Const k) h f g) = elim (Has-from_contains [] k h) [ ]
needed (equal_left k h f g) = elim (Has-from_contains [] k h) [ ]
needed (equal_right k h f g) = elim (Has-from_contains [] k h) [ ]

inequality : IsInequality beside [] sb tc
inequality = record {
  across = record { left = has_b; right = has_c; across = λ e. omega (arith, e) };
  less = record { less = is_less };
  needed = needed;
}

only_inequality : (x y : Attr) → IsInequality beside [] x y → (sb ≡ x) × (tc ≡ y)
only_inequality x y i = by (named x i.across.left) (named y i.across.right)
  where
    by : (sb ≡ x) ⊎ (tc ≡ x) → (sb ≡ y) ⊎ (tc ≡ y) → (sb ≡ x) × (tc ≡ y)
    by (inl f) (inr g) = (f, g)
    by (inl f) (inl g) = absurd (i.across.across (ap (λ (a : Attr). a.stream) (sym f ∙ g)))
    by (inr f) (inr g) = absurd (i.across.across (ap (λ (a : Attr). a.stream) (sym f ∙ g)))
    by (inr f) (inl g) =
        absurd (not_less (i.less.less seen seen_inside) (sym (ap seen f) ∙ seen_c) (sym (ap seen g) ∙ seen_b) (omega (arith, ints)))

min_ref : IsMinRef beside [] sb
min_ref = record { unbounded = unbounded_b; other = tc; inequality = inequality }

max_ref : IsMaxRef beside [] tc
max_ref = record { unbounded = unbounded_c; other = sb; inequality = inequality }

itself : (a : Attr) → attr_lt a a ≡ true → ⊥
itself a h = grind (arith, h)

not_before : (a b : Attr) → a ≡ b → IsTrue (attr_lt b a) → ⊥
not_before a b e f = itself a (subst (λ c. attr_lt c a ≡ true) (sym e) f)

-- an attribute names a class of its own
names : (a : Attr) → Contains (attrs_of beside.atoms) a → ((b : Attr) → Contains (attrs_of beside.atoms) b → b.stream ≡ a.stream → a ≡ b) → NamesClass beside [] a
names a h f = record {
  named = inl h;
  first = λ b c l. not_before a b (elim c.named [ inl e ↦ sym e | inr k ↦ f b k.0 c.stream ]) l;
}

alone_b : (b : Attr) → Contains (attrs_of beside.atoms) b → b.stream ≡ 0 → sb ≡ b
alone_b b h e = elim (named b h) [ inl f ↦ f | inr f ↦ absurd (let k : 1 ≡ 0 = ap (λ (a : Attr). a.stream) f ∙ e in omega (arith, k)) ]

alone_c : (b : Attr) → Contains (attrs_of beside.atoms) b → b.stream ≡ 1 → tc ≡ b
alone_c b h e = elim (named b h) [ inl f ↦ absurd (let k : 0 ≡ 1 = ap (λ (a : Attr). a.stream) f ∙ e in omega (arith, k)) | inr f ↦ f ]

no_attr : Contains (attrs_of beside.atoms) sa → ⊥
no_attr h = elim (named sa h) [
  | inl f ↦ (let k : 1 ≡ 0 = ap (λ (a : Attr). a.column) f in omega (arith, k))
  | inr f ↦ (let k : 1 ≡ 0 = ap (λ (a : Attr). a.stream) f in omega (arith, k))
]

-- and so does the selected column
names_a : NamesClass beside [] sa
names_a = record {
  named = inr (0, omega arith, refl);
  first = λ b c l. not_before sa b (elim c.named [ inl e ↦ sym e | inr k ↦ absurd (no_attr k.1) ]) l;
}

same_class : (a : Attr) → sa ≡ a → AreOneClass beside [] sa a
same_class a e = record { named = inl e; stream = ap (λ (a : Attr). a.stream) e; equal = record { equal = λ v i. ap v e } }

dim_a : IsDim beside [] 0 (one_or_two sa)
unfolding at
dim_a = record {
  here = refl;
  name = names_a;
  low = record { at = at (pos 1) (pos 0) (pos 1); inside = inside (pos 1) (pos 0) (pos 1) (omega (arith, ints)) (omega (arith, ints)) (omega (arith, ints)); reached = refl; above = is_low };
  high = record { at = at (pos 2) (pos 0) (pos 1); inside = inside (pos 2) (pos 0) (pos 1) (omega (arith, ints)) (omega (arith, ints)) (omega (arith, ints)); reached = refl; below = is_high };
  member = sa;
  inside = same_class sa refl;
  wanted = selected (0, omega arith, refl);
}

-- a bounded column that is wanted is the selected one
wanted_a : (a : Attr) → IsWanted beside [] a → IsBounded beside [] a → sa ≡ a
wanted_a a (selected h) b = one_of sa a h
wanted_a a (left_equal c i) b = absurd (no_equality a c i)
wanted_a a (right_equal c i) b = absurd (no_equality c a i)
wanted_a a (left_less c i) b = absurd (unbounded_b (subst (λ z. IsBounded beside [] z) (sym (only_inequality a c i).0) b))
wanted_a a (right_less c i) b = absurd (unbounded_c (subst (λ z. IsBounded beside [] z) (sym (only_inequality c a i).1) b))

dims_s : AreDims beside [] 0 (one_or_two sa ∷ [])
dims_s = record {
  ascending = λ i j d a b. absurd (omega (arith, a, b));
  each = all_one (IsDim beside [] 0) (one_or_two sa) dim_a;
  all = λ a e w b. (one_or_two sa, (0, omega arith, refl), same_class a (wanted_a a w b));
}

dims_t : AreDims beside [] 1 []
dims_t = record {
  ascending = λ i j d a b. absurd (omega (arith, b));
  each = λ k d l. absurd (omega (arith, l));
  all = λ a e w b. absurd (let k : 0 ≡ 1 = ap (λ (a : Attr). a.stream) (wanted_a a w b) ∙ e in omega (arith, k));
}

streams_are : (n : ℕ) → n < 2 → IsStreamPlan beside [] n (stream_at part n)
streams_are zero l = record { dims = dims_s; kind = (refl, refl, names sb has_b alone_b, min_ref); size = refl }
streams_are (suc zero) l = record { dims = dims_t; kind = (refl, refl, names tc has_c alone_c, max_ref); size = refl }
streams_are (suc (suc n)) l = absurd (omega (arith, l))

less_link : (x y : Attr) → IsInequality beside [] x y → Contains part.less.items (link x y)
less_link x y i = let o = only_inequality x y i in (0, omega arith, (λ k. link (o.0 k) (o.1 k)))

link_less : (x y : Attr) → Contains part.less.items (link x y) → IsInequality beside [] x y
link_less x y c = subst (λ (l : Link). IsInequality beside [] l.left l.right) (one_of (link sb tc) (link x y) c) inequality

planned : IsPlan beside beside_plan
unfolding pairs
planned = record {
  parts = record {
    ascending = λ i j d a b. absurd (omega (arith, a, b));
    each = all_one (IsPart beside) [] record { one = seen; inside = seen_inside };
    all = λ s p. (0, omega arith, p.inside.signs);
  };
  plans = all_one (IsPartPlan beside) part record {
    equal = λ x y. ((λ c. elim (Has-from_contains [] (link x y) c) [ ]), (λ h. absurd (no_equality x y h.1)));
    equal_ascends = λ i j d a b. absurd (omega (arith, b));
    less = λ x y. (link_less x y, less_link x y);
    less_ascends = λ i j d a b. absurd (omega (arith, a, b));
    local = refl;
    soft = refl;
    count = refl;
    streams = λ n l. streams_are n l;
  };
  bases = (refl, (refl, tt));
}

bounded_a : IsBounded beside [] sa
bounded_a = record { low = pos 1; high = pos 2; above = is_low; below = is_high }

min_is : (a : Attr) → IsMinRef beside [] a → sb ≡ a
min_is a m = (only_inequality a m.other m.inequality).0

max_is : (a : Attr) → IsMaxRef beside [] a → tc ≡ a
max_is a m = (only_inequality m.other a m.inequality).1

class_if : (a b : Attr) → a ≡ b → AreOneClass beside [] a b
class_if a b e = record { named = inl e; stream = ap (λ (a : Attr). a.stream) e; equal = record { equal = λ v i. ap v e } }

not_two : (a b : Attr) (n : ℕ) → a.stream ≡ n → b.stream ≡ n → AreTwoRefs beside [] a b → ⊥
not_two a b n e f (two_mins l m d) = d (class_if a b (sym (min_is a l) ∙ min_is b m))
not_two a b n e f (two_maxes l m d) = d (class_if a b (sym (max_is a l) ∙ max_is b m))
not_two a b n e f (both l m) =
    let k : 0 ≡ 1 = ap (λ (z : Attr). z.stream) (min_is a l) ∙ e ∙ sym f ∙ sym (ap (λ (z : Attr). z.stream) (max_is b m)) in omega (arith, k)

none_breaks : (s : List Sign) → [] ≡ s → (c : Condition) (a : Attr) → ¬ Breaks beside s c a
none_breaks s e C1 a h = h.1 (subst (λ s. IsBounded beside s a) e (subst (λ z. IsBounded beside [] z) (one_of sa a h.0) bounded_a))
none_breaks s e C2 a h = elim h.2 [
  | inl i ↦ no_equality a h.1 (subst (λ s. IsEquality beside s a h.1) (sym e) i)
  | inr i ↦ no_equality h.1 a (subst (λ s. IsEquality beside s h.1 a) (sym e) i)
]
none_breaks s e C3 a h =
    let t = h.1 refl in not_two t.first t.second a.stream t.here t.there (subst (λ s. AreTwoRefs beside s t.first t.second) (sym e) t.two)

pub domains-are-planned : DomainsArePlanned
domains-are-planned = record {
  within = record {
    streams = (omega arith, omega arith);
    different = apart;
    selected = (omega arith, omega arith);
    select = all_one (IsColumn 2) sa record { stream = omega arith; column = omega arith };
    comparisons = omega arith;
    few_soft = omega arith;
    sides = all_one HasAttr less_than (inl refl);
    few_attrs = omega arith;
    attrs = all_two (IsColumn 2) sb tc record { stream = omega arith; column = omega arith } record { stream = omega arith; column = omega arith };
    few_consts = omega arith;
    consts = λ k d l. absurd (omega (arith, l));
    few_domains = omega arith;
    domains = all_one (IsDomain beside) domain record {
      column = inr (0, omega arith, refl);
      low = record { low = omega (arith, ints); high = omega (arith, ints) };
      high = record { low = omega (arith, ints); high = omega (arith, ints) };
      some = omega (arith, ints);
    };
    ascending = λ i j d a b. absurd (omega (arith, a, b));
  };
  no_filter = refl;
  plan = planned;
  violation = Violation.first refl ([] ∷ []) planned.parts (λ f b. none_fails f b);
}
  where
    apart : AllPairs (λ s t. s ≢ t) beside.from
    apart zero zero d a b = absurd (omega (arith, a))
    apart zero (suc zero) d a b = λ e. absurd (omega (arith, e))
    apart zero (suc (suc j)) d a b = absurd (omega (arith, b))
    apart (suc i) j d a b = absurd (omega (arith, a, b))

    get_has : (n : ℕ) (s : List Sign) → slice_get ([] ∷ []) n ≡ Some s → [] ≡ s
    get_has zero s e = cc
    get_has (suc n) s e = absurd cc

    none_fails : (f : Failure) → ¬ Fails beside ([] ∷ []) f
    none_fails f b = none_breaks b.signs (get_has (f.part - 1) b.signs b.at) f.condition f.attr b.breaks
