-- The premises of the laws are met: SELECT R.a FROM R, L WHERE R.a = 5 AND R.a = L.a.
use Rattle.std.proofs.Common.{◌≡◌, ◌≢◌, ℕ, zero, suc, ◌<◌, ◌⊎◌, inl, inr, List, [], ◌∷◌, true, refl, sym, ap, ◌∙◌, subst, arith, ℤ, pos, ◌<ℤ◌, ◌≤ℤ◌, Contains, All, AllPairs, IsTrue, slice_get, Some, ◌-◌}
use Rattle.std.proofs.lemmas.Int.{ints}
use Rattle.sem_query.specs.declared.atom.Op.TheVariants as Op
use Rattle.sem_query.specs.declared.atom.Element.TheVariants as element
use Rattle.sem_query.specs.declared.atom.Attr.{Attr}
use Rattle.sem_query.specs.declared.condition.Condition.{Condition}
use Rattle.sem_query.specs.declared.condition.Condition.TheVariants.{C1, C2, C3}
use Rattle.sem_query.specs.declared.part.Sign.{Sign}
use Rattle.sem_query.specs.declared.plan.Dim.{Dim}
use Rattle.sem_query.specs.declared.plan.Link.{Link}
use Rattle.sem_query.specs.Query.{attrs_of, attr_lt, IsColumn, IsShort, HasAttr}
use Rattle.sem_query.specs.Assignment.{Assignment}
use Rattle.sem_query.specs.Parts.{pairs, InPart, IsPart}
use Rattle.sem_query.specs.Order.{IsEqual, IsBounded}
use Rattle.sem_query.specs.Links.{IsEquality, IsInequality}
use Rattle.sem_query.specs.Violation as Violation
use Rattle.sem_query.specs.Violation.{Breaks, Fails, Failure}
use Rattle.sem_query.specs.Plan.{IsDim, AreDims, AreOneClass, IsWanted, selected, left_equal, right_equal, left_less, right_less, IsStreamPlan, IsPartPlan, IsPlan, link, stream_at}
use Rattle.sem_query.proofs.Has.{first, later, Has-from_contains}
use Rattle.sem_query.proofs.Local.{sign-eq}
use Rattle.sem_query.proofs.Holding.{Compares-from_test, Holds-each}
use Rattle.sem_laws.specs.Cases.{col, dim, fives, fives_part, PremisesAreMet}
use Rattle.sem_laws.proofs.OnePartFits.{has_cases}

abbrev signs : List Sign
signs = Sign.Eq ∷ Sign.Eq ∷ []

abbrev one : ℕ → Dim
one n = dim (col n 0) (pos 5)

all_one : {X : Type 0} (P : X → Type 0) (x : X) → P x → All P (x ∷ [])
all_one P x h zero d l = h
all_one P x h (suc k) d l = absurd (omega (arith, l))

all_two : {X : Type 0} (P : X → Type 0) (x y : X) → P x → P y → All P (x ∷ y ∷ [])
all_two P x y h k zero d l = h
all_two P x y h k (suc zero) d l = k
all_two P x y h k (suc (suc n)) d l = absurd (omega (arith, l))

left_is : (s : List Sign) (v : Assignment) → InPart fives s v → v (col 0 0) ≡ pos 5
left_is s v i = Compares-from_test Op.Eq (v (col 0 0)) (pos 5) (Holds-each fives v i.holds _ first)

right_is : (s : List Sign) (v : Assignment) → InPart fives s v → v (col 1 0) ≡ pos 5
right_is s v i =
    sym (Compares-from_test Op.Eq (v (col 0 0)) (v (col 1 0)) (Holds-each fives v i.holds _ (later first))) ∙ left_is s v i

all_five : Assignment
all_five a = pos 5

five_inside : InPart fives signs all_five
unfolding all_five pairs
five_inside = record { holds = refl; domains = refl; signs = refl }

-- the attributes of the query
named : (a : Attr) → Contains (attrs_of fives.atoms) a → (col 0 0 ≡ a) ⊎ (col 1 0 ≡ a)
named a c = elim (has_cases (col 0 0) a (col 1 0 ∷ []) (Has-from_contains (col 0 0 ∷ col 1 0 ∷ []) a c)) [
  | inl e ↦ inl e
  | inr k ↦ elim (has_cases (col 1 0) a [] k) [ inl e ↦ inr e | inr l ↦ elim l [ ] ]
]

value_five : (s : List Sign) (v : Assignment) → InPart fives s v → (a : Attr) → Contains (attrs_of fives.atoms) a → v a ≡ pos 5
value_five s v i a c = elim (named a c) [ inl e ↦ ap v (sym e) ∙ left_is s v i | inr e ↦ ap v (sym e) ∙ right_is s v i ]

here_at : (a : Attr) (n : ℕ) → n < 2 → Contains (attrs_of fives.atoms) a → a.stream ≡ n → col n 0 ≡ a
here_at a n l c e = elim (named a c) [
  | inl f ↦ ap (λ m. col m 0) (sym (ap (λ (b : Attr). b.stream) f ∙ e)) ∙ f
  | inr f ↦ ap (λ m. col m 0) (sym (ap (λ (b : Attr). b.stream) f ∙ e)) ∙ f
]

is_there : (n : ℕ) → n < 2 → Contains (attrs_of fives.atoms) (col n 0)
is_there zero l = (0, omega arith, refl)
is_there (suc zero) l = (1, omega arith, refl)
is_there (suc (suc n)) l = absurd (omega (arith, l))

equal_fives : (a b : Attr) → Contains (attrs_of fives.atoms) a → Contains (attrs_of fives.atoms) b
    → IsEqual fives signs (element.Attr a) (element.Attr b)
equal_fives a b h k = record { equal = λ v i. value_five signs v i a h ∙ sym (value_five signs v i b k) }

equality : IsEquality fives signs (col 0 0) (col 1 0)
equality =
    record { across = record { left = is_there 0 (omega arith); right = is_there 1 (omega arith); across = λ e. omega (arith, e) }; equal = equal_fives (col 0 0) (col 1 0) (is_there 0 (omega arith)) (is_there 1 (omega arith)) }

no_less : (a b : Attr) → IsInequality fives signs a b → ⊥
no_less a b i =
    let l : all_five a <ℤ all_five b = i.less.less all_five five_inside in
    let x : all_five a ≡ pos 5 = value_five signs all_five five_inside a i.across.left in
    let y : all_five b ≡ pos 5 = value_five signs all_five five_inside b i.across.right in
    omega (arith, ints, l, x, y)

named_if_wanted : (a : Attr) → IsWanted fives signs a → Contains (attrs_of fives.atoms) a
named_if_wanted a (selected h) =
    elim (has_cases (col 0 0) a [] (Has-from_contains (col 0 0 ∷ []) a h)) [ inl e ↦ subst (λ b. Contains (attrs_of fives.atoms) b) e (is_there 0 (omega arith)) | inr k ↦ elim k [ ] ]
named_if_wanted a (left_equal b i) = i.across.left
named_if_wanted a (right_equal b i) = i.across.right
named_if_wanted a (left_less b i) = i.across.left
named_if_wanted a (right_less b i) = i.across.right

one_class : (n : ℕ) → n < 2 → (a : Attr) → Contains (attrs_of fives.atoms) a → a.stream ≡ n → AreOneClass fives signs (col n 0) a
one_class n l a c e = record { named = inr (is_there n l, c); stream = sym e; equal = equal_fives (col n 0) a (is_there n l) c }

at_most_five : (x y : ℤ) → x ≡ y → x ≤ℤ y
at_most_five x y e = omega (arith, ints, e)

dim_is : (n : ℕ) → n < 2 → IsWanted fives signs (col n 0) → IsDim fives signs n (one n)
unfolding all_five
dim_is n l w = record {
  here = refl;
  name = record { named = inl (is_there n l); first = λ b c f. not_before b n (elim c.named [ inl e ↦ sym e | inr h ↦ here_at b n l h.0 c.stream ]) f };
  low =
      record { at = all_five; inside = five_inside; reached = refl; above = λ v i. at_most_five _ _ (sym (value_five signs v i (col n 0) (is_there n l))) };
  high =
      record { at = all_five; inside = five_inside; reached = refl; below = λ v i. at_most_five _ _ (value_five signs v i (col n 0) (is_there n l)) };
  member = col n 0;
  inside = one_class n l (col n 0) (is_there n l) refl;
  wanted = w;
}
  where
    itself : (n : ℕ) → attr_lt (col n 0) (col n 0) ≡ true → ⊥
    itself n h = grind (arith, h)

    not_before : (b : Attr) (n : ℕ) → col n 0 ≡ b → IsTrue (attr_lt b (col n 0)) → ⊥
    not_before b n e f = itself n (subst (λ c. attr_lt c (col n 0) ≡ true) (sym e) f)

dims_are : (n : ℕ) → n < 2 → IsWanted fives signs (col n 0) → AreDims fives signs n (one n ∷ [])
dims_are n l w = record {
  ascending = λ i j d a b. absurd (omega (arith, a, b));
  each = all_one (IsDim fives signs n) (one n) (dim_is n l w);
  all = λ a e h b. (one n, (0, omega arith, refl), one_class n l a (named_if_wanted a h) e);
}

streams_are : (n : ℕ) → n < 2 → IsStreamPlan fives signs n (stream_at fives_part n)
streams_are zero l = record { dims = dims_are 0 (omega arith) (selected (0, omega arith, refl)); kind = refl; size = refl }
streams_are (suc zero) l = record { dims = dims_are 1 (omega arith) (right_equal (col 0 0) equality); kind = refl; size = refl }
streams_are (suc (suc n)) l = absurd (omega (arith, l))

equal_link : (x y : Attr) → IsTrue (attr_lt x y) × IsEquality fives signs x y → Contains fives_part.equal.items (link x y)
equal_link x y h = by (named x h.1.across.left) (named y h.1.across.right)
  where
    found : col 0 0 ≡ x → col 1 0 ≡ y → Contains fives_part.equal.items (link x y)
    found e f = (0, omega arith, (λ i. link (e i) (f i)))

    by : (col 0 0 ≡ x) ⊎ (col 1 0 ≡ x) → (col 0 0 ≡ y) ⊎ (col 1 0 ≡ y) → Contains fives_part.equal.items (link x y)
    by (inl e) (inr f) = found e f
    by (inl e) (inl f) = absurd (h.1.across.across (ap (λ (a : Attr). a.stream) (sym e ∙ f)))
    by (inr e) (inr f) = absurd (h.1.across.across (ap (λ (a : Attr). a.stream) (sym e ∙ f)))
    by (inr e) (inl f) =
        absurd (wrong (subst (λ a. attr_lt a (col 0 0) ≡ true) (sym e) (subst (λ b. attr_lt x b ≡ true) (sym f) h.0)))
      where
        wrong : attr_lt (col 1 0) (col 0 0) ≡ true → ⊥
        wrong g = cc

link_equal : (x y : Attr) → Contains fives_part.equal.items (link x y) → IsTrue (attr_lt x y) × IsEquality fives signs x y
link_equal x y c =
    elim (has_cases (link (col 0 0) (col 1 0)) (link x y) [] (Has-from_contains fives_part.equal.items (link x y) c)) [
      | inl e ↦ subst (λ (l : Link). IsTrue (attr_lt l.left l.right) × IsEquality fives signs l.left l.right) e (refl, equality)
      | inr k ↦ elim k [ ]
    ]

-- the plan of this query
pub five_is_planned : IsPlan fives (fives_part ∷ [])
unfolding pairs
five_is_planned = record {
  parts = record {
    ascending = λ i j d a b. absurd (omega (arith, a, b));
    each = all_one (IsPart fives) signs record { one = all_five; inside = five_inside };
    all =
        λ s p. (0, omega arith, sym (rw (sign-eq _ _ (left_is s p.one p.inside), sign-eq _ _ (right_is s p.one p.inside)) refl) ∙ p.inside.signs);
  };
  plans = all_one (IsPartPlan fives) fives_part record {
    equal = λ x y. (link_equal x y, equal_link x y);
    equal_ascends = λ i j d a b. absurd (omega (arith, a, b));
    less = λ x y. ((λ c. elim (Has-from_contains [] (link x y) c) [ ]), (λ i. absurd (no_less x y i)));
    less_ascends = λ i j d a b. absurd (omega (arith, a, b));
    local = refl;
    soft = refl;
    count = refl;
    streams = λ n l. streams_are n l;
  };
  bases = (refl, (refl, tt));
}

bounded : (a : Attr) → Contains (attrs_of fives.atoms) a → (s : List Sign) → IsBounded fives s a
bounded a c s = record {
  low = pos 5;
  high = pos 5;
  above = λ v i. at_most_five _ _ (sym (value_five s v i a c));
  below = λ v i. at_most_five _ _ (value_five s v i a c);
}

selected_named : (a : Attr) → Contains fives.select a → Contains (attrs_of fives.atoms) a
selected_named a h =
    elim (has_cases (col 0 0) a [] (Has-from_contains (col 0 0 ∷ []) a h)) [ inl e ↦ subst (λ b. Contains (attrs_of fives.atoms) b) e (is_there 0 (omega arith)) | inr k ↦ elim k [ ] ]

one_part : (s : List Sign) → Contains (signs ∷ []) s → signs ≡ s
one_part s c = elim (has_cases signs s [] (Has-from_contains (signs ∷ []) s c)) [ inl e ↦ e | inr k ↦ elim k [ ] ]

none_breaks : (s : List Sign) → signs ≡ s → (c : Condition) (a : Attr) → ¬ Breaks fives s c a
none_breaks s e C1 a h = h.1 (bounded a (selected_named a h.0) s)
none_breaks s e C2 a h = elim h.2 [
  | inl i ↦ h.0 (bounded a i.across.left s)
  | inr i ↦ h.0 (bounded a i.across.right s)
]
none_breaks s e C3 a h = elim h.0 [
  | inl m ↦ m.unbounded (bounded a m.inequality.across.left s)
  | inr m ↦ m.unbounded (bounded a m.inequality.across.right s)
]

pub premises-are-met : PremisesAreMet
premises-are-met = record {
  within = record {
    streams = (omega arith, omega arith);
    different = apart;
    selected = (omega arith, omega arith);
    select = all_one (IsColumn 2) (col 0 0) record { stream = omega arith; column = omega arith };
    comparisons = omega arith;
    few_soft = omega arith;
    sides = all_two HasAttr _ _ (inl refl) (inl refl);
    few_attrs = omega arith;
    attrs =
        all_two (IsColumn 2) (col 0 0) (col 1 0) record { stream = omega arith; column = omega arith } record { stream = omega arith; column = omega arith };
    few_consts = omega arith;
    consts = all_one IsShort (pos 5) record { low = omega (arith, ints); high = omega (arith, ints) };
    few_domains = omega arith;
    domains = λ k d l. absurd (omega (arith, l));
    ascending = λ i j d a b. absurd (omega (arith, b));
  };
  no_filter = refl;
  plan = five_is_planned;
  violation = Violation.first refl (signs ∷ []) five_is_planned.parts (λ f b. none_fails f b);
}
  where
    apart : AllPairs (λ s t. s ≢ t) fives.from
    apart zero zero d a b = absurd (omega (arith, a))
    apart zero (suc zero) d a b = λ e. absurd (omega (arith, e))
    apart zero (suc (suc j)) d a b = absurd (omega (arith, b))
    apart (suc i) j d a b = absurd (omega (arith, a, b))

    get_has : (n : ℕ) (s : List Sign) → slice_get (signs ∷ []) n ≡ Some s → signs ≡ s
    get_has zero s e = cc
    get_has (suc n) s e = absurd cc

    none_fails : (f : Failure) → ¬ Fails fives (signs ∷ []) f
    none_fails f b = none_breaks b.signs (get_has (f.part - 1) b.signs b.at) f.condition f.attr b.breaks
