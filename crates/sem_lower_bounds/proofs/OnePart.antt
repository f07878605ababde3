-- Queries over two streams with one part, in which all values but those of S.b are above the one constant, 5.
use Rattle.std.proofs.Common.{◌≡◌, ◌≢◌, ℕ, zero, suc, ◌-◌, ◌<◌, inl, inr, List, [], ◌∷◌, Bool, true, false, ◌||◌, not, refl, sym, subst, arith, nat_lt, nat_eq, ℤ, pos, ◌+ℤ◌, ◌<ℤ◌, Some, slice_get, Contains}
use Rattle.std.proofs.lemmas.Int.{ints}
use Rattle.std.proofs.lemmas.Bool.Decides.{nat_tests}
use Rattle.std.proofs.lemmas.List.Elements.{Contains-get_or}
use Rattle.std.specs.List.{list_all}
use Rattle.std.specs.Ordering.{int_eq}
use Rattle.sem_query.proofs.Has.{Has, first, later, Has-nil, Has-from_contains, Contains-from_has}
use Rattle.sem_query.proofs.Unique.{none, more}
use Rattle.sem_query.proofs.Split.{pairs_from}
use Rattle.sem_query.proofs.Bounded.{unbounded_over_all}
use Rattle.sem_laws.proofs.Tests.{all_at, and-left, and-right, or-cases}
use Rattle.sem_laws.proofs.OnePartFits.{has_cases}
use Rattle.sem_query.specs.declared.atom.Attr.{Attr}
use Rattle.sem_query.specs.declared.part.Sign.{Sign}
use Rattle.sem_query.specs.declared.condition.Condition.{Condition}
use Rattle.sem_query.specs.Query.{QueryValue, attrs_of, consts_of, attr_lt, is_filter}
use Rattle.sem_query.specs.Assignment.{Assignment, value}
use Rattle.sem_query.specs.Parts.{signs_lt, same_stream, InPart, IsPart, AreParts}
use Rattle.sem_query.specs.Order.{IsBounded}
use Rattle.sem_query.specs.Links.{IsEquality, IsRedundant, between, equal_left, equal_right}
use Rattle.sem_query.specs.Violation as Violation
use Rattle.sem_query.specs.Violation.{condition_lt, Failure, failure_lt, Breaks, Fails, IsViolation}
use Rattle.sem_lower_bounds.specs.Plain.{HasNoDomains}
use Rattle.sem_lower_bounds.proofs.Plainly.{over-ends}
use Rattle.sem_lower_bounds.specs.Cases.{s_a, s_b}

before-first : (b : Attr) → attr_lt b s_a ≡ true → ⊥
before-first b h = grind (arith, nat_tests, h)

pub earlier : (n : ℕ) (d c : Condition) (b : Attr) → 0 < n
    → failure_lt record { part = n; condition = d; attr = b } record { part = 1; condition = c; attr = s_a } ≡ true → condition_lt d c ≡ true
earlier n d c b l h = elim (or-cases (nat_lt n 1) _ h) [
  | inl e ↦ absurd (grind (arith, nat_tests, e, l))
  | inr e ↦ elim (or-cases (condition_lt d c) _ (and-right (nat_eq n 1) _ e)) [
    | inl g ↦ g
    | inr g ↦ absurd (before-first b (and-right _ _ g))
  ]
]

first_part : (n : ℕ) (d c : Condition) (b : Attr) → 0 < n → failure_lt record { part = n; condition = d; attr = b } record { part = 1; condition = c; attr = s_a } ≡ true → n - 1 ≡ 0
first_part n d c b l h = elim (or-cases (nat_lt n 1) _ h) [
  | inl e ↦ absurd (grind (arith, nat_tests, e, l))
  | inr e ↦ (let f : n ≡ 1 = grind (arith, nat_tests, and-left (nat_eq n 1) _ e) in omega (arith, f))
]

first_is : (n : ℕ) (s t : List Sign) (rest : List (List Sign)) → n ≡ 0 → slice_get (s ∷ rest) n ≡ Some t → s ≡ t
first_is zero s t rest e f = cc
first_is (suc n) s t rest e f = absurd cc

-- the first of the parts breaks this condition, and none before it
pub refused-first : (q : QueryValue) (s : List Sign) (rest : List (List Sign)) → AreParts q (s ∷ rest) → (c : Condition) → is_filter q ≡ false → Breaks q s c s_a
    → ((d : Condition) → condition_lt d c ≡ true → (b : Attr) → Breaks q s d b → ⊥) → IsViolation q (Some record { part = 1; condition = c; attr = s_a })
refused-first q s rest are c joins h f = Violation.first joins (s ∷ rest) are (
  record { signs = s; number = omega arith; at = refl; breaks = h },
  λ g l k. f g.condition (earlier g.part g.condition c g.attr k.number l) g.attr
      (subst (λ t. Breaks q t g.condition g.attr) (sym (first_is (g.part - 1) s k.signs rest (first_part g.part g.condition c g.attr k.number l) k.at)) k.breaks),
)

module _ (q : QueryValue) (s : List Sign) (p : IsPart q s) (alone : (t : List Sign) → IsPart q t → s ≡ t) where
  is_part : (t : List Sign) → Has (s ∷ []) t → IsPart q t
  is_part t first = p
  is_part t (later h) = Has-nil h

  are_parts : AreParts q (s ∷ [])
  are_parts = record {
    ascending = pairs_from signs_lt (s ∷ []) (more (λ y h. Has-nil h) none);
    each = λ k d l. is_part _ (Has-from_contains _ _ (Contains-get_or (s ∷ []) k d l));
    all = λ t o. Contains-from_has _ t (subst (Has (s ∷ [])) (alone t o) first);
  }

  -- the one part breaks this condition, and none before it
  pub refused-by : (c : Condition) → is_filter q ≡ false → Breaks q s c s_a → ((d : Condition) → condition_lt d c ≡ true → (b : Attr) → Breaks q s d b → ⊥)
      → IsViolation q (Some record { part = 1; condition = c; attr = s_a })
  refused-by c joins h f = refused-first q s [] are_parts c joins h f

module _ (q : QueryValue) (s : List Sign) (p : IsPart q s) (none : HasNoDomains q) (fives : consts_of q.atoms ≡ pos 5 ∷ []) where
  five : (k : ℤ) → Contains (consts_of q.atoms) k → pos 5 ≡ k
  five k h = elim (has_cases (pos 5) k [] (Has-from_contains (pos 5 ∷ []) k (subst (λ ks. Contains ks k) fives h))) [ inl e ↦ e | inr i ↦ Has-nil i ]

  -- what is above the constant in one assignment is unbounded
  pub unbounded : (a : Attr) → pos 5 <ℤ p.one a → IsBounded q s a → ⊥
  unbounded a l b = unbounded_over_all q s p a (over-ends q none (λ k. k <ℤ p.one a) (λ k h. (let e : pos 5 ≡ k = five k h in omega (arith, ints, e, l)))) b

  -- nothing lies between the sides of an inequality that are next to each other in one assignment
  pub needed : (x y : Attr) → p.one y ≡ p.one x +ℤ pos 1 → pos 5 <ℤ p.one x → ¬ IsRedundant q s x y
  needed x y e l (between z h a b) =
      let m : p.one x <ℤ value z p.one = a.less p.one p.inside in
      let n : value z p.one <ℤ p.one y = b.less p.one p.inside in
      omega (arith, ints, e, m, n)
  needed x y e l (equal_left k h a b) =
      let f : pos 5 ≡ k = five k h in
      let m : p.one x ≡ k = a.equal p.one p.inside in
      omega (arith, ints, f, m, l)
  needed x y e l (equal_right k h a b) =
      let f : pos 5 ≡ k = five k h in
      let m : p.one x <ℤ k = a.less p.one p.inside in
      omega (arith, ints, f, m, l)

-- in the assignment columns of different streams have different values
abbrev pub apart_at : Assignment → Attr → Attr → Bool
apart_at v x y = same_stream x y || not (int_eq (v x) (v y))

abbrev pub all_apart : Assignment → List Attr → Bool
all_apart v xs = list_all (λ x. list_all (apart_at v x) xs) xs

not_apart : (v : Assignment) (x y : Attr) → apart_at v x y ≡ true → x.stream ≢ y.stream → v x ≡ v y → ⊥
not_apart v x y h n e = elim (or-cases (same_stream x y) _ h) [
  | inl i ↦ n (grind (arith, i))
  | inr i ↦ grind (arith, ints, i, e)
]

-- then there is no equality between streams
pub no_equality : (q : QueryValue) (s : List Sign) (p : IsPart q s) → all_apart p.one (attrs_of q.atoms) ≡ true → (a b : Attr) → IsEquality q s a b → ⊥
no_equality q s p h a b i =
    let xs : List Attr = attrs_of q.atoms in
    let row : list_all (apart_at p.one a) (attrs_of q.atoms) ≡ true = all_at (λ x. list_all (apart_at p.one x) (attrs_of q.atoms)) (attrs_of q.atoms) a h (Has-from_contains _ a i.across.left) in
    not_apart p.one a b (all_at (apart_at p.one a) (attrs_of q.atoms) b row (Has-from_contains _ b i.across.right)) i.across.across (i.equal.equal p.one p.inside)

-- a query that asks S.b = 5 first, and selects S.b, selects a bounded column
module _ (q : QueryValue) (s : List Sign) (is_five : (v : Assignment) → InPart q s v → v s_b ≡ pos 5) where
  b_bounded : IsBounded q s s_b
  b_bounded = record {
    low = pos 5;
    high = pos 5;
    above = λ v i. let e : v s_b ≡ pos 5 = is_five v i in omega (arith, ints, e);
    below = λ v i. let e : v s_b ≡ pos 5 = is_five v i in omega (arith, ints, e);
  }

  pub selects-bounded : q.select ≡ s_b ∷ [] → (a : Attr) → Contains q.select a → IsBounded q s a
  selects-bounded e a h = elim (has_cases s_b a [] (Has-from_contains (s_b ∷ []) a (subst (λ xs. Contains xs a) e h))) [
    | inl f ↦ subst (IsBounded q s) f b_bounded
    | inr i ↦ Has-nil i
  ]
