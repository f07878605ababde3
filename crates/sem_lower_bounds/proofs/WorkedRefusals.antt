-- Worked queries that are refused.
use Rattle.std.proofs.Common.{◌≡◌, List, [], ◌∷◌, Bool, true, false, inl, inr, refl, sym, ap, ◌∙◌, arith, cond, nat_eq, ℤ, pos, ◌<ℤ◌, ◌+ℤ◌, Some}
use Rattle.std.proofs.lemmas.Int.{ints}
use Rattle.sem_query.proofs.Has.{first, later}
use Rattle.sem_query.proofs.Holding.{Compares-from_test, Holds-each}
use Rattle.sem_query.proofs.Local.{sign-lt, sign-eq, sign-gt}
use Rattle.sem_query.specs.declared.atom.Attr.{Attr}
use Rattle.sem_query.specs.declared.atom.Op.{Op}
use Rattle.sem_query.specs.declared.part.Sign.{Sign}
use Rattle.sem_query.specs.declared.condition.Condition.{Condition}
use Rattle.sem_query.specs.declared.condition.Condition.TheVariants.{C1, C2, C3}
use Rattle.sem_query.specs.Query.{QueryValue, IsWithinLimits, is_filter, attrs_of}
use Rattle.sem_query.specs.Assignment.{Assignment, holds}
use Rattle.sem_query.specs.Parts.{pairs, sign, signs_of, IsPart}
use Rattle.sem_query.specs.Links.{IsEquality, IsMinRef, IsMaxRef, HasTwoRefs, both}
use Rattle.sem_query.specs.Violation.{condition_lt, Breaks, IsViolation}
use Rattle.sem_lower_bounds.specs.Cases.{s_a, s_b, t_c, t_d, seen, paid, under, window, at_first, IsRefused, RefusalsAreThese}
use Rattle.sem_query.specs.declared.plan.Kind.{Kind}
use Rattle.sem_query.specs.declared.plan.PartPlan.{PartPlan}
use Rattle.sem_query.specs.Plan.{link}
use Rattle.sem_laws.specs.Cases.{dim, one_cell}
use Rattle.sem_laws.proofs.Limits.{within-limits}
use Rattle.sem_laws.proofs.PlanIs.{plan_test}
use Rattle.sem_laws.proofs.PlanKeeps.{unbroken, no-violation}
use Rattle.sem_lower_bounds.specs.Plain.{IsPlain}
use Rattle.sem_lower_bounds.proofs.Plainly.{plain-if}
use Rattle.sem_lower_bounds.proofs.OnePart.{refused-by, unbounded, needed, all_apart, no_equality, selects-bounded}
use Rattle.sem_lower_bounds.proofs.HotUnbounded.{hot-refused}
use Rattle.sem_lower_bounds.proofs.HotCounted.{counted-refused}
use Rattle.sem_lower_bounds.proofs.Refused.{refused-needs-states}

-- S.a, S.b and all columns of T
at : ℤ → ℤ → ℤ → Assignment
at a c d x = cond (nat_eq x.stream 0) (cond (nat_eq x.column 0) a (pos 5)) (cond (nat_eq x.column 0) c d)

abbrev is_refused : (q : QueryValue) (c : Condition) → IsWithinLimits q → IsPlain q → IsViolation q (Some (at_first c)) → IsRefused q (at_first c)
is_refused q c w p v = record { limits = w; plain = p; violation = v; needs = refused-needs-states q w p (at_first c) v }

-- S.a is selected, and unbounded
module _ (distinct : Bool) where
  seen_part : IsPart (seen distinct) (Sign.Gt ∷ [])
  unfolding at pairs
  seen_part = record { one = at (pos 6) (pos 6) (pos 6); inside = record { holds = refl; domains = refl; signs = refl } }

  seen_alone : (t : List Sign) → IsPart (seen distinct) t → (Sign.Gt ∷ []) ≡ t
  unfolding pairs
  seen_alone t o =
      let l : pos 5 <ℤ o.one s_a = Compares-from_test Op.Gt (o.one s_a) (pos 5) (Holds-each (seen distinct) o.one o.inside.holds _ first) in
      ap (λ g. g ∷ []) (sym (sign-gt (o.one s_a) (pos 5) l)) ∙ o.inside.signs

  six-above : pos 5 <ℤ seen_part.one s_a
  unfolding seen_part at
  six-above = omega (arith, ints)

  seen_breaks : Breaks (seen distinct) (Sign.Gt ∷ []) C1 s_a
  seen_breaks = ((0, omega arith, refl), unbounded (seen distinct) (Sign.Gt ∷ []) seen_part refl refl s_a six-above)

  no_filter : is_filter (seen distinct) ≡ false
  no_filter = by distinct
    where
      by : (d : Bool) → is_filter (seen d) ≡ false
      by true = refl
      by false = refl

  seen-refused : IsRefused (seen distinct) (at_first C1)
  seen-refused =
      is_refused (seen distinct) C1 (within-limits (seen distinct) refl) (plain-if (seen distinct) refl refl refl)
      (refused-by (seen distinct) (Sign.Gt ∷ []) seen_part seen_alone C1 no_filter seen_breaks first_condition)
    where
      first_condition : (d : Condition) → condition_lt d C1 ≡ true → (b : Attr) → Breaks (seen distinct) (Sign.Gt ∷ []) d b → ⊥
      first_condition C1 l b h = absurd cc
      first_condition C2 l b h = absurd cc
      first_condition C3 l b h = absurd cc

-- the signs of S.a above 5, S.b at 5 and T.c above 5
shape : ℤ → ℤ → ℤ → List Sign
shape a b c = sign a (pos 5) ∷ sign a b ∷ sign b (pos 5) ∷ sign c (pos 5) ∷ []

abbrev three_signs : List Sign
three_signs = Sign.Gt ∷ Sign.Gt ∷ Sign.Eq ∷ Sign.Gt ∷ []

shape-three : (a b c : ℤ) → b ≡ pos 5 → pos 5 <ℤ a → pos 5 <ℤ c → shape a b c ≡ three_signs
unfolding shape
shape-three a b c e l m =
    let s1 : sign a (pos 5) ≡ Sign.Gt = sign-gt a (pos 5) l in
    let s2 : sign a b ≡ Sign.Gt = sign-gt a b (omega (arith, ints)) in
    let s3 : sign b (pos 5) ≡ Sign.Eq = sign-eq b (pos 5) e in
    let s4 : sign c (pos 5) ≡ Sign.Gt = sign-gt c (pos 5) m in
    cc

-- S.a equals T.c, and is unbounded
module _ (distinct : Bool) where
  abbrev q : QueryValue
  q = paid distinct

  paid_part : IsPart q three_signs
  unfolding at pairs
  paid_part = record { one = at (pos 6) (pos 6) (pos 6); inside = record { holds = refl; domains = refl; signs = refl } }

  paid_shape : (v : Assignment) → signs_of q v ≡ shape (v s_a) (v s_b) (v t_c)
  unfolding pairs shape
  paid_shape v = refl

  paid_five : (v : Assignment) → holds q v ≡ true → v s_b ≡ pos 5
  paid_five v h = Compares-from_test Op.Eq (v s_b) (pos 5) (Holds-each q v h _ first)

  paid_above : (v : Assignment) → holds q v ≡ true → pos 5 <ℤ v s_a
  paid_above v h = Compares-from_test Op.Gt (v s_a) (pos 5) (Holds-each q v h _ (later first))

  paid_same : (v : Assignment) → holds q v ≡ true → v s_a ≡ v t_c
  paid_same v h = Compares-from_test Op.Eq (v s_a) (v t_c) (Holds-each q v h _ (later (later first)))

  paid_alone : (t : List Sign) → IsPart q t → three_signs ≡ t
  paid_alone t o =
      let h : holds q o.one ≡ true = o.inside.holds in
      let l : pos 5 <ℤ o.one s_a = paid_above o.one h in
      let e : o.one s_a ≡ o.one t_c = paid_same o.one h in
      sym (shape-three (o.one s_a) (o.one s_b) (o.one t_c) (paid_five o.one h) l (omega (arith, ints, e, l)))
      ∙ sym (paid_shape o.one) ∙ o.inside.signs

  paid_six : pos 5 <ℤ paid_part.one s_a
  unfolding paid_part at
  paid_six = omega (arith, ints)

  paid_equal : IsEquality q three_signs s_a t_c
  paid_equal = record {
    across = record { left = (0, omega arith, refl); right = (2, omega arith, refl); across = λ e. omega (arith, e) };
    equal = record { equal = λ v i. paid_same v i.holds };
  }

  paid_filter : is_filter q ≡ false
  paid_filter = by distinct
    where
      by : (d : Bool) → is_filter (paid d) ≡ false
      by true = refl
      by false = refl

  paid-refused : IsRefused q (at_first C2)
  paid-refused =
      is_refused q C2 (within-limits q refl) (plain-if q refl refl refl)
      (refused-by q three_signs paid_part paid_alone C2 paid_filter (unbounded q three_signs paid_part refl refl s_a paid_six, t_c, inl paid_equal) first_condition)
    where
      first_condition : (d : Condition) → condition_lt d C2 ≡ true → (b : Attr) → Breaks q three_signs d b → ⊥
      first_condition C1 l b h = h.1 (selects-bounded q three_signs (λ v i. paid_five v i.holds) refl b h.0)
      first_condition C2 l b h = absurd cc
      first_condition C3 l b h = absurd cc

-- S.a is below T.c, and both are unbounded
abbrev u : QueryValue
u = under false

under_part : IsPart u three_signs
unfolding at pairs
under_part = record { one = at (pos 6) (pos 7) (pos 7); inside = record { holds = refl; domains = refl; signs = refl } }

under_shape : (v : Assignment) → signs_of u v ≡ shape (v s_a) (v s_b) (v t_c)
unfolding pairs shape
under_shape v = refl

under_five : (v : Assignment) → holds u v ≡ true → v s_b ≡ pos 5
under_five v h = Compares-from_test Op.Eq (v s_b) (pos 5) (Holds-each u v h _ first)

under_above : (v : Assignment) → holds u v ≡ true → pos 5 <ℤ v s_a
under_above v h = Compares-from_test Op.Gt (v s_a) (pos 5) (Holds-each u v h _ (later first))

under_less : (v : Assignment) → holds u v ≡ true → v s_a <ℤ v t_c
under_less v h = Compares-from_test Op.Lt (v s_a) (v t_c) (Holds-each u v h _ (later (later first)))

under_alone : (t : List Sign) → IsPart u t → three_signs ≡ t
under_alone t o =
    let h : holds u o.one ≡ true = o.inside.holds in
    let l : pos 5 <ℤ o.one s_a = under_above o.one h in
    let e : o.one s_a <ℤ o.one t_c = under_less o.one h in
    sym (shape-three (o.one s_a) (o.one s_b) (o.one t_c) (under_five o.one h) l (omega (arith, ints, e, l)))
    ∙ sym (under_shape o.one) ∙ o.inside.signs

under_six : pos 5 <ℤ under_part.one s_a
unfolding under_part at
under_six = omega (arith, ints)

under_next : under_part.one t_c ≡ under_part.one s_a +ℤ pos 1
unfolding under_part at
under_next = refl

under_apart : all_apart under_part.one (attrs_of u.atoms) ≡ true
unfolding under_part at
under_apart = refl

under_link : IsMinRef u three_signs s_a
under_link = record {
  unbounded = unbounded u three_signs under_part refl refl s_a under_six;
  other = t_c;
  inequality = record {
    across = record { left = (0, omega arith, refl); right = (2, omega arith, refl); across = λ e. omega (arith, e) };
    less = record { less = λ v i. under_less v i.holds };
    needed = needed u three_signs under_part refl refl s_a t_c under_next under_six;
  };
}

under-refused : IsRefused u (at_first C3)
under-refused =
    is_refused u C3 (within-limits u refl) (plain-if u refl refl refl)
    (refused-by u three_signs under_part under_alone C3 refl (inl under_link, (λ e. absurd cc)) first_condition)
  where
    first_condition : (d : Condition) → condition_lt d C3 ≡ true → (b : Attr) → Breaks u three_signs d b → ⊥
    first_condition C1 l b h = h.1 (selects-bounded u three_signs (λ v i. under_five v i.holds) refl b h.0)
    first_condition C2 l b h = elim h.2 [ inl e ↦ no_equality u three_signs under_part under_apart b h.1 e | inr e ↦ no_equality u three_signs under_part under_apart h.1 b e ]
    first_condition C3 l b h = absurd cc

-- S.a is above T.c and below T.d, and all are unbounded
shape_of_four : ℤ → ℤ → ℤ → ℤ → List Sign
shape_of_four a b c d = sign a (pos 5) ∷ sign a b ∷ sign b (pos 5) ∷ sign c (pos 5) ∷ sign c d ∷ sign d (pos 5) ∷ []

abbrev four_signs : List Sign
four_signs = Sign.Gt ∷ Sign.Gt ∷ Sign.Eq ∷ Sign.Gt ∷ Sign.Lt ∷ Sign.Gt ∷ []

shape-four : (a b c d : ℤ) → b ≡ pos 5 → pos 5 <ℤ c → c <ℤ a → a <ℤ d → shape_of_four a b c d ≡ four_signs
unfolding shape_of_four
shape-four a b c d e l m n =
    let s1 : sign a (pos 5) ≡ Sign.Gt = sign-gt a (pos 5) (omega (arith, ints)) in
    let s2 : sign a b ≡ Sign.Gt = sign-gt a b (omega (arith, ints)) in
    let s3 : sign b (pos 5) ≡ Sign.Eq = sign-eq b (pos 5) e in
    let s4 : sign c (pos 5) ≡ Sign.Gt = sign-gt c (pos 5) l in
    let s5 : sign c d ≡ Sign.Lt = sign-lt c d (omega (arith, ints)) in
    let s6 : sign d (pos 5) ≡ Sign.Gt = sign-gt d (pos 5) (omega (arith, ints)) in
    cc

module _ (distinct : Bool) where
  abbrev w : QueryValue
  w = window distinct

  window_part : IsPart w four_signs
  unfolding at pairs
  window_part = record { one = at (pos 7) (pos 6) (pos 8); inside = record { holds = refl; domains = refl; signs = refl } }

  window_shape : (v : Assignment) → signs_of w v ≡ shape_of_four (v s_a) (v s_b) (v t_c) (v t_d)
  unfolding pairs shape_of_four
  window_shape v = refl

  window_five : (v : Assignment) → holds w v ≡ true → v s_b ≡ pos 5
  window_five v h = Compares-from_test Op.Eq (v s_b) (pos 5) (Holds-each w v h _ first)

  window_above : (v : Assignment) → holds w v ≡ true → pos 5 <ℤ v t_c
  window_above v h = Compares-from_test Op.Gt (v t_c) (pos 5) (Holds-each w v h _ (later first))

  window_left : (v : Assignment) → holds w v ≡ true → v t_c <ℤ v s_a
  window_left v h = Compares-from_test Op.Lt (v t_c) (v s_a) (Holds-each w v h _ (later (later first)))

  window_right : (v : Assignment) → holds w v ≡ true → v s_a <ℤ v t_d
  window_right v h = Compares-from_test Op.Lt (v s_a) (v t_d) (Holds-each w v h _ (later (later (later first))))

  window_alone : (t : List Sign) → IsPart w t → four_signs ≡ t
  window_alone t o =
      let h : holds w o.one ≡ true = o.inside.holds in
      sym (shape-four (o.one s_a) (o.one s_b) (o.one t_c) (o.one t_d) (window_five o.one h) (window_above o.one h) (window_left o.one h) (window_right o.one h))
      ∙ sym (window_shape o.one) ∙ o.inside.signs

  window_six : pos 5 <ℤ window_part.one t_c
  unfolding window_part at
  window_six = omega (arith, ints)

  window_seven : pos 5 <ℤ window_part.one s_a
  unfolding window_part at
  window_seven = omega (arith, ints)

  window_next : window_part.one s_a ≡ window_part.one t_c +ℤ pos 1
  unfolding window_part at
  window_next = refl

  window_last : window_part.one t_d ≡ window_part.one s_a +ℤ pos 1
  unfolding window_part at
  window_last = refl

  window_apart : all_apart window_part.one (attrs_of w.atoms) ≡ true
  unfolding window_part at
  window_apart = refl

  window_min : IsMinRef w four_signs s_a
  window_min = record {
    unbounded = unbounded w four_signs window_part refl refl s_a window_seven;
    other = t_d;
    inequality = record {
      across = record { left = (0, omega arith, refl); right = (3, omega arith, refl); across = λ e. omega (arith, e) };
      less = record { less = λ v i. window_right v i.holds };
      needed = needed w four_signs window_part refl refl s_a t_d window_last window_seven;
    };
  }

  window_max : IsMaxRef w four_signs s_a
  window_max = record {
    unbounded = unbounded w four_signs window_part refl refl s_a window_seven;
    other = t_c;
    inequality = record {
      across = record { left = (2, omega arith, refl); right = (0, omega arith, refl); across = λ e. omega (arith, e) };
      less = record { less = λ v i. window_left v i.holds };
      needed = needed w four_signs window_part refl refl t_c s_a window_next window_six;
    };
  }

  two_refs : HasTwoRefs w four_signs 0
  two_refs = record { first = s_a; second = s_a; here = refl; there = refl; two = both window_min window_max }

  window_filter : is_filter w ≡ false
  window_filter = by distinct
    where
      by : (d : Bool) → is_filter (window d) ≡ false
      by true = refl
      by false = refl

  window-refused : IsRefused w (at_first C3)
  window-refused =
      is_refused w C3 (within-limits w refl) (plain-if w refl refl refl)
      (refused-by w four_signs window_part window_alone C3 window_filter (inl window_min, (λ e. two_refs)) first_condition)
    where
      first_condition : (d : Condition) → condition_lt d C3 ≡ true → (b : Attr) → Breaks w four_signs d b → ⊥
      first_condition C1 l b h = h.1 (selects-bounded w four_signs (λ v i. window_five v i.holds) refl b h.0)
      first_condition C2 l b h = elim h.2 [ inl e ↦ no_equality w four_signs window_part window_apart b h.1 e | inr e ↦ no_equality w four_signs window_part window_apart h.1 b e ]
      first_condition C3 l b h = absurd cc

-- with DISTINCT one link is kept by its extreme
under_plan : List PartPlan
under_plan = record {
  signs = record { items = three_signs };
  streams = record { items = one_cell (dim s_b (pos 5) ∷ []) (Kind.Least s_a) 0 ∷ one_cell [] (Kind.Greatest t_c) 1 ∷ [] };
  equal = record { items = [] };
  less = record { items = link s_a t_c ∷ [] };
  local = [];
  soft = record { items = [] };
} ∷ []

under_within : List (List Assignment)
under_within = (at (pos 6) (pos 7) (pos 7) ∷ []) ∷ []

under-passes : plan_test (under true) under_plan under_within ≡ true
unfolding under_plan under_within at pairs
under-passes = refl

under-keeps : unbroken (under true) under_plan under_within ≡ true
unfolding under_plan under_within at pairs
under-keeps = refl

pub refusals-are-these : RefusalsAreThese
refusals-are-these = record {
  selected = λ d. seen-refused d;
  equal = λ d. paid-refused d;
  link = under-refused;
  extreme = no-violation (under true) under_plan under_within refl under-passes under-keeps;
  two_links = λ d. window-refused d;
  unbounded = hot-refused;
  counted = counted-refused;
}
