-- The worked query with a soft comparison.
use Rattle.std.proofs.Common.{◌≡◌, ℕ, zero, suc, ◌≤◌, ◌*◌, ◌+◌, inl, inr, List, [], ◌∷◌, map, length, Bool, true, false, not, ◌&&◌, refl, sym, ap, ◌∙◌, subst, arith, cond, nat_eq, ℤ, pos, nat_abs, int_lt, ◌<ℤ◌, ◌≤ℤ◌, ◌+ℤ◌, Contains, Some, None}
use Rattle.std.proofs.lemmas.Int.{ints, by_lt_z}
use Rattle.std.proofs.lemmas.List.{length-map}
use Rattle.std.proofs.lemmas.List.Elements.{Contains-get_or}
use Rattle.std.specs.Ordering.{int_eq}
use Rattle.sem_query.proofs.Has.{Has, first, later, Has-nil, Has-from_contains, Contains-from_has}
use Rattle.sem_query.proofs.Holding.{Compares-from_test, Holds-each}
use Rattle.sem_query.proofs.Local.{sign-eq, sign-gt, eq_from_sign}
use Rattle.sem_query.proofs.Split.{pairs_from}
use Rattle.sem_query.proofs.Unique.{none, more}
use Rattle.sem_query.specs.declared.atom.Attr.{Attr}
use Rattle.sem_query.specs.declared.atom.Op.{Op}
use Rattle.sem_query.specs.declared.atom.Element.TheVariants as element
use Rattle.sem_query.specs.declared.condition.Condition.{Condition}
use Rattle.sem_query.specs.declared.condition.Condition.TheVariants.{C1, C2, C3}
use Rattle.sem_query.specs.declared.part.Sign.{Sign}
use Rattle.sem_query.specs.declared.plan.Kind.{Kind}
use Rattle.sem_query.specs.declared.plan.PartPlan.{PartPlan}
use Rattle.sem_query.specs.Assignment.{Assignment, holds, projected}
use Rattle.sem_query.specs.Links.{IsEquality}
use Rattle.sem_query.specs.Meaning.{Arrival, by_column, assignment_of}
use Rattle.sem_query.specs.Parts.{pairs, sign, signs_of, signs_lt, IsPart, AreParts}
use Rattle.sem_query.specs.Plan.{link}
use Rattle.sem_query.specs.Query.{QueryValue, IsWithinLimits, is_filter}
use Rattle.sem_query.specs.Violation.{condition_lt, Breaks, IsViolation}
use Rattle.sem_laws.specs.Cases.{atom, dim, one_cell}
use Rattle.sem_laws.proofs.Limits.{within-limits}
use Rattle.sem_laws.proofs.OnePartFits.{has_cases}
use Rattle.sem_laws.proofs.PlanIs.{plan_test}
use Rattle.sem_laws.proofs.PlanKeeps.{unbroken, no-violation}
use Rattle.sem_lower_bounds.specs.Cases.{s_a, s_b, t_c, b_is_five, above_five, over_two, at_first}
use Rattle.sem_lower_bounds.specs.Loose.{at_least, SoftMayMislead}
use Rattle.sem_lower_bounds.specs.Soft.{no_distinct}
use Rattle.sem_lower_bounds.specs.States.{Evaluator, after, IsWithin, AreWithin, IsRight, HasFewFor, NeedsStates}
use Rattle.sem_lower_bounds.proofs.Exact.{HasRight, some-right}
use Rattle.sem_lower_bounds.proofs.OnePart.{refused-first, unbounded, selects-bounded}
use Rattle.sem_lower_bounds.proofs.Refused.{telling-needs-states}
use Rattle.sem_lower_bounds.proofs.Separated.{few-refute}
use Rattle.sem_lower_bounds.proofs.RowsChanged.{changed_row, change_each, Follows, new-changed, changing, after-changed, start-changed, says-changed}

-- S.a, S.b and T.c
at : ℤ → ℤ → Assignment
at a c x = cond (nat_eq x.stream 0) (cond (nat_eq x.column 0) a (pos 5)) c

-- the signs of S.a above 5, S.b at 5 and T.c above 5
abbrev three_signs : List Sign
three_signs = Sign.Gt ∷ Sign.Gt ∷ Sign.Eq ∷ Sign.Gt ∷ []

abbrev equal_signs : List Sign
equal_signs = Sign.Eq ∷ three_signs

abbrev greater_signs : List Sign
greater_signs = Sign.Gt ∷ three_signs

shape : ℤ → ℤ → ℤ → List Sign
shape a b c = sign a c ∷ sign a (pos 5) ∷ sign a b ∷ sign b (pos 5) ∷ sign c (pos 5) ∷ []

shape-is : (a b c : ℤ) (s : Sign) → sign a c ≡ s → b ≡ pos 5 → pos 5 <ℤ c → c ≤ℤ a → shape a b c ≡ (s ∷ three_signs)
unfolding shape
shape-is a b c s o e l m =
    let s1 : sign a (pos 5) ≡ Sign.Gt = sign-gt a (pos 5) (omega (arith, ints, l, m)) in
    let s2 : sign a b ≡ Sign.Gt = sign-gt a b (omega (arith, ints, e, l, m)) in
    let s3 : sign b (pos 5) ≡ Sign.Eq = sign-eq b (pos 5) e in
    let s4 : sign c (pos 5) ≡ Sign.Gt = sign-gt c (pos 5) l in
    cc

module _ (distinct : Bool) where
  abbrev q : QueryValue
  q = at_least distinct

  equal_part : IsPart q equal_signs
  unfolding at pairs
  equal_part = record { one = at (pos 6) (pos 6); inside = record { holds = refl; domains = refl; signs = refl } }

  greater_part : IsPart q greater_signs
  unfolding at pairs
  greater_part = record { one = at (pos 7) (pos 6); inside = record { holds = refl; domains = refl; signs = refl } }

  shape_of : (v : Assignment) → signs_of q v ≡ shape (v s_a) (v s_b) (v t_c)
  unfolding pairs shape
  shape_of v = refl

  five : (v : Assignment) → holds q v ≡ true → v s_b ≡ pos 5
  five v h = Compares-from_test Op.Eq (v s_b) (pos 5) (Holds-each q v h _ first)

  above : (v : Assignment) → holds q v ≡ true → pos 5 <ℤ v t_c
  above v h = Compares-from_test Op.Gt (v t_c) (pos 5) (Holds-each q v h _ (later first))

  least : (v : Assignment) → holds q v ≡ true → v t_c ≤ℤ v s_a
  least v h = Compares-from_test Op.Ge (v s_a) (v t_c) (Holds-each q v h _ (later (later first)))

  -- it has these two parts
  abbrev parts : List (List Sign)
  parts = equal_signs ∷ greater_signs ∷ []

  each_part : (t : List Sign) → Has parts t → IsPart q t
  each_part t first = equal_part
  each_part t (later first) = greater_part
  each_part t (later (later h)) = Has-nil h

  all_parts : (t : List Sign) → IsPart q t → Has parts t
  all_parts t o =
      let h : holds q o.one ≡ true = o.inside.holds in
      by_lt_z (o.one t_c) (o.one s_a)
      (λ l. subst (Has parts) (sym (shape-is (o.one s_a) (o.one s_b) (o.one t_c) Sign.Gt (sign-gt (o.one s_a) (o.one t_c) l) (five o.one h) (above o.one h) (least o.one h))
      ∙ sym (shape_of o.one) ∙ o.inside.signs) (later first))
      (λ l. subst (Has parts) (sym (shape-is (o.one s_a) (o.one s_b) (o.one t_c) Sign.Eq (sign-eq (o.one s_a) (o.one t_c) (same (o.one s_a) (o.one t_c) l (least o.one h))) (five o.one h) (above o.one h) (least o.one h))
      ∙ sym (shape_of o.one) ∙ o.inside.signs) first)
    where
      same : (a c : ℤ) → a ≤ℤ c → c ≤ℤ a → a ≡ c
      same a c l m = omega (arith, ints, l, m)

  are_parts : AreParts q parts
  are_parts = record {
    ascending = pairs_from signs_lt parts (more (λ y h. elim (has_cases greater_signs y [] h) [ inl e ↦ subst (λ t. signs_lt equal_signs t ≡ true) e refl | inr i ↦ Has-nil i ]) (more (λ y h. Has-nil h) none));
    each = λ k d l. each_part _ (Has-from_contains _ _ (Contains-get_or parts k d l));
    all = λ t o. Contains-from_has _ t (all_parts t o);
  }

  -- in the first the two are equal
  sides_equal : IsEquality q equal_signs s_a t_c
  unfolding pairs
  sides_equal = record {
    across = record { left = (0, omega arith, refl); right = (2, omega arith, refl); across = λ e. omega (arith, e) };
    equal = record { equal = λ v i. eq_from_sign (v s_a) (v t_c) (head (sign (v s_a) (v t_c)) Sign.Eq _ _ (sym (shape_is v) ∙ i.signs)) };
  }
    where
      head : (s t : Sign) (ss ts : List Sign) → (s ∷ ss) ≡ (t ∷ ts) → s ≡ t
      head s t ss ts e = cc

      rest : Assignment → List Sign
      rest v = sign (v s_a) (pos 5) ∷ sign (v s_a) (v s_b) ∷ sign (v s_b) (pos 5) ∷ sign (v t_c) (pos 5) ∷ []

      shape_is : (v : Assignment) → signs_of q v ≡ (sign (v s_a) (v t_c) ∷ rest v)
      shape_is v = refl

  six_above : pos 5 <ℤ equal_part.one s_a
  unfolding equal_part at
  six_above = omega (arith, ints)

  no_filter : is_filter q ≡ false
  no_filter = by distinct
    where
      by : (d : Bool) → is_filter (at_least d) ≡ false
      by true = refl
      by false = refl

  limits : IsWithinLimits q
  limits = within-limits q refl

  refused : IsViolation q (Some (at_first C2))
  refused =
      refused-first q equal_signs (greater_signs ∷ []) are_parts C2 no_filter (unbounded q equal_signs equal_part refl refl s_a six_above, t_c, inl sides_equal) earlier
    where
      earlier : (d : Condition) → condition_lt d C2 ≡ true → (b : Attr) → Breaks q equal_signs d b → ⊥
      earlier C1 l b h = h.1 (selects-bounded q equal_signs (λ v i. five v i.holds) refl b h.0)
      earlier C2 l b h = absurd cc
      earlier C3 l b h = absurd cc

-- The strict query is accepted, and answers the same to rows of S with the first value one greater.
abbrev strict : QueryValue
strict = over_two true s_b (b_is_five ∷ above_five t_c ∷ atom (element.Attr s_a) Op.Gt (element.Attr t_c) ∷ [])

plan : List PartPlan
plan = record {
  signs = record { items = three_signs };
  streams = record { items = one_cell (dim s_b (pos 5) ∷ []) (Kind.Greatest s_a) 0 ∷ one_cell [] (Kind.Least t_c) 1 ∷ [] };
  equal = record { items = [] };
  less = record { items = link t_c s_a ∷ [] };
  local = [];
  soft = record { items = [] };
} ∷ []

inside : List (List Assignment)
inside = (at (pos 7) (pos 6) ∷ []) ∷ []

passes : plan_test strict plan inside ≡ true
unfolding plan inside at pairs
passes = refl

keeps : unbroken strict plan inside ≡ true
unfolding plan inside at pairs
keeps = refl

strict_limits : IsWithinLimits strict
strict_limits = within-limits strict refl

accepted : IsViolation strict None
accepted = no-violation strict plan inside refl passes keeps

abbrev greater : ℕ → List ℤ → List ℤ
greater zero [] = pos 1 ∷ []
greater zero (z ∷ row) = (z +ℤ pos 1) ∷ row
greater (suc s) row = row

one_more : (a c : ℤ) → int_lt c (a +ℤ pos 1) ≡ not (int_lt a c)
one_more a c = grind (arith, ints)

follows : Follows greater strict (at_least true)
follows = record { distinct = refl; from = refl; alike = alike }
  where
    third : (a b c d : Bool) → c ≡ d → (a && (b && (c && true))) ≡ (a && (b && (d && true)))
    third a b c d e = ap (λ x. a && (b && (x && true))) e

    alike : (c : List (List ℤ)) → length c ≡ 2
        → (holds strict (assignment_of (change_each greater (0 ∷ 1 ∷ []) c)) ≡ holds (at_least true) (assignment_of c))
        × (projected strict (assignment_of (change_each greater (0 ∷ 1 ∷ []) c)) ≡ projected (at_least true) (assignment_of c))
    alike [] e = absurd (omega (arith, e))
    alike (x ∷ []) e = absurd (omega (arith, e))
    alike ([] ∷ y ∷ []) e = (third (int_eq (pos 0) (pos 5)) (int_lt (pos 5) (by_column y 0)) (int_lt (by_column y 0) (pos 1)) (not (int_lt (pos 0) (by_column y 0))) (one_more (pos 0) (by_column y 0)), refl)
    alike ((z ∷ x) ∷ y ∷ []) e = (third (int_eq (by_column x 0) (pos 5)) (int_lt (pos 5) (by_column y 0)) (int_lt (by_column y 0) (z +ℤ pos 1)) (not (int_lt z (by_column y 0))) (one_more z (by_column y 0)), refl)
    alike (x ∷ y ∷ r ∷ c) e = absurd (omega (arith, e))

wider : (m n : ℕ) (row : List ℤ) → m ≤ n → IsWithin m row → IsWithin n row
wider m n [] l w = tt
wider m n (z ∷ row) l w = (omega (arith, l, w.0), wider m n row l w.1)

greater-within : (m n s : ℕ) (row : List ℤ) → m + 1 ≤ n → IsWithin m row → IsWithin n (greater s row)
greater-within m n zero [] l w = (omega (arith, ints, l), tt)
greater-within m n zero (z ∷ row) l w = (let h : nat_abs z ≤ m = w.0 in omega (arith, ints, l, h), wider m n row (omega (arith, l)) w.1)
greater-within m n (suc s) row l w = wider m n row (omega (arith, l)) w

all-within : (m n : ℕ) (h : List Arrival) → m + 1 ≤ n → AreWithin m h → AreWithin n (map (changed_row greater) h)
all-within m n [] l w = tt
all-within m n (r ∷ h) l w = (greater-within m n r.stream r.values l w.0, all-within m n h l w.1)

comes-to : (e : Evaluator) (h : List Arrival) → after (changing greater e) (changing greater e).start h ≡ after e e.start (map (changed_row greater) h)
comes-to e h = after-changed greater e (changing greater e).start h ∙ ap (λ (s : ℕ). after e s (map (changed_row greater) h)) (start-changed greater e)

right-for : (e : Evaluator) → IsRight strict e → IsRight (at_least true) (changing greater e)
right-for e right h r =
    says-changed greater e (after (changing greater e) (changing greater e).start h) r
    ∙ ap (λ (s : ℕ). e.says s (changed_row greater r)) (comes-to e h)
    ∙ right (map (changed_row greater) h) (changed_row greater r)
    ∙ new-changed greater strict (at_least true) follows h r

few-for : (e : Evaluator) (b : ℕ) → HasFewFor e (suc b) → HasFewFor (changing greater e) b
few-for e b o = record {
  n = o.n;
  most = o.most;
  states = record {
    states = o.states.states;
    size = o.states.size;
    all = λ h l w. subst (Contains o.states.states) (sym (comes-to e h))
        (o.states.all (map (changed_row greater) h) (subst (λ (m : ℕ). m ≤ o.n) (sym (length-map h (changed_row greater))) l)
        (all-within (b * suc o.n) (suc b * suc o.n) h (omega arith) w));
  };
  few = o.few;
}

enough : ¬ NeedsStates (at_least true)
enough n = some-right strict strict_limits refl accepted
    (λ (o : HasRight strict). few-refute (at_least true) (changing greater o.0) (right-for o.0 o.1) (λ b. few-for o.0 b (o.2 (suc b))) n)

pub soft-may-mislead : SoftMayMislead
soft-may-mislead = record {
  limits = limits;
  refused = refused;
  needs = telling-needs-states (at_least false) (limits false) refl refl (at_first C2) (refused false) (no_distinct refl);
  enough = enough;
}
