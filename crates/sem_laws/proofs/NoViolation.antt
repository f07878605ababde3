-- What a query without violation knows of its parts.
use Rattle.std.proofs.Common.{◌≡◌, ℕ, zero, suc, ◌<◌, ◌⊎◌, inl, inr, List, [], ◌∷◌, true, refl, sym, ap, ◌∙◌, subst, arith, ℤ, ◌≤ℤ◌, ◌<ℤ◌, Contains, IsFalse, Some, None, slice_get, slice_index_or, length}
use Rattle.std.proofs.lemmas.Int.{ints, by_lt_z}
use Rattle.std.proofs.lemmas.List.Elements.{All-contains}
use Rattle.std.specs.List.{list_any}
use Rattle.sem_query.specs.declared.atom.Element.TheVariants as element
use Rattle.sem_query.proofs.Has.{Has-from_contains, Contains-from_has}
use Rattle.sem_query.proofs.Local.{same_sign, eq_along}
use Rattle.sem_laws.proofs.Tests.{true_or_false, not_both, any_from, any_if}
use Rattle.sem_laws.proofs.Queries.{IsQuery}
use Rattle.sem_laws.proofs.Classes.{class-tied, tied-in}
use Rattle.sem_laws.proofs.StandingIn.{IsSafe, IsSafeAt}
use Rattle.sem_query.specs.declared.atom.Attr.{Attr}
use Rattle.sem_query.specs.declared.part.Sign.{Sign}
use Rattle.sem_query.specs.declared.condition.Condition.{Condition}
use Rattle.sem_query.specs.declared.condition.Condition.TheVariants.{C1, C2, C3}
use Rattle.sem_query.specs.Query.{QueryValue, attrs_of, is_filter}
use Rattle.sem_query.specs.Parts.{IsPart}
use Rattle.sem_query.specs.Order.{IsBounded}
use Rattle.sem_query.specs.Links.{IsEquality, IsInequality, IsMinRef, IsMaxRef, HasTwoRefs, two_mins, two_maxes, both}
use Rattle.sem_query.specs.Violation.{Breaks, IsViolation, filter, first}
use Rattle.sem_query.specs.declared.plan.Dim.{Dim}
use Rattle.sem_query.specs.declared.plan.Kind.{Kind}
use Rattle.sem_query.specs.declared.plan.PartPlan.{PartPlan}
use Rattle.sem_query.specs.Combinations.{tied}
use Rattle.sem_query.specs.Plan.{IsPartPlan, IsKind, IsWanted, selected, left_equal, right_equal, left_less, right_less, IsDim, AreDims, AreOneClass, NamesClass, stream_at, dims_at}

module _ (q : QueryValue) (s : List Sign) (p : IsPart q s) where
  -- whether two attributes of one stream are of one class can be decided
  pub equal_or_not : (a b : Attr) → Contains (attrs_of q.atoms) a → Contains (attrs_of q.atoms) b → a.stream ≡ b.stream
      → AreOneClass q s a b ⊎ (¬ AreOneClass q s a b)
  equal_or_not a b h k e = by_lt_z (p.one a) (p.one b)
      (λ l. inr (λ d. differ l (d.equal.equal p.one p.inside)))
      (λ l. by_lt_z (p.one b) (p.one a)
      (λ m. inr (λ d. differ m (sym (d.equal.equal p.one p.inside))))
      (λ m. let f : p.one a ≡ p.one b = omega (arith, ints, l, m) in
      inl record {
        named = inr (h, k);
        stream = e;
        equal = record {
          equal = λ v j.
              eq_along (p.one a) (p.one b) (v a) (v b) (same_sign q p.one v (p.inside.signs ∙ sym j.signs) (element.Attr a) (element.Attr b) h k (grind (arith, e))) f;
        };
      }))
    where
      differ : {x y : ℤ} → x <ℤ y → x ≡ y → ⊥
      differ l e = omega (arith, ints, l, e)

module _ (q : QueryValue) (well : IsQuery q) (part : PartPlan) (plan : IsPartPlan q part) (p : IsPart q part.signs.items) where
  abbrev s : List Sign
  s = part.signs.items

  -- what is wanted is of a stream of FROM
  wanted_there : (a : Attr) → IsWanted q s a → a.stream < length q.from
  wanted_there a (selected h) = well.select a h
  wanted_there a (left_equal b i) = well.atoms a i.across.left
  wanted_there a (right_equal b i) = well.atoms a i.across.right
  wanted_there a (left_less b i) = well.atoms a i.across.left
  wanted_there a (right_less b i) = well.atoms a i.across.right

  bounded_by : (a : Attr) (d : Dim) → IsDim q s a.stream d → tied q s d.attr a ≡ true → IsBounded q s a
  bounded_by a d i t = record {
    low = d.lo;
    high = d.hi;
    above = λ v j. subst (λ x. d.lo ≤ℤ x) (tied-in q s v j d.attr a t) (i.low.above v j);
    below = λ v j. subst (λ x. x ≤ℤ d.hi) (tied-in q s v j d.attr a t) (i.high.below v j);
  }

  -- the dims decide whether a column that is wanted is bounded
  decided : (a : Attr) → IsWanted q s a → IsBounded q s a ⊎ (¬ IsBounded q s a)
  decided a w = elim (true_or_false (list_any (λ (d : Dim). tied q s d.attr a) dims)) [
    | inl e ↦ (let o = any_from (λ (d : Dim). tied q s d.attr a) dims e in
        inl (bounded_by a o.0 (All-contains (IsDim q s a.stream) dims o.0 here.each (Contains-from_has dims o.0 o.1)) o.2))
    | inr e ↦ inr (λ b. (let o : (d : Dim) × Contains dims d × AreOneClass q s d.attr a = here.all a refl w b in
        not_both (list_any (λ (d : Dim). tied q s d.attr a) dims) (any_if (λ (d : Dim). tied q s d.attr a) dims o.0 (Has-from_contains dims o.0 o.1) (class-tied q s p o.0.attr a o.2)) e))
  ]
    where
      dims : List Dim
      dims = dims_at part a.stream

      here : AreDims q s a.stream dims
      here = (plan.streams a.stream (wanted_there a w)).dims

  stable : (a : Attr) → IsWanted q s a → ((¬ IsBounded q s a) → ⊥) → IsBounded q s a
  stable a w f = elim (decided a w) [ inl b ↦ b | inr n ↦ absurd (f n) ]

  module _ (fine : (c : Condition) (a : Attr) → ¬ Breaks q s c a) where
    selected_bounded : (a : Attr) → Contains q.select a → IsBounded q s a
    selected_bounded a h = stable a (selected h) (λ n. fine C1 a (h, n))

    left_bounded : (a b : Attr) → IsEquality q s a b → IsBounded q s a
    left_bounded a b i = stable a (left_equal b i) (λ n. fine C2 a (n, b, inl i))

    right_bounded : (a b : Attr) → IsEquality q s b a → IsBounded q s a
    right_bounded a b i = stable a (right_equal b i) (λ n. fine C2 a (n, b, inr i))

    min_ref : (a b : Attr) → (¬ IsBounded q s a) → IsInequality q s a b → IsMinRef q s a
    min_ref a b n i = record { unbounded = n; other = b; inequality = i }

    max_ref : (a b : Attr) → (¬ IsBounded q s a) → IsInequality q s b a → IsMaxRef q s a
    max_ref a b n i = record { unbounded = n; other = b; inequality = i }

    no_two : (a b : Attr) → a.stream ≡ b.stream → IsMinRef q s a ⊎ IsMaxRef q s a → HasTwoRefs q s a.stream → ⊥
    no_two a b e r t = fine C3 a (r, λ d. t)

    of_class_least : (m a b : Attr) → m.stream ≡ a.stream → NamesClass q s m → IsMinRef q s m → IsInequality q s a b
        → IsBounded q s a ⊎ AreOneClass q s m a
    of_class_least m a b e name ref i = elim (decided a (left_less b i)) [
      | inl d ↦ inl d
      | inr n ↦ elim (equal_or_not q s p m a ref.inequality.across.left i.across.left e) [
        | inl c ↦ inr c
        | inr d ↦ absurd (no_two m a e (inl ref) record { first = m; second = a; here = refl; there = sym e; two = two_mins ref (min_ref a b n i) d })
      ]
    ]

    of_class_greatest : (m a b : Attr) → m.stream ≡ a.stream → NamesClass q s m → IsMaxRef q s m → IsInequality q s b a
        → IsBounded q s a ⊎ AreOneClass q s m a
    of_class_greatest m a b e name ref i = elim (decided a (right_less b i)) [
      | inl d ↦ inl d
      | inr n ↦ elim (equal_or_not q s p m a ref.inequality.across.right i.across.right e) [
        | inl c ↦ inr c
        | inr d ↦ absurd (no_two m a e (inr ref) record { first = m; second = a; here = refl; there = sym e; two = two_maxes ref (max_ref a b n i) d })
      ]
    ]

    safe_at : (place : ℕ) (k : Kind) → IsKind q s place k → IsSafeAt q s place k
    safe_at place Kind.Count k = (
      λ a b e i. stable a (left_less b i) (λ n. fine C3 a (inl (min_ref a b n i), λ d. absurd (not_both q.distinct d k))),
      λ a b e i. stable a (right_less b i) (λ n. fine C3 a (inr (max_ref a b n i), λ d. absurd (not_both q.distinct d k))),
    )
    safe_at place Kind.Present k = (
      λ a b e i. stable a (left_less b i) (λ n. (k.1 a e).0 (min_ref a b n i)),
      λ a b e i. stable a (right_less b i) (λ n. (k.1 a e).1 (max_ref a b n i)),
    )
    safe_at place (Kind.Least m) k = (
      k.1,
      λ a b e i. of_class_least m a b (k.1 ∙ sym e) k.2 k.3 i,
      λ a b e i. stable a (right_less b i) (λ n. no_two m a (k.1 ∙ sym e) (inl k.3) record { first = m; second = a; here = refl; there = e ∙ sym k.1; two = both k.3 (max_ref a b n i) }),
    )
    safe_at place (Kind.Greatest m) k = (
      k.1,
      λ a b e i. stable a (left_less b i) (λ n. no_two m a (k.1 ∙ sym e) (inr k.3) record { first = a; second = m; here = e ∙ sym k.1; there = refl; two = both (min_ref a b n i) k.3 }),
      λ a b e i. of_class_greatest m a b (k.1 ∙ sym e) k.2 k.3 i,
    )

pub safe-if : (q : QueryValue) → IsQuery q → (part : PartPlan) → IsPartPlan q part → IsPart q part.signs.items
    → ((c : Condition) (a : Attr) → ¬ Breaks q part.signs.items c a) → IsSafe q part
safe-if q well part plan p fine = record {
  chosen = selected_bounded q well part plan p fine;
  left = left_bounded q well part plan p fine;
  right = right_bounded q well part plan p fine;
  less = λ place l. safe_at q well part plan p fine place (stream_at part place).kind (plan.streams place l).kind;
}

get_at : {X : Type 0} (xs : List X) (k : ℕ) (x : X) → k < length xs → slice_index_or xs k x ≡ x → slice_get xs k ≡ Some x
get_at [] k x l e = absurd (omega (arith, l))
get_at (y ∷ xs) zero x l e = ap (λ z. Some z) e
get_at (y ∷ xs) (suc k) x l e = get_at xs k x (omega (arith, l)) e

-- no part of a query without violation breaks a condition
pub none_breaks : (q : QueryValue) → IsFalse (is_filter q) → IsViolation q None → (s : List Sign) → IsPart q s
    → (c : Condition) (a : Attr) → ¬ Breaks q s c a
none_breaks q no_filter (filter f e) s p c a b = not_both (is_filter q) f no_filter
none_breaks q no_filter (first f ps are none) s p c a b =
    let k = are.all s p in
    none record {
      part =
          suc k.0;
      condition = c;
      attr = a;
    } record { signs = s; number = omega arith; at = subst (λ n. slice_get ps n ≡ Some s) (omega arith) (get_at ps k.0 s k.1 k.2); breaks = b }
