-- The links of a part tell which dims are fixed.
use Rattle.std.proofs.Common.{◌≡◌, ℕ, inl, inr, Bool, true, ◌&&◌, ◌||◌, ◌==◌, nat_lt, sym, ap, subst, arith}
use Rattle.std.specs.List.{list_any}
use Rattle.sem_query.specs.declared.atom.Attr.{Attr}
use Rattle.sem_query.specs.declared.plan.Dim.{Dim}
use Rattle.sem_query.specs.declared.plan.Link.{Link}
use Rattle.sem_query.specs.declared.plan.PartPlan.{PartPlan}
use Rattle.sem_query.specs.Query.{QueryValue, attr_eq}
use Rattle.sem_query.specs.Links.{IsEquality}
use Rattle.sem_query.specs.Plan.{IsPartPlan, link, dims_at}
use Rattle.sem_query.specs.Numbers.{equals_some, is_earlier_dim, is_fixed}
use Rattle.sem_query.proofs.Has.{Has, Has-from_contains, Contains-from_has}
use Rattle.sem_laws.specs.Plans.{IsFixed, by_arriving, by_earlier, FreeDimsAreExact}
use Rattle.sem_laws.proofs.Tests.{and-left, and-right, and-both, or-cases, or-left, or-right, any_from, any_if, attr_eq-is, attr_eq-itself}
use Rattle.sem_laws.proofs.Admission.{one_first, equality_turned}

module _ (q : QueryValue) (part : PartPlan) (plan : IsPartPlan q part) where
  -- a column that a link sets equal to this one and that passes the test
  equal_from : (a : Attr) (test : Attr → Bool) → equals_some part a test ≡ true
      → (b : Attr) × IsEquality q part.signs.items a b × (test b ≡ true)
  equal_from a test h =
      let f : Link → Bool = λ l. (attr_eq l.left a && test l.right) || (attr_eq l.right a && test l.left) in
      let r = any_from f part.equal.items h in
      let l : Link = r.0 in
      let e : IsEquality q part.signs.items l.left l.right
      = ((plan.equal l.left l.right).0 (Contains-from_has part.equal.items l r.1)).1 in
      elim (or-cases (attr_eq l.left a && test l.right) (attr_eq l.right a && test l.left) r.2) [
        | inl g ↦ (l.right, subst (λ x. IsEquality q part.signs.items x l.right) (attr_eq-is l.left a (and-left _ _ g)) e, and-right (attr_eq l.left a) _ g)
        | inr g ↦ (l.left, subst (λ x. IsEquality q part.signs.items x l.left) (attr_eq-is l.right a (and-left _ _ g)) (equality_turned q part.signs.items l.left l.right e), and-right (attr_eq l.right a) _ g)
      ]

  equal_if : (a b : Attr) (test : Attr → Bool) → IsEquality q part.signs.items a b → test b ≡ true → equals_some part a test ≡ true
  equal_if a b test e t =
      let f : Link → Bool = λ l. (attr_eq l.left a && test l.right) || (attr_eq l.right a && test l.left) in
      elim (one_first a b e.across.across) [
        | inl l ↦ any_if f part.equal.items (link a b) (Has-from_contains part.equal.items (link a b) ((plan.equal a b).1 (l, e))) (or-left _ _ (and-both _ _ (attr_eq-itself a) t))
        | inr l ↦ any_if f part.equal.items (link b a) (Has-from_contains part.equal.items (link b a) ((plan.equal b a).1 (l, equality_turned q part.signs.items a b e))) (or-right (attr_eq b a && test a) _ (and-both _ _ (attr_eq-itself a) t))
      ]

  fixed_from : (arriving place : ℕ) (d : Dim) → is_fixed part arriving place d ≡ true → IsFixed q part arriving place d
  fixed_from arriving place d h =
      let r = equal_from d.attr (λ b. (b.stream == arriving) || is_earlier_dim part place b) h in
      let b : Attr = r.0 in
      elim (or-cases (b.stream == arriving) (is_earlier_dim part place b) r.2) [
        | inl g ↦ by_arriving b (grind (arith, g)) r.1
        | inr g ↦ (
            let o = any_from (λ e. attr_eq e.attr b) (dims_at part b.stream) (and-right (nat_lt b.stream place) _ g) in
            let same : o.0.attr ≡ b = attr_eq-is o.0.attr b o.2 in
            let before : nat_lt b.stream place ≡ true = and-left _ _ g in
            by_earlier b.stream o.0 (grind (arith, before)) (ap (λ (x : Attr). x.stream) same) (Contains-from_has (dims_at part b.stream) o.0 o.1) (subst (λ x. IsEquality q part.signs.items d.attr x) (sym same) r.1))
      ]

  fixed_if : (arriving place : ℕ) (d : Dim) → IsFixed q part arriving place d → is_fixed part arriving place d ≡ true
  fixed_if arriving place d (by_arriving b s e) =
      let t : (b.stream == arriving) ≡ true = grind (arith, s) in
      equal_if d.attr b (λ b. (b.stream == arriving) || is_earlier_dim part place b) e (or-left (b.stream == arriving) _ t)
  fixed_if arriving place d (by_earlier before e l s c i) =
      let t : nat_lt e.attr.stream place ≡ true = grind (arith, l, s) in
      let k : list_any (λ x. attr_eq x.attr e.attr) (dims_at part e.attr.stream) ≡ true =
      any_if (λ x. attr_eq x.attr e.attr) (dims_at part e.attr.stream) e (subst (λ n. Has (dims_at part n) e) (sym s) (Has-from_contains (dims_at part before) e c)) (attr_eq-itself e.attr) in
      equal_if d.attr e.attr (λ b. (b.stream == arriving) || is_earlier_dim part place b) i (or-right (e.attr.stream == arriving) _ (and-both _ _ t k))

pub free-dims-are-exact : FreeDimsAreExact
free-dims-are-exact q part plan arriving place d = (fixed_from q part plan arriving place d, fixed_if q part plan arriving place d)
