-- A selected column that no comparison names is a class of its own, and its range is its domain.
use Rattle.std.proofs.Common.{◌≡◌, ℕ, Bool, true, false, ◌∙◌, inl, inr, List, Contains, None, Some, refl, sym, subst}
use Rattle.sem_query.specs.declared.atom.Attr.{Attr}
use Rattle.sem_query.specs.declared.atom.Domain.{Domain}
use Rattle.sem_query.specs.declared.part.Sign.{Sign}
use Rattle.sem_query.specs.declared.plan.Dim.{Dim}
use Rattle.sem_query.specs.Query.{QueryValue, attrs_of, attr_lt, attr_eq, IsWithinLimits}
use Rattle.sem_query.specs.Parts.{IsPart}
use Rattle.sem_query.specs.Order.{IsLeast, IsGreatest}
use Rattle.sem_query.specs.Plan.{AreOneClass, IsWanted, selected, left_equal, right_equal, left_less, right_less, IsDim}
use Rattle.plan_links.specs.declared.range.Range.{Range}
use Rattle.plan_links.specs.Refs.{IsRange}
use Rattle.plan_links.proofs.AllLinks.{attr_lt-irreflexive}
use Rattle.std.specs.List.{list_any}
use Rattle.sem_query.proofs.Has.{Has-from_contains, Contains-from_has}
use Rattle.sem_laws.proofs.Tests.{any_from, any_if, not_both, attr_eq-is, attr_eq-itself}
use Rattle.plan_conditions.specs.Deciding.{IsDomainOf}
use Rattle.plan_conditions.proofs.Unnamed.{unnamed_is_unbounded, domain_least, domain_greatest}
use Rattle.plan_layout.specs.Classes.{IsDimAt}

module _ (q : QueryValue) (s : List Sign) (p : IsPart q s) (a : Attr) (n : ¬ Contains (attrs_of q.atoms) a) where
  -- the range that its domain tells
  pub domain_told : (ds : List Domain) (d : Domain) → ds ≡ q.domains → IsWithinLimits q → IsDomainOf ds a (Some d) → IsRange q s a (Some record { lo = d.lo; hi = d.hi })
  domain_told ds d e w h =
      let c : Contains q.domains d = subst (λ (z : List Domain). Contains z d) e h.0 in
      (domain_least q s a d c h.1 w p n, domain_greatest q s a d c h.1 w p n)

  pub domain_ranged : (ds : List Domain) (d : Domain) → ds ≡ q.domains → IsWithinLimits q → IsDomainOf ds a (Some d) → (r : Range) → r ≡ record { lo = d.lo; hi = d.hi } → IsRange q s a (Some r)
  domain_ranged ds d e w h r is = subst (λ (z : Range). IsLeast q s a z.lo × IsGreatest q s a z.hi) (sym is) (domain_told ds d e w h)

  pub no_domain : (ds : List Domain) → ds ≡ q.domains → IsDomainOf ds a None → IsRange q s a None
  no_domain ds e h = unnamed_is_unbounded q s p a n (λ d i. h d (subst (λ (z : List Domain). Contains z d) (sym e) i))

module _ (q : QueryValue) (s : List Sign) (a : Attr) (n : ¬ Contains (attrs_of q.atoms) a) where
  -- it is the only column of its class
  alone : (b : Attr) → AreOneClass q s b a → attr_lt b a ≡ true → ⊥
  alone b o l = elim o.named [
    | inl e ↦ (let f : attr_lt a a ≡ true = subst (λ z. attr_lt z a ≡ true) e l in let g = attr_lt-irreflexive a in cc)
    | inr h ↦ n h.1
  ]

  own : AreOneClass q s a a
  own = record { named = inl refl; stream = refl; equal = record { equal = λ v i. refl } }

  -- the dim that it names
  pub alone_dim : (place : ℕ) (r : Range) → a.stream ≡ place → Contains q.select a → IsRange q s a (Some r) → IsDim q s place record { attr = a; lo = r.lo; hi = r.hi }
  alone_dim place r e c h = record {
    here = e;
    name = record { named = inr c; first = alone };
    low = h.0;
    high = h.1;
    member = a;
    inside = own;
    wanted = selected c;
  }

  pub not_selected : (place : ℕ) → ¬ Contains q.select a → IsDimAt q s place a None
  not_selected place m d e h = elim h.name.named [
    | inl i ↦ n (subst (λ (z : Attr). Contains (attrs_of q.atoms) z) e i)
    | inr i ↦ m (subst (λ (z : Attr). Contains q.select z) e i)
  ]

  -- where answers read it, it is selected
  pub wanted_alone : IsWanted q s a → Contains q.select a
  wanted_alone (selected c) = c
  wanted_alone (left_equal b e) = absurd (n e.across.left)
  wanted_alone (right_equal b e) = absurd (n e.across.right)
  wanted_alone (left_less b e) = absurd (n e.across.left)
  wanted_alone (right_less b e) = absurd (n e.across.right)

  -- the same, where a test tells whether it is selected
  pub alone_none : (place : ℕ) (xs : List Attr) (t : Bool) → xs ≡ q.select → t ≡ list_any (λ b. attr_eq b a) xs → t ≡ false → IsDimAt q s place a None
  alone_none place xs t e f g = not_selected place (λ c. not_both (list_any (λ b. attr_eq b a) xs) (any_if (λ b. attr_eq b a) xs a (Has-from_contains xs a (subst (λ (z : List Attr). Contains z a) (sym e) c)) (attr_eq-itself a)) (sym f ∙ g))

  pub alone_found : (place : ℕ) (xs : List Attr) (t : Bool) → xs ≡ q.select → t ≡ list_any (λ b. attr_eq b a) xs → t ≡ true → (r : Range) (d : Dim) → a.stream ≡ place → IsRange q s a (Some r) → d ≡ record { attr = a; lo = r.lo; hi = r.hi } → IsDimAt q s place a (Some d)
  alone_found place xs t e f g r d here h is =
      let o = any_from (λ b. attr_eq b a) xs (sym f ∙ g) in
      let c : Contains q.select a = subst (λ (z : List Attr). Contains z a) e (subst (Contains xs) (attr_eq-is o.0 a o.2) (Contains-from_has xs o.0 o.1)) in
      subst (λ (z : Dim). (z.attr ≡ a) × IsDim q s place z) (sym is) (refl, alone_dim place r here c h)
