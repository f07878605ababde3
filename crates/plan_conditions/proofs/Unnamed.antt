-- A column that no comparison names takes every integer of its domain, and every integer where it has none.
use Rattle.std.proofs.Common.{◌≡◌, ◌↔◌, IsTrue, Some, None, [], ◌∷◌, ℕ, ℤ, pos, ◌+ℤ◌, ◌≤ℤ◌, Bool, true, false, cond, List, Contains, refl, sym, ◌∙◌, ap, ap₂, subst, arith}
use Rattle.std.proofs.lemmas.Int.{ints}
use Rattle.std.proofs.lemmas.List.Elements.{All-contains}
use Rattle.std.proofs.lemmas.Bool.Decides.{nat_tests}
use Rattle.sem_query.proofs.Has.{Has, first, later, Has-from_contains, Contains-from_has, same_map}
use Rattle.sem_query.proofs.Holding.{Holds-each, Holds-from_each}
use Rattle.sem_query.proofs.Elements.{SidesIn, sides_in, element_from_has}
use Rattle.sem_query.proofs.Local.{PairIn, pair_named}
use Rattle.sem_query.proofs.Domains.{lies, lies_low, lies_high, keeps_each, each_keeps}
use Rattle.sem_query.proofs.Unique.{Ascends, more, ascends_from}
use Rattle.sem_query.specs.declared.atom.Attr.{Attr}
use Rattle.sem_query.specs.declared.atom.Atom.{Atom}
use Rattle.sem_query.specs.declared.atom.Domain.{Domain}
use Rattle.sem_query.specs.declared.atom.Element.{Element}
use Rattle.sem_query.specs.declared.atom.Element.TheVariants as element
use Rattle.sem_query.specs.declared.part.Sign.{Sign}
use Rattle.sem_query.specs.Query.{QueryValue, attr_eq, attr_lt, attrs_of, consts_of, IsDomain, IsWithinLimits}
use Rattle.sem_query.specs.Assignment.{Assignment, value, compares, lies_in, AtomHolds}
use Rattle.sem_query.specs.Parts.{pairs, sign, sign_at, signs_of, InPart, IsPart}
use Rattle.sem_query.specs.Order.{IsElement, IsBounded, IsLeast, IsGreatest}
use Rattle.plan_conditions.specs.Deciding.{IsDomainOf}

pub same_attr : (a b : Attr) → attr_eq a b ≡ true → a ≡ b
same_attr a b h =
    let e : a.stream ≡ b.stream = grind (arith, nat_tests) in
    let f : a.column ≡ b.column = grind (arith, nat_tests) in
    ap₂ (λ (s c : ℕ). let r : Attr = record { stream = s; column = c } in r) e f

pub itself : (a : Attr) → attr_eq a a ≡ true
itself a = grind (arith, nat_tests)

apart : (a b : Attr) → attr_lt a b ≡ true → a ≡ b → ⊥
apart a b l e = itself_lt b (subst (λ (z : Attr). attr_lt z b ≡ true) e l)
  where
    itself_lt : (a : Attr) → attr_lt a a ≡ true → ⊥
    itself_lt a h = grind (arith, nat_tests)

-- no column has two domains
one_domain : (ds : List Domain) → Ascends (λ (d e : Domain). attr_lt d.attr e.attr) ds → (d c : Domain) → Has ds d → Has ds c → d.attr ≡ c.attr → d ≡ c
one_domain [] a d c h i e = elim h [ ]
one_domain (x ∷ ds) (more p a) d c first first e = refl
one_domain (x ∷ ds) (more p a) d c first (later i) e = absurd (apart x.attr c.attr (p c i) e)
one_domain (x ∷ ds) (more p a) d c (later h) first e = absurd (apart x.attr d.attr (p d h) (sym e))
one_domain (x ∷ ds) (more p a) d c (later h) (later i) e = one_domain ds a d c h i e

module _ (q : QueryValue) (s : List Sign) (v : Assignment) (i : InPart q s v) (a : Attr) (n : ¬ Contains (attrs_of q.atoms) a) (x : ℤ) (k : (d : Domain) → Has q.domains d → d.attr ≡ a → lies_in d x ≡ true) where
  unfoldable changed : Assignment
  changed b = cond (attr_eq a b) x (v b)

  kept_by : (t : Bool) (b : Attr) → attr_eq a b ≡ t → Contains (attrs_of q.atoms) b → cond t x (v b) ≡ v b
  kept_by true b e h = absurd (n (subst (Contains (attrs_of q.atoms)) (sym (same_attr a b e)) h))
  kept_by false b e h = refl

  value-changed : (e : Element) → IsElement q e → value e changed ≡ value e v
  unfolding changed
  value-changed (element.Attr b) h = kept_by (attr_eq a b) b refl h
  value-changed (element.Const k) h = refl

  atom-changed : (t : Atom) → Has q.atoms t → AtomHolds changed t
  atom-changed t h =
      let sides : SidesIn q.atoms t = sides_in q.atoms t h in
      let l : value t.left changed ≡ value t.left v = value-changed t.left (element_from_has q t.left sides.left) in
      let r : value t.right changed ≡ value t.right v = value-changed t.right (element_from_has q t.right sides.right) in
      let m : compares t.op (value t.left v) (value t.right v) ≡ true = Holds-each q v i.holds t h in
      ap₂ (λ (y z : ℤ). compares t.op y z) l r ∙ m

  domain-changed : (d : Domain) → Has q.domains d → lies_in d (changed d.attr) ≡ true
  unfolding changed
  domain-changed d h = by (attr_eq a d.attr) refl
    where
      by : (t : Bool) → attr_eq a d.attr ≡ t → lies_in d (cond t x (v d.attr)) ≡ true
      by true e = k d h (sym (same_attr a d.attr e))
      by false e = keeps_each q v i.domains d h

  signs-changed : signs_of q changed ≡ s
  signs-changed =
      same_map (sign_at changed) (sign_at v) (pairs q)
      (λ p h. let sides : PairIn (attrs_of q.atoms) (consts_of q.atoms) p = pair_named q p h in
      ap₂ sign (value-changed (element.Attr p.left) (Contains-from_has _ _ sides.left)) (value-changed p.right (element_from_has q p.right sides.right)))
      ∙ i.signs

  in_part : InPart q s changed
  in_part = record { holds = Holds-from_each q changed atom-changed; domains = each_keeps q changed domain-changed; signs = signs-changed }

  at_it : changed a ≡ x
  unfolding changed
  at_it = ap (λ (t : Bool). cond t x (v a)) (itself a)

-- so it is not bounded where it has no domain
pub unnamed_is_unbounded : (q : QueryValue) (s : List Sign) → IsPart q s → (a : Attr) → ¬ Contains (attrs_of q.atoms) a → ((d : Domain) → Contains q.domains d → ¬ (d.attr ≡ a)) → ¬ IsBounded q s a
unnamed_is_unbounded q s p a n k b =
    let x : ℤ = b.high +ℤ pos 1 in
    let f : (d : Domain) → Has q.domains d → d.attr ≡ a → lies_in d x ≡ true = λ d h e. absurd (k d (Contains-from_has _ d h) e) in
    let m : changed q s p.one p.inside a n x f a ≤ℤ b.high = b.below (changed q s p.one p.inside a n x f) (in_part q s p.one p.inside a n x f) in
    let e : changed q s p.one p.inside a n x f a ≡ x = at_it q s p.one p.inside a n x f in
    let l : x ≤ℤ b.high = subst (λ (z : ℤ). z ≤ℤ b.high) e m in
    omega (arith, ints, l)

-- a column lies in its domain
module _ (q : QueryValue) (s : List Sign) (a : Attr) (d : Domain) (h : Contains q.domains d) (e : d.attr ≡ a) where
  inside_domain : (v : Assignment) → InPart q s v → lies_in d (v a) ≡ true
  inside_domain v i = subst (λ (z : Attr). lies_in d (v z) ≡ true) e (keeps_each q v i.domains d (Has-from_contains _ d h))

  above_low : (v : Assignment) → InPart q s v → d.lo ≤ℤ v a
  above_low v i = lies_low d (v a) (inside_domain v i)

  below_high : (v : Assignment) → InPart q s v → v a ≤ℤ d.hi
  below_high v i = lies_high d (v a) (inside_domain v i)

  pub domain_bounds : IsBounded q s a
  domain_bounds = record { low = d.lo; high = d.hi; above = above_low; below = below_high }

  -- and one that is no attribute takes each value in it
  module _ (w : IsWithinLimits q) (p : IsPart q s) (n : ¬ Contains (attrs_of q.atoms) a) where
    some : d.lo ≤ℤ d.hi
    some = (All-contains (IsDomain q) q.domains d w.domains h).some

    only : (x : ℤ) → lies_in d x ≡ true → (c : Domain) → Has q.domains c → c.attr ≡ a → lies_in c x ≡ true
    only x l c i f = subst (λ (z : Domain). lies_in z x ≡ true) (one_domain q.domains (ascends_from (λ (d e : Domain). attr_lt d.attr e.attr) q.domains w.ascending) d c (Has-from_contains _ d h) i (e ∙ sym f)) l

    low_in : lies_in d d.lo ≡ true
    low_in = lies d d.lo (omega (arith, ints)) some

    high_in : lies_in d d.hi ≡ true
    high_in = lies d d.hi some (omega (arith, ints))

    pub domain_least : IsLeast q s a d.lo
    domain_least = record {
      at = changed q s p.one p.inside a n d.lo (only d.lo low_in);
      inside = in_part q s p.one p.inside a n d.lo (only d.lo low_in);
      reached = at_it q s p.one p.inside a n d.lo (only d.lo low_in);
      above = above_low;
    }

    pub domain_greatest : IsGreatest q s a d.hi
    domain_greatest = record {
      at = changed q s p.one p.inside a n d.hi (only d.hi high_in);
      inside = in_part q s p.one p.inside a n d.hi (only d.hi high_in);
      reached = at_it q s p.one p.inside a n d.hi (only d.hi high_in);
      below = below_high;
    }

-- ---- what a look for the domain tells of a column that is no attribute

module _ (q : QueryValue) (s : List Sign) (a : Attr) where
  pub has_told : (ds : List Domain) (d : Domain) → ds ≡ q.domains → IsDomainOf ds a (Some d) → IsTrue true ↔ IsBounded q s a
  has_told ds d e h = ((λ t. domain_bounds q s a d (subst (λ (z : List Domain). Contains z d) e h.0) h.1), (λ b. refl))

  pub lacks_told : (ds : List Domain) → ds ≡ q.domains → IsPart q s → ¬ Contains (attrs_of q.atoms) a → IsDomainOf ds a None → IsTrue false ↔ IsBounded q s a
  lacks_told ds e p n h = ((λ t. cc), (λ b. absurd (unnamed_is_unbounded q s p a n (λ d i. h d (subst (λ (z : List Domain). Contains z d) (sym e) i)) b)))
