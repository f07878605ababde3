-- A column that no comparison names takes every integer of its domain, and every integer where it has none.
use Rattle.std.proofs.Common.{◌≡◌, ℕ, ℤ, pos, ◌+ℤ◌, ◌≤ℤ◌, Bool, true, false, cond, IsTrue, List, Contains, refl, sym, ◌∙◌, ap, ap₂, subst, arith}
use Rattle.std.specs.List.{list_any}
use Rattle.std.proofs.lemmas.Int.{ints}
use Rattle.std.proofs.lemmas.Bool.Decides.{nat_tests}
use Rattle.sem_query.proofs.Has.{Has, Has-from_contains, Contains-from_has, same_map}
use Rattle.sem_query.proofs.Holding.{Holds-each, Holds-from_each}
use Rattle.sem_query.proofs.Elements.{SidesIn, sides_in, element_from_has}
use Rattle.sem_query.proofs.Local.{PairIn, pair_named}
use Rattle.sem_query.proofs.Domains.{lies_low, lies_high, keeps_each, each_keeps}
use Rattle.sem_query.specs.declared.atom.Attr.{Attr}
use Rattle.sem_query.specs.declared.atom.Atom.{Atom}
use Rattle.sem_query.specs.declared.atom.Domain.{Domain}
use Rattle.sem_query.specs.declared.atom.Element.{Element}
use Rattle.sem_query.specs.declared.atom.Element.TheVariants as element
use Rattle.sem_query.specs.declared.part.Sign.{Sign}
use Rattle.sem_query.specs.Query.{QueryValue, attr_eq, attrs_of, consts_of}
use Rattle.sem_query.specs.Assignment.{Assignment, value, compares, lies_in, AtomHolds}
use Rattle.sem_query.specs.Parts.{pairs, sign, sign_at, signs_of, InPart, IsPart}
use Rattle.sem_query.specs.Order.{IsElement, IsBounded}
use Rattle.plan_constraints.proofs.Softly.{any_one, any_none}

same_attr : (a b : Attr) → attr_eq a b ≡ true → a ≡ b
same_attr a b h =
    let e : a.stream ≡ b.stream = grind (arith, nat_tests) in
    let f : a.column ≡ b.column = grind (arith, nat_tests) in
    ap₂ (λ (s c : ℕ). let r : Attr = record { stream = s; column = c } in r) e f

itself : (a : Attr) → attr_eq a a ≡ true
itself a = grind (arith, nat_tests)

module _ (q : QueryValue) (s : List Sign) (v : Assignment) (i : InPart q s v) (a : Attr) (n : ¬ Contains (attrs_of q.atoms) a) (x : ℤ) (k : (d : Domain) → Has q.domains d → d.attr ≡ a → lies_in d x ≡ true) where
  unfoldable changed : Assignment
  changed b = cond (attr_eq a b) x (v b)

  kept_by : (t : Bool) (b : Attr) → attr_eq a b ≡ t → Contains (attrs_of q.atoms) b → cond t x (v b) ≡ v b
  kept_by true b e h = absurd (n (subst (Contains (attrs_of q.atoms)) (sym (same_attr a b e)) h))
  kept_by false b e h = refl

  value-changed : (e : Element) → IsElement q e → value e changed ≡ value e v
  unfolding changed
  value-changed (element.Attr b) h = kept_by (attr_eq a b) b refl h
  value-changed (element.Const k) h = refl

  atom-changed : (t : Atom) → Has q.atoms t → AtomHolds changed t
  atom-changed t h =
      let sides : SidesIn q.atoms t = sides_in q.atoms t h in
      let l : value t.left changed ≡ value t.left v = value-changed t.left (element_from_has q t.left sides.left) in
      let r : value t.right changed ≡ value t.right v = value-changed t.right (element_from_has q t.right sides.right) in
      let m : compares t.op (value t.left v) (value t.right v) ≡ true = Holds-each q v i.holds t h in
      ap₂ (λ (y z : ℤ). compares t.op y z) l r ∙ m

  domain-changed : (d : Domain) → Has q.domains d → lies_in d (changed d.attr) ≡ true
  unfolding changed
  domain-changed d h = by (attr_eq a d.attr) refl
    where
      by : (t : Bool) → attr_eq a d.attr ≡ t → lies_in d (cond t x (v d.attr)) ≡ true
      by true e = k d h (sym (same_attr a d.attr e))
      by false e = keeps_each q v i.domains d h

  signs-changed : signs_of q changed ≡ s
  signs-changed =
      same_map (sign_at changed) (sign_at v) (pairs q)
      (λ p h. let sides : PairIn (attrs_of q.atoms) (consts_of q.atoms) p = pair_named q p h in
      ap₂ sign (value-changed (element.Attr p.left) (Contains-from_has _ _ sides.left)) (value-changed p.right (element_from_has q p.right sides.right)))
      ∙ i.signs

  in_part : InPart q s changed
  in_part = record { holds = Holds-from_each q changed atom-changed; domains = each_keeps q changed domain-changed; signs = signs-changed }

  at_it : changed a ≡ x
  unfolding changed
  at_it = ap (λ (t : Bool). cond t x (v a)) (itself a)

-- so it is not bounded where it has no domain
pub unnamed_is_unbounded : (q : QueryValue) (s : List Sign) → IsPart q s → (a : Attr) → ¬ Contains (attrs_of q.atoms) a → ((d : Domain) → Contains q.domains d → ¬ (d.attr ≡ a)) → ¬ IsBounded q s a
unnamed_is_unbounded q s p a n k b =
    let x : ℤ = b.high +ℤ pos 1 in
    let f : (d : Domain) → Has q.domains d → d.attr ≡ a → lies_in d x ≡ true = λ d h e. absurd (k d (Contains-from_has _ d h) e) in
    let m : changed q s p.one p.inside a n x f a ≤ℤ b.high = b.below (changed q s p.one p.inside a n x f) (in_part q s p.one p.inside a n x f) in
    let e : changed q s p.one p.inside a n x f a ≡ x = at_it q s p.one p.inside a n x f in
    let l : x ≤ℤ b.high = subst (λ (z : ℤ). z ≤ℤ b.high) e m in
    omega (arith, ints, l)

-- and it is bounded where it has one, in which it lies
pub domain_bounds : (q : QueryValue) (s : List Sign) (d : Domain) → Has q.domains d → IsBounded q s d.attr
domain_bounds q s d h = record {
  low = d.lo;
  high = d.hi;
  above = λ v i. lies_low d (v d.attr) (keeps_each q v i.domains d h);
  below = λ v i. lies_high d (v d.attr) (keeps_each q v i.domains d h);
}

other : (ds : List Domain) (a : Attr) → list_any (λ d. attr_eq d.attr a) ds ≡ false → (d : Domain) → Has ds d → ¬ (d.attr ≡ a)
other ds a n d h e =
    let f : attr_eq d.attr a ≡ false = any_none (λ d. attr_eq d.attr a) ds n d h in
    let t : attr_eq d.attr a ≡ true = subst (λ z. attr_eq z a ≡ true) (sym e) (itself a) in
    absurd cc

-- a column that no comparison names is bounded exactly where it has a domain
pub bounded_by_domain : (q : QueryValue) (s : List Sign) → IsPart q s → (a : Attr) → ¬ Contains (attrs_of q.atoms) a → (t : Bool) → t ≡ list_any (λ d. attr_eq d.attr a) q.domains → (IsTrue t → IsBounded q s a) × (IsBounded q s a → IsTrue t)
bounded_by_domain q s p a n true e =
    let r : (d : Domain) × Has q.domains d × (attr_eq d.attr a ≡ true) = any_one (λ d. attr_eq d.attr a) q.domains (sym e) in
    ((λ h. subst (IsBounded q s) (same_attr r.0.attr a r.2) (domain_bounds q s r.0 r.1)), (λ b. refl))
bounded_by_domain q s p a n false e = (
  (λ h. absurd cc),
  (λ b. absurd (unnamed_is_unbounded q s p a n (λ d h. other q.domains a (sym e) d (Has-from_contains _ d h)) b)),
)
