-- A column that no comparison names takes each value of its domain, whatever the others are.
use Rattle.std.proofs.Common.{◌≡◌, ℤ, pos, ◌+ℤ◌, ◌-ℤ◌, ◌≤ℤ◌, ◌⊎◌, inl, inr, List, [], ◌∷◌, Bool, true, false, cond, Option, Some, None, refl, sym, ◌∙◌, ap, subst, arith}
use Rattle.std.proofs.lemmas.Int.{ints}
use Rattle.std.proofs.lemmas.Bool.Decides.{nat_tests}
use Rattle.std.specs.List.{flat_map}
use Rattle.sem_query.specs.declared.atom.Attr.{Attr}
use Rattle.sem_query.specs.declared.atom.Domain.{Domain}
use Rattle.sem_query.specs.declared.atom.Element.{Element}
use Rattle.sem_query.specs.declared.atom.Element.TheVariants as element
use Rattle.sem_query.specs.Query.{QueryValue, attr_eq, attr_lt, attrs_of}
use Rattle.sem_query.specs.Assignment.{Assignment, value}
use Rattle.sem_query.proofs.Has.{Has, first, later, Has-nil, Has-append_right, Has-append_cases, Has-flat_map, Has-flat_map_from}
use Rattle.sem_query.proofs.Unique.{Ascends, more, ascends_from}
use Rattle.sem_laws.proofs.Tests.{true_or_false, false_if, attr_eq-is, attr_eq-itself}
use Rattle.plan_constraints.proofs.NodeFacts.{Known}
use Rattle.sem_whole.specs.System.{Difference, Meets, atom_bounds, domain_bounds, system, Solves, Bound}
use Rattle.sem_whole.specs.Kept.{IsLowest, IsHighest, IsRange}
use Rattle.sem_whole.specs.Laws.{IsLeastBound}
use Rattle.sem_whole.specs.Signed.{IsWellFormed}
use Rattle.plan_whole.specs.declared.closed.Ends.{Ends}
use Rattle.plan_whole.specs.Closed.{domain_ends, apart, ends_of}
use Rattle.plan_whole.proofs.Named.{atom_known, domain_sides, domain_holds, domain_some}

-- no column has two domains
apart_attr : (a b : Attr) → attr_lt a b ≡ true → a ≡ b → ⊥
apart_attr a b l e = itself_lt b (subst (λ z. attr_lt z b ≡ true) e l)
  where
    itself_lt : (a : Attr) → attr_lt a a ≡ true → ⊥
    itself_lt a h = grind (arith, nat_tests)

one_domain : (ds : List Domain) → Ascends (λ (d e : Domain). attr_lt d.attr e.attr) ds → (d c : Domain) → Has ds d → Has ds c → d.attr ≡ c.attr → d ≡ c
one_domain [] a d c h i e = elim h [ ]
one_domain (x ∷ ds) (more p a) d c first first e = refl
one_domain (x ∷ ds) (more p a) d c first (later i) e = absurd (apart_attr x.attr c.attr (p c i) e)
one_domain (x ∷ ds) (more p a) d c (later h) first e = absurd (apart_attr x.attr d.attr (p d h) (sym e))
one_domain (x ∷ ds) (more p a) d c (later h) (later i) e = one_domain ds a d c h i e

-- the ends of its own domain, or none
data EndsFrom (ds : List Domain) (a : Attr) (e : Ends) : Type 0 where
  own : (d : Domain) → Has ds d → d.attr ≡ a → e ≡ record { lo = Some d.lo; hi = Some d.hi } → EndsFrom ds a e
  free : ((d : Domain) → Has ds d → d.attr ≡ a → ⊥) → e ≡ record { lo = None; hi = None } → EndsFrom ds a e

ends_from : (ds : List Domain) (a : Attr) → EndsFrom ds a (domain_ends ds a)
ends_from [] a = free (λ d h e. Has-nil h) refl
ends_from (x ∷ ds) a = by (attr_eq x.attr a) refl (ends_from ds a)
  where
    differ : x.attr ≡ a → attr_eq x.attr a ≡ false → ⊥
    differ e f = let g : attr_eq a a ≡ true = attr_eq-itself a in let k : attr_eq x.attr a ≡ true = subst (λ z. attr_eq z a ≡ true) (sym e) g in cc

    none : attr_eq x.attr a ≡ false → ((d : Domain) → Has ds d → d.attr ≡ a → ⊥) → (d : Domain) → Has (x ∷ ds) d → d.attr ≡ a → ⊥
    none f n d first e = differ e f
    none f n d (later h) e = n d h e

    by : (b : Bool) → attr_eq x.attr a ≡ b → EndsFrom ds a (domain_ends ds a) → EndsFrom (x ∷ ds) a (cond b (record { lo = Some x.lo; hi = Some x.hi }) (domain_ends ds a))
    by true f r = own x first (attr_eq-is x.attr a f) refl
    by false f (own d h e i) = own d (later h) e i
    by false f (free n i) = free (none f n) i

-- an assignment with one column changed
unfoldable changed : Assignment → Attr → ℤ → Assignment
changed v a z b = cond (attr_eq a b) z (v b)

changed_there : (v : Assignment) (a : Attr) (z : ℤ) → changed v a z a ≡ z
unfolding changed
changed_there v a z = ap (λ b. cond b z (v a)) (attr_eq-itself a)

changed_elsewhere : (v : Assignment) (a b : Attr) (z : ℤ) → (a ≡ b → ⊥) → changed v a z b ≡ v b
unfolding changed
changed_elsewhere v a b z n = ap (λ c. cond c z (v b)) (false_if (attr_eq a b) (λ h. n (attr_eq-is a b h)))

-- a greatest value and a least one, where both are reached together
pub apart_least : (q : QueryValue) (a b : Attr) → (u : Assignment) → Solves (system q) u
    → ((c : ℤ) → Bound (system q) (element.Attr a) (element.Attr b) c → (v w : Assignment) → Solves (system q) v → Solves (system q) w → w a ≤ℤ (c +ℤ v b))
    → (high low : Option ℤ) → IsHighest (system q) a high → IsLowest (system q) b low → IsLeastBound (system q) (element.Attr a) (element.Attr b) (apart high low)
apart_least q a b u s mixed None low h l = λ c k. h (c +ℤ u b) (λ w o. (let m = mixed c k u w s o in omega (arith, ints, m)))
apart_least q a b u s mixed (Some high) None h l = λ c k. l (high -ℤ c) (λ v o. (let m = h.1 (c +ℤ v b) (λ w i. (let n = mixed c k v w o i in omega (arith, ints, n))) in omega (arith, ints, m)))
apart_least q a b u s mixed (Some high) (Some low) h l = (
  λ v o. (let m = h.0 v o in let n = l.0 v o in omega (arith, ints, m, n)),
  λ c k. (let m = l.1 (high -ℤ c) (λ v o. (let n = h.1 (c +ℤ v b) (λ w i. (let j = mixed c k v w o i in omega (arith, ints, j))) in omega (arith, ints, n))) in omega (arith, ints, m)),
)

module _ (q : QueryValue) (w : IsWellFormed q) (a : Attr) (n : Has (attrs_of q.atoms) a → ⊥) where
  known_elsewhere : (v : Assignment) (z : ℤ) (e : Element) → Known (attrs_of q.atoms) e → value e (changed v a z) ≡ value e v
  known_elsewhere v z (element.Attr b) h = changed_elsewhere v a b z (λ e. n (subst (Has (attrs_of q.atoms)) (sym e) h))
  known_elsewhere v z (element.Const k) h = refl

  -- another value within its domain
  changed_solves : (v : Assignment) → Solves (system q) v → (z : ℤ) → ((e : Domain) → Has q.domains e → e.attr ≡ a → (e.lo ≤ℤ z) × (z ≤ℤ e.hi)) → Solves (system q) (changed v a z)
  changed_solves v s z fits d h = elim (Has-append_cases (flat_map atom_bounds q.atoms) (flat_map domain_bounds q.domains) d h) [
    | inl i ↦ (let r = Has-flat_map_from atom_bounds q.atoms d i in
        let p = atom_known q r.0 r.1 d r.2 in
        let m = s d h in
        let f = known_elsewhere v z d.left p.0 in
        let g = known_elsewhere v z d.right p.1 in
        omega (arith, ints, m, f, g))
    | inr i ↦ (let r = Has-flat_map_from domain_bounds q.domains d i in by r.0 r.1 r.2 (true_or_false (attr_eq a r.0.attr)))
  ]
    where
      by : (e : Domain) → Has q.domains e → Has (domain_bounds e) d → (attr_eq a e.attr ≡ true) ⊎ (attr_eq a e.attr ≡ false) → Meets (changed v a z) d
      by e k i (inl t) =
          let f : a ≡ e.attr = attr_eq-is a e.attr t in
          let g : changed v a z e.attr ≡ z = subst (λ x. changed v a z x ≡ z) f (changed_there v a z) in
          let o = fits e k (sym f) in
          domain_holds e (changed v a z) (let p = o.0 in omega (arith, ints, p, g)) (let p = o.1 in omega (arith, ints, p, g)) d i
      by e k i (inr t) =
          let m = s d h in
          let g : changed v a z e.attr ≡ v e.attr = changed_elsewhere v a e.attr z (λ f. differ f t) in
          let p = domain_sides (λ x. value x (changed v a z) ≡ value x v) e (λ k. refl) g d i in
          let f = p.0 in
          let j = p.1 in
          omega (arith, ints, m, f, j)
        where
          differ : a ≡ e.attr → attr_eq a e.attr ≡ false → ⊥
          differ f t = let g : attr_eq a a ≡ true = attr_eq-itself a in let k : attr_eq a e.attr ≡ true = subst (λ x. attr_eq a x ≡ true) f g in cc

  -- the value that it has in another solution is within its domain
  fits_in : (v : Assignment) → Solves (system q) v → (e : Domain) → Has q.domains e → e.attr ≡ a → (e.lo ≤ℤ v a) × (v a ≤ℤ e.hi)
  fits_in v s e h f =
      let b : (d : Difference) → Has (domain_bounds e) d → Meets v d = λ d k. s d (Has-append_right (flat_map atom_bounds q.atoms) (Has-flat_map domain_bounds q.domains e d h k)) in
      let l = b _ first in
      let m = b _ (later first) in
      let g : v e.attr ≡ v a = ap v f in
      (omega (arith, ints, l, g), omega (arith, ints, m, g))

  pub mixed_left : (b : Attr) → (a ≡ b → ⊥) → (c : ℤ) → Bound (system q) (element.Attr a) (element.Attr b) c → (v o : Assignment) → Solves (system q) v → Solves (system q) o → o a ≤ℤ (c +ℤ v b)
  mixed_left b d c k v o s r =
      let m = k (changed v a (o a)) (changed_solves v s (o a) (fits_in o r)) in
      let e = changed_there v a (o a) in
      let f = changed_elsewhere v a b (o a) d in
      omega (arith, ints, m, e, f)

  pub mixed_right : (b : Attr) → (a ≡ b → ⊥) → (c : ℤ) → Bound (system q) (element.Attr b) (element.Attr a) c → (v o : Assignment) → Solves (system q) v → Solves (system q) o → o b ≤ℤ (c +ℤ v a)
  mixed_right b d c k v o s r =
      let m = k (changed o a (v a)) (changed_solves o r (v a) (fits_in v s)) in
      let e = changed_there o a (v a) in
      let f = changed_elsewhere o a b (v a) d in
      omega (arith, ints, m, e, f)

  module _ (u : Assignment) (s : Solves (system q) u) where
    -- its range is its domain
    by_ends : (e : Ends) → EndsFrom q.domains a e → IsRange (system q) a (ends_of e)
    by_ends e (own d h f i) = subst (λ e. IsRange (system q) a (ends_of e)) (sym i) record {
      low = (λ v o. (let p = (fits_in v o d h f).0 in omega (arith, ints, p)), λ k b. (let m = b (changed u a d.lo) (at d.lo (omega (arith, ints)) some) in let c = changed_there u a d.lo in omega (arith, ints, m, c)));
      high = (λ v o. (let p = (fits_in v o d h f).1 in omega (arith, ints, p)), λ k b. (let m = b (changed u a d.hi) (at d.hi some (omega (arith, ints))) in let c = changed_there u a d.hi in omega (arith, ints, m, c)));
    }
      where
        some : d.lo ≤ℤ d.hi
        some = domain_some q w d h

        only : (c : Domain) → Has q.domains c → c.attr ≡ a → d ≡ c
        only c i g = one_domain q.domains (ascends_from (λ (d e : Domain). attr_lt d.attr e.attr) q.domains w.ascending) d c h i (f ∙ sym g)

        at : (z : ℤ) → d.lo ≤ℤ z → z ≤ℤ d.hi → Solves (system q) (changed u a z)
        at z l m = changed_solves u s z (λ c i g. subst (λ c. (c.lo ≤ℤ z) × (z ≤ℤ c.hi)) (only c i g) (l, m))
    by_ends e (free n i) = subst (λ e. IsRange (system q) a (ends_of e)) (sym i) record {
      low = λ k b. (let m = b (changed u a (k -ℤ pos 1)) (at (k -ℤ pos 1)) in let c = changed_there u a (k -ℤ pos 1) in omega (arith, ints, m, c));
      high = λ k b. (let m = b (changed u a (k +ℤ pos 1)) (at (k +ℤ pos 1)) in let c = changed_there u a (k +ℤ pos 1) in omega (arith, ints, m, c));
    }
      where
        at : (z : ℤ) → Solves (system q) (changed u a z)
        at z = changed_solves u s z (λ c i g. absurd (n c i g))

    pub range_unnamed : IsRange (system q) a (ends_of (domain_ends q.domains a))
    range_unnamed = by_ends (domain_ends q.domains a) (ends_from q.domains a)
