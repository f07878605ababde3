-- The ends of the own range of a column may be written: an end beyond could be moved on, since no comparison and no domain names an integer there.
use Rattle.std.proofs.Common.{◌≡◌, ◌⊎◌, inl, inr, int_lt, ℤ, pos, neg_ℤ, ◌+ℤ◌, ◌-ℤ◌, ◌≤ℤ◌, ◌<ℤ◌, Some, refl, sym, ◌∙◌, arith}
use Rattle.std.specs.List.{flat_map}
use Rattle.std.proofs.lemmas.Int.{ints, by_lt_z}
use Rattle.std.proofs.lemmas.List.Elements.{All-contains}
use Rattle.sem_query.specs.declared.atom.Attr.{Attr}
use Rattle.sem_query.specs.declared.atom.Domain.{Domain}
use Rattle.sem_query.specs.declared.atom.Element.{Element}
use Rattle.sem_query.specs.declared.atom.Element.TheVariants as element
use Rattle.sem_query.specs.declared.atom.Op.{Op}
use Rattle.sem_query.specs.Query.{QueryValue, IsShort, IsDomain, consts_of}
use Rattle.sem_query.specs.Assignment.{Assignment, value}
use Rattle.sem_query.specs.Order.{IsElement}
use Rattle.sem_query.proofs.Has.{Has, first, later, Has-nil, Contains-from_has, Has-append_cases, Has-flat_map_from}
use Rattle.sem_query.proofs.Elements.{SidesIn, sides_in, element_from_has}
use Rattle.sem_whole.specs.System.{Difference, Meets, bounds_of, atom_bounds, domain_bounds, system, Solves}
use Rattle.sem_whole.specs.Kept.{IsLowest, IsHighest}
use Rattle.sem_whole.specs.Signed.{IsWellFormed}
use Rattle.sem_whole.proofs.Suffice.{bounds_sides}
use Rattle.law_resume.proofs.Spreading.{lowest, highest, Spreads, lowered, raised, lowering, raising, lower_still, higher_still}

-- a bound is by nothing or by one
by_is : (o : Op) (x y : Element) (d : Difference) → Has (bounds_of o x y) d → (d.by ≡ pos 0) ⊎ (d.by ≡ neg_ℤ (pos 1))
by_is Op.Lt x y d first = inr refl
by_is Op.Lt x y d (later k) = Has-nil k
by_is Op.Eq x y d first = inl refl
by_is Op.Eq x y d (later first) = inl refl
by_is Op.Eq x y d (later (later k)) = Has-nil k
by_is Op.Gt x y d first = inr refl
by_is Op.Gt x y d (later k) = Has-nil k
by_is Op.Le x y d first = inl refl
by_is Op.Le x y d (later k) = Has-nil k
by_is Op.Ge x y d first = inl refl
by_is Op.Ge x y d (later k) = Has-nil k
by_is Op.Ne x y d k = Has-nil k

module _ (f : ℤ → ℤ) (s : Spreads f) where
  not_above : (x y : ℤ) → x ≤ℤ y → f x ≤ℤ f y
  not_above x y l = let e : int_lt (f y) (f x) ≡ int_lt y x = s.less y x in grind (arith, ints, e, l)

  below : (x y : ℤ) → x <ℤ y → f x <ℤ f y
  below x y l = let e : int_lt (f x) (f y) ≡ int_lt x y = s.less x y in grind (arith, ints, e, l)

  module _ (q : QueryValue) (w : IsWellFormed q) (v : Assignment) where
    unfoldable moved : Assignment
    moved a = f (v a)

    moved_at : (a : Attr) → moved a ≡ f (v a)
    unfolding moved
    moved_at a = refl

    -- an element is moved with the assignment
    abbrev Goes : Element → Type 0
    Goes e = value e moved ≡ f (value e v)

    goes_attr : (a : Attr) → Goes (element.Attr a)
    goes_attr a = moved_at a

    goes_const : (k : ℤ) → lowest ≤ℤ k → k ≤ℤ highest → Goes (element.Const k)
    goes_const k l u = sym (s.stays k l u)

    goes_element : (e : Element) → IsElement q e → Goes e
    goes_element (element.Attr a) h = goes_attr a
    goes_element (element.Const k) h = (let i : IsShort k = All-contains IsShort (consts_of q.atoms) k w.consts h in goes_const k i.low i.high)

    met : (d : Difference) → (d.by ≡ pos 0) ⊎ (d.by ≡ neg_ℤ (pos 1)) → Goes d.left → Goes d.right → Meets v d → Meets moved d
    met d by l r m = elim by [
      | inl e ↦ (let u = not_above (value d.left v) (value d.right v) (omega (arith, ints, m, e)) in omega (arith, ints, u, e, l, r))
      | inr e ↦ (let u = below (value d.left v) (value d.right v) (omega (arith, ints, m, e)) in omega (arith, ints, u, e, l, r))
    ]

    of_atom : (o : Op) (x y : Element) → Goes x → Goes y → (d : Difference) → Has (bounds_of o x y) d → Meets v d → Meets moved d
    of_atom o x y g h d i = (let b = bounds_sides Goes o x y g h d i in met d (by_is o x y d i) b.0 b.1)

    of_domain : (e : Domain) → IsDomain q e → (d : Difference) → Has (domain_bounds e) d → Meets v d → Meets moved d
    of_domain e own d first = met (record { left = element.Const e.lo; right = element.Attr e.attr; by = pos 0 }) (inl refl) (goes_const e.lo own.low.low own.low.high) (goes_attr e.attr)
    of_domain e own d (later first) = met (record { left = element.Attr e.attr; right = element.Const e.hi; by = pos 0 }) (inl refl) (goes_attr e.attr) (goes_const e.hi own.high.low own.high.high)
    of_domain e own d (later (later k)) = Has-nil k

    -- a solution that is moved is a solution
    moved_solves : Solves (system q) v → Solves (system q) moved
    moved_solves m d i = elim (Has-append_cases (flat_map atom_bounds q.atoms) (flat_map domain_bounds q.domains) d i) [
      | inl j ↦ (
          let r = Has-flat_map_from atom_bounds q.atoms d j in
          let sides : SidesIn q.atoms r.0 = sides_in q.atoms r.0 r.1 in
          of_atom r.0.op r.0.left r.0.right (goes_element r.0.left (element_from_has q r.0.left sides.left)) (goes_element r.0.right (element_from_has q r.0.right sides.right)) d r.2 (m d i))
      | inr j ↦ (
          let r = Has-flat_map_from domain_bounds q.domains d j in
          of_domain r.0 (All-contains (IsDomain q) q.domains r.0 w.domains (Contains-from_has q.domains r.0 r.1)) d r.2 (m d i))
    ]

pub low_written : (q : QueryValue) → IsWellFormed q → (a : Attr) (lo : ℤ) → IsLowest (system q) a (Some lo) → lowest ≤ℤ lo
low_written q w a lo is = by_lt_z lo lowest (λ l. (let u = is.1 (lo +ℤ pos 1) (λ v s. higher v s l) in omega (arith, ints, u))) (λ l. omega (arith, ints, l))
  where
    higher : (v : Assignment) → Solves (system q) v → lo <ℤ lowest → (lo +ℤ pos 1) ≤ℤ (pos 0 +ℤ v a)
    higher v s l = by_lt_z lo (v a) (λ above. omega (arith, ints, above)) (λ under.
        let m : lo ≤ℤ (pos 0 +ℤ v a) = is.0 v s in
        let n : lo ≤ℤ (pos 0 +ℤ moved lowered lowering q w v a) = is.0 (moved lowered lowering q w v) (moved_solves lowered lowering q w v s) in
        let e : moved lowered lowering q w v a ≡ v a -ℤ pos 1 = moved_at lowered lowering q w v a ∙ lower_still (v a) (omega (arith, ints, under, l)) in
        omega (arith, ints, m, n, e, under))

pub high_written : (q : QueryValue) → IsWellFormed q → (a : Attr) (hi : ℤ) → IsHighest (system q) a (Some hi) → hi ≤ℤ highest
high_written q w a hi is = by_lt_z highest hi (λ l. (let u = is.1 (hi -ℤ pos 1) (λ v s. lower v s l) in omega (arith, ints, u))) (λ l. omega (arith, ints, l))
  where
    lower : (v : Assignment) → Solves (system q) v → highest <ℤ hi → v a ≤ℤ (pos 0 +ℤ (hi -ℤ pos 1))
    lower v s l = by_lt_z (v a) hi (λ under. omega (arith, ints, under)) (λ above.
        let m : v a ≤ℤ (pos 0 +ℤ hi) = is.0 v s in
        let n : moved raised raising q w v a ≤ℤ (pos 0 +ℤ hi) = is.0 (moved raised raising q w v) (moved_solves raised raising q w v s) in
        let e : moved raised raising q w v a ≡ v a +ℤ pos 1 = moved_at raised raising q w v a ∙ higher_still (v a) (omega (arith, ints, above, l)) in
        omega (arith, ints, m, n, e, above))
