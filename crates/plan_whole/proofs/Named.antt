-- The system of a query and its part on attributes bound the same of attributes and integers.
use Rattle.std.proofs.Common.{◌≡◌, suc, ℤ, pos, ◌+ℤ◌, ◌≤ℤ◌, inl, inr, List, [], ◌∷◌, Bool, true, false, cond, Option, Some, None, refl, sym, ◌∙◌, ap, subst, arith}
use Rattle.std.proofs.lemmas.Int.{ints}
use Rattle.std.proofs.lemmas.Bool.Decides.{nat_tests}
use Rattle.std.proofs.lemmas.List.Elements.{All-contains}
use Rattle.std.specs.List.{flat_map}
use Rattle.sem_query.specs.declared.atom.Attr.{Attr}
use Rattle.sem_query.specs.declared.atom.Atom.{Atom}
use Rattle.sem_query.specs.declared.atom.Domain.{Domain}
use Rattle.sem_query.specs.declared.atom.Element.{Element}
use Rattle.sem_query.specs.declared.atom.Element.TheVariants as element
use Rattle.sem_query.specs.Query.{QueryValue, attr_eq, attr_lt, attrs_of, consts_of, IsDomain}
use Rattle.sem_query.specs.Assignment.{Assignment, value, IsAmong}
use Rattle.sem_query.proofs.Has.{Has, first, later, Has-nil, Has-from_contains, Contains-from_has, Has-append_left, Has-append_right, Has-append_cases, Has-map, Has-map_from, Has-flat_map, Has-flat_map_from}
use Rattle.sem_query.proofs.Unique.{Ascends, more, ascends_from}
use Rattle.sem_query.proofs.Elements.{HasElement, SidesIn, sides_in}
use Rattle.plan_constraints.specs.Nodes.{place_of, node_of, offset_of, nodes_of, has_node, low_of}
use Rattle.plan_constraints.specs.Solutions.{IsSatisfiable}
use Rattle.plan_constraints.proofs.NodeFacts.{Agree, Known, node_there, node_has, value_is, nodes_agree}
use Rattle.sem_whole.specs.System.{Difference, Meets, atom_bounds, domain_bounds, system, Solves, Bound}
use Rattle.sem_whole.specs.Kept.{IsLowest, IsHighest, IsRange}
use Rattle.sem_whole.specs.Ranges.{Range}
use Rattle.sem_whole.specs.Signed.{IsWellFormed}
use Rattle.sem_whole.proofs.Suffice.{bounds_sides}
use Rattle.plan_whole.specs.Closed.{constraint_of, named_bounds, named_system, closed_constraints}

pub known_among : (xs : List Attr) (e : Element) → Known xs e → IsAmong xs e
known_among xs (element.Attr a) h = Contains-from_has xs a h
known_among xs (element.Const k) h = tt

known_from : (xs : List Attr) (ks : List ℤ) (e : Element) → HasElement xs ks e → Known xs e
known_from xs ks (element.Attr a) h = h
known_from xs ks (element.Const k) h = tt

-- the least integer of a column's domain is found where no column has two
low_is : (ds : List Domain) → Ascends (λ (d e : Domain). attr_lt d.attr e.attr) ds → (d : Domain) → Has ds d → low_of ds d.attr ≡ d.lo
low_is [] a d h = elim h [ ]
low_is (e ∷ ds) a d first = ap (λ b. cond b e.lo (low_of ds e.attr)) (itself e.attr)
  where
    itself : (a : Attr) → attr_eq a a ≡ true
    itself a = grind arith
low_is (e ∷ ds) (more p a) d (later h) = ap (λ b. cond b e.lo (low_of ds d.attr)) (differ e.attr d.attr (p d h)) ∙ low_is ds a d h
  where
    differ : (a b : Attr) → attr_lt a b ≡ true → attr_eq a b ≡ false
    differ a b h = grind (arith, nat_tests)

-- what is known of integers and of the column of a domain is known of the sides of its bounds
pub domain_sides : (P : Element → Type 0) (e : Domain) → ((k : ℤ) → P (element.Const k)) → P (element.Attr e.attr) → (d : Difference) → Has (domain_bounds e) d → P d.left × P d.right
domain_sides P e k p d first = (k e.lo, p)
domain_sides P e k p d (later first) = (p, k e.hi)
domain_sides P e k p d (later (later h)) = Has-nil h

-- a bound of a domain holds of a value within it
pub domain_holds : (e : Domain) (v : Assignment) → e.lo ≤ℤ v e.attr → v e.attr ≤ℤ e.hi → (d : Difference) → Has (domain_bounds e) d → Meets v d
domain_holds e v l h d first = omega (arith, ints, l)
domain_holds e v l h d (later first) = omega (arith, ints, h)
domain_holds e v l h d (later (later m)) = Has-nil m

module _ (q : QueryValue) where
  -- the sides of a comparison are attributes or integers
  pub atom_known : (t : Atom) → Has q.atoms t → (d : Difference) → Has (atom_bounds t) d → Known (attrs_of q.atoms) d.left × Known (attrs_of q.atoms) d.right
  atom_known t h d k =
      let s : SidesIn q.atoms t = sides_in q.atoms t h in
      bounds_sides (Known (attrs_of q.atoms)) t.op t.left t.right (known_from _ (consts_of q.atoms) t.left s.left) (known_from _ (consts_of q.atoms) t.right s.right) d k

  domain_part : (e : Domain) (b : Bool) (d : Difference) → has_node (attrs_of q.atoms) e.attr ≡ b → Has (cond b (domain_bounds e) []) d
      → Has (domain_bounds e) d × Known (attrs_of q.atoms) d.left × Known (attrs_of q.atoms) d.right
  domain_part e true d n h = (let p = domain_sides (Known (attrs_of q.atoms)) e (λ k. tt) (node_has (attrs_of q.atoms) e.attr n) d h in (h, p.0, p.1))
  domain_part e false d n h = Has-nil h

  -- its part on attributes is among the system, and bounds attributes and integers
  pub named_in : (d : Difference) → Has (named_system q) d → Has (system q) d × Known (attrs_of q.atoms) d.left × Known (attrs_of q.atoms) d.right
  named_in d h = elim (Has-append_cases (flat_map atom_bounds q.atoms) (flat_map (named_bounds (attrs_of q.atoms)) q.domains) d h) [
    | inl i ↦ (let r = Has-flat_map_from atom_bounds q.atoms d i in let p = atom_known r.0 r.1 d r.2 in (Has-append_left (flat_map domain_bounds q.domains) i, p.0, p.1))
    | inr i ↦ (let r = Has-flat_map_from (named_bounds (attrs_of q.atoms)) q.domains d i in
        let p = domain_part r.0 (has_node (attrs_of q.atoms) r.0.attr) d refl r.2 in
        (Has-append_right (flat_map atom_bounds q.atoms) (Has-flat_map domain_bounds q.domains r.0 d r.1 p.0), p.1, p.2))
  ]

  pub named_among : (d : Difference) → Has (named_system q) d → IsAmong (attrs_of q.atoms) d.left × IsAmong (attrs_of q.atoms) d.right
  named_among d h = let p = named_in d h in (known_among (attrs_of q.atoms) d.left p.1, known_among (attrs_of q.atoms) d.right p.2)

  -- an assignment of the attributes, with the least of its domain for each other column
  pub extended : Assignment → Assignment
  extended v a = cond (has_node (attrs_of q.atoms) a) (v a) (low_of q.domains a)

  pub extended_known : (v : Assignment) (e : Element) → Known (attrs_of q.atoms) e → value e (extended v) ≡ value e v
  unfolding extended
  extended_known v (element.Attr a) h = ap (λ b. cond b (v a) (low_of q.domains a)) (node_there (attrs_of q.atoms) a h)
  extended_known v (element.Const k) h = refl

  module _ (w : IsWellFormed q) where
    pub domain_some : (e : Domain) → Has q.domains e → e.lo ≤ℤ e.hi
    domain_some e h = (All-contains (IsDomain q) q.domains e w.domains (Contains-from_has q.domains e h)).some

    extended_domain : (v : Assignment) → Solves (named_system q) v → (e : Domain) → Has q.domains e → (b : Bool) → has_node (attrs_of q.atoms) e.attr ≡ b
        → (d : Difference) → Has (domain_bounds e) d → Meets (extended v) d
    unfolding extended
    extended_domain v s e h true n d k =
        let m = s d (Has-append_right (flat_map atom_bounds q.atoms) (Has-flat_map (named_bounds (attrs_of q.atoms)) q.domains e d h (subst (λ b. Has (cond b (domain_bounds e) []) d) (sym n) k))) in
        let p = domain_sides (Known (attrs_of q.atoms)) e (λ k. tt) (node_has (attrs_of q.atoms) e.attr n) d k in
        let f = extended_known v d.left p.0 in
        let g = extended_known v d.right p.1 in
        omega (arith, ints, m, f, g)
    extended_domain v s e h false n d k =
        let i : extended v e.attr ≡ e.lo = ap (λ b. cond b (v e.attr) (low_of q.domains e.attr)) n ∙ low_is q.domains (ascends_from (λ (d e : Domain). attr_lt d.attr e.attr) q.domains w.ascending) e h in
        let o = domain_some e h in
        domain_holds e (extended v) (omega (arith, ints, i)) (omega (arith, ints, i, o)) d k

    -- a solution of the part on attributes gives one of the whole system
    pub extended_solves : (v : Assignment) → Solves (named_system q) v → Solves (system q) (extended v)
    extended_solves v s d h = elim (Has-append_cases (flat_map atom_bounds q.atoms) (flat_map domain_bounds q.domains) d h) [
      | inl i ↦ (let r = Has-flat_map_from atom_bounds q.atoms d i in
          let p = atom_known r.0 r.1 d r.2 in
          let m = s d (Has-append_left (flat_map (named_bounds (attrs_of q.atoms)) q.domains) i) in
          let f = extended_known v d.left p.0 in
          let g = extended_known v d.right p.1 in
          omega (arith, ints, m, f, g))
      | inr i ↦ (let r = Has-flat_map_from domain_bounds q.domains d i in extended_domain v s r.0 r.1 (has_node (attrs_of q.atoms) r.0.attr) refl d r.2)
    ]

    -- so both bound the same
    pub bound_named : (x y : Element) (c : ℤ) → Known (attrs_of q.atoms) x → Known (attrs_of q.atoms) y → Bound (system q) x y c → Bound (named_system q) x y c
    bound_named x y c k l b v s =
        let m = b (extended v) (extended_solves v s) in
        let f = extended_known v x k in
        let g = extended_known v y l in
        omega (arith, ints, m, f, g)

    pub bound_all : (x y : Element) (c : ℤ) → Bound (named_system q) x y c → Bound (system q) x y c
    bound_all x y c b v s = b v (λ d h. s d (named_in d h).0)

    low_named : (a : Attr) → Has (attrs_of q.atoms) a → (o : Option ℤ) → IsLowest (named_system q) a o → IsLowest (system q) a o
    low_named a h None n = λ k b. n k (bound_named (element.Const k) (element.Attr a) (pos 0) tt h b)
    low_named a h (Some l) n = (bound_all (element.Const l) (element.Attr a) (pos 0) n.0, λ k b. n.1 k (bound_named (element.Const k) (element.Attr a) (pos 0) tt h b))

    high_named : (a : Attr) → Has (attrs_of q.atoms) a → (o : Option ℤ) → IsHighest (named_system q) a o → IsHighest (system q) a o
    high_named a h None n = λ k b. n k (bound_named (element.Attr a) (element.Const k) (pos 0) h tt b)
    high_named a h (Some l) n = (bound_all (element.Attr a) (element.Const l) (pos 0) n.0, λ k b. n.1 k (bound_named (element.Attr a) (element.Const k) (pos 0) h tt b))

    pub range_named : (a : Attr) → Has (attrs_of q.atoms) a → (r : Range) → IsRange (named_system q) a r → IsRange (system q) a r
    range_named a h r i = record { low = low_named a h r.lo i.low; high = high_named a h r.hi i.high }

    -- integers for the nodes that meet all constraints are an assignment that solves the system
    pub solution : IsSatisfiable (closed_constraints q) → (v : Assignment) × Solves (system q) v
    solution s = (extended at, extended_solves at solves)
      where
        at : Assignment
        at a = s.at (suc (place_of (attrs_of q.atoms) a))

        value_at : (e : Element) → value e at ≡ s.at (node_of (attrs_of q.atoms) e) +ℤ offset_of e
        value_at (element.Attr a) = omega (arith, ints)
        value_at (element.Const k) = let o = s.solves.origin in omega (arith, ints, o)

        solves : Solves (named_system q) at
        solves d h =
            let m = s.solves.each (constraint_of (attrs_of q.atoms) d) (Contains-from_has _ _ (Has-map (constraint_of (attrs_of q.atoms)) h)) in
            let e = value_at d.left in
            let f = value_at d.right in
            omega (arith, ints, m, e, f)

  -- and an assignment that solves it gives integers for the nodes
  pub satisfied : (v : Assignment) → Solves (system q) v → IsSatisfiable (closed_constraints q)
  satisfied v s = record {
    at = nodes_of (attrs_of q.atoms) v;
    solves = record {
      origin = refl;
      each = λ k h.
          (let r : (d : Difference) × Has (named_system q) d × (constraint_of (attrs_of q.atoms) d ≡ k) = Has-map_from (constraint_of (attrs_of q.atoms)) (named_system q) k (Has-from_contains _ k h) in
          let p = named_in r.0 r.1 in
          let n : Meets v r.0 = s r.0 p.0 in
          let g : Agree (attrs_of q.atoms) (nodes_of (attrs_of q.atoms) v) v = nodes_agree (attrs_of q.atoms) v in
          let e = value_is (attrs_of q.atoms) (nodes_of (attrs_of q.atoms) v) v g r.0.left p.1 in
          let f = value_is (attrs_of q.atoms) (nodes_of (attrs_of q.atoms) v) v g r.0.right p.2 in
          subst (λ k. nodes_of (attrs_of q.atoms) v k.left ≤ℤ (k.bound +ℤ nodes_of (attrs_of q.atoms) v k.right)) r.2 (omega (arith, ints, n, e, f)));
    };
  }
