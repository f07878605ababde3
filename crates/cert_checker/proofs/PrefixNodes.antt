-- The constraints of a query's comparisons, domains and first signs lead between nodes of its attributes.
use Rattle.std.proofs.Common.{◌≡◌, ℕ, ◌≤◌, ℤ, Bool, true, false, cond, List, [], ◌∷◌, length, inl, inr, refl, arith}
use Rattle.std.specs.List.{flat_map}
use Rattle.sem_query.specs.declared.atom.Attr.{Attr}
use Rattle.sem_query.specs.declared.atom.Atom.{Atom}
use Rattle.sem_query.specs.declared.atom.Domain.{Domain}
use Rattle.sem_query.specs.declared.atom.Op.{Op}
use Rattle.sem_query.specs.declared.atom.Element.{Element}
use Rattle.sem_query.specs.declared.atom.Element.TheVariants as element
use Rattle.sem_query.specs.declared.part.Pair.{Pair}
use Rattle.sem_query.specs.declared.part.Sign.{Sign}
use Rattle.sem_query.specs.Query.{QueryValue, attrs_of}
use Rattle.sem_query.specs.Parts.{pairs}
use Rattle.sem_query.proofs.Has.{Has, first, later, Has-append_cases}
use Rattle.plan_constraints.specs.declared.constraint.Constraint.{Constraint}
use Rattle.plan_constraints.specs.Nodes.{has_node, node_of, between, constraints_of, turned}
use Rattle.plan_constraints.specs.PartConstraints.{of_op, of_atoms, at_least, at_most, of_domain, of_base, of_signs, of_prefix}
use Rattle.plan_constraints.proofs.NodeFacts.{Known, node_has, place_below}
use Rattle.sem_query.specs.Query.{consts_of}
use Rattle.sem_query.proofs.Elements.{SidesIn, sides_in, HasElement}
use Rattle.sem_query.proofs.Local.{PairIn, pair_named}

-- both nodes exist
pub record LeadsWithin (attrs : ℕ) (c : Constraint) : Type 0 where
  pub left : c.left ≤ attrs
  pub right : c.right ≤ attrs

-- the node of an element that is a constant or among xs exists
pub node_known : (xs : List Attr) (e : Element) → Known xs e → node_of xs e ≤ length xs
node_known xs (element.Attr a) h = place_below xs a h
node_known xs (element.Const k) h = omega arith

known_of : (xs : List Attr) (ks : List ℤ) (e : Element) → HasElement xs ks e → Known xs e
known_of xs ks (element.Attr a) h = h
known_of xs ks (element.Const k) h = tt

atoms_known : (q : QueryValue) (t : Atom) → Has q.atoms t → Known (attrs_of q.atoms) t.left × Known (attrs_of q.atoms) t.right
atoms_known q t h =
    let s : SidesIn q.atoms t = sides_in q.atoms t h in
    (known_of (attrs_of q.atoms) (consts_of q.atoms) t.left s.left, known_of (attrs_of q.atoms) (consts_of q.atoms) t.right s.right)

pairs_known : (q : QueryValue) (p : Pair) → Has (pairs q) p → Has (attrs_of q.atoms) p.left × Known (attrs_of q.atoms) p.right
pairs_known q p h =
    let s : PairIn (attrs_of q.atoms) (consts_of q.atoms) p = pair_named q p h in
    (s.left, known_of (attrs_of q.atoms) (consts_of q.atoms) p.right s.right)

between_leads : (xs : List Attr) (x : Element) (s : Sign) (y : Element) → node_of xs x ≤ length xs → node_of xs y ≤ length xs → (c : Constraint) → Has (between xs x s y) c → LeadsWithin (length xs) c
between_leads xs x Sign.Lt y h k c first = record { left = h; right = k }
between_leads xs x Sign.Lt y h k c (later i) = elim i [ ]
between_leads xs x Sign.Gt y h k c first = record { left = k; right = h }
between_leads xs x Sign.Gt y h k c (later i) = elim i [ ]
between_leads xs x Sign.Eq y h k c first = record { left = h; right = k }
between_leads xs x Sign.Eq y h k c (later first) = record { left = k; right = h }
between_leads xs x Sign.Eq y h k c (later (later i)) = elim i [ ]

-- the constraints of two elements lead between nodes that exist
pub constraints_lead : (xs : List Attr) (x : Element) (s : Sign) (y : Element) → Known xs x → Known xs y → (c : Constraint) → Has (constraints_of xs x s y) c → LeadsWithin (length xs) c
constraints_lead xs (element.Attr a) s y h k c i = between_leads xs (element.Attr a) s y (node_known xs (element.Attr a) h) (node_known xs y k) c i
constraints_lead xs (element.Const n) s y h k c i = between_leads xs y (turned s) (element.Const n) (node_known xs y k) (node_known xs (element.Const n) h) c i

-- and so do those of a comparison
op_leads : (xs : List Attr) (x : Element) (o : Op) (y : Element) → Known xs x → Known xs y → (c : Constraint) → Has (of_op xs x o y) c → LeadsWithin (length xs) c
op_leads xs x Op.Lt y h k c i = constraints_lead xs x Sign.Lt y h k c i
op_leads xs x Op.Eq y h k c i = constraints_lead xs x Sign.Eq y h k c i
op_leads xs x Op.Gt y h k c i = constraints_lead xs x Sign.Gt y h k c i
op_leads xs x Op.Le y h k c i = elim i [ ]
op_leads xs x Op.Ge y h k c i = elim i [ ]
op_leads xs x Op.Ne y h k c i = elim i [ ]

one_of_two : (P : Constraint → Type 0) (a b c : Constraint) → Has (a ∷ b ∷ []) c → P a → P b → P c
one_of_two P a b c first p r = p
one_of_two P a b c (later first) p r = r
one_of_two P a b c (later (later h)) p r = elim h [ ]

-- and those of a domain
domain_leads : (xs : List Attr) (d : Domain) (c : Constraint) → Has (of_domain xs d) c → LeadsWithin (length xs) c
domain_leads xs d c i = by (has_node xs d.attr) refl i
  where
    by : (b : Bool) → has_node xs d.attr ≡ b → Has (cond b (at_least xs d ∷ at_most xs d ∷ []) []) c → LeadsWithin (length xs) c
    by true e j = one_of_two (LeadsWithin (length xs)) (at_least xs d) (at_most xs d) c j (record { left = omega arith; right = place_below xs d.attr (node_has xs d.attr e) }) (record { left = place_below xs d.attr (node_has xs d.attr e); right = omega arith })
    by false e j = elim j [ ]

domains_lead : (xs : List Attr) (ds : List Domain) (c : Constraint) → Has (flat_map (of_domain xs) ds) c → LeadsWithin (length xs) c
domains_lead xs [] c i = elim i [ ]
domains_lead xs (d ∷ ds) c i = elim (Has-append_cases (of_domain xs d) (flat_map (of_domain xs) ds) c i) [
  | inl j ↦ domain_leads xs d c j
  | inr j ↦ domains_lead xs ds c j
]

atoms_lead : (xs : List Attr) (ts : List Atom) → ((t : Atom) → Has ts t → Known xs t.left × Known xs t.right) → (c : Constraint) → Has (of_atoms xs ts) c → LeadsWithin (length xs) c
atoms_lead xs [] k c i = elim i [ ]
atoms_lead xs (t ∷ ts) k c i = elim (Has-append_cases (of_op xs t.left t.op t.right) (of_atoms xs ts) c i) [
  | inl j ↦ op_leads xs t.left t.op t.right (k t first).0 (k t first).1 c j
  | inr j ↦ atoms_lead xs ts (λ u l. k u (later l)) c j
]

pub signs_lead : (xs : List Attr) (ps : List Pair) (ss : List Sign) → ((p : Pair) → Has ps p → Has xs p.left × Known xs p.right) → (c : Constraint) → Has (of_signs xs ps ss) c → LeadsWithin (length xs) c
signs_lead xs [] ss k c i = elim i [ ]
signs_lead xs (p ∷ ps) [] k c i = elim i [ ]
signs_lead xs (p ∷ ps) (s ∷ ss) k c i = elim (Has-append_cases (constraints_of xs (element.Attr p.left) s p.right) (of_signs xs ps ss) c i) [
  | inl j ↦ constraints_lead xs (element.Attr p.left) s p.right (k p first).0 (k p first).1 c j
  | inr j ↦ signs_lead xs ps ss (λ q l. k q (later l)) c j
]

-- the constraints of a prefix lead between nodes that exist
pub prefix_leads : (q : QueryValue) (pre : List Sign) (c : Constraint) → Has (of_prefix q pre) c → LeadsWithin (length (attrs_of q.atoms)) c
prefix_leads q pre c i = elim (Has-append_cases (of_base q) (of_signs (attrs_of q.atoms) (pairs q) pre) c i) [
  | inl j ↦ elim (Has-append_cases (of_atoms (attrs_of q.atoms) q.atoms) (flat_map (of_domain (attrs_of q.atoms)) q.domains) c j) [
    | inl k ↦ atoms_lead (attrs_of q.atoms) q.atoms (atoms_known q) c k
    | inr k ↦ domains_lead (attrs_of q.atoms) q.domains c k
  ]
  | inr j ↦ signs_lead (attrs_of q.atoms) (pairs q) pre (pairs_known q) c j
]
