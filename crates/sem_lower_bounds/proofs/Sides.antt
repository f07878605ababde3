-- Each attribute of a query is a side of one of its comparisons, those that say its domains among them.
use Rattle.std.proofs.Common.{◌≡◌, ◌⊎◌, inl, inr, List, [], ◌∷◌, cond, Bool, true, false, ap, subst}
use Rattle.std.specs.List.{flat_map}
use Rattle.sem_query.proofs.Elements.{SidesIn, sides_in, HasElement}
use Rattle.sem_query.proofs.Has.{Has, first, later, Has-append_left, Has-append_cases, Has-flat_map_from}
use Rattle.sem_query.specs.declared.atom.Atom.{Atom}
use Rattle.sem_query.specs.declared.atom.Attr.{Attr}
use Rattle.sem_query.specs.declared.atom.Domain.{Domain}
use Rattle.sem_query.specs.declared.atom.Element.{Element}
use Rattle.sem_query.specs.declared.atom.Element.TheVariants as element
use Rattle.sem_query.specs.Query.{QueryValue, attr_lt, with_new, attrs_with, attrs_of, consts_of}
use Rattle.sem_laws.proofs.OnePartFits.{has_cases}
use Rattle.sem_lower_bounds.specs.Within.{as_comparisons, written}

with_new-from : (x : Attr) (ys : List Attr) (z : Attr) → Has (with_new attr_lt x ys) z → (x ≡ z) ⊎ Has ys z
with_new-from x [] z h = has_cases x z [] h
with_new-from x (y ∷ ys) z h = by (attr_lt x y) (attr_lt y x) (λ k. with_new-from x ys z k) h
  where
    by : (b c : Bool) → (Has (with_new attr_lt x ys) z → (x ≡ z) ⊎ Has ys z)
        → Has (cond b (x ∷ y ∷ ys) (cond c (y ∷ with_new attr_lt x ys) (y ∷ ys))) z → (x ≡ z) ⊎ Has (y ∷ ys) z
    by true c f h = has_cases x z (y ∷ ys) h
    by false true f h = elim (has_cases y z (with_new attr_lt x ys) h) [
      | inl e ↦ inr (subst (Has (y ∷ ys)) e first)
      | inr k ↦ elim (f k) [ inl e ↦ inl e | inr i ↦ inr (later i) ]
    ]
    by false false f h = inr h

attrs_with-from : (e : Element) (xs : List Attr) (a : Attr) → Has (attrs_with e xs) a → (e ≡ element.Attr a) ⊎ Has xs a
attrs_with-from (element.Attr b) xs a h = elim (with_new-from b xs a h) [ inl e ↦ inl (ap (λ (c : Attr). element.Attr c) e) | inr i ↦ inr i ]
attrs_with-from (element.Const k) xs a h = inr h

-- a comparison of which the column is a side
pub record Naming (ts : List Atom) (a : Attr) : Type 0 where
  pub one : Atom
  pub listed : Has ts one
  pub side : (one.left ≡ element.Attr a) ⊎ (one.right ≡ element.Attr a)

pub naming : (ts : List Atom) (a : Attr) → Has (attrs_of ts) a → Naming ts a
naming [] a h = elim h [ ]
naming (t ∷ ts) a h = elim (attrs_with-from t.left (attrs_with t.right (attrs_of ts)) a h) [
  | inl e ↦ record { one = t; listed = first; side = inl e }
  | inr i ↦ elim (attrs_with-from t.right (attrs_of ts) a i) [
    | inl e ↦ record { one = t; listed = first; side = inr e }
    | inr j ↦ (let r : Naming ts a = naming ts a j in record { one = r.one; listed = later r.listed; side = r.side })
  ]
]

-- a side of a listed comparison is an attribute
pub named-in : (ts : List Atom) (t : Atom) (a : Attr) → Has ts t → (t.left ≡ element.Attr a) ⊎ (t.right ≡ element.Attr a) → Has (attrs_of ts) a
named-in ts t a h o =
    let s : SidesIn ts t = sides_in ts t h in
    elim o [
      | inl e ↦ subst (HasElement (attrs_of ts) (consts_of ts)) e s.left
      | inr e ↦ subst (HasElement (attrs_of ts) (consts_of ts)) e s.right
    ]

-- the attributes of the query are attributes of the written one
pub attrs-kept : (q : QueryValue) (a : Attr) → Has (attrs_of q.atoms) a → Has (attrs_of (written q).atoms) a
attrs-kept q a h =
    let r : Naming q.atoms a = naming q.atoms a h in
    named-in (written q).atoms r.one a (Has-append_left (flat_map as_comparisons q.domains) r.listed) r.side

same_attr : (a b : Attr) → element.Attr a ≡ element.Attr b → a ≡ b
same_attr a b e = cc

-- and each attribute of the written one is one of the query, or has a domain
pub written-attrs : (q : QueryValue) (a : Attr) → Has (attrs_of (written q).atoms) a → Has (attrs_of q.atoms) a ⊎ ((d : Domain) × Has q.domains d × (d.attr ≡ a))
written-attrs q a h =
    let r : Naming (written q).atoms a = naming (written q).atoms a h in
    elim (Has-append_cases q.atoms (flat_map as_comparisons q.domains) r.one r.listed) [
      | inl i ↦ inl (named-in q.atoms r.one a i r.side)
      | inr i ↦ (let o = Has-flat_map_from as_comparisons q.domains r.one i in inr (o.0, o.1, of_domain o.0 r.one o.2 r.side))
    ]
  where
    of_domain : (d : Domain) (t : Atom) → Has (as_comparisons d) t → (t.left ≡ element.Attr a) ⊎ (t.right ≡ element.Attr a) → d.attr ≡ a
    of_domain d t first (inl e) = same_attr d.attr a e
    of_domain d t first (inr e) = absurd cc
    of_domain d t (later first) (inl e) = same_attr d.attr a e
    of_domain d t (later first) (inr e) = absurd cc
    of_domain d t (later (later i)) o = elim i [ ]
