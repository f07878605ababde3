-- The constraints of a query's comparisons and domains lie within their limits, one after another.
use Rattle.std.proofs.Common.{◌≡◌, ℕ, ◌+◌, ◌<◌, ◌≤◌, inl, inr, ℤ, pos, neg_ℤ, ◌+ℤ◌, ◌-ℤ◌, ◌≤ℤ◌, List, [], ◌∷◌, ◌++◌, map, length, take, get_or, Bool, true, false, cond, All, Contains, append-nil, append_assoc, length-append, ◌*◌, refl, sym, ◌∙◌, ap, subst, arith}
use Rattle.std.proofs.lemmas.Int.{ints}
use Rattle.std.proofs.lemmas.List.{take_more, take_all, map-append}
use Rattle.std.proofs.lemmas.List.Concat.{flat_map-append}
use Rattle.std.specs.List.{flat_map}
use Rattle.sem_query.specs.declared.atom.Attr.{Attr}
use Rattle.sem_query.specs.declared.atom.Atom.{Atom}
use Rattle.sem_query.specs.declared.atom.Domain.{Domain}
use Rattle.sem_query.specs.declared.atom.Element.{Element}
use Rattle.sem_query.specs.declared.atom.Element.TheVariants as element
use Rattle.sem_query.specs.declared.atom.Op.{Op}
use Rattle.sem_query.specs.declared.part.Pair.{Pair}
use Rattle.sem_query.specs.declared.part.Sign.{Sign}
use Rattle.sem_query.specs.Query.{QueryValue, attrs_of, IsDomain, IsWithinLimits}
use Rattle.sem_query.specs.Order.{IsElement}
use Rattle.sem_query.proofs.Has.{Has, first, later, Has-nil, Has-map_from, Has-from_contains}
use Rattle.plan_constraints.specs.declared.constraint.Constraint.{Constraint}
use Rattle.plan_constraints.specs.Nodes.{place_of, node_of, offset_of, has_node, at_most_above, IsWithinLimit, HasAttr}
use Rattle.plan_constraints.specs.Solutions.{IsWithin}
use Rattle.plan_constraints.proofs.Joined.{All-from_has}
use Rattle.plan_constraints.proofs.NodeFacts.{node_in, limit_in, node_has, place_below}
use Rattle.plan_constraints.proofs.OfDomains.{node_within, no_node_past}
use Rattle.sem_whole.specs.System.{Difference, bounds_of, atom_bounds, domain_bounds}
use Rattle.sem_whole.specs.Signed.{op_of, said, IsSide}
use Rattle.plan_whole.specs.Closed.{constraint_of, named_bounds}

-- a column or a short integer, whose node is there
pub record IsKnownElement (xs : List Attr) (e : Element) : Type 0 where
  pub limit : IsWithinLimit e
  pub node : node_of xs e ≤ length xs

offset_least : (x y : Element) (by : ℤ) → HasAttr x y → IsWithinLimit x → IsWithinLimit y → neg_ℤ (pos 1) ≤ℤ by → by ≤ℤ pos 0 → neg_ℤ (pos 1000000000000000) ≤ℤ (offset_of y -ℤ offset_of x +ℤ by)
offset_least (element.Attr x) (element.Attr y) by o h k a b = omega (arith, ints, a, b)
offset_least (element.Attr x) (element.Const y) by o h k a b = let l = k.low in let m = k.high in omega (arith, ints, l, m, a, b)
offset_least (element.Const x) (element.Attr y) by o h k a b = let l = h.low in let m = h.high in omega (arith, ints, l, m, a, b)
offset_least (element.Const x) (element.Const y) by o h k a b = elim o [ inl e ↦ absurd cc | inr e ↦ absurd cc ]

offset_most : (x y : Element) (by : ℤ) → HasAttr x y → IsWithinLimit x → IsWithinLimit y → neg_ℤ (pos 1) ≤ℤ by → by ≤ℤ pos 0 → (offset_of y -ℤ offset_of x +ℤ by) ≤ℤ pos 1000000000000000
offset_most (element.Attr x) (element.Attr y) by o h k a b = omega (arith, ints, a, b)
offset_most (element.Attr x) (element.Const y) by o h k a b = let l = k.low in let m = k.high in omega (arith, ints, l, m, a, b)
offset_most (element.Const x) (element.Attr y) by o h k a b = let l = h.low in let m = h.high in omega (arith, ints, l, m, a, b)
offset_most (element.Const x) (element.Const y) by o h k a b = elim o [ inl e ↦ absurd cc | inr e ↦ absurd cc ]

-- of a difference by 0 or less, with a column
pub record IsShortDifference (xs : List Attr) (d : Difference) : Type 0 where
  pub left : IsKnownElement xs d.left
  pub right : IsKnownElement xs d.right
  pub column : HasAttr d.left d.right
  pub low : neg_ℤ (pos 1) ≤ℤ d.by
  pub high : d.by ≤ℤ pos 0

short_within : (xs : List Attr) (d : Difference) → IsShortDifference xs d → IsWithin (length xs) (constraint_of xs d)
short_within xs d s = record {
  left = s.left.node;
  right = s.right.node;
  low = offset_least d.left d.right d.by s.column s.left.limit s.right.limit s.low s.high;
  high = offset_most d.left d.right d.by s.column s.left.limit s.right.limit s.low s.high;
}

all_within : (xs : List Attr) (ds : List Difference) → ((d : Difference) → Has ds d → IsShortDifference xs d) → All (IsWithin (length xs)) (map (constraint_of xs) ds)
all_within xs ds h = All-from_has (IsWithin (length xs)) (map (constraint_of xs) ds) (λ c i. (let r = Has-map_from (constraint_of xs) ds c i in subst (IsWithin (length xs)) r.2 (short_within xs r.0 (h r.0 r.1))))

turn : (x y : Element) → HasAttr x y → HasAttr y x
turn x y (inl e) = inr e
turn x y (inr e) = inl e

short_bounds : (xs : List Attr) (o : Op) (x y : Element) → IsKnownElement xs x → IsKnownElement xs y → HasAttr x y → (d : Difference) → Has (bounds_of o x y) d → IsShortDifference xs d
short_bounds xs Op.Lt x y k l c d first = record { left = k; right = l; column = c; low = omega (arith, ints); high = omega (arith, ints) }
short_bounds xs Op.Lt x y k l c d (later h) = Has-nil h
short_bounds xs Op.Eq x y k l c d first = record { left = k; right = l; column = c; low = omega (arith, ints); high = omega (arith, ints) }
short_bounds xs Op.Eq x y k l c d (later first) = record { left = l; right = k; column = turn x y c; low = omega (arith, ints); high = omega (arith, ints) }
short_bounds xs Op.Eq x y k l c d (later (later h)) = Has-nil h
short_bounds xs Op.Gt x y k l c d first = record { left = l; right = k; column = turn x y c; low = omega (arith, ints); high = omega (arith, ints) }
short_bounds xs Op.Gt x y k l c d (later h) = Has-nil h
short_bounds xs Op.Le x y k l c d first = record { left = k; right = l; column = c; low = omega (arith, ints); high = omega (arith, ints) }
short_bounds xs Op.Le x y k l c d (later h) = Has-nil h
short_bounds xs Op.Ge x y k l c d first = record { left = l; right = k; column = turn x y c; low = omega (arith, ints); high = omega (arith, ints) }
short_bounds xs Op.Ge x y k l c d (later h) = Has-nil h
short_bounds xs Op.Ne x y k l c d h = Has-nil h

known_element : (q : QueryValue) (e : Element) → IsWithinLimits q → IsElement q e → IsKnownElement (attrs_of q.atoms) e
known_element q e w h = record { limit = limit_in q e w h; node = node_in q e h }

-- those of a comparison
pub atom_within : (q : QueryValue) (t : Atom) (cs : List Constraint) → cs ≡ map (constraint_of (attrs_of q.atoms)) (atom_bounds t) → IsWithinLimits q → IsElement q t.left → IsElement q t.right → HasAttr t.left t.right
    → All (IsWithin (length (attrs_of q.atoms))) cs
atom_within q t cs e w l r c = subst (All (IsWithin (length (attrs_of q.atoms)))) (sym e) (all_within (attrs_of q.atoms) (atom_bounds t) (short_bounds (attrs_of q.atoms) t.op t.left t.right (known_element q t.left w l) (known_element q t.right w r) c))

-- those of the sign of a pair
pub sign_within : (xs : List Attr) (p : Pair) (s : Sign) (cs : List Constraint) → cs ≡ map (constraint_of xs) (atom_bounds (said p s)) → Contains xs p.left → IsSide xs p.right → All (IsWithin (length xs)) cs
sign_within xs p s cs e l r =
    subst (All (IsWithin (length xs))) (sym e)
    (all_within xs (atom_bounds (said p s)) (short_bounds xs (op_of s) (element.Attr p.left) p.right record { limit = tt; node = place_below xs p.left (Has-from_contains xs p.left l) } (side_known p.right r) (inl refl)))
  where
    side_known : (y : Element) → IsSide xs y → IsKnownElement xs y
    side_known (element.Attr a) h = record { limit = tt; node = place_below xs a (Has-from_contains xs a h) }
    side_known (element.Const k) h = record { limit = h; node = omega arith }

-- those of a domain, whose column has a node or none
pub ends_there : (xs : List Attr) (d : Domain) (n : ℕ) (none mid new : List Constraint) (low high : Constraint) → n ≡ place_of xs d.attr → n < length xs → none ≡ []
    → low ≡ at_most_above xs (element.Const d.lo) (element.Attr d.attr) (pos 0) → mid ≡ none ++ low ∷ [] → high ≡ at_most_above xs (element.Attr d.attr) (element.Const d.hi) (pos 0) → new ≡ mid ++ high ∷ []
    → new ≡ map (constraint_of xs) (named_bounds xs d)
ends_there xs d n none mid new low high at below empty l one h two =
    two ∙ ap (λ z. z ++ high ∷ []) (one ∙ ap (λ z. z ++ low ∷ []) empty)
    ∙ (λ k. l k ∷ h k ∷ []) ∙ sym (ap (λ b. map (constraint_of xs) (cond b (domain_bounds d) [])) (node_within xs d.attr (omega (arith, at, below))))

pub no_ends : (xs : List Attr) (d : Domain) (n : ℕ) (none : List Constraint) → n ≡ place_of xs d.attr → length xs ≤ n → none ≡ [] → none ≡ map (constraint_of xs) (named_bounds xs d)
no_ends xs d n none at past empty = empty ∙ sym (ap (λ b. map (constraint_of xs) (cond b (domain_bounds d) [])) (no_node_past xs d.attr (omega (arith, at, past))))

short_domain : (xs : List Attr) (d : Domain) → IsKnownElement xs (element.Attr d.attr) → IsKnownElement xs (element.Const d.lo) → IsKnownElement xs (element.Const d.hi)
    → (x : Difference) → Has (domain_bounds d) x → IsShortDifference xs x
short_domain xs d k l h x first = record { left = l; right = k; column = inr refl; low = omega (arith, ints); high = omega (arith, ints) }
short_domain xs d k l h x (later first) = record { left = k; right = h; column = inl refl; low = omega (arith, ints); high = omega (arith, ints) }
short_domain xs d k l h x (later (later i)) = Has-nil i

pub domain_within : (q : QueryValue) (d : Domain) (cs : List Constraint) → cs ≡ map (constraint_of (attrs_of q.atoms)) (named_bounds (attrs_of q.atoms) d) → IsDomain q d → All (IsWithin (length (attrs_of q.atoms))) cs
domain_within q d cs e i = subst (All (IsWithin (length (attrs_of q.atoms)))) (sym e) (all_within (attrs_of q.atoms) (named_bounds (attrs_of q.atoms) d) (by (has_node (attrs_of q.atoms) d.attr) refl))
  where
    by : (b : Bool) → has_node (attrs_of q.atoms) d.attr ≡ b → (x : Difference) → Has (cond b (domain_bounds d) []) x → IsShortDifference (attrs_of q.atoms) x
    by true n x h =
        short_domain (attrs_of q.atoms) d
        record { limit = tt; node = place_below (attrs_of q.atoms) d.attr (node_has (attrs_of q.atoms) d.attr n) }
        record { limit = i.low; node = omega arith }
        record { limit = i.high; node = omega arith }
        x h
    by false n x h = Has-nil h

-- at most two more
pub none_within : (n : ℕ) → All (IsWithin n) []
none_within n = All-from_has (IsWithin n) [] (λ c h. Has-nil h)

pub two_more : (old added new : List Constraint) (n : ℕ) → new ≡ old ++ added → length added ≤ 2 → length old ≤ 2 * n → length new ≤ 2 * (n + 1)
two_more old added new n e l m = let k = ap length e in omega (arith, k, length-append old added, l, m)

pub two_behind : (old added new : List Constraint) (n : ℕ) → new ≡ old ++ added → length added ≤ 2 → length old ≤ 32 + 2 * n → length new ≤ 32 + 2 * (n + 1)
two_behind old added new n e l m = let k = ap length e in omega (arith, k, length-append old added, l, m)

pub none_behind : (xs : List Constraint) → xs ≡ xs ++ []
none_behind xs = sym (append-nil xs)

-- one more of a list gives its constraints behind those of the others
module _ {X : Type 0} (xs : List Attr) (f : X → List Difference) where
  more_constraints : (ts : List X) (i : ℕ) (d : X) → i < length ts → map (constraint_of xs) (flat_map f (take (i + 1) ts)) ≡ map (constraint_of xs) (flat_map f (take i ts)) ++ map (constraint_of xs) (f (get_or ts i d))
  more_constraints ts i d l =
      ap (λ z. map (constraint_of xs) (flat_map f z)) (take_more ts i d l)
      ∙ ap (map (constraint_of xs)) (flat_map-append f (take i ts) (get_or ts i d ∷ []) ∙ ap (λ z. flat_map f (take i ts) ++ z) (append-nil (f (get_or ts i d))))
      ∙ map-append (constraint_of xs) (flat_map f (take i ts)) (f (get_or ts i d))

  pub bounds_more : (base old new : List Constraint) (ts : List X) (i : ℕ) (x : X) (cs : List Constraint) → i < length ts → cs ≡ map (constraint_of xs) (f (get_or ts i x)) → new ≡ old ++ cs
      → old ≡ base ++ map (constraint_of xs) (flat_map f (take i ts)) → new ≡ base ++ map (constraint_of xs) (flat_map f (take (i + 1) ts))
  bounds_more base old new ts i x cs l e g h =
      g ∙ ap (λ z. z ++ cs) h ∙ append_assoc base (map (constraint_of xs) (flat_map f (take i ts))) cs
      ∙ ap (λ z. base ++ z) (ap (λ z. map (constraint_of xs) (flat_map f (take i ts)) ++ z) e ∙ sym (more_constraints ts i x l))

  pub bounds_all : (base list : List Constraint) (ts : List X) (i : ℕ) → length ts ≤ i → list ≡ base ++ map (constraint_of xs) (flat_map f (take i ts)) → list ≡ base ++ map (constraint_of xs) (flat_map f ts)
  bounds_all base list ts i l h = h ∙ ap (λ z. base ++ map (constraint_of xs) (flat_map f z)) (take_all i ts l)
