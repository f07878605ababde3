-- What signs say stands before the comparisons of a query, one sign after another.
use Rattle.std.proofs.Common.{◌≡◌, ℕ, zero, suc, ◌<◌, ◌≤◌, ◌↔◌, inl, inr, ℤ, Option, Some, None, append_assoc, List, [], ◌∷◌, ◌++◌, map, filter, length, take, get_or, Bool, true, false, not, cond, refl, sym, ◌∙◌, ap, subst, arith}
use Rattle.std.proofs.lemmas.List.{map-append}
use Rattle.std.proofs.lemmas.List.Concat.{flat_map-append}
use Rattle.std.specs.List.{flat_map}
use Rattle.sem_query.specs.declared.atom.Attr.{Attr}
use Rattle.sem_query.specs.declared.atom.Atom.{Atom}
use Rattle.sem_query.specs.declared.atom.Element.{Element}
use Rattle.sem_query.specs.declared.atom.Element.TheVariants as element
use Rattle.sem_query.specs.declared.part.Pair.{Pair}
use Rattle.sem_query.specs.declared.part.Sign.{Sign}
use Rattle.sem_query.specs.Query.{QueryValue, attrs_of, IsWithinLimits}
use Rattle.sem_query.proofs.Has.{Has, first, later, Has-nil, Has-from_contains, Contains-from_has, Has-append_left, Has-append_right, Has-append_cases}
use Rattle.plan_constraints.specs.declared.constraint.Constraint.{Constraint}
use Rattle.plan_constraints.specs.Nodes.{constraints_of, IsWithinLimit}
use Rattle.plan_constraints.specs.PartConstraints.{of_signs}
use Rattle.plan_constraints.specs.Solutions.{Solves, IsSatisfiable, IsUpperAnswer}
use Rattle.sem_whole.specs.System.{Difference, atom_bounds}
use Rattle.sem_whole.specs.Links.{are_across, turned_by, atom_eq, each_once, between_streams}
use Rattle.sem_whole.specs.Signed.{said, all_said, with_signs, IsSide, AreSignedPairs}
use Rattle.plan_whole.specs.declared.links.ColumnLink.{ColumnLink}
use Rattle.sem_whole.proofs.Signed.{signed_attrs, signed_well_formed}
use Rattle.plan_whole.specs.Closed.{constraint_of, named_bounds, named_system, closed_constraints, bound_at, IsSmall, IsClosedSystem}
use Rattle.plan_whole.specs.Columns.{atom_of}

pub length_said : (ps : List Pair) (ss : List Sign) → length ps ≡ length ss → length (all_said ps ss) ≡ length ps
length_said [] ss e = refl
length_said (p ∷ ps) [] e = absurd (omega (arith, e))
length_said (p ∷ ps) (s ∷ ss) e = (let n = length_said ps ss (omega (arith, e)) in omega (arith, n))

pub said_at : (ps : List Pair) (ss : List Sign) (i : ℕ) (p : Pair) (s : Sign) → i < length ps → length ps ≡ length ss → get_or (all_said ps ss) i (said p s) ≡ said (get_or ps i p) (get_or ss i s)
said_at [] ss i p s l e = absurd (omega (arith, l))
said_at (q ∷ ps) [] i p s l e = absurd (omega (arith, e))
said_at (q ∷ ps) (t ∷ ss) zero p s l e = refl
said_at (q ∷ ps) (t ∷ ss) (suc i) p s l e = said_at ps ss i p s (omega (arith, l)) (omega (arith, e))

pub pair_at : (ps : List Pair) (i : ℕ) (p : Pair) → i < length ps → Has ps (get_or ps i p)
pair_at [] i p l = absurd (omega (arith, l))
pair_at (q ∷ ps) zero p l = first
pair_at (q ∷ ps) (suc i) p l = later (pair_at ps i p (omega (arith, l)))

-- any pair and any sign, in place of one behind the end
abbrev pub no_pair : Pair
no_pair = record { left = record { stream = 0; column = 0 }; right = element.Attr record { stream = 0; column = 0 } }

abbrev pub no_sign : Sign
no_sign = Sign.Lt

-- no pairs have no signs
pub no_pairs : (q : QueryValue) → AreSignedPairs q [] []
no_pairs q = record { left = λ p h. Has-nil h; right = λ p h. Has-nil h; same = refl; few = omega arith }

pub side_limit : (xs : List Attr) (e : Element) → IsSide xs e → IsWithinLimit e
side_limit xs (element.Attr a) h = tt
side_limit xs (element.Const k) h = h

-- ---- constraints

-- what the signs of pairs say, as constraints on the nodes of these columns
abbrev pub said_constraints : List Attr → List Pair → List Sign → List Constraint
said_constraints xs ps ss = map (constraint_of xs) (flat_map atom_bounds (all_said ps ss))

-- these are the constraints of the signs
pub said_are_signs : (xs : List Attr) (ps : List Pair) (ss : List Sign) → said_constraints xs ps ss ≡ of_signs xs ps ss
said_are_signs xs [] ss = refl
said_are_signs xs (p ∷ ps) [] = refl
said_are_signs xs (p ∷ ps) (s ∷ ss) =
    map-append (constraint_of xs) (atom_bounds (said p s)) (flat_map atom_bounds (all_said ps ss))
    ∙ (λ k. one s k ++ said_are_signs xs ps ss k)
  where
    one : (s : Sign) → map (constraint_of xs) (atom_bounds (said p s)) ≡ constraints_of xs (element.Attr p.left) s p.right
    one Sign.Lt = refl
    one Sign.Eq = refl
    one Sign.Gt = refl

-- the system of a query is what its comparisons say, and then its domains
pub closed_parts : (q : QueryValue) → closed_constraints q ≡ map (constraint_of (attrs_of q.atoms)) (flat_map atom_bounds q.atoms) ++ map (constraint_of (attrs_of q.atoms)) (flat_map (named_bounds (attrs_of q.atoms)) q.domains)
closed_parts q = map-append (constraint_of (attrs_of q.atoms)) (flat_map atom_bounds q.atoms) (flat_map (named_bounds (attrs_of q.atoms)) q.domains)

-- what the signs say stands before that of the query with the signs
signed_parts : (q : QueryValue) (ps : List Pair) (ss : List Sign) → attrs_of (with_signs ps ss q).atoms ≡ attrs_of q.atoms → closed_constraints (with_signs ps ss q) ≡ said_constraints (attrs_of q.atoms) ps ss ++ closed_constraints q
signed_parts q ps ss e =
    ap (λ xs. map (constraint_of xs) (flat_map atom_bounds (all_said ps ss ++ q.atoms) ++ flat_map (named_bounds xs) q.domains)) e
    ∙ ap (λ z. map k (z ++ flat_map (named_bounds (attrs_of q.atoms)) q.domains)) (flat_map-append atom_bounds (all_said ps ss) q.atoms)
    ∙ ap (map k) (append_assoc (flat_map atom_bounds (all_said ps ss)) (flat_map atom_bounds q.atoms) (flat_map (named_bounds (attrs_of q.atoms)) q.domains))
    ∙ map-append k (flat_map atom_bounds (all_said ps ss)) (named_system q)
  where
    k : Difference → Constraint
    k = constraint_of (attrs_of q.atoms)

-- the same integers meet the same constraints in another order
swapped : (x : ℕ → ℤ) (cs ds : List Constraint) → Solves x (cs ++ ds) → Solves x (ds ++ cs)
swapped x cs ds s = record {
  origin = s.origin;
  each = λ c h. elim (Has-append_cases ds cs c (Has-from_contains (ds ++ cs) c h)) [
    | inl i ↦ s.each c (Contains-from_has (cs ++ ds) c (Has-append_right cs i))
    | inr i ↦ s.each c (Contains-from_has (cs ++ ds) c (Has-append_left ds i))
  ];
}

pub same_solutions : (q : QueryValue) (ps : List Pair) (ss : List Sign) → AreSignedPairs q ps ss → (x : ℕ → ℤ)
    → Solves x (closed_constraints q ++ said_constraints (attrs_of q.atoms) ps ss) ↔ Solves x (closed_constraints (with_signs ps ss q))
same_solutions q ps ss are x = (
  λ s. subst (Solves x) (sym e) (swapped x (closed_constraints q) (said_constraints (attrs_of q.atoms) ps ss) s),
  λ s. swapped x (said_constraints (attrs_of q.atoms) ps ss) (closed_constraints q) (subst (Solves x) e s),
)
  where
    e : closed_constraints (with_signs ps ss q) ≡ said_constraints (attrs_of q.atoms) ps ss ++ closed_constraints q
    e = signed_parts q ps ss (signed_attrs q ps ss are)

module _ (cs ds : List Constraint) (same : (x : ℕ → ℤ) → Solves x cs ↔ Solves x ds) where
  pub satisfiable_alike : IsSatisfiable cs → IsSatisfiable ds
  satisfiable_alike s = record { at = s.at; solves = (same s.at).0 s.solves }

  -- the same solutions have the same least bounds
  pub uppers_alike : (i j : ℕ) (u : Option ℤ) → IsUpperAnswer cs i j u → IsUpperAnswer ds i j u
  uppers_alike i j None h = record { passed = λ u. (let r = h.passed u in (r.0, (same r.0).0 r.1, r.2)) }
  uppers_alike i j (Some u) h = record { bound = λ x s. h.bound x ((same x).1 s); at = h.at; solves = (same h.at).0 h.solves; reached = h.reached }

-- least bounds between the nodes of what is said by a query, and then by the signs, close the query with the signs
pub least_bounds_close : (q : QueryValue) (ps : List Pair) (ss : List Sign) (bounds : List (Option ℤ)) → IsWithinLimits q → AreSignedPairs q ps ss → IsSatisfiable (closed_constraints q ++ said_constraints (attrs_of q.atoms) ps ss)
    → ((i j : ℕ) → i ≤ length (attrs_of q.atoms) → j ≤ length (attrs_of q.atoms) → IsUpperAnswer (closed_constraints q ++ said_constraints (attrs_of q.atoms) ps ss) i j (bound_at bounds i j) × IsSmall (bound_at bounds i j))
    → IsClosedSystem (with_signs ps ss q) bounds
least_bounds_close q ps ss bounds w are s told = record {
  within = signed_well_formed q ps ss w are;
  satisfiable = satisfiable_alike cs ds same s;
  told = λ i j l m n. uppers_alike cs ds same i j (bound_at bounds i j) (told i j (subst (λ xs. i ≤ length xs) e l) (subst (λ xs. j ≤ length xs) e m)).0;
  small = λ i j l m n. (told i j (subst (λ xs. i ≤ length xs) e l) (subst (λ xs. j ≤ length xs) e m)).1;
}
  where
    cs : List Constraint
    cs = closed_constraints q ++ said_constraints (attrs_of q.atoms) ps ss

    ds : List Constraint
    ds = closed_constraints (with_signs ps ss q)

    same : (x : ℕ → ℤ) → Solves x cs ↔ Solves x ds
    same = same_solutions q ps ss are

    e : attrs_of (with_signs ps ss q).atoms ≡ attrs_of q.atoms
    e = signed_attrs q ps ss are

-- ---- the comparisons between streams among them

length_filter : {X : Type 0} (f : X → Bool) (xs : List X) → length (filter f xs) ≤ length xs
length_filter f [] = omega arith
length_filter f (x ∷ xs) = by (f x) (length_filter f xs)
  where
    by : (b : Bool) → length (filter f xs) ≤ length xs → length (cond b (x ∷ filter f xs) (filter f xs)) ≤ length (x ∷ xs)
    by true l = omega (arith, l)
    by false l = omega (arith, l)

length_map : {X Y : Type 0} (f : X → Y) (xs : List X) → length (map f xs) ≡ length xs
length_map f [] = refl
length_map f (x ∷ xs) = (let n = length_map f xs in omega (arith, n))

once_few : (ts : List Atom) → length (each_once ts) ≤ length ts
once_few [] = omega arith
once_few (t ∷ ts) = (let m = once_few ts in let n = length_filter (λ u. not (atom_eq t u)) (each_once ts) in omega (arith, m, n))

-- the first signs say no more comparisons between streams than there are pairs of two streams
said_few : (ps : List Pair) (ss : List Sign) (i : ℕ) → length (filter (λ (t : Atom). are_across t.left t.right) (take i (all_said ps ss))) ≤ length (filter (λ (p : Pair). are_across (element.Attr p.left) p.right) ps)
said_few [] ss zero = omega arith
said_few [] ss (suc i) = omega arith
said_few (p ∷ ps) ss zero = omega arith
said_few (p ∷ ps) [] (suc i) = omega arith
said_few (p ∷ ps) (s ∷ ss) (suc i) = by (are_across (element.Attr p.left) p.right) (said_few ps ss i)
  where
    by : (b : Bool) → length (filter (λ (t : Atom). are_across t.left t.right) (take i (all_said ps ss))) ≤ length (filter (λ (p : Pair). are_across (element.Attr p.left) p.right) ps)
        → length (cond b (said p s ∷ filter (λ (t : Atom). are_across t.left t.right) (take i (all_said ps ss))) (filter (λ (t : Atom). are_across t.left t.right) (take i (all_said ps ss))))
        ≤ length (cond b (p ∷ filter (λ (p : Pair). are_across (element.Attr p.left) p.right) ps) (filter (λ (p : Pair). are_across (element.Attr p.left) p.right) ps))
    by true l = omega (arith, l)
    by false l = l

pub signs_few : (q : QueryValue) (ps : List Pair) (ss : List Sign) (i : ℕ) (list : List ColumnLink) → AreSignedPairs q ps ss → map atom_of list ≡ each_once (between_streams (take i (all_said ps ss))) → length list ≤ 8
signs_few q ps ss i list are e =
    let a : length list ≡ length (map atom_of list) = sym (length_map atom_of list) in
    let b : length (map atom_of list) ≡ length (each_once (between_streams (take i (all_said ps ss)))) = ap length e in
    let c : length (each_once (between_streams (take i (all_said ps ss)))) ≤ length (between_streams (take i (all_said ps ss))) = once_few (between_streams (take i (all_said ps ss))) in
    let f : length (between_streams (take i (all_said ps ss))) ≡ length (filter (λ (t : Atom). are_across t.left t.right) (take i (all_said ps ss))) = length_map (λ (t : Atom). turned_by t.op t.left t.right) (filter (λ (t : Atom). are_across t.left t.right) (take i (all_said ps ss))) in
    let g = said_few ps ss i in
    let h = are.few in
    omega (arith, a, b, c, f, g, h)
