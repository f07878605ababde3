-- The table of the least bounds of distances closes a query with the signs of a front.
use Rattle.std.proofs.Common.{◌≡◌, ◌≢◌, ℕ, ◌+◌, ◌*◌, ◌/◌, ◌%◌, ◌<◌, ◌≤◌, ℤ, inl, inr, ◌⊎◌, All, List, [], ◌∷◌, ◌++◌, Option, None, length, take, get_or, set, below_more, get_or-set_other, get_or-set_same, sym, ◌∙◌, ap, subst, arith}
use Rattle.std.proofs.lemmas.List.{length-map, take_all}
use Rattle.sem_query.specs.declared.part.Pair.{Pair}
use Rattle.sem_query.specs.declared.part.Sign.{Sign}
use Rattle.sem_query.specs.Query.{QueryValue, attrs_of, IsWithinLimits}
use Rattle.sem_query.specs.Parts.{sign_at}
use Rattle.plan_constraints.specs.declared.constraint.Constraint.{Constraint}
use Rattle.plan_constraints.proofs.Joined.{All-from_has}
use Rattle.sem_laws.proofs.OnePartFits.{has_cases}
use Rattle.sem_query.proofs.Has.{Has, Has-nil, Has-from_contains, Contains-from_has, Has-append_left, Has-append_right, Has-append_cases}
use Rattle.plan_constraints.specs.Solutions.{IsSatisfiable, IsUpperAnswer, Allows}
use Rattle.plan_closure.specs.declared.distances.Distances.{Distances}
use Rattle.plan_closure.specs.Answers.{IsSmall}
use Rattle.plan_closure.specs.Shortest.{AreDistancesOf, AreSatisfiable}
use Rattle.plan_split_pairs.specs.Pairs.{split_pairs}
use Rattle.sem_whole.specs.Signed.{with_signs, AreSignedPairs}
use Rattle.plan_whole.specs.Closed.{closed_constraints, bound_at, IsClosedSystem}
use Rattle.plan_whole.proofs.Signing.{said_constraints, least_bounds_close}
use Rattle.plan_split_parts.specs.declared.front.Front.{Front}
use Rattle.plan_split_parts.specs.Closing.{IsBoundFor, AreBoundsOf}
use Rattle.plan_split_parts.specs.Fronts.{first_pairs, IsFrontOf, front_constraints}
use Rattle.plan_split_parts.proofs.SignedPairs.{split_pairs_are_signed}
use Rattle.plan_split_parts.proofs.Solved.{front_satisfied}

-- where integers meet some constraints and then others, they meet each of these beside the first
pub allowed_each : (ks cs : List Constraint) → IsSatisfiable (ks ++ cs) → All (Allows ks) cs
allowed_each ks cs s = All-from_has (Allows ks) cs (λ c h. record {
  at = s.at;
  solves = record {
    origin = s.solves.origin;
    each = λ d i. s.solves.each d (Contains-from_has (ks ++ cs) d (among c h d (Has-append_cases ks (c ∷ []) d (Has-from_contains (ks ++ c ∷ []) d i))));
  };
})
  where
    among : (c : Constraint) → Has cs c → (d : Constraint) → Has ks d ⊎ Has (c ∷ []) d → Has (ks ++ cs) d
    among c h d (inl i) = Has-append_left cs i
    among c h d (inr i) = elim (has_cases c d [] i) [ inl e ↦ Has-append_right ks (subst (Has cs) e h) | inr n ↦ Has-nil n ]

-- ---- one place more

pub bounds_more : (d : Distances) (bounds : List (Option ℤ)) (k i : ℕ) (o : Option ℤ) → i ≡ k → k < length bounds → ((m : ℕ) → m < k → IsBoundFor d m (get_or bounds m None)) → IsBoundFor d k o
    → (m : ℕ) → m < k + 1 → IsBoundFor d m (get_or (set bounds i o) m None)
bounds_more d bounds k i o e l h told = subst (λ i. (m : ℕ) → m < k + 1 → IsBoundFor d m (get_or (set bounds i o) m None)) (sym e)
    (below_more (λ m. IsBoundFor d m (get_or (set bounds k o) m None)) k
    (λ m n. let ne : m ≢ k = omega (arith, n) in rw get_or-set_other (h m n))
    (rw get_or-set_same told))

-- ---- the table

pub satisfiable_distances : (d : Distances) (n : ℕ) (cs : List Constraint) → AreDistancesOf d n cs → IsSatisfiable cs → AreSatisfiable d
satisfiable_distances d n cs h s = record { constraints = cs; distances = subst (λ m. AreDistancesOf d m cs) (sym h.attrs) h; satisfiable = s }

-- a bound of the table is that of its two nodes
at_nodes : (d : Distances) (bounds : List (Option ℤ)) (n : ℕ) (cs : List Constraint) → n ≤ 12 → AreBoundsOf d bounds → AreDistancesOf d n cs → (i j : ℕ) → i ≤ n → j ≤ n → IsUpperAnswer cs i j (bound_at bounds i j) × IsSmall (bound_at bounds i j)
at_nodes d bounds n cs few are h i j l m =
    let e : (13 * i + j) / 13 ≡ i = omega (arith, m, few) in
    let f : (13 * i + j) % 13 ≡ j = omega (arith, m, few) in
    let r = are (13 * i + j) (omega (arith, l, m, few)) n cs h (omega (arith, e, l)) (omega (arith, f, m)) in
    (turned e f r.0, r.1)
  where
    turned : (13 * i + j) / 13 ≡ i → (13 * i + j) % 13 ≡ j → IsUpperAnswer cs ((13 * i + j) / 13) ((13 * i + j) % 13) (bound_at bounds i j) → IsUpperAnswer cs i j (bound_at bounds i j)
    turned e f u = subst (λ b. IsUpperAnswer cs i b (bound_at bounds i j)) f (subst (λ a. IsUpperAnswer cs a ((13 * i + j) % 13) (bound_at bounds i j)) e u)

pub closes : (q : QueryValue) (ps : List Pair) (ss : List Sign) (d : Distances) (bounds : List (Option ℤ)) → IsWithinLimits q → AreSignedPairs q ps ss
    → AreDistancesOf d (length (attrs_of q.atoms)) (closed_constraints q ++ said_constraints (attrs_of q.atoms) ps ss) → IsSatisfiable (closed_constraints q ++ said_constraints (attrs_of q.atoms) ps ss)
    → AreBoundsOf d bounds → IsClosedSystem (with_signs ps ss q) bounds
closes q ps ss d bounds w signed h s are =
    least_bounds_close q ps ss bounds w signed s
    (λ i j l m. at_nodes d bounds (length (attrs_of q.atoms)) (closed_constraints q ++ said_constraints (attrs_of q.atoms) ps ss) w.few_attrs are h i j l m)

-- ---- a front of all pairs

module _ (q : QueryValue) (ps : List Pair) (front : Front) (w : IsWithinLimits q) (e : ps ≡ split_pairs q) (f : IsFrontOf q (length ps) front) where
  all : first_pairs q (length ps) ≡ ps
  all = ap (λ z. take (length z) (split_pairs q)) e ∙ take_all (length (split_pairs q)) (split_pairs q) (omega arith) ∙ sym e

  satisfiable : IsSatisfiable (front_constraints q (length ps) front.signs.items)
  satisfiable = front_satisfied q (length ps) front.signs.items w as_many f.signs.one f.signs.solves f.signs.has
    where
      as_many : length (first_pairs q (length ps)) ≡ length front.signs.items
      as_many = sym (length-map (first_pairs q (length ps)) (sign_at f.signs.one)) ∙ ap length f.signs.has

  pub satisfiable_front : AreSatisfiable front.distances
  satisfiable_front = satisfiable_distances front.distances (length (attrs_of q.atoms)) (front_constraints q (length ps) front.signs.items) f.distances satisfiable

  module _ (ss : List Sign) (same : ss ≡ front.signs.items) where
    pub signed_front : AreSignedPairs q ps ss
    signed_front = subst (λ z. AreSignedPairs q z ss) (sym e) (split_pairs_are_signed q w ss many)
      where
        many : length (split_pairs q) ≡ length ss
        many = sym (ap length e) ∙ sym (ap length all) ∙ sym (length-map (first_pairs q (length ps)) (sign_at f.signs.one)) ∙ ap length (f.signs.has ∙ sym same)

    said : front_constraints q (length ps) front.signs.items ≡ closed_constraints q ++ said_constraints (attrs_of q.atoms) ps ss
    said = ap (λ z. closed_constraints q ++ said_constraints (attrs_of q.atoms) z front.signs.items) all ∙ ap (λ z. closed_constraints q ++ said_constraints (attrs_of q.atoms) ps z) (sym same)

    pub front_closes : (bounds : List (Option ℤ)) → AreBoundsOf front.distances bounds → IsClosedSystem (with_signs ps ss q) bounds
    front_closes bounds are = closes q ps ss front.distances bounds w signed_front (subst (AreDistancesOf front.distances (length (attrs_of q.atoms))) said f.distances) (subst IsSatisfiable said satisfiable) are
