-- The bounds that the paths of a good leaf give are all that its constraints imply: each is reached by some solution, and where
-- there is none some solution passes each integer.
use Rattle.std.proofs.Common.{◌≡◌, ℕ, suc, ◌≤◌, ℤ, pos, ◌+ℤ◌, ◌≤ℤ◌, refl, sym, ◌∙◌, arith, Option, Some, None, List, length}
use Rattle.std.proofs.lemmas.Int.{ints}
use Rattle.sem_query.specs.declared.part.Sign.{Sign}
use Rattle.sem_query.specs.Query.{QueryValue, attrs_of}
use Rattle.sem_query.proofs.Has.{Has}
use Rattle.plan_constraints.specs.declared.constraint.Constraint.{Constraint}
use Rattle.plan_constraints.specs.Solutions.{Solves, IsSatisfiable, IsUpper, HasNoUpper}
use Rattle.plan_constraints.specs.PartConstraints.{of_prefix}
use Rattle.plan_constraints.proofs.Options.{none_is}
use Rattle.plan_constraints.proofs.Solve as solve
use Rattle.cert_format.specs.declared.line.Path.{Path}
use Rattle.cert_checker.specs.Branching.{plain_branching}
use Rattle.cert_checker.specs.Rules.{ArePaths, IsBound, same, of_path, AreClosed, IsGoodLeaf}
use Rattle.cert_checker.proofs.ChainSums.{sum_sound}
use Rattle.cert_checker.proofs.PrefixNodes.{LeadsWithin, prefix_leads}
use Rattle.cert_checker.proofs.LeafTable.{table_of, width, bound_from_table, table_from_bound, table_within, table_closed, table_covers}

-- the bounds of the paths are all that the constraints imply of the nodes 0 to attrs: some solution reaches each, and where there
-- is none, some solution passes each integer
pub record IsTight (attrs : ℕ) (cs : List Constraint) (paths : List Path) : Type 0 where
  pub reached : (i j : ℕ) → i ≤ attrs → j ≤ attrs → (u : ℤ) → IsBound cs paths i j u → IsUpper cs i j u
  pub passed : (i j : ℕ) → i ≤ attrs → j ≤ attrs → ((u : ℤ) → ¬ IsBound cs paths i j u) → HasNoUpper cs i j

-- a solution keeps within each bound
pub bound_sound : (cs : List Constraint) (paths : List Path) (i j : ℕ) (u : ℤ) → IsBound cs paths i j u → (x : ℕ → ℤ) → Solves x cs → x i ≤ℤ (u +ℤ x j)
bound_sound cs paths i j u (same e z) x v = let a : x i ≡ x j = (let r = e in cc) in omega (arith, ints, a, z)
bound_sound cs paths i j u (of_path p m e f h) x v = sum_sound cs p.numbers.items i j u x v h

-- the bound of node i above node j, or none where there is none
abbrev pub IsBoundAnswer : List Constraint → List Path → ℕ → ℕ → Option ℤ → Type 0
IsBoundAnswer cs paths i j None = (u : ℤ) → ¬ IsBound cs paths i j u
IsBoundAnswer cs paths i j (Some u) = IsBound cs paths i j u

module _ (attrs : ℕ) (cs : List Constraint) (paths : List Path) (a : ArePaths attrs cs paths) where
  -- the table tells the bound of each node above each other, or that there is none
  pub table_answers : (i j : ℕ) → IsBoundAnswer cs paths i j (table_of cs paths i j)
  table_answers i j = go (table_of cs paths i j) refl
    where
      go : (o : Option ℤ) → table_of cs paths i j ≡ o → IsBoundAnswer cs paths i j o
      go None e = λ u h. none_is (sym e ∙ table_from_bound attrs cs paths a i j u h)
      go (Some u) e = bound_from_table attrs cs paths a i j u e

  module _ (c : AreClosed attrs cs paths) (w : (d : Constraint) → Has cs d → LeadsWithin attrs d) where
    -- constraints with closed bounds are met by some integers
    pub closed_is_satisfiable : IsSatisfiable cs
    closed_is_satisfiable = solve.satisfiable (suc attrs) (table_of cs paths) (table_closed attrs cs paths a c) cs (table_covers attrs cs paths a c w)

    reached_at : (i j : ℕ) → i ≤ attrs → j ≤ attrs → (u : ℤ) → IsBound cs paths i j u → IsUpper cs i j u
    reached_at i j li lj u h =
        let r : (x : ℕ → ℤ) × Solves x cs × (x i ≡ u +ℤ x j) = solve.upper_reached (suc attrs) (table_of cs paths) (table_closed attrs cs paths a c) cs (table_covers attrs cs paths a c w) (pos (width cs paths)) (table_within attrs cs paths a) j (omega arith) i (omega arith) u (table_from_bound attrs cs paths a i j u h) in
        record { bound = bound_sound cs paths i j u h; at = r.0; solves = r.1; reached = r.2 }

    passed_at : (i j : ℕ) → i ≤ attrs → j ≤ attrs → ((u : ℤ) → ¬ IsBound cs paths i j u) → HasNoUpper cs i j
    passed_at i j li lj n = go (table_of cs paths i j) refl
      where
        go : (o : Option ℤ) → table_of cs paths i j ≡ o → HasNoUpper cs i j
        go None e = solve.passes (suc attrs) (table_of cs paths) (table_closed attrs cs paths a c) cs (table_covers attrs cs paths a c w) (pos (width cs paths)) (table_within attrs cs paths a) j (omega arith) i (omega arith) e (omega (arith, ints))
        go (Some u) e = absurd (n u (bound_from_table attrs cs paths a i j u e))

    -- closed bounds are tight
    pub closed_is_tight : IsTight attrs cs paths
    closed_is_tight = record { reached = reached_at; passed = passed_at }

-- the bounds of a good leaf are tight
pub leaf_is_tight : (q : QueryValue) (signs : List Sign) (paths : List Path) → IsGoodLeaf (plain_branching q) signs paths → IsTight (length (attrs_of q.atoms)) (of_prefix q signs) paths
leaf_is_tight q signs paths g = closed_is_tight (length (attrs_of q.atoms)) (of_prefix q signs) paths g.are_paths g.closed (prefix_leads q signs)
