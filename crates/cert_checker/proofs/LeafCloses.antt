-- The bounds of a good leaf of a whole or a split form close the system of the query with the signs of the leaf.
use Rattle.std.proofs.Common.{◌≡◌, ◌≢◌, ◌≤◌, ◌+◌, ◌*◌, ℕ, ℤ, pos, Bool, true, false, cond, nat_eq, Option, Some, None, IfSome, List, [], ◌++◌, length, refl, sym, ◌∙◌, ap, subst, arith}
use Rattle.std.proofs.lemmas.Int.{ints}
use Rattle.std.proofs.lemmas.Bool.Decides.{nat_tests}
use Rattle.sem_query.specs.declared.atom.Atom.{Atom}
use Rattle.sem_query.specs.declared.part.Pair.{Pair}
use Rattle.sem_query.specs.declared.part.Sign.{Sign}
use Rattle.sem_query.specs.Query.{QueryValue, attrs_of, IsWithinLimits}
use Rattle.sem_query.proofs.Has.{Has, Has-nil}
use Rattle.plan_constraints.specs.declared.constraint.Constraint.{Constraint}
use Rattle.plan_constraints.specs.Solutions.{IsSatisfiable, IsUpperAnswer}
use Rattle.plan_constraints.proofs.Options.{none_is}
use Rattle.plan_split_pairs.specs.Pairs.{split_pairs}
use Rattle.plan_split_parts.proofs.SignedPairs.{split_pairs_are_signed}
use Rattle.sem_whole.specs.Signed.{with_signs, AreSignedPairs}
use Rattle.sem_whole.proofs.Signed.{signed_attrs, signed_well_formed}
use Rattle.plan_whole.specs.Closed as plan
use Rattle.plan_whole.specs.Closed.{closed_constraints, IsSmall, IsClosedSystem}
use Rattle.plan_whole.proofs.Signing.{said_constraints, said_are_signs, same_solutions, satisfiable_alike, uppers_alike}
use Rattle.cert_format.specs.declared.line.Path.{Path}
use Rattle.cert_checker.specs.Branching.{Branching, whole_branching, split_branching, constraints_at}
use Rattle.cert_checker.specs.Rules.{IsGoodLeaf}
use Rattle.cert_checker.specs.Bounds.{bound_at, IsModest, AreModest, Tells}
use Rattle.cert_checker.proofs.PrefixNodes.{LeadsWithin}
use Rattle.cert_checker.proofs.TightLeaf.{IsTight, closed_is_satisfiable, closed_is_tight}
use Rattle.cert_checker.proofs.WholeBranches.{signed_leads}

-- between two nodes a leaf's table holds the bound
held : (bounds : List (Option ℤ)) (i j : ℕ) → i ≢ j → bound_at bounds i j ≡ plan.bound_at bounds i j
held bounds i j n = by (nat_eq i j) refl
  where
    by : (b : Bool) → nat_eq i j ≡ b → cond b (Some (pos 0)) (plan.bound_at bounds i j) ≡ plan.bound_at bounds i j
    by true e = absurd (n (grind (arith, nat_tests, e)))
    by false e = refl

-- and it is small
small_at : (bounds : List (Option ℤ)) (i j : ℕ) → AreModest bounds → IsSmall (plan.bound_at bounds i j)
small_at bounds i j m = by (plan.bound_at bounds i j) (m (13 * i + j))
  where
    by : (o : Option ℤ) → IfSome o IsModest → IsSmall o
    by None h = tt
    by (Some u) h = (omega (arith, ints, h.low), omega (arith, ints, h.high))

module _ (q : QueryValue) (w : IsWithinLimits q) (ps : List Pair) (ts : List Atom) (ss : List Sign) (are : AreSignedPairs q ps ss) where
  -- what a tree of these pairs branches on over the system of the query
  abbrev over : Branching
  over = record { pairs = ps; atoms = ts; attrs = attrs_of q.atoms; base = closed_constraints q }

  module _ (paths : List Path) (bounds : List (Option ℤ)) (g : IsGoodLeaf over ss paths) (t : Tells (constraints_at over ss) paths bounds) where
    leads : (c : Constraint) → Has (constraints_at over ss) c → LeadsWithin (length (attrs_of q.atoms)) c
    leads = signed_leads q ps ss are.left are.right

    tight : IsTight (length (attrs_of q.atoms)) (constraints_at over ss) paths
    tight = closed_is_tight (length (attrs_of q.atoms)) (constraints_at over ss) paths g.are_paths g.closed leads

    -- the table holds the least bound of each node above each other
    answers : (i j : ℕ) → i ≤ length (attrs_of q.atoms) → j ≤ length (attrs_of q.atoms) → (o : Option ℤ) → bound_at bounds i j ≡ o → IsUpperAnswer (constraints_at over ss) i j o
    answers i j l m None e = let f = w.few_attrs in tight.passed i j l m (λ u h. none_is (sym e ∙ t.told i j (omega (arith, f, l)) (omega (arith, f, m)) u h))
    answers i j l m (Some u) e = let f = w.few_attrs in tight.reached i j l m u (t.true i j (omega (arith, f, l)) (omega (arith, f, m)) u e)

    -- the constraints in the order of the system with signs
    same_cs : constraints_at over ss ≡ closed_constraints q ++ said_constraints (attrs_of q.atoms) ps ss
    same_cs = ap (λ z. closed_constraints q ++ z) (sym (said_are_signs (attrs_of q.atoms) ps ss))

    pub leaf_closes : IsClosedSystem (with_signs ps ss q) bounds
    leaf_closes = record {
      within = signed_well_formed q ps ss w are;
      satisfiable = satisfiable_alike _ _ (same_solutions q ps ss are) (subst IsSatisfiable same_cs (closed_is_satisfiable (length (attrs_of q.atoms)) (constraints_at over ss) paths g.are_paths g.closed leads));
      told = λ i j l m n. told i j (subst (λ xs. i ≤ length xs) e l) (subst (λ xs. j ≤ length xs) e m) n;
      small = λ i j l m n. small_at bounds i j t.modest;
    }
      where
        e : attrs_of (with_signs ps ss q).atoms ≡ attrs_of q.atoms
        e = signed_attrs q ps ss are

        told : (i j : ℕ) → i ≤ length (attrs_of q.atoms) → j ≤ length (attrs_of q.atoms) → i ≢ j → IsUpperAnswer (closed_constraints (with_signs ps ss q)) i j (plan.bound_at bounds i j)
        told i j l m n = uppers_alike (closed_constraints q ++ said_constraints (attrs_of q.atoms) ps ss) (closed_constraints (with_signs ps ss q)) (same_solutions q ps ss are) i j (plan.bound_at bounds i j)
            (subst (λ cs. IsUpperAnswer cs i j (plan.bound_at bounds i j)) same_cs (answers i j l m (plan.bound_at bounds i j) (held bounds i j n)))

-- no pairs and no signs
pub whole_signed : (q : QueryValue) (ss : List Sign) → length ss ≡ 0 → AreSignedPairs q [] ss
whole_signed q ss e = record { left = λ p h. Has-nil h; right = λ p h. Has-nil h; same = sym e; few = omega arith }

-- all split pairs, each with a sign
pub split_signed : (q : QueryValue) → IsWithinLimits q → (ss : List Sign) → length ss ≡ length (split_pairs q) → AreSignedPairs q (split_pairs q) ss
split_signed q w ss e = split_pairs_are_signed q w ss (sym e)

-- at a leaf of the whole form
pub whole_closes : (q : QueryValue) → IsWithinLimits q → (ss : List Sign) (paths : List Path) (bounds : List (Option ℤ)) → IsGoodLeaf (whole_branching q) ss paths → Tells (constraints_at (whole_branching q) ss) paths bounds
    → IsClosedSystem (with_signs [] ss q) bounds
whole_closes q w ss paths bounds g t = leaf_closes q w [] [] ss (whole_signed q ss g.place.whole) paths bounds g t

-- and of the split form
pub split_closes : (q : QueryValue) → IsWithinLimits q → (ss : List Sign) (paths : List Path) (bounds : List (Option ℤ)) → IsGoodLeaf (split_branching q) ss paths → Tells (constraints_at (split_branching q) ss) paths bounds
    → IsClosedSystem (with_signs (split_pairs q) ss q) bounds
split_closes q w ss paths bounds g t = leaf_closes q w (split_pairs q) q.atoms ss (split_signed q w ss g.place.whole) paths bounds g t
