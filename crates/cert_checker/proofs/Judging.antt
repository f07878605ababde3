-- The rules of a node, over what its tests say.
use Rattle.std.proofs.Common.{◌≡◌, ℕ, suc, ◌<◌, ◌≤◌, ℤ, Option, Some, None, List, length, All, sym, ap, ◌∙◌, subst, arith}
use Rattle.sem_query.specs.declared.part.Pair.{Pair}
use Rattle.sem_query.specs.declared.part.Sign.{Sign}
use Rattle.sem_query.specs.Query.{QueryValue, attrs_of}
use Rattle.cert_checker.specs.declared.shown.Shown.{Shown}
use Rattle.cert_checker.specs.Branching.{Branching, constraints_at}
use Rattle.cert_checker.specs.Shown.{branching_of}
use Rattle.plan_constraints.specs.declared.constraint.Constraint.{Constraint}
use Rattle.plan_constraints.specs.Solutions.{IsNegativeCycle, IsWithin}
use Rattle.cert_format.specs.declared.line.Path.{Path}
use Rattle.cert_checker.specs.declared.answer.Reason.{Reason}
use Rattle.cert_checker.specs.declared.answer.Reason.TheVariants as reason
use Rattle.cert_checker.specs.declared.cursor.TreeCursor.{TreeCursor}
use Rattle.cert_format.specs.Nodes.{split, infeasible, against, leaf}
use Rattle.cert_checker.specs.Rules.{ArePaths, AreClosed, IsNextPair, IsRefuted, MayBePart, IsGoodLeaf, Breaks, no_split, no_cycle, no_refuted, no_part, no_paths, not_closed}
use Rattle.cert_checker.specs.Bounds.{KeepsEach, Tells, ReadsBounds}
use Rattle.cert_checker.specs.Standing.{Stands}
use Rattle.cert_checker.proofs.Standing.{attrs_are}
use Rattle.cert_checker.proofs.Keeping.{closed_from, keeps_from}

pub cycle_wrong : (q : QueryValue) (shown : Shown) (p : TreeCursor) (cs : List Constraint) (numbers : List ℕ) (why : Reason) → Stands q shown p → cs ≡ p.constraints.items → (why ≡ reason.Cycle) × ¬ IsNegativeCycle cs numbers → Breaks (branching_of shown q) p.signs.items (infeasible numbers) why
cycle_wrong q shown p cs numbers why s e h =
    let n : ¬ IsNegativeCycle (constraints_at (branching_of shown q) p.signs.items) numbers = subst (λ (z : List Constraint). ¬ IsNegativeCycle z numbers) (e ∙ s.constraints) h.1 in
    subst (λ (w : Reason). Breaks (branching_of shown q) p.signs.items (infeasible numbers) w) (sym h.0) (no_cycle n)

pub against_wrong : (b : Branching) (signs here : List Sign) (number : ℕ) (why : Reason) → here ≡ signs → (why ≡ reason.Cycle) × ¬ IsRefuted b here number → Breaks b signs (against number) why
against_wrong b signs here number why e h =
    let n : ¬ IsRefuted b signs number = subst (λ (z : List Sign). ¬ IsRefuted b z number) e h.1 in
    subst (λ (w : Reason). Breaks b signs (against number) w) (sym h.0) (no_refuted n)

module _ (q : QueryValue) (shown : Shown) (p : TreeCursor) (paths : List Path) (s : Stands q shown p) (signs : List Sign) (e : signs ≡ p.signs.items) where
  pub leaf_above : ¬ MayBePart (branching_of shown q) signs → Breaks (branching_of shown q) p.signs.items (leaf paths) reason.Shape
  leaf_above n = no_part (subst (λ (z : List Sign). ¬ MayBePart (branching_of shown q) z) e n)

  module _ (n : ℕ) (cs : List Constraint) (en : n ≡ length (attrs_of q.atoms)) (ec : cs ≡ p.constraints.items) (here : MayBePart (branching_of shown q) signs) where
    whole : MayBePart (branching_of shown q) p.signs.items
    whole = subst (MayBePart (branching_of shown q)) e here

    few : n ≤ 12
    few = omega (arith, en, s.limits.few_attrs)

    within : All (IsWithin 12) cs
    within = subst (All (IsWithin 12)) (sym ec) s.within

    -- what holds of these constraints holds of those of the signs
    moved : (F : ℕ → List Constraint → Type 0) → F n cs → F (length (branching_of shown q).attrs) (constraints_at (branching_of shown q) p.signs.items)
    moved F h = subst (λ (m : ℕ). F m (constraints_at (branching_of shown q) p.signs.items)) (en ∙ sym (ap length (attrs_are q shown))) (subst (F n) (ec ∙ s.constraints) h)

    pub leaf_paths : ReadsBounds n cs paths None → Breaks (branching_of shown q) p.signs.items (leaf paths) reason.Path
    leaf_paths h = no_paths whole (moved (λ m ds. ¬ ArePaths m ds paths) h)

    pub leaf_open : (bounds : List (Option ℤ)) → ReadsBounds n cs paths (Some bounds) → ¬ All (KeepsEach n bounds) cs → Breaks (branching_of shown q) p.signs.items (leaf paths) reason.Bound
    leaf_open bounds h k =
        not_closed whole (moved (λ m ds. ArePaths m ds paths) h.0) (moved (λ m ds. ¬ AreClosed m ds paths) (λ a. k (keeps_from n cs paths bounds few within h.1 a)))

    pub leaf_tells : (bounds : List (Option ℤ)) → ReadsBounds n cs paths (Some bounds) → Tells (constraints_at (branching_of shown q) p.signs.items) paths bounds
    leaf_tells bounds h = moved (λ m ds. Tells ds paths bounds) h.1

    pub leaf_good : (bounds : List (Option ℤ)) → ReadsBounds n cs paths (Some bounds) → All (KeepsEach n bounds) cs → IsGoodLeaf (branching_of shown q) p.signs.items paths
    leaf_good bounds h k = record {
      place = whole;
      are_paths = moved (λ m ds. ArePaths m ds paths) h.0;
      closed = moved (λ m ds. AreClosed m ds paths) (closed_from n cs paths bounds few within h.1 k);
    }

pub split_wrong : (b : Branching) (signs here : List Sign) (ps : List Pair) (pair : ℕ) (why : Reason) → ps ≡ b.pairs → here ≡ signs → (why ≡ reason.Shape) × ¬ ((pair ≡ suc (length here)) × (length here < length ps)) → Breaks b signs (split pair) why
split_wrong b signs here ps pair why e f h =
    let n : ¬ ((pair ≡ suc (length signs)) × (length signs < length b.pairs)) =
    subst (λ (z : List Pair). ¬ ((pair ≡ suc (length signs)) × (length signs < length z))) e (subst (λ (z : List Sign). ¬ ((pair ≡ suc (length z)) × (length z < length ps))) f h.1) in
    subst (λ (w : Reason). Breaks b signs (split pair) w) (sym h.0) (no_split (λ g. n (g.next, g.left)))

pub split_good : (b : Branching) (signs here : List Sign) (ps : List Pair) (pair : ℕ) → ps ≡ b.pairs → here ≡ signs → (pair ≡ suc (length here)) × (length here < length ps) → IsNextPair b signs pair
split_good b signs here ps pair e f h =
    let n : (pair ≡ suc (length signs)) × (length signs < length b.pairs) =
    subst (λ (z : List Pair). (pair ≡ suc (length signs)) × (length signs < length z)) e (subst (λ (z : List Sign). (pair ≡ suc (length z)) × (length z < length ps)) f h) in
    record { next = n.0; left = n.1 }
