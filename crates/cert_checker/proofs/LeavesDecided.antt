-- The decision so far along the nodes of a certificate.
use Rattle.std.proofs.Common.{◌≡◌, ℕ, suc, sym, ap, ◌∙◌, subst, Some, List, [], ◌∷◌, ◌++◌, length, append-nil}
use Rattle.sem_query.specs.declared.part.Sign.{Sign}
use Rattle.sem_query.specs.declared.atom.Attr.{Attr}
use Rattle.sem_query.specs.declared.condition.Condition.{Condition}
use Rattle.cert_checker.specs.Branching.{Branching}
use Rattle.cert_format.specs.declared.line.Path.{Path}
use Rattle.cert_checker.specs.declared.decision.DecisionSoFar.{DecisionSoFar}
use Rattle.cert_format.specs.Nodes.{Node, leaf}
use Rattle.cert_checker.specs.Reading.{AreGood}
use Rattle.cert_checker.specs.Leaves.{leaf_at, leaves_of}
use Rattle.cert_checker.specs.SoFar.{IsSoFar, TakesLeaf}
use Rattle.cert_checker.proofs.LeavesInOrder.{leaves_more}

module _ (B : List Sign → Condition → Attr → Type 0) {b : Branching} {nodes : List Node} {signs : List Sign} (g : AreGood b (Some []) nodes (Some signs)) where
  -- one leaf more, with its number
  pub leaf_decided : (paths : List Path) (number : ℕ) (old new : DecisionSoFar) → number ≡ suc (length (leaves_of (Some []) nodes)) → TakesLeaf B signs number old new → IsSoFar B (leaves_of (Some []) nodes) old → IsSoFar B (leaves_of (Some []) (nodes ++ leaf paths ∷ [])) new
  leaf_decided paths number old new n t h = subst (λ (xs : List (List Sign)). IsSoFar B xs new) (sym (leaves_more (leaf paths) g)) (t (leaves_of (Some []) nodes) n h)

  same_leaves : (node : Node) → leaf_at signs node ≡ [] → leaves_of (Some []) (nodes ++ node ∷ []) ≡ leaves_of (Some []) nodes
  same_leaves node e = leaves_more node g ∙ ap (λ (xs : List (List Sign)). leaves_of (Some []) nodes ++ xs) e ∙ append-nil (leaves_of (Some []) nodes)

  -- another node adds no leaf
  pub other_decided : (node : Node) (d : DecisionSoFar) → leaf_at signs node ≡ [] → IsSoFar B (leaves_of (Some []) nodes) d → IsSoFar B (leaves_of (Some []) (nodes ++ node ∷ [])) d
  other_decided node d e h = subst (λ (xs : List (List Sign)). IsSoFar B xs d) (sym (same_leaves node e)) h
