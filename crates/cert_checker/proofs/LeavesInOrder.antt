-- The leaves of a good tree are the parts of what it branches on, in order.
use Rattle.std.proofs.Common.{◌≡◌, ℕ, ◌+◌, ◌<◌, true, inl, inr, refl, sym, ◌∙◌, ap, subst, arith, Option, Some, None, List, [], ◌∷◌, ◌++◌, length, append_assoc, append-nil, length-append}
use Rattle.std.proofs.lemmas.List.Elements.{Contains-get_or}
use Rattle.sem_query.specs.declared.part.Sign.{Sign}
use Rattle.sem_query.specs.Query.{QueryValue, IsWithinLimits}
use Rattle.sem_query.specs.Parts.{signs_lt, IsPart}
use Rattle.sem_query.proofs.Has.{Has, first, later, Has-from_contains, Contains-from_has}
use Rattle.sem_query.proofs.Unique.{Ascends, none, more}
use Rattle.sem_query.proofs.Split.{StartsWith, IsFeasible, pairs_from}
use Rattle.plan_constraints.specs.Solutions.{IsSatisfiable}
use Rattle.plan_split_pairs.specs.SplitParts.{IsSplitPart}
use Rattle.plan_split_parts.specs.Fronts.{IsFront}
use Rattle.cert_format.specs.Nodes.{Node, split, infeasible, against, leaf}
use Rattle.cert_format.specs.declared.line.Path.{Path}
use Rattle.cert_checker.specs.Branching.{Branching, constraints_at, plain_branching, whole_branching, split_branching}
use Rattle.cert_checker.specs.Branches.{AreBranches, AreAll, IsWholePart}
use Rattle.cert_checker.specs.Rules.{IsNextPair, IsGoodLeaf, IsGoodNode}
use Rattle.cert_checker.specs.Reading.{following, after, AreGood, done, next, IsGood, HasParts}
use Rattle.cert_checker.specs.Leaves.{leaf_at, leaves_of}
use Rattle.cert_checker.specs.TreeLaws.{LeavesAreParts, WholeLeavesAreParts, SplitLeavesAreParts}
use Rattle.cert_checker.proofs.ChainSums.{no_solution}
use Rattle.cert_checker.proofs.Refuted.{some_against}
use Rattle.cert_checker.proofs.TightLeaf.{closed_is_satisfiable}
use Rattle.cert_checker.proofs.BehindSigns.{reaches, reaches_deeper, reaches_earlier, starts_or_behind, reaches_own, below_behind}
use Rattle.cert_checker.proofs.PlainBranches.{plain_branches}
use Rattle.cert_checker.proofs.WholeBranches.{whole_branches}
use Rattle.cert_checker.proofs.SplitBranches.{split_branches}

-- xs is the list of all of which P holds that stand at some signs of the tree or behind them, ascending
pub record AreAllFrom (P : List Sign → Type 0) (at : Option (List Sign)) (xs : List (List Sign)) : Type 0 where
  pub ascends : Ascends signs_lt xs
  pub parts : (s : List Sign) → Has xs s → P s
  pub behind : (s : List Sign) → Has xs s → reaches at s ≡ true
  pub all : (s : List Sign) → P s → reaches at s ≡ true → Has xs s

-- behind the whole tree there are none
pub none_behind : (P : List Sign → Type 0) → AreAllFrom P None []
none_behind P = record {
  ascends = none;
  parts = λ s i. elim i [ ];
  behind = λ s i. elim i [ ];
  all = λ s p h. absurd cc;
}

-- a part that begins with signs of its length is these signs
whole_start : (t s : List Sign) → length s ≡ length t → StartsWith t s → t ≡ s
whole_start t s l w = go w.rest w.is
  where
    go : (rest : List Sign) → s ≡ t ++ rest → t ≡ s
    go [] e = sym (e ∙ append-nil t)
    go (c ∷ rest) e =
        let a : length s ≡ length t + length (c ∷ rest) = ap length e ∙ length-append t (c ∷ rest) in
        absurd (omega (arith, a, l))

pub leaves-nil : (at : Option (List Sign)) → leaves_of at [] ≡ []
leaves-nil None = refl
leaves-nil (Some signs) = refl

module _ (b : Branching) (Part Front : List Sign → Type 0) (are : AreBranches b Part Front) where
  from_split : (signs : List Sign) (pair : ℕ) (xs : List (List Sign)) → IsNextPair b signs pair → AreAllFrom Part (Some (signs ++ Sign.Lt ∷ [])) xs → AreAllFrom Part (Some signs) xs
  from_split signs pair xs n a = record {
    ascends = a.ascends;
    parts = a.parts;
    behind = λ s h. sym (same s (a.parts s h)) ∙ a.behind s h;
    all = λ s p h. a.all s p (same s p ∙ h);
  }
    where
      same : (s : List Sign) → Part s → reaches (Some (signs ++ Sign.Lt ∷ [])) s ≡ reaches (Some signs) s
      same s p =
          let l : length s ≡ length b.pairs = are.long s p in
          let m : length signs < length b.pairs = n.left in
          reaches_deeper signs s (omega (arith, l, m))

  from_closed : (signs : List Sign) (xs : List (List Sign)) → ¬ Front signs → AreAllFrom Part (following signs) xs → AreAllFrom Part (Some signs) xs
  from_closed signs xs n a = record {
    ascends = a.ascends;
    parts = a.parts;
    behind = λ s h. reaches_earlier signs s (a.behind s h);
    all = λ s p h. elim (starts_or_behind signs s h) [
      | inl w ↦ absurd (n (are.begins s signs p w))
      | inr r ↦ a.all s p r
    ];
  }

  from_leaf : (signs : List Sign) (xs : List (List Sign)) → Part signs → AreAllFrom Part (following signs) xs → AreAllFrom Part (Some signs) (signs ∷ xs)
  from_leaf signs xs p a = record {
    ascends = more (λ y h. below_behind signs y (are.long signs p ∙ sym (are.long y (a.parts y h))) (a.behind y h)) a.ascends;
    parts = parts;
    behind = behind;
    all = λ s r h. elim (starts_or_behind signs s h) [
      | inl w ↦ subst (λ z. Has (signs ∷ xs) z) (whole_start signs s (are.long s r ∙ sym (are.long signs p)) w) first
      | inr k ↦ later (a.all s r k)
    ];
  }
    where
      parts : (s : List Sign) → Has (signs ∷ xs) s → Part s
      parts s first = p
      parts s (later h) = a.parts s h

      behind : (s : List Sign) → Has (signs ∷ xs) s → reaches (Some signs) s ≡ true
      behind s first = subst (λ z. reaches (Some signs) z ≡ true) (append-nil signs) (reaches_own signs [])
      behind s (later h) = reaches_earlier signs s (a.behind s h)

  -- the constraints of a good leaf are met by some integers
  leaf_is_met : (signs : List Sign) (paths : List Path) → IsGoodLeaf b signs paths → IsSatisfiable (constraints_at b signs)
  leaf_is_met signs paths g = closed_is_satisfiable (length b.attrs) (constraints_at b signs) paths g.are_paths g.closed (λ c h. let l = are.leads signs c (Contains-from_has (constraints_at b signs) c h) in record { left = l.0; right = l.1 })

  -- the signs of a good leaf are a part
  leaf_is_one : (signs : List Sign) (paths : List Path) → IsGoodLeaf b signs paths → Part signs
  leaf_is_one signs paths g =
      let l : length signs ≡ length b.pairs = g.place.whole in
      are.whole signs l (are.opens signs (omega (arith, l)) g.place.agree (leaf_is_met signs paths g))

  -- a good node adds its leaf to the parts behind it
  pub from_node : (signs : List Sign) (node : Node) (xs : List (List Sign)) → IsGoodNode b signs node → AreAllFrom Part (after signs node) xs → AreAllFrom Part (Some signs) (leaf_at signs node ++ xs)
  from_node signs (split pair) xs g a = from_split signs pair xs g a
  from_node signs (infeasible numbers) xs g a = from_closed signs xs (λ f. no_solution (constraints_at b signs) numbers g (are.solved signs f)) a
  from_node signs (against comparison) xs g a = from_closed signs xs (λ f. some_against b signs comparison g (are.agreed signs f)) a
  from_node signs (leaf paths) xs g a = from_leaf signs xs (leaf_is_one signs paths g) a

  -- the leaves of good nodes, and the parts that stand behind them, are the parts from where the nodes begin
  pub parts_from : {at end : Option (List Sign)} {nodes : List Node} (xs : List (List Sign)) → AreGood b at nodes end → AreAllFrom Part end xs → AreAllFrom Part at (leaves_of at nodes ++ xs)
  parts_from xs (done {at}) a = subst (λ z. AreAllFrom Part at (z ++ xs)) (sym (leaves-nil at)) a
  parts_from xs (next {signs} {node} {nodes} g rest) a =
      subst (λ z. AreAllFrom Part (Some signs) z) (sym (append_assoc (leaf_at signs node) (leaves_of (after signs node) nodes) xs)) (from_node signs node (leaves_of (after signs node) nodes ++ xs) g (parts_from xs rest a))

  -- the leaves of a good tree are the parts, in order
  pub leaves_are_all : (nodes : List Node) → IsGood b nodes → AreAll Part (leaves_of (Some []) nodes)
  leaves_are_all nodes g =
      let a : AreAllFrom Part (Some []) (leaves_of (Some []) nodes) = subst (λ z. AreAllFrom Part (Some []) z) (append-nil (leaves_of (Some []) nodes)) (parts_from [] g.good (none_behind Part)) in
      record {
        ascending = pairs_from signs_lt (leaves_of (Some []) nodes) a.ascends;
        each = λ k d l. a.parts _ (Has-from_contains (leaves_of (Some []) nodes) _ (Contains-get_or (leaves_of (Some []) nodes) k d l));
        all = λ s p. Contains-from_has (leaves_of (Some []) nodes) s (a.all s p refl);
      }

-- ---- the three trees

-- the signs of a good leaf of a tree of parts are a part
pub leaf_is_part : (q : QueryValue) → IsWithinLimits q → (signs : List Sign) (paths : List Path) → IsGoodLeaf (plain_branching q) signs paths → IsPart q signs
leaf_is_part q w signs paths g = leaf_is_one (plain_branching q) (IsPart q) (IsFeasible q) (plain_branches q w) signs paths g

pub leaves_are_parts : LeavesAreParts
leaves_are_parts q w nodes g =
    let a : AreAll (IsPart q) (leaves_of (Some []) nodes) = leaves_are_all (plain_branching q) (IsPart q) (IsFeasible q) (plain_branches q w) nodes g in
    record { ascending = a.ascending; each = a.each; all = a.all }

pub whole_leaves : WholeLeavesAreParts
whole_leaves q w nodes g = leaves_are_all (whole_branching q) (IsWholePart q) (IsWholePart q) (whole_branches q w) nodes g

pub split_leaves : SplitLeavesAreParts
split_leaves q w nodes g =
    let a : AreAll (IsSplitPart q) (leaves_of (Some []) nodes) = leaves_are_all (split_branching q) (IsSplitPart q) (λ s. IsFront q (length s) s) (split_branches q w) nodes g in
    record { ascending = a.ascending; each = a.each; all = a.all }

-- ---- the walk over the nodes

-- good nodes go on with good nodes
pub good_joined : {b : Branching} {at mid end : Option (List Sign)} {nodes others : List Node} → AreGood b at nodes mid → AreGood b mid others end → AreGood b at (nodes ++ others) end
good_joined done g = g
good_joined (next h rest) g = next h (good_joined rest g)

-- the leaves of good nodes and of those behind them stand one after the other
pub leaves_joined : {b : Branching} {at mid : Option (List Sign)} {nodes : List Node} (others : List Node) → AreGood b at nodes mid → leaves_of at (nodes ++ others) ≡ leaves_of at nodes ++ leaves_of mid others
leaves_joined others (done {at}) = ap (λ z. z ++ leaves_of at others) (sym (leaves-nil at))
leaves_joined others (next {signs} {node} {nodes} {end} g rest) =
    ap (λ z. leaf_at signs node ++ z) (leaves_joined others rest) ∙ sym (append_assoc (leaf_at signs node) (leaves_of (after signs node) nodes) (leaves_of end others))

-- one node more adds its leaf
pub leaves_more : {b : Branching} {at : Option (List Sign)} {nodes : List Node} {signs : List Sign} (node : Node) → AreGood b at nodes (Some signs) → leaves_of at (nodes ++ node ∷ []) ≡ leaves_of at nodes ++ leaf_at signs node
leaves_more {at = at} {nodes = nodes} {signs = signs} node g =
    leaves_joined (node ∷ []) g ∙ ap (λ z. leaves_of at nodes ++ (leaf_at signs node ++ z)) (leaves-nil (after signs node)) ∙ ap (λ z. leaves_of at nodes ++ z) (append-nil (leaf_at signs node))

-- a good tree has as many leaves as the query has parts
pub has_parts : (q : QueryValue) → IsWithinLimits q → (nodes : List Node) → IsGood (plain_branching q) nodes → HasParts q (length (leaves_of (Some []) nodes))
has_parts q l nodes g = record { parts = leaves_of (Some []) nodes; are = leaves_are_parts q l nodes g; count_is = refl }
