-- Nodes that are good one behind the other are the preorders of good trees.
use Rattle.std.proofs.Common.{◌≡◌, ℕ, zero, suc, ◌+◌, ◌≤◌, refl, sym, ◌∙◌, ap, subst, arith, inl, inr, Option, Some, None, List, [], ◌∷◌, ◌++◌, map, length, length-append, append_assoc, append-nil}
use Rattle.sem_query.specs.declared.part.Sign.{Sign}
use Rattle.sem_query.specs.Parts.{AreParts}
use Rattle.sem_query.proofs.Has.{Has, first, later, Has-append_cases}
use Rattle.plan_constraints.proofs.Options.{none_is}
use Rattle.cert_format.specs.Nodes as nodes
use Rattle.cert_format.specs.Nodes.{Node}
use Rattle.cert_checker.specs.Branching.{Branching, plain_branching}
use Rattle.cert_checker.specs.Rules.{IsGoodLeaf}
use Rattle.cert_checker.specs.Tree.{Tree, split, closed, against, leaf, IsGoodTree, preorder, ListGoodTree, PlacedLeaf, leaves_below}
use Rattle.cert_checker.specs.Reading.{advanced, following, AreGood, done, next, IsGood}
use Rattle.cert_checker.specs.Leaves.{leaves_of}
use Rattle.cert_checker.specs.TreeLaws.{GoodIsTree, ListOneTree, LeavesOfTreeAreParts}
use Rattle.cert_checker.proofs.Standing.{plain_room}
use Rattle.cert_checker.proofs.LeavesInOrder.{good_joined, leaves_are_parts}

-- ---- where the tree goes on behind each of the three subtrees

behind_less : (signs : List Sign) → following (signs ++ Sign.Lt ∷ []) ≡ Some (signs ++ Sign.Eq ∷ [])
behind_less [] = refl
behind_less (s ∷ signs) = ap (advanced s) (behind_less signs)

behind_equal : (signs : List Sign) → following (signs ++ Sign.Eq ∷ []) ≡ Some (signs ++ Sign.Gt ∷ [])
behind_equal [] = refl
behind_equal (s ∷ signs) = ap (advanced s) (behind_equal signs)

behind_greater : (signs : List Sign) → following (signs ++ Sign.Gt ∷ []) ≡ following signs
behind_greater [] = refl
behind_greater (s ∷ signs) = ap (advanced s) (behind_greater signs)

-- three lists and a fourth behind them, grouped from the right
three_behind : {A : Type 0} (xs ys zs ws : List A) → (xs ++ ys ++ zs) ++ ws ≡ xs ++ (ys ++ (zs ++ ws))
three_behind xs ys zs ws = simp append_assoc

-- the same of a list that is taken apart three times
three_parts : {A : Type 0} {all first second : List A} (xs ys zs ws : List A) → all ≡ xs ++ first → first ≡ ys ++ second → second ≡ zs ++ ws → all ≡ (xs ++ ys ++ zs) ++ ws
three_parts xs ys zs ws a b c = a ∙ ap (λ z. xs ++ z) (b ∙ ap (λ z. ys ++ z) c) ∙ sym (three_behind xs ys zs ws)

-- ---- the nodes of a good tree are good one behind the other

pub tree_is_read : (branching : Branching) (signs : List Sign) (t : Tree) → IsGoodTree branching signs t → AreGood branching (Some signs) (preorder t) (following signs)
tree_is_read branching signs (split pair less equal greater) g =
    let a : AreGood branching (Some (signs ++ Sign.Lt ∷ [])) (preorder less) (Some (signs ++ Sign.Eq ∷ [])) = subst (λ z. AreGood branching (Some (signs ++ Sign.Lt ∷ [])) (preorder less) z) (behind_less signs) (tree_is_read branching (signs ++ Sign.Lt ∷ []) less g.1) in
    let b : AreGood branching (Some (signs ++ Sign.Eq ∷ [])) (preorder equal) (Some (signs ++ Sign.Gt ∷ [])) = subst (λ z. AreGood branching (Some (signs ++ Sign.Eq ∷ [])) (preorder equal) z) (behind_equal signs) (tree_is_read branching (signs ++ Sign.Eq ∷ []) equal g.2) in
    let c : AreGood branching (Some (signs ++ Sign.Gt ∷ [])) (preorder greater) (following signs) = subst (λ z. AreGood branching (Some (signs ++ Sign.Gt ∷ [])) (preorder greater) z) (behind_greater signs) (tree_is_read branching (signs ++ Sign.Gt ∷ []) greater g.3) in
    next g.0 (good_joined (good_joined a b) c)
tree_is_read branching signs (closed numbers) g = next g done
tree_is_read branching signs (against comparison) g = next g done
tree_is_read branching signs (leaf paths) g = next g done

-- ---- nodes that are good one behind the other begin with a good tree

-- the tree at the front of some nodes, and what is left of them
pub record Begins (branching : Branching) (signs : List Sign) (listed : List Node) : Type 0 where
  pub tree : Tree
  pub good : IsGoodTree branching signs tree
  pub rest : List Node
  pub listed_is : listed ≡ preorder tree ++ rest
  pub rest_good : AreGood branching (following signs) rest None

pub begins : (n : ℕ) (branching : Branching) (signs : List Sign) (listed : List Node) (end : Option (List Sign)) → length listed ≤ n → end ≡ None → AreGood branching (Some signs) listed end → Begins branching signs listed
begins n branching signs [] end l e done = absurd (none_is (sym e))
begins zero branching signs (node ∷ listed) end l e (next g r) = absurd (omega arith)
begins (suc n) branching signs (nodes.infeasible numbers ∷ listed) end l e (next g r) = record { tree = closed numbers; good = g; rest = listed; listed_is = refl; rest_good = subst (AreGood branching (following signs) listed) e r }
begins (suc n) branching signs (nodes.against comparison ∷ listed) end l e (next g r) = record { tree = against comparison; good = g; rest = listed; listed_is = refl; rest_good = subst (AreGood branching (following signs) listed) e r }
begins (suc n) branching signs (nodes.leaf paths ∷ listed) end l e (next g r) = record { tree = leaf paths; good = g; rest = listed; listed_is = refl; rest_good = subst (AreGood branching (following signs) listed) e r }
begins (suc n) branching signs (nodes.split pair ∷ listed) end l e (next g r) =
    let a : Begins branching (signs ++ Sign.Lt ∷ []) listed = begins n branching (signs ++ Sign.Lt ∷ []) listed end (omega arith) e r in
    let a_rest : AreGood branching (Some (signs ++ Sign.Eq ∷ [])) a.rest None = subst (λ z. AreGood branching z a.rest None) (behind_less signs) a.rest_good in
    let a_long : length listed ≡ length (preorder a.tree) + length a.rest = ap length a.listed_is ∙ length-append (preorder a.tree) a.rest in
    let b : Begins branching (signs ++ Sign.Eq ∷ []) a.rest = begins n branching (signs ++ Sign.Eq ∷ []) a.rest None (omega (arith, a_long, l)) refl a_rest in
    let b_rest : AreGood branching (Some (signs ++ Sign.Gt ∷ [])) b.rest None = subst (λ z. AreGood branching z b.rest None) (behind_equal signs) b.rest_good in
    let b_long : length a.rest ≡ length (preorder b.tree) + length b.rest = ap length b.listed_is ∙ length-append (preorder b.tree) b.rest in
    let c : Begins branching (signs ++ Sign.Gt ∷ []) b.rest = begins n branching (signs ++ Sign.Gt ∷ []) b.rest None (omega (arith, a_long, b_long, l)) refl b_rest in
    let same : listed ≡ (preorder a.tree ++ preorder b.tree ++ preorder c.tree) ++ c.rest = three_parts (preorder a.tree) (preorder b.tree) (preorder c.tree) c.rest a.listed_is b.listed_is c.listed_is in
    record {
      tree = split pair a.tree b.tree c.tree;
      good = (g, a.good, b.good, c.good);
      rest = c.rest;
      listed_is = ap (λ z. nodes.split pair ∷ z) same;
      rest_good = subst (λ z. AreGood branching z c.rest None) (behind_greater signs) c.rest_good;
    }

nothing_left : (branching : Branching) (listed : List Node) (end : Option (List Sign)) → AreGood branching None listed end → listed ≡ []
nothing_left branching [] end g = refl
nothing_left branching (node ∷ listed) end g = elim g [ ]

tree_from_read : (branching : Branching) (listed : List Node) → IsGood branching listed → ListGoodTree branching listed
tree_from_read branching listed g =
    let b : Begins branching [] listed = begins (length listed) branching [] listed None (omega arith) refl g.good in
    record {
      room = g.room;
      tree = b.tree;
      good = b.good;
      listed_is = b.listed_is ∙ ap (λ z. preorder b.tree ++ z) (nothing_left branching b.rest None b.rest_good) ∙ append-nil (preorder b.tree);
    }

read_from_tree : (branching : Branching) (listed : List Node) → ListGoodTree branching listed → IsGood branching listed
read_from_tree branching listed t = record { room = t.room; good = subst (λ z. AreGood branching (Some []) z None) (sym t.listed_is) (tree_is_read branching [] t.tree t.good) }

pub good_is_tree : GoodIsTree
good_is_tree branching listed = (tree_from_read branching listed, read_from_tree branching listed)

-- ---- nodes list one tree at most

-- the trees at the front of a list are one, and so is what is left
pub record AreOne (t u : Tree) (xs ys : List Node) : Type 0 where
  pub trees : t ≡ u
  pub rests : xs ≡ ys

one_front : (t u : Tree) (xs ys : List Node) → preorder t ++ xs ≡ preorder u ++ ys → AreOne t u xs ys
one_front (closed numbers) (closed others) xs ys e = record { trees = cc; rests = cc }
one_front (closed numbers) (against comparison) xs ys e = cc
one_front (closed numbers) (leaf paths) xs ys e = cc
one_front (closed numbers) (split pair a b c) xs ys e = cc
one_front (against comparison) (closed numbers) xs ys e = cc
one_front (against comparison) (against other) xs ys e = record { trees = cc; rests = cc }
one_front (against comparison) (leaf paths) xs ys e = cc
one_front (against comparison) (split pair a b c) xs ys e = cc
one_front (leaf paths) (closed numbers) xs ys e = cc
one_front (leaf paths) (against comparison) xs ys e = cc
one_front (leaf paths) (leaf others) xs ys e = record { trees = cc; rests = cc }
one_front (leaf paths) (split pair a b c) xs ys e = cc
one_front (split pair a b c) (closed numbers) xs ys e = cc
one_front (split pair a b c) (against comparison) xs ys e = cc
one_front (split pair a b c) (leaf paths) xs ys e = cc
one_front (split pair a b c) (split other d f g) xs ys e =
    let pairs : pair ≡ other = cc in
    let below : (preorder a ++ preorder b ++ preorder c) ++ xs ≡ (preorder d ++ preorder f ++ preorder g) ++ ys = cc in
    let less : AreOne a d (preorder b ++ (preorder c ++ xs)) (preorder f ++ (preorder g ++ ys)) = one_front a d _ _ (sym (three_behind (preorder a) (preorder b) (preorder c) xs) ∙ below ∙ three_behind (preorder d) (preorder f) (preorder g) ys) in
    let equal : AreOne b f (preorder c ++ xs) (preorder g ++ ys) = one_front b f _ _ less.rests in
    let greater : AreOne c g xs ys = one_front c g xs ys equal.rests in
    let e1 : a ≡ d = less.trees in
    let e2 : b ≡ f = equal.trees in
    let e3 : c ≡ g = greater.trees in
    record { trees = cc; rests = greater.rests }

pub list_one_tree : ListOneTree
list_one_tree t u e = (one_front t u [] [] (append-nil (preorder t) ∙ e ∙ sym (append-nil (preorder u)))).trees

-- ---- the leaves

-- the signs at which leaves stand
abbrev pub signs_at : List PlacedLeaf → List (List Sign)
signs_at ls = map (λ l. l.signs) ls

signs-append : (ks ls : List PlacedLeaf) → signs_at (ks ++ ls) ≡ signs_at ks ++ signs_at ls
signs-append [] ls = refl
signs-append (k ∷ ks) ls = ap (λ z. k.signs ∷ z) (signs-append ks ls)

-- the leaves of a tree at the front of some nodes, and those of the nodes behind it
leaves_listed : (signs : List Sign) (t : Tree) (rest : List Node) → leaves_of (Some signs) (preorder t ++ rest) ≡ signs_at (leaves_below signs t) ++ leaves_of (following signs) rest
leaves_listed signs (closed numbers) rest = refl
leaves_listed signs (against comparison) rest = refl
leaves_listed signs (leaf paths) rest = refl
leaves_listed signs (split pair less equal greater) rest =
    let xs = leaves_below (signs ++ Sign.Lt ∷ []) less in
    let ys = leaves_below (signs ++ Sign.Eq ∷ []) equal in
    let zs = leaves_below (signs ++ Sign.Gt ∷ []) greater in
    ap (leaves_of (Some (signs ++ Sign.Lt ∷ []))) (three_behind (preorder less) (preorder equal) (preorder greater) rest)
    ∙ leaves_listed (signs ++ Sign.Lt ∷ []) less (preorder equal ++ (preorder greater ++ rest))
    ∙ ap (λ at. signs_at xs ++ leaves_of at (preorder equal ++ (preorder greater ++ rest))) (behind_less signs)
    ∙ ap (λ z. signs_at xs ++ z) (leaves_listed (signs ++ Sign.Eq ∷ []) equal (preorder greater ++ rest))
    ∙ ap (λ at. signs_at xs ++ (signs_at ys ++ leaves_of at (preorder greater ++ rest))) (behind_equal signs)
    ∙ ap (λ z. signs_at xs ++ (signs_at ys ++ z)) (leaves_listed (signs ++ Sign.Gt ∷ []) greater rest)
    ∙ ap (λ at. signs_at xs ++ (signs_at ys ++ (signs_at zs ++ leaves_of at rest))) (behind_greater signs)
    ∙ sym (three_behind (signs_at xs) (signs_at ys) (signs_at zs) (leaves_of (following signs) rest))
    ∙ ap (λ z. z ++ leaves_of (following signs) rest) (sym (signs-append (xs ++ ys) zs ∙ ap (λ z. z ++ signs_at zs) (signs-append xs ys)))

pub leaves_of_tree_are_parts : LeavesOfTreeAreParts
leaves_of_tree_are_parts q w t g =
    let same : leaves_of (Some []) (preorder t) ≡ signs_at (leaves_below [] t) = ap (leaves_of (Some [])) (sym (append-nil (preorder t))) ∙ leaves_listed [] t [] ∙ append-nil (signs_at (leaves_below [] t)) in
    subst (AreParts q) same (leaves_are_parts q w (preorder t) record { room = plain_room q w; good = tree_is_read (plain_branching q) [] t g })

-- each leaf of a good tree is good
pub leaf_is_good : (branching : Branching) (signs : List Sign) (t : Tree) → IsGoodTree branching signs t → (l : PlacedLeaf) → Has (leaves_below signs t) l → IsGoodLeaf branching l.signs l.paths
leaf_is_good branching signs (closed numbers) g l h = elim h [ ]
leaf_is_good branching signs (against comparison) g l h = elim h [ ]
leaf_is_good branching signs (leaf paths) g l first = g
leaf_is_good branching signs (leaf paths) g l (later h) = elim h [ ]
leaf_is_good branching signs (split pair less equal greater) g l h = elim (Has-append_cases (leaves_below (signs ++ Sign.Lt ∷ []) less ++ leaves_below (signs ++ Sign.Eq ∷ []) equal) (leaves_below (signs ++ Sign.Gt ∷ []) greater) l h) [
  | inl i ↦ elim (Has-append_cases (leaves_below (signs ++ Sign.Lt ∷ []) less) (leaves_below (signs ++ Sign.Eq ∷ []) equal) l i) [
    | inl j ↦ leaf_is_good branching (signs ++ Sign.Lt ∷ []) less g.1 l j
    | inr j ↦ leaf_is_good branching (signs ++ Sign.Eq ∷ []) equal g.2 l j
  ]
  | inr i ↦ leaf_is_good branching (signs ++ Sign.Gt ∷ []) greater g.3 l i
]
