-- The bounds of a leaf of a good tree are what its part implies.
use Rattle.std.proofs.Common.{◌≡◌, ℕ, ◌≤◌, ℤ, ◌+ℤ◌, ◌-ℤ◌, ◌≤ℤ◌, ◌<ℤ◌, Option, Some, None, List, [], length, refl, subst, arith}
use Rattle.std.proofs.lemmas.Int.{ints}
use Rattle.sem_query.specs.declared.atom.Element.{Element}
use Rattle.sem_query.specs.declared.atom.Element.TheVariants as element
use Rattle.sem_query.specs.declared.part.Sign.{Sign}
use Rattle.sem_query.specs.Query.{QueryValue, attrs_of, IsWithinLimits}
use Rattle.sem_query.specs.Assignment.{Assignment, value, IsAmong}
use Rattle.sem_query.specs.Parts.{InPart, IsPart}
use Rattle.sem_query.proofs.Has.{Has-from_contains}
use Rattle.plan_constraints.specs.Nodes.{node_of, offset_of, nodes_of, assignment_of}
use Rattle.plan_constraints.specs.PartConstraints.{of_prefix}
use Rattle.plan_constraints.specs.Solutions.{Solves, IsUpper, HasNoUpper}
use Rattle.plan_constraints.proofs.NodeFacts.{Known, value_is, assignment_agrees, nodes_agree}
use Rattle.plan_constraints.proofs.InPart.{solves_in_part, in_part_from_solves}
use Rattle.cert_checker.specs.Branching.{plain_branching}
use Rattle.cert_checker.specs.Rules.{IsBound, IsGoodLeaf}
use Rattle.cert_checker.specs.Tree.{PlacedLeaf, leaves_below}
use Rattle.cert_checker.specs.LeafLaws.{IsMostAbove, IsFreeAbove, SaysMost, IsTold, LeavesAreTight}
use Rattle.cert_checker.proofs.LeafTable.{table_of}
use Rattle.cert_checker.proofs.PrefixNodes.{node_known}
use Rattle.cert_checker.proofs.TightLeaf.{IsTight, IsBoundAnswer, table_answers, leaf_is_tight}
use Rattle.cert_checker.proofs.LeavesInOrder.{leaf_is_part}
use Rattle.cert_checker.proofs.Preorders.{leaf_is_good}

known : (q : QueryValue) (x : Element) → IsAmong (attrs_of q.atoms) x → Known (attrs_of q.atoms) x
known q (element.Attr a) h = Has-from_contains (attrs_of q.atoms) a h
known q (element.Const k) h = tt

-- an assignment keeps within one most only
one_most : (q : QueryValue) (s : List Sign) (x y : Element) (m n : ℤ) → IsMostAbove q s x y m → IsMostAbove q s x y n → m ≡ n
one_most q s x y m n h k =
    let a : value x h.at ≤ℤ (n +ℤ value y h.at) = k.kept h.at h.inside in
    let b : value x h.at ≡ m +ℤ value y h.at = h.reached in
    let c : value x k.at ≤ℤ (m +ℤ value y k.at) = h.kept k.at k.inside in
    let d : value x k.at ≡ n +ℤ value y k.at = k.reached in
    omega (arith, ints, a, b, c, d)

not_both : (q : QueryValue) (s : List Sign) (x y : Element) (m : ℤ) → IsMostAbove q s x y m → ¬ IsFreeAbove q s x y
not_both q s x y m h k =
    let w : (v : Assignment) × InPart q s v × ((m +ℤ value y v) <ℤ value x v) = k.passed m in
    let a : value x w.0 ≤ℤ (m +ℤ value y w.0) = h.kept w.0 w.1 in
    let b : (m +ℤ value y w.0) <ℤ value x w.0 = w.2 in
    absurd (omega (arith, ints, a, b))

module _ (q : QueryValue) (w : IsWithinLimits q) (l : PlacedLeaf) (g : IsGoodLeaf (plain_branching q) l.signs l.paths) (x y : Element) (hx : IsAmong (attrs_of q.atoms) x) (hy : IsAmong (attrs_of q.atoms) y) where
  part : IsPart q l.signs
  part = leaf_is_part q w l.signs l.paths g

  abbrev from : ℕ
  from = node_of (attrs_of q.atoms) x

  abbrev to : ℕ
  to = node_of (attrs_of q.atoms) y

  tight : IsTight (length (attrs_of q.atoms)) (of_prefix q l.signs) l.paths
  tight = leaf_is_tight q l.signs l.paths g

  from_in : from ≤ length (attrs_of q.atoms)
  from_in = node_known (attrs_of q.atoms) x (known q x hx)

  to_in : to ≤ length (attrs_of q.atoms)
  to_in = node_known (attrs_of q.atoms) y (known q y hy)

  -- the least bound of the nodes is the most that x is above y, moved by constants
  most_from_upper : (u most : ℤ) → u ≡ offset_of y -ℤ offset_of x +ℤ most → IsUpper (of_prefix q l.signs) from to u → IsMostAbove q l.signs x y most
  most_from_upper u most e h = record {
    kept = λ v p.
        let a = value_is (attrs_of q.atoms) (nodes_of (attrs_of q.atoms) v) v (nodes_agree (attrs_of q.atoms) v) x (known q x hx) in
        let b = value_is (attrs_of q.atoms) (nodes_of (attrs_of q.atoms) v) v (nodes_agree (attrs_of q.atoms) v) y (known q y hy) in
        let c : nodes_of (attrs_of q.atoms) v from ≤ℤ (u +ℤ nodes_of (attrs_of q.atoms) v to) = h.bound (nodes_of (attrs_of q.atoms) v) (solves_in_part q l.signs v p) in
        omega (arith, ints, a, b, c, e);
    at = assignment_of (attrs_of q.atoms) q.domains h.at;
    inside = in_part_from_solves q l.signs w part h.at h.solves;
    reached =
        let a = value_is (attrs_of q.atoms) h.at (assignment_of (attrs_of q.atoms) q.domains h.at) (assignment_agrees (attrs_of q.atoms) q.domains h.at h.solves.origin) x (known q x hx) in
        let b = value_is (attrs_of q.atoms) h.at (assignment_of (attrs_of q.atoms) q.domains h.at) (assignment_agrees (attrs_of q.atoms) q.domains h.at h.solves.origin) y (known q y hy) in
        let c : h.at from ≡ u +ℤ h.at to = h.reached in
        omega (arith, ints, a, b, c, e);
  }

  free_from_none : HasNoUpper (of_prefix q l.signs) from to → IsFreeAbove q l.signs x y
  free_from_none h = record {
    passed = λ most.
        let z : (n : ℕ → ℤ) × Solves n (of_prefix q l.signs) × (((offset_of y -ℤ offset_of x +ℤ most) +ℤ n to) <ℤ n from) = h.passed (offset_of y -ℤ offset_of x +ℤ most) in
        let v : Assignment = assignment_of (attrs_of q.atoms) q.domains z.0 in
        let a = value_is (attrs_of q.atoms) z.0 v (assignment_agrees (attrs_of q.atoms) q.domains z.0 z.1.origin) x (known q x hx) in
        let b = value_is (attrs_of q.atoms) z.0 v (assignment_agrees (attrs_of q.atoms) q.domains z.0 z.1.origin) y (known q y hy) in
        let c : ((offset_of y -ℤ offset_of x +ℤ most) +ℤ z.0 to) <ℤ z.0 from = z.2 in
        (v, in_part_from_solves q l.signs w part z.0 z.1, omega (arith, ints, a, b, c));
  }

  most_told : (most : ℤ) → SaysMost q l x y most → IsMostAbove q l.signs x y most
  most_told most h = most_from_upper (offset_of y -ℤ offset_of x +ℤ most) most refl (tight.reached from to from_in to_in (offset_of y -ℤ offset_of x +ℤ most) h)

  said_at : (d most : ℤ) → d ≡ offset_of y -ℤ offset_of x +ℤ most → IsBound (of_prefix q l.signs) l.paths from to d → SaysMost q l x y most
  said_at d most e b = subst (λ z. IsBound (of_prefix q l.signs) l.paths from to z) e b

  -- what the leaf says at all, or that it says nothing
  pub data Says : Type 0 where
    says : (most : ℤ) → SaysMost q l x y most → Says
    silent : ((most : ℤ) → ¬ SaysMost q l x y most) → IsFreeAbove q l.signs x y → Says

  said : Says
  said = go (table_of (of_prefix q l.signs) l.paths from to) (table_answers (length (attrs_of q.atoms)) (of_prefix q l.signs) l.paths g.are_paths from to)
    where
      go : (o : Option ℤ) → IsBoundAnswer (of_prefix q l.signs) l.paths from to o → Says
      go (Some d) b = says (d -ℤ offset_of y +ℤ offset_of x) (said_at d (d -ℤ offset_of y +ℤ offset_of x) (omega (arith, ints)) b)
      go None n = silent (λ most. n (offset_of y -ℤ offset_of x +ℤ most)) (free_from_none (tight.passed from to from_in to_in n))

  most_said : Says → (most : ℤ) → IsMostAbove q l.signs x y most → SaysMost q l x y most
  most_said (says m s) most h = subst (λ z. SaysMost q l x y z) (one_most q l.signs x y m most (most_told m s) h) s
  most_said (silent n f) most h = absurd (not_both q l.signs x y most h f)

  free_told : Says → ((most : ℤ) → ¬ SaysMost q l x y most) → IsFreeAbove q l.signs x y
  free_told (says m s) h = absurd (h m s)
  free_told (silent n f) h = f

  pub told : IsTold q l x y
  told = record {
    most = λ most. (most_told most, most_said said most);
    free = (free_told said, λ f most s. not_both q l.signs x y most (most_told most s) f);
  }

pub leaves_are_tight : LeavesAreTight
leaves_are_tight q w t g l h x y hx hy = told q w l (leaf_is_good (plain_branching q) [] t g l (Has-from_contains (leaves_below [] t) l h)) x y hx hy
