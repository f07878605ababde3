-- The forms of a certificate: what their trees branch on, one by one.
use Rattle.std.proofs.Common.{◌≡◌, ◌<◌, length, Contains, refl, arith}
use Rattle.std.proofs.lemmas.List.Elements.{All-contains}
use Rattle.sem_query.specs.declared.atom.Element.{Element}
use Rattle.sem_query.specs.declared.atom.Element.TheVariants as element
use Rattle.sem_query.specs.declared.part.Pair.{Pair}
use Rattle.sem_query.specs.Query.{QueryValue, attrs_of, consts_of, IsShort, IsWithinLimits}
use Rattle.sem_query.specs.Order.{IsElement}
use Rattle.sem_query.proofs.Has.{Has}
use Rattle.sem_query.proofs.Elements.{element_from_has}
use Rattle.sem_query.proofs.Local.{pair_named}
use Rattle.plan_split_pairs.proofs.Naming.{split_pairs_are_named}
use Rattle.plan_split_parts.proofs.SignedPairs.{side_of}
use Rattle.sem_whole.specs.Signed.{IsSide}
use Rattle.cert_checker.specs.declared.shown.Shown.{Shown}
use Rattle.cert_checker.specs.Branches.{AreBranches}
use Rattle.cert_checker.specs.Shown.{branching_of}
use Rattle.cert_checker.proofs.PlainBranches.{plain_branches}
use Rattle.cert_checker.proofs.WholeBranches.{whole_branches}
use Rattle.cert_checker.proofs.SplitBranches.{split_branches}
use Rattle.cert_maker.specs.Tree.{IsPartOf, IsFrontOf}

-- the parts and fronts of a form are those of its tree
pub branches_of : (s : Shown) (q : QueryValue) → IsWithinLimits q → AreBranches (branching_of s q) (IsPartOf s q) (IsFrontOf s q)
branches_of Shown.Plain q w = plain_branches q w
branches_of Shown.Whole q w = whole_branches q w
branches_of Shown.Split q w = split_branches q w

-- the nodes are those of the attributes
pub attrs_are : (s : Shown) (q : QueryValue) → (branching_of s q).attrs ≡ attrs_of q.atoms
attrs_are Shown.Plain q = refl
attrs_are Shown.Whole q = refl
attrs_are Shown.Split q = refl

-- where pairs get signs, any comparison may close a branch
pub atoms_are : (s : Shown) (q : QueryValue) → 0 < length (branching_of s q).pairs → (branching_of s q).atoms ≡ q.atoms
atoms_are Shown.Plain q l = refl
atoms_are Shown.Whole q l = absurd (omega (arith, l))
atoms_are Shown.Split q l = refl

side_in : (q : QueryValue) (e : Element) → IsWithinLimits q → IsElement q e → IsSide (attrs_of q.atoms) e
side_in q (element.Attr a) w h = h
side_in q (element.Const k) w h = All-contains IsShort (consts_of q.atoms) k w.consts h

-- the sides of pairs that get signs are attributes, or integers that may be written
pub pair_sides : (s : Shown) (q : QueryValue) → IsWithinLimits q → (p : Pair) → Has (branching_of s q).pairs p → Contains (attrs_of q.atoms) p.left × IsSide (attrs_of q.atoms) p.right
pair_sides Shown.Plain q w p h =
    let n = pair_named q p h in
    (element_from_has q (element.Attr p.left) n.left, side_in q p.right w (element_from_has q p.right n.right))
pair_sides Shown.Whole q w p h = elim h [ ]
pair_sides Shown.Split q w p h =
    let n = split_pairs_are_named q w p h in
    (n.left, side_of (attrs_of q.atoms) p.right n.right)
