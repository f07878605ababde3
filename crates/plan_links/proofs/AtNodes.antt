-- What the bounds answer of elements whose nodes are known.
use Rattle.std.proofs.Common.{◌≡◌, ℕ, ◌+◌, ◌<◌, ◌≤◌, ℤ, pos, neg_ℤ, ◌+ℤ◌, ◌-ℤ◌, ◌≤ℤ◌, List, length, slice_index_or, refl, sym, arith}
use Rattle.std.proofs.lemmas.List.Elements.{Contains-get_or}
use Rattle.sem_query.proofs.Ascending.{Ascends-attrs_of}
use Rattle.sem_query.specs.declared.atom.Attr.{Attr}
use Rattle.sem_query.specs.declared.atom.Element.TheVariants as element
use Rattle.sem_query.specs.declared.part.Sign.{Sign}
use Rattle.sem_query.specs.Query.{QueryValue, attrs_of}
use Rattle.sem_query.specs.Order.{IsLess, IsEqual}
use Rattle.plan_constraints.specs.Nodes.{node_of, offset_of, IsWithinLimit, IsAlwaysAbove}
use Rattle.plan_constraints.specs.Solutions.{IsUpper, HasNoUpper}
use Rattle.plan_constraints.proofs.NodeFacts.{node_in, limit_in}
use Rattle.plan_closure.specs.BoundsValue.{BoundsValue}
use Rattle.plan_closure.proofs.Upper.{keeps_some, keeps_none, less_from, above_from_less, equal_from, above_from_equal, above_from_equal_turned}
use Rattle.plan_links.specs.declared.placed.Placed.{Placed}
use Rattle.plan_links.specs.Known.{IsKnown}
use Rattle.plan_links.specs.Placed.{IsPlaced, IsNamed}
use Rattle.plan_links.proofs.Extent.{place_is}
use Rattle.plan_links.proofs.InPartFacts.{less_if, less_only, equal_if, equal_only}

-- the node of the attribute at a place
pub node_is : (q : QueryValue) (i : ℕ) (d : Attr) → i < length (attrs_of q.atoms) → node_of (attrs_of q.atoms) (element.Attr (slice_index_or (attrs_of q.atoms) i d)) ≡ i + 1
node_is q i d l = let p = place_is (attrs_of q.atoms) (Ascends-attrs_of q.atoms) i d l in omega (arith, p)

module _ (q : QueryValue) (s : List Sign) (b : BoundsValue) (k : IsKnown q s b) where
  pub node_below : (x : Placed) → IsPlaced q x → x.node ≤ b.attrs
  node_below x h = let l = node_in q x.element h.known in omega (arith, l, h.node, k.attrs)

  pub limit_of : (x : Placed) → IsPlaced q x → IsWithinLimit x.element
  limit_of x h = limit_in q x.element k.within h.known

  module _ (x y : Placed) (hx : IsPlaced q x) (hy : IsPlaced q y) where
    pub above_some : (by u l : ℤ) → IsUpper b.constraints x.node y.node u → l ≡ offset_of y.element -ℤ offset_of x.element +ℤ by → (u ≤ℤ l → IsAlwaysAbove (attrs_of q.atoms) b.constraints x.element y.element by) × (IsAlwaysAbove (attrs_of q.atoms) b.constraints x.element y.element by → u ≤ℤ l)
    above_some by u l h e = keeps_some (attrs_of q.atoms) b.constraints x.element y.element by u l (rw (hx.node, hy.node) at h) e

    pub above_none : (by : ℤ) → HasNoUpper b.constraints x.node y.node → IsAlwaysAbove (attrs_of q.atoms) b.constraints x.element y.element by → ⊥
    above_none by h = keeps_none (attrs_of q.atoms) b.constraints x.element y.element by (rw (hx.node, hy.node) at h)

    pub less_when : IsAlwaysAbove (attrs_of q.atoms) b.constraints x.element y.element (neg_ℤ (pos 1)) → IsLess q s x.element y.element
    less_when h = less_if q s b k x.element y.element hx.known hy.known (less_from q (attrs_of q.atoms) b.constraints x.element y.element refl h)

    pub above_when_less : IsLess q s x.element y.element → IsAlwaysAbove (attrs_of q.atoms) b.constraints x.element y.element (neg_ℤ (pos 1))
    above_when_less h = above_from_less q (attrs_of q.atoms) b.constraints x.element y.element refl (less_only q s b k x.element y.element hx.known hy.known h)

    pub equal_when : IsAlwaysAbove (attrs_of q.atoms) b.constraints x.element y.element (pos 0) → IsAlwaysAbove (attrs_of q.atoms) b.constraints y.element x.element (pos 0) → IsEqual q s x.element y.element
    equal_when h g = equal_if q s b k x.element y.element hx.known hy.known (equal_from q (attrs_of q.atoms) b.constraints x.element y.element refl h g)

    pub above_when_equal : IsEqual q s x.element y.element → IsAlwaysAbove (attrs_of q.atoms) b.constraints x.element y.element (pos 0)
    above_when_equal h = above_from_equal q (attrs_of q.atoms) b.constraints x.element y.element refl (equal_only q s b k x.element y.element hx.known hy.known h)

    pub above_when_equal_turned : IsEqual q s x.element y.element → IsAlwaysAbove (attrs_of q.atoms) b.constraints y.element x.element (pos 0)
    above_when_equal_turned h = above_from_equal_turned q (attrs_of q.atoms) b.constraints x.element y.element refl (equal_only q s b k x.element y.element hx.known hy.known h)

-- the attribute at a place has its node
pub named_is : (q : QueryValue) (xs : List Attr) (i : ℕ) (d : Attr) → xs ≡ attrs_of q.atoms → i < length (attrs_of q.atoms) → IsNamed q record { attr = slice_index_or xs i d; node = i + 1 }
named_is q xs i d e l = rw e record { known = Contains-get_or (attrs_of q.atoms) i d l; node = sym (node_is q i d l) }
