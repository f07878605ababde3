-- Elements with their nodes.
use Rattle.std.specs.Prelude.{◌≡◌, Contains}
use Rattle.sem_query.specs.declared.atom.Element.TheVariants as element
use Rattle.sem_query.specs.Query.{QueryValue, attrs_of}
use Rattle.sem_query.specs.Order.{IsElement}
use Rattle.plan_constraints.specs.Nodes.{node_of}
use Rattle.plan_links.specs.declared.placed.Placed.{Placed}
use Rattle.plan_links.specs.declared.placed.NamedAttr.{NamedAttr}

-- an element of the query, with its node
pub record IsPlaced (q : QueryValue) (x : Placed) : Type 0 where
  pub known : IsElement q x.element
  pub node : x.node ≡ node_of (attrs_of q.atoms) x.element

-- an attribute of the query, with its node
pub record IsNamed (q : QueryValue) (a : NamedAttr) : Type 0 where
  pub known : Contains (attrs_of q.atoms) a.attr
  pub node : a.node ≡ node_of (attrs_of q.atoms) (element.Attr a.attr)
