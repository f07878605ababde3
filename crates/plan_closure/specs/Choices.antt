-- What a pair of a query adds by each sign.
use Rattle.std.specs.Prelude.{◌≡◌, List, length, All}
use Rattle.std.specs.List.{AllZip}
use Rattle.sem_query.specs.declared.atom.Element.TheVariants as element
use Rattle.sem_query.specs.declared.part.Pair.{Pair}
use Rattle.sem_query.specs.declared.part.Sign.{Sign}
use Rattle.sem_query.specs.Query.{QueryValue, attrs_of}
use Rattle.sem_query.specs.Parts.{pairs}
use Rattle.plan_constraints.specs.declared.constraint.Constraint.{Constraint}
use Rattle.plan_closure.specs.ChoiceValue.{ChoiceValue}
use Rattle.plan_constraints.specs.Nodes.{constraints_of}
use Rattle.plan_constraints.specs.Solutions.{IsWithin}

-- the constraints of a sign
abbrev pub chosen : ChoiceValue → Sign → List Constraint
chosen c Sign.Lt = c.less
chosen c Sign.Eq = c.equal
chosen c Sign.Gt = c.greater

-- the constraints are those of the pair, whatever its sign
pub record IsChoice (q : QueryValue) (p : Pair) (c : ChoiceValue) : Type 0 where
  pub says : (s : Sign) → chosen c s ≡ constraints_of (attrs_of q.atoms) (element.Attr p.left) s p.right
  pub within : (s : Sign) → All (IsWithin (length (attrs_of q.atoms))) (chosen c s)

-- there is one for each pair of the query, in order
abbrev pub AreChoices : QueryValue → List ChoiceValue → Type 0
AreChoices q cs = AllZip (IsChoice q) (pairs q) cs
