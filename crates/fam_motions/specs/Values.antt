-- Values of the attributes of a query, as an assignment.
use Rattle.std.specs.Prelude.{◌≡◌, List, length, ℤ, pos, neg_ℤ, ◌≤ℤ◌, Contains, IsTrue}
use Rattle.std.specs.List.{slice_index_or, All}
use Rattle.sem_query.specs.declared.atom.Attr.{Attr}
use Rattle.sem_query.specs.declared.atom.Domain.{Domain}
use Rattle.sem_query.specs.Query.{QueryValue, attrs_of}
use Rattle.sem_query.specs.Assignment.{Assignment, lies_in, Holds}
use Rattle.plan_constraints.specs.Nodes.{place_of}

-- the value of an attribute, and 0 of another column
abbrev pub valued : List Attr → List ℤ → Assignment
valued attrs xs a = slice_index_or xs (place_of attrs a) (pos 0)

-- within 10^18 either way
pub record IsFarWithin (x : ℤ) : Type 0 where
  pub low : neg_ℤ (pos 1000000000000000000) ≤ℤ x
  pub high : x ≤ℤ pos 1000000000000000000

-- the column of the domain, if it is an attribute, lies in it
abbrev pub KeepsTo : List Attr → List ℤ → Domain → Type 0
KeepsTo attrs xs d = Contains attrs d.attr → IsTrue (lies_in d (valued attrs xs d.attr))

-- a value for each attribute, within 10^18 either way, that together satisfy the query and keep to its domains
pub record IsSolution (q : QueryValue) (xs : List ℤ) : Type 0 where
  pub many : length xs ≡ length (attrs_of q.atoms)
  pub far : All IsFarWithin xs
  pub holds : Holds q (valued (attrs_of q.atoms) xs)
  pub keeps : All (KeepsTo (attrs_of q.atoms) xs) q.domains
