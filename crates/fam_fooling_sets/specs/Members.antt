-- How the rows of a number are worked out from a solution of the bounds of a part.
use Rattle.std.specs.Prelude.{◌≡◌, ℕ, zero, suc, ◌<◌, ◌≤◌, cond, nat_eq, List, [], ◌∷◌, ◌++◌, length, Option, None, Some, ℤ, pos, ◌+ℤ◌, ◌-ℤ◌, All, Contains, ⊤, Result, Ok, Err}
use Rattle.std.specs.List.{slice_index_or}
use Rattle.arrayvec.specs.ArrayVec.{ArrayVec as Items}
use Rattle.sem_query.specs.declared.atom.Attr.{Attr}
use Rattle.sem_query.specs.declared.part.Sign.{Sign}
use Rattle.sem_query.specs.Query.{QueryValue, attr_eq, attrs_of}
use Rattle.sem_query.specs.Meaning.{Arrival, by_column}
use Rattle.sem_query.specs.Cells.{upto}
use Rattle.plan_constraints.specs.declared.constraint.Constraint.{Constraint}
use Rattle.plan_constraints.specs.Nodes.{has_node, place_of}
use Rattle.plan_constraints.specs.PartConstraints.{of_prefix}
use Rattle.plan_constraints.specs.Solutions.{IsSatisfiable, IsLeast, IsGreatest, HasNoLeast, HasNoGreatest, IsLowAnswer, IsHighAnswer}
use Rattle.plan_closure.specs.Answers.{IsSmall, IsSolvedAt, at_nodes}
pub use Rattle.fam_motions.specs.Values.{IsFarWithin}
use Rattle.fam_fooling_sets.specs.Shown.{rows_in, arrivals}
use Rattle.fam_fooling_sets.specs.declared.error.LowerError.{LowerError}
use Rattle.fam_fooling_sets.specs.declared.error.LowerError.TheVariants as why
use Rattle.fam_fooling_sets.specs.declared.ground.Ground.{Ground}
use Rattle.fam_fooling_sets.specs.declared.point.Point.{Point}

-- the value of a number: so far above the least value of the column, or below the greatest, or the number itself
abbrev pub value_for : Option ℤ → Option ℤ → ℕ → ℤ
value_for (Some low) high number = low +ℤ pos number
value_for None (Some high) number = high -ℤ pos number
value_for None None number = pos number

-- what is asked of a node: the value, and 0 of the node of no attribute
abbrev pub target_for : ℕ → ℤ → ℤ
target_for node value = cond (nat_eq node 0) (pos 0) value

-- the least and the greatest value of a node, of which at least one is not there
abbrev pub AreEnds : List Constraint → ℕ → Option ℤ → Option ℤ → Type 0
AreEnds cs node (Some low) (Some high) = ⊥
AreEnds cs node (Some low) None = IsLeast cs node low × HasNoGreatest cs node
AreEnds cs node None (Some high) = HasNoLeast cs node × IsGreatest cs node high
AreEnds cs node None None = HasNoLeast cs node × HasNoGreatest cs node

-- what rows are made from: there is a solution, and the named column is a node that is not bounded, or no attribute
pub record IsGround (g : Ground) : Type 0 where
  pub few : length g.attrs.now ≤ 12
  pub attrs : g.bounds.now.attrs ≡ length g.attrs.now
  pub node : g.node ≤ g.bounds.now.attrs
  pub satisfiable : IsSatisfiable g.bounds.now.constraints
  pub low : IsSmall g.low
  pub high : IsSmall g.high
  pub ends : 0 < g.node → AreEnds g.bounds.now.constraints g.node g.low g.high

-- a value for each attribute, and one for the named column, all far within 64 bits
pub record IsPoint (p : Point) : Type 0 where
  pub many : length p.values.now ≡ length p.ground.now.attrs.now
  pub values : All IsFarWithin p.values.now
  pub value : IsFarWithin p.value

-- the value of a column: that of the named one, of an attribute in the solution, and else what stands in its place
abbrev pub cell_for : List Attr → List ℤ → Attr → ℤ → Attr → ℤ → ℤ
cell_for attrs xs named value a blank = cond (attr_eq a named) value (cond (has_node attrs a) (at_nodes xs (suc (place_of attrs a))) blank)

-- the row at a place of FROM
abbrev pub row_for : List Attr → List ℤ → Attr → ℤ → ℕ → List ℤ → List ℤ
row_for attrs xs named value place blank =
    upto (λ column. cell_for attrs xs named value (record { stream = place; column = column }) (by_column blank column)) (length blank)

-- the row at a place of which nothing is asked
abbrev pub blank_at : List (Items ℤ) → ℕ → List ℤ
blank_at blanks place = slice_index_or (rows_in blanks) place []

-- the rows of the places below one, but for one place
abbrev pub others_for : (ℕ → List ℤ) → List ℕ → ℕ → ℕ → List Arrival
others_for row from own zero = []
others_for row from own (suc place) =
    others_for row from own place ++ cond (nat_eq place own) [] (record { stream = slice_index_or from place 0; values = row place } ∷ [])

-- what asks for a row: over one stream the row itself, over several those at all other places
abbrev pub asked_for : (ℕ → List ℤ) → List ℕ → ℕ → List Arrival
asked_for row from own = cond (nat_eq (length from) 1) (record { stream = slice_index_or from own 0; values = row own } ∷ []) (others_for row from own (length from))

-- the row of a number at a place, by a solution
abbrev pub row_of : Ground → List ℤ → ℕ → ℕ → List ℤ
row_of g xs number place = row_for g.attrs.now xs g.named (value_for g.low g.high number) place (blank_at g.blanks.now place)

-- the row of a number at its own place of FROM, and what asks for it, are those of a solution in which the named column has the number's value
pub record IsMember (g : Ground) (own number : ℕ) (xs row : List ℤ) (asked : List Arrival) : Type 0 where
  pub solved : IsSolvedAt g.bounds.now.attrs g.bounds.now.constraints g.node (target_for g.node (value_for g.low g.high number)) xs
  pub row_is : row ≡ row_of g xs number own
  pub asked_is : asked ≡ asked_for (row_of g xs number) g.from.now own

-- some solution gives this row, and what asks for it
pub record HasMember (g : Ground) (own number : ℕ) (row : List ℤ) (asked : List Arrival) : Type 0 where
  pub xs : List ℤ
  pub member : IsMember g own number xs row asked

-- so many rows were made, and what asks for each, each by a solution of its own
pub record AreMembers (g : Ground) (own n : ℕ) (rows : List (List ℤ)) (asking : List (List Arrival)) : Type 0 where
  pub all : List (List ℤ)
  pub solutions : length all ≡ n
  pub many : length rows ≡ n
  pub asked : length asking ≡ n
  pub each : (k : ℕ) → k < n → IsMember g own k (slice_index_or all k []) (slice_index_or rows k []) (slice_index_or asking k [])

-- these are the columns and streams of the query, the bounds of one of its parts, and the node of the named column
pub record IsGroundOf (q : QueryValue) (s : List Sign) (a : Attr) (g : Ground) : Type 0 where
  pub ground : IsGround g
  pub attrs_are : g.attrs.now ≡ attrs_of q.atoms
  pub from_is : g.from.now ≡ q.from
  pub named_is : g.named ≡ a
  pub constraints_are : g.bounds.now.constraints ≡ of_prefix q s
  pub node_is : Contains (attrs_of q.atoms) a → g.node ≡ suc (place_of (attrs_of q.atoms) a)

-- behind these rows the row of a number was added, and what asks for it
pub record AddsRow (g : Ground) (own number : ℕ) (rows : List (Items ℤ)) (asking : List (Items (ℕ × Items ℤ))) (more_rows : List (Items ℤ)) (more_asking : List (Items (ℕ × Items ℤ))) : Type 0 where
  pub row : Items ℤ
  pub asked : Items (ℕ × Items ℤ)
  pub rows_are : more_rows ≡ rows ++ row ∷ []
  pub asking_is : more_asking ≡ asking ++ asked ∷ []
  pub made : HasMember g own number row.items (arrivals asked.items)

-- the row of a number was added, and what asks for it; or there was no memory
abbrev pub AddsMember : Result Unit LowerError → Ground → ℕ → ℕ → List (Items ℤ) → List (Items (ℕ × Items ℤ)) → List (Items ℤ) → List (Items (ℕ × Items ℤ)) → Type 0
AddsMember (Ok done) g own number rows asking more_rows more_asking = AddsRow g own number rows asking more_rows more_asking
AddsMember (Err why.Memory) g own number rows asking more_rows more_asking = ⊤
AddsMember (Err why.Bounded) g own number rows asking more_rows more_asking = ⊥
AddsMember (Err why.C2) g own number rows asking more_rows more_asking = ⊥
AddsMember (Err why.C3) g own number rows asking more_rows more_asking = ⊥

-- so many rows were made, and what asks for each; or there was no memory
abbrev pub Fills : Result Unit LowerError → Ground → ℕ → ℕ → List (List ℤ) → List (List Arrival) → Type 0
Fills (Ok done) g own n rows asking = AreMembers g own n rows asking
Fills (Err why.Memory) g own n rows asking = ⊤
Fills (Err why.Bounded) g own n rows asking = ⊥
Fills (Err why.C2) g own n rows asking = ⊥
Fills (Err why.C3) g own n rows asking = ⊥

-- the node of a column, from 1, or 0 where it is none of the attributes
pub record IsNodeOf (attrs : List Attr) (a : Attr) (node : ℕ) : Type 0 where
  pub there : Contains attrs a → node ≡ suc (place_of attrs a)
  pub named : 0 < node → Contains attrs a
  pub within : node ≤ length attrs

-- the least value of a node but the first
abbrev pub IsLowEnd : List Constraint → ℕ → Option ℤ → Type 0
IsLowEnd cs node low = 0 < node → IsLowAnswer cs node low

-- the greatest value of a node but the first
abbrev pub IsHighEnd : List Constraint → ℕ → Option ℤ → Type 0
IsHighEnd cs node high = 0 < node → IsHighAnswer cs node high
