-- What is made for a query.
use Rattle.std.specs.Prelude.{◌≢◌, ℕ, ◌+◌, ◌*◌, ◌<◌, ◌⊎◌, List, length, All, AllPairs, Result, Ok, Err}
use Rattle.sem_query.specs.declared.part.Sign.{Sign}
use Rattle.sem_query.specs.Query.{QueryValue}
use Rattle.sem_query.specs.Parts.{HasMoreParts}
use Rattle.sem_query.specs.Prefixes.{IsFeasible}
use Rattle.plan_split_pairs.specs.Pairs.{HasManyPairs}
use Rattle.plan_split_pairs.specs.SplitParts.{HasMoreSplitParts}
use Rattle.plan_split_parts.specs.Fronts.{IsFront}
use Rattle.cert_format.specs.declared.line.Line.{Line}
use Rattle.cert_format.specs.Nodes.{nodes_of}
use Rattle.cert_checker.specs.declared.shown.Shown.{Shown}
use Rattle.cert_checker.specs.Branching.{Branching, plain_branching, split_branching}
use Rattle.cert_checker.specs.Shown.{branching_of}
use Rattle.cert_checker.specs.Reading.{IsGood}
use Rattle.cert_maker.specs.declared.error.MakeError.{MakeError}
use Rattle.cert_maker.specs.declared.error.MakeError.TheVariants as why

-- a part may begin with these signs, by what says so, and some pairs have none
pub record IsOpen (b : Branching) (Front : List Sign → Type 0) (signs : List Sign) : Type 0 where
  pub left : length signs < length b.pairs
  pub front : Front signs

-- a tree has more than n nodes: the root, and three below each open list of signs
pub record HasMoreNodes (b : Branching) (Front : List Sign → Type 0) (n : ℕ) : Type 0 where
  pub some : List (List Sign)
  pub differ : AllPairs (λ s t. s ≢ t) some
  pub each : All (IsOpen b Front) some
  pub more : n < 1 + 3 * length some

-- the form of the query has too many parts for a certificate, or too many nodes
abbrev pub IsTooLarge : Shown → QueryValue → Type 0
IsTooLarge Shown.Plain q = HasMoreParts q 4096 ⊎ HasMoreNodes (plain_branching q) (IsFeasible q) 262144
IsTooLarge Shown.Whole q = ⊥
IsTooLarge Shown.Split q = HasManyPairs q ⊎ (HasMoreSplitParts q 4096 ⊎ HasMoreNodes (split_branching q) (λ s. IsFront q (length s) s) 262144)

-- what making a certificate comes to: one that is good; or the form is too large; or there is no memory
abbrev pub Makes : Shown → QueryValue → Result (List Line) MakeError → Type 0
Makes s q (Ok lines) = IsGood (branching_of s q) (nodes_of lines) × (¬ IsTooLarge s q)
Makes s q (Err why.Limit) = IsTooLarge s q
Makes s q (Err why.Memory) = Unit {0}
