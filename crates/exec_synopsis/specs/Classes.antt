-- Columns of one class.
use Rattle.std.specs.Prelude.{◌||◌, Bool, List}
use Rattle.std.specs.List.{list_any}
use Rattle.sem_query.specs.declared.atom.Attr.{Attr}
use Rattle.sem_query.specs.declared.part.Pair.{Pair}
use Rattle.sem_query.specs.declared.plan.PartPlan.{PartPlan}
use Rattle.sem_query.specs.Query.{attr_eq}
use Rattle.sem_query.specs.Combinations.{any_ties, binds}

-- two columns of one class, by the signs of some pairs and by what else the part asks of rows of one stream
abbrev pub are_tied : List Pair → PartPlan → Attr → Attr → Bool
are_tied ps part a b = (attr_eq a b || any_ties a b ps part.signs.items) || list_any (binds a b) part.local
