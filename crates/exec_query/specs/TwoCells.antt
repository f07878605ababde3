-- What the other of two cells tells of the answers to a row.
use Rattle.std.specs.Prelude.{ℤ, List, [], ◌∷◌, map}
use Rattle.sem_query.specs.declared.cell.Cell.{Cell}
use Rattle.sem_query.specs.declared.cell.Cell.TheVariants.{Empty, Count, Present, Extreme}
use Rattle.sem_query.specs.Combinations.{Found}
use Rattle.sem_query.specs.Meaning.{by_column}
use Rattle.exec_join.specs.Remaining.{as_found}
use Rattle.exec_point_lookup.specs.declared.direct.DirectLookup.{DirectLookup}

-- what the other cell tells of the answers to a row: there is none, or one tuple so many times
abbrev pub told_by : DirectLookup → List ℤ → Cell → List Found
told_by d row Empty = []
told_by d row (Count n) = as_found (map (by_column row) d.selected.items) n ∷ []
told_by d row Present = as_found (map (by_column row) d.selected.items) 1 ∷ []
told_by d row (Extreme z) = as_found (map (by_column row) d.selected.items) 1 ∷ []
