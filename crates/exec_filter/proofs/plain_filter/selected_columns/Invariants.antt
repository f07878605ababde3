use Rattle.std.proofs.Common.{◌≡◌, ℤ, List, [], ◌∷◌, map, take, length}
use Rattle.sem_query.specs.Meaning.{by_column, assignment_of}
use Rattle.exec_filter.proofs.plain_filter.selected_columns.Given as goal

abbrev pub invariant-selected : goal.invariant-selected
invariant-selected l = record {
  count : length l.columns.items ≡ l.attr-index;
  value : (values : List ℤ) → map (assignment_of (values ∷ [])) (take l.attr-index l.select) ≡ map (by_column values) l.columns.items;
}
