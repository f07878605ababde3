use Rattle.std.proofs.Common.{◌≡◌, ℕ, map, take, length}
use Rattle.std.specs.Prelude.{Some}
use Rattle.exec_synopsis.specs.Joining.{told_column}
use Rattle.exec_point_lookup.proofs.direct.told_columns.Given as goal

abbrev pub invariant-selected : goal.invariant-selected
invariant-selected l = record {
  count : length l.columns.items ≡ l.a-index;
  told : map (told_column l.listed.told.items l.listed.place l.pos) (take l.a-index l.select) ≡ map (λ (c : ℕ). Some c) l.columns.items;
}
