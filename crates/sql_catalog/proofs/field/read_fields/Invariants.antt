use Rattle.std.proofs.Common.{◌≡◌, ◌≤◌, ◌++◌, length, ◌+◌, suc, cond, None}
use Rattle.std.specs.Option.{option_map, option_map_or}
use Rattle.sql_text.specs.Lines.{parts_behind}
use Rattle.sql_catalog.specs.Rows.{values_of}
use Rattle.sql_catalog.proofs.field.read_fields.Given as goal

-- the values so far and those of the fields that are left are those of all fields, where all so far are values
abbrev pub invariant-loop-rest : goal.invariant-loop-rest
invariant-loop-rest l = record {
  told : values_of (parts_behind 44 l.fields) ≡ cond l.all_values (option_map (λ vs. l.row.items ++ vs) (values_of (parts_behind 44 l.rest))) None;
  count : length l.row.items + length (parts_behind 44 l.rest) ≡ length (parts_behind 44 l.fields);
  few : length l.row.items ≤ l.width;
  width : l.width ≡ length l.columns;
}

abbrev pub decreases-loop-rest : goal.decreases-loop-rest
decreases-loop-rest l = option_map_or (λ r. suc (length r.now)) l.rest 0
