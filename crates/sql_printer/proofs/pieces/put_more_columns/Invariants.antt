use Rattle.std.proofs.Common.{◌≡◌, ◌+◌, ◌*◌, ◌∷◌, ◌++◌, take, length, map, flat_map}
use Rattle.sql_parser.specs.Grammar.{comma, column_tokens}
use Rattle.sql_printer.specs.Pieces.{said}
use Rattle.sql_printer.proofs.pieces.put_more_columns.Given as goal

abbrev pub invariant-loop-column : goal.invariant-loop-column
invariant-loop-column l = record {
  tokens : map said l.pieces.items ≡ map said l.fn.pieces.items ++ flat_map (λ x. comma ∷ column_tokens x) (take l.column-index l.columns);
  room : length l.pieces.items ≡ length l.fn.pieces.items + 4 * l.column-index;
}
