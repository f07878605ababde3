use Rattle.std.proofs.Common.{◌≡◌, ◌+◌, ◌*◌, ◌∷◌, ◌++◌, take, length, map, flat_map}
use Rattle.sql_parser.specs.Grammar.{comma, name_tokens}
use Rattle.sql_printer.specs.Pieces.{said}
use Rattle.sql_printer.proofs.pieces.put_more_names.Given as goal

abbrev pub invariant-loop-name : goal.invariant-loop-name
invariant-loop-name l = record {
  tokens : map said l.pieces.items ≡ map said l.fn.pieces.items ++ flat_map (λ x. comma ∷ name_tokens x) (take l.name-index l.names);
  room : length l.pieces.items ≡ length l.fn.pieces.items + 2 * l.name-index;
}
