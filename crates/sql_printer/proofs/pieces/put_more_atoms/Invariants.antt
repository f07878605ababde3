use Rattle.std.proofs.Common.{◌≡◌, ◌≤◌, ◌+◌, ◌*◌, ◌∷◌, ◌++◌, take, length, map, flat_map}
use Rattle.sql_text.specs.declared.key.Key.TheVariants.{AndKey}
use Rattle.sql_parser.specs.Grammar.{key, atom_tokens}
use Rattle.sql_printer.specs.Pieces.{said}
use Rattle.sql_printer.proofs.pieces.put_more_atoms.Given as goal

abbrev pub invariant-loop-atom : goal.invariant-loop-atom
invariant-loop-atom l = record {
  tokens : map said l.pieces.items ≡ map said l.fn.pieces.items ++ flat_map (λ a. key AndKey ∷ atom_tokens a) (take l.atom-index l.atoms);
  room : length l.pieces.items ≤ length l.fn.pieces.items + 8 * l.atom-index;
}
