use Rattle.std.proofs.Common.{map}
use Rattle.sql_printer.specs.Pieces.{said}
use Rattle.sql_printer.proofs.PieceLists.{atoms_added}
use Rattle.sql_printer.proofs.pieces.put_atoms.Goals as goal

pub returns-in-len1-up-clause-tokens : goal.returns-in-len1-up-clause-tokens
returns-in-len1-up-clause-tokens c = atoms_added c.args.atoms.now c.first-item.result (map said c.args.pieces.now.items) _ _ _ c.in-len1-up.len_at_least c.first-item.is c.put_key.ensures.tokens c.put_atom.ensures.tokens c.put_more_atoms.ensures.tokens
