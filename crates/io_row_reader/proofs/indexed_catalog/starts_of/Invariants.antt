use Rattle.io_row_reader.specs.Indexed.{LeadToOpen}
use Rattle.io_row_reader.proofs.indexed_catalog.starts_of.Given as goal

abbrev pub invariant-loop-number : goal.invariant-loop-number
invariant-loop-number l = LeadToOpen l.starts l.opened
