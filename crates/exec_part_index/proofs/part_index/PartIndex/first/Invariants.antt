use Rattle.std.proofs.Common.{◌≡◌, drop}
use Rattle.sem_query.specs.Meaning.{by_column}
use Rattle.exec_part_index.specs.PartIndex.{signs_at, code_after}
use Rattle.exec_part_index.proofs.part_index.PartIndex.first.Given as goal

abbrev pub invariant-tests : goal.invariant-tests
invariant-tests l = code_after l.code (signs_at (by_column l.values) (drop l.pair-index l.tested)) ≡ code_after 0 (signs_at (by_column l.values) l.tested)
