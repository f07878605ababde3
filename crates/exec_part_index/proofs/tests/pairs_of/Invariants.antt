use Rattle.std.proofs.Common.{◌≡◌, take}
use Rattle.exec_part_index.specs.Showing.{pairs_tested}
use Rattle.exec_part_index.proofs.tests.pairs_of.Given as goal

abbrev pub invariant-tests : goal.invariant-tests
invariant-tests l = l.pairs.items ≡ pairs_tested (take l.test-index l.tests)
