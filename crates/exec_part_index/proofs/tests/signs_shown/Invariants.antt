use Rattle.std.proofs.Common.{◌≡◌, length, take}
use Rattle.exec_part_index.specs.Showing.{pairs_tested, IsShownBy}
use Rattle.exec_part_index.proofs.tests.signs_shown.Given as goal

abbrev pub invariant-tests : goal.invariant-tests
invariant-tests l = record {
  count : length l.signs.items ≡ l.test-index;
  shown : IsShownBy l.q l.place (pairs_tested (take l.test-index l.tests)) l.part l.signs;
}
