use Rattle.std.proofs.Common.{◌≡◌, length}
use Rattle.exec_part_index.specs.Showing.{AreAskings}
use Rattle.exec_part_index.proofs.tests.askings_of.Given as goal

abbrev pub invariant-pairs : goal.invariant-pairs
invariant-pairs l = record {
  many : length l.askings.items ≡ l.pair-index;
  are : AreAskings l.pairs l.place l.tested l.askings.items;
}
