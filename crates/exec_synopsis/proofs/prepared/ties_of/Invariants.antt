use Rattle.std.proofs.Common.{◌≡◌, ◌≤◌, ◌||◌, length, drop}
use Rattle.std.specs.List.{list_any}
use Rattle.sem_query.specs.declared.atom.Attr.{Attr}
use Rattle.sem_query.specs.Combinations.{any_ties}
use Rattle.exec_synopsis.specs.Preparing.{joins}
use Rattle.exec_synopsis.proofs.prepared.ties_of.Given as goal

abbrev pub invariant-pairs : goal.invariant-pairs
invariant-pairs l = record {
  few : length l.ties.items ≤ l.i;
  so_far : (a b : Attr) → (list_any (joins a b) l.ties.items || any_ties a b (drop l.i l.pairs) (drop l.i l.signs)) ≡ any_ties a b l.pairs l.signs;
}
