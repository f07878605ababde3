use Rattle.std.proofs.Common.{◌≡◌, drop}
use Rattle.sem_query.specs.Combinations.{any_ties}
use Rattle.exec_synopsis.proofs.classes.any_ties.Given as goal

abbrev pub invariant-pairs : goal.invariant-pairs
invariant-pairs l = any_ties l.a l.b l.pairs l.signs ≡ any_ties l.a l.b (drop l.i l.pairs) (drop l.i l.signs)
