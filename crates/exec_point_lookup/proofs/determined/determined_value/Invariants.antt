use Rattle.exec_point_lookup.proofs.determined.determined_value.Given as goal

abbrev pub invariant-links : goal.invariant-links
invariant-links l = Unit {0}
