use Rattle.std.proofs.Common.{◌≡◌, true, take}
use Rattle.std.specs.List.{list_all}
use Rattle.sql_catalog.specs.Ends.{is_between}
use Rattle.sql_catalog.proofs.columns.are_between.Given as goal

-- the values so far lie between their ends
abbrev pub invariant-loop-ends : goal.invariant-loop-ends
invariant-loop-ends l = list_all (is_between l.values) (take l.ends-index l.fn.ends) ≡ true
