use Rattle.std.proofs.Common.{◌≡◌, take}
use Rattle.sem_query.specs.Ranges.{different}
use Rattle.plan_whole_form.proofs.selected.different.Given as goal

abbrev pub invariant-columns : goal.invariant-columns
invariant-columns l = l.list.items ≡ different (take l.i l.columns)
