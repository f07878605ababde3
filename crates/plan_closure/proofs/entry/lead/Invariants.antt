use Rattle.std.proofs.Common.{◌≡◌, length}
use Rattle.plan_closure.specs.Entries.{Leads}
use Rattle.plan_closure.proofs.entry.lead.Given as goal

abbrev pub invariant-loop-j : goal.invariant-loop-j
invariant-loop-j l = (length l.entries ≡ 169) × Leads l.fn.entries l.row l.right l.j l.head l.entries
