use Rattle.std.proofs.Common.{◌≡◌, ◌≤◌, ◌-◌, length, take}
use Rattle.plan_links.proofs.known.shared_signs.Given as goal

abbrev pub decreases-shared : goal.decreases-shared
decreases-shared l = length l.signs - l.i

abbrev pub invariant-shared : goal.invariant-shared
invariant-shared l = record { shared : take l.i l.signs ≡ take l.i l.others; few : l.i ≤ length l.others }
