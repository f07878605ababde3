use Rattle.std.proofs.Common.{◌≡◌, ◌≤◌, length}
use Rattle.fam_fooling_sets.specs.Members.{row_for, blank_at, others_for}
use Rattle.fam_fooling_sets.specs.Shown.{arrivals}
use Rattle.fam_fooling_sets.proofs.point.others.Given as goal

abbrev pub invariant-loop-place : goal.invariant-loop-place
invariant-loop-place l =
    (arrivals l.list.items
    ≡ others_for (λ place. row_for l.point.ground.now.attrs.now l.point.values.now l.point.ground.now.named l.point.value place (blank_at l.point.ground.now.blanks.now place)) l.point.ground.now.from.now l.own l.place)
    × (length l.list.items ≤ l.place)
