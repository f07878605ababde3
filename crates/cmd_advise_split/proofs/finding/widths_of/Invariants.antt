use Rattle.std.proofs.Common.{◌≡◌, take}
use Rattle.cmd_advise_split.specs.State.{widths_of}
use Rattle.cmd_advise_split.proofs.finding.widths_of.Given as goal

-- the widths of the streams so far
abbrev pub invariant-loop-number : goal.invariant-loop-number
invariant-loop-number l = l.widths.items ≡ widths_of (take l.number l.catalog)
