use Rattle.std.proofs.Common.{◌≡◌, ◌-◌, ◌++◌, take}
use Rattle.std.specs.Prelude.{replicate}
use Rattle.sql_text.proofs.name.Name.read.Given as goal

-- the bytes copied, and zeros behind them
abbrev pub invariant-loop-i : goal.invariant-loop-i
invariant-loop-i l = l.bytes ≡ take l.i l.text ++ replicate (24 - l.i) 0
