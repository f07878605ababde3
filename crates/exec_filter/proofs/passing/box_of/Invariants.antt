use Rattle.std.proofs.Common.{◌≡◌, ℕ, ℤ, true, take}
use Rattle.std.specs.List.{list_all}
use Rattle.exec_filter.specs.Prefilter.{is_within}
use Rattle.exec_filter.specs.Passing.{AreHeld}
use Rattle.exec_filter.proofs.passing.box_of.Given as goal

abbrev pub invariant-loop-range : goal.invariant-loop-range
invariant-loop-range l = (v : ℕ → ℤ) → is_within v l.stream_filter.first ≡ true → list_all (is_within v) (take l.range-index l.stream_filter.others.items) ≡ true → AreHeld l.own v
