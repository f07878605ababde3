use Rattle.std.proofs.Common.{◌≡◌, ℕ, ◌<◌}
use Rattle.std.specs.Int.{bit_at}
use Rattle.exec_registry.proofs.concerned.all_of.Given as goal

abbrev pub invariant-loop-k : goal.invariant-loop-k
invariant-loop-k l = record {
  only : (i : ℕ) → bit_at l.word i ≡ 1 → i < l.k;
  all : (i : ℕ) → i < l.k → bit_at l.word i ≡ 1;
}
