use Rattle.std.proofs.Common.{◌≡◌, ◌≤◌, take, length}
use Rattle.adv_diagnosis.specs.Counted.{integers_at}
use Rattle.adv_diagnosis.proofs.passing.values_at.Given as goal

abbrev pub invariant-loop-token : goal.invariant-loop-token
invariant-loop-token l = record {
  so_far : l.values.items ≡ integers_at l.line (take l.token-index l.tokens);
  room : length l.values.items ≤ l.token-index;
}
