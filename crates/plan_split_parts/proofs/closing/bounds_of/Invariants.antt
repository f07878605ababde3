use Rattle.std.proofs.Common.{◌≡◌, ℕ, ◌<◌, None, length, get_or}
use Rattle.plan_split_parts.specs.Closing.{IsBoundFor}
use Rattle.plan_split_parts.proofs.closing.bounds_of.Given as goal

abbrev pub invariant-loop-place : goal.invariant-loop-place
invariant-loop-place l = record {
  long : length l.bounds ≡ 169;
  told : (k : ℕ) → k < l.place → IsBoundFor l.distances k (get_or l.bounds k None);
}
