use Rattle.std.proofs.Common.{◌≡◌, ◌<◌, ◌≤◌, ◌*◌, ◌/◌, ℕ, get_or}
use Rattle.exec_answer_table.proofs.tiered.clear_heads.Given as goal

abbrev pub invariant-loop-block : goal.invariant-loop-block
invariant-loop-block l = record {
  cleared : (block : ℕ) → block < l.block → get_or l.heads block 0 ≡ get_or l.fn.heads block 0 / 256 * 256;
  others : (block : ℕ) → l.block ≤ block → get_or l.heads block 0 ≡ get_or l.fn.heads block 0;
}
