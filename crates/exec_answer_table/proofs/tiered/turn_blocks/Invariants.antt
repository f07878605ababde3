use Rattle.std.proofs.Common.{◌≡◌, ◌≤◌, ◌*◌, ◌/◌, ℕ, get_or}
use Rattle.exec_answer_table.specs.Tiers.{number_at, Shifted}
use Rattle.exec_answer_table.proofs.tiered.turn_blocks.Given as goal

abbrev pub invariant-loop-block : goal.invariant-loop-block
invariant-loop-block l = record {
  own : (block : ℕ) → get_or l.fn.heads block 0 / 256 ≡ block → get_or l.heads block 0 / 256 ≡ block;
  others : (block : ℕ) → l.block ≤ block → get_or l.heads block 0 ≡ get_or l.fn.heads block 0;
  shifted : Shifted (number_at l.fn.numbers l.fn.heads) (number_at l.numbers l.heads) (l.from * 256) (l.block * 256) l.number l.carried;
}
