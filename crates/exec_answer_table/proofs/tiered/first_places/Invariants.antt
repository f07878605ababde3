use Rattle.std.proofs.Common.{◌≡◌, ◌<◌, ◌*◌, ℕ, length, get_or}
use Rattle.exec_answer_table.proofs.tiered.first_places.Given as goal

abbrev pub invariant-loop-made : goal.invariant-loop-made
invariant-loop-made l = record {
  so_far : length l.heads.items ≡ l.made;
  first : (block : ℕ) → block < l.made → get_or l.heads.items block 0 ≡ block * 256;
}
