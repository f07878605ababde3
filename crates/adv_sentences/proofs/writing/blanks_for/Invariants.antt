use Rattle.std.proofs.Common.{◌≡◌, ◌≤◌, length, map, take}
use Rattle.adv_sentences.specs.Texts.{blank_for}
use Rattle.adv_sentences.proofs.writing.blanks_for.Given as goal

abbrev pub invariant-loop-byte : goal.invariant-loop-byte
invariant-loop-byte l = record {
  so_far : l.blanks.items ≡ map blank_for (take l.byte-index l.front);
  room : length l.blanks.items ≤ l.byte-index;
}
