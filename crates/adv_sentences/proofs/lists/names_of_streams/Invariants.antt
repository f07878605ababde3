use Rattle.std.proofs.Common.{◌≡◌, ◌≤◌, length, take}
use Rattle.adv_sentences.specs.Sentences.{stream_names}
use Rattle.adv_sentences.proofs.lists.names_of_streams.Given as goal

abbrev pub invariant-loop-stream : goal.invariant-loop-stream
invariant-loop-stream l = record {
  so_far : l.names.items ≡ stream_names (take l.stream l.catalog);
  room : length l.names.items ≤ l.stream;
}
