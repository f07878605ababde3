use Rattle.std.proofs.Common.{◌≡◌, ◌≤◌, take, length, map, String}
use Rattle.std.specs.String.{string_bytes}
use Rattle.std.specs.declared.alloc.Global.{Global}
use Rattle.cmd_feeds.specs.Gates.{gate_of}
use Rattle.cmd_feeds.proofs.gates.gates_in.Given as goal

abbrev pub invariant-loop-word : goal.invariant-loop-word
invariant-loop-word l = record {
  made : l.gates.items ≡ map (λ (word : String Global). gate_of l.lock l.session.streams (string_bytes word)) (take l.word-index l.words);
  few : length l.gates.items ≤ l.word-index;
}
