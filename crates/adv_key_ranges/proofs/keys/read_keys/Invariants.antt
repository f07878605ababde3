use Rattle.std.proofs.Common.{◌≡◌, ◌≤◌, take, length}
use Rattle.std.specs.List.{flat_map, range_with_len}
use Rattle.adv_key_decision.specs.Judged.{by_stream}
use Rattle.adv_key_ranges.specs.Keys.{read_key_at}
use Rattle.adv_key_ranges.proofs.keys.read_keys.Given as goal

-- the keys so far
abbrev pub invariant-loop-place : goal.invariant-loop-place
invariant-loop-place l = record {
  is : l.list.items ≡ flat_map (read_key_at l.query (by_stream l.choice)) (take l.place (range_with_len 0 (length l.query.from)));
  few : length l.list.items ≤ l.place;
}
