use Rattle.std.proofs.Common.{◌≡◌, ◌-◌, ◌<◌, ◌≤◌, length, take}
use Rattle.io_row_reader.proofs.row_ahead.named_len.Given as goal

-- so many bytes of text and name agree, and there are more of the text
abbrev pub invariant-comparing : goal.invariant-comparing
invariant-comparing l = record {
  same : take l.place l.text ≡ take l.place l.name;
  whole : l.place ≤ length l.name;
  within : l.place < length l.text;
}

abbrev pub decreases-comparing : goal.decreases-comparing
decreases-comparing l = length l.name - l.place
