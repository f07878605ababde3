use Rattle.std.proofs.Common.{◌≡◌, ◌+◌, ◌*◌, ◌<◌, ◌≤◌, ℕ, length, drop, map}
use Rattle.sem_query.specs.Boxes.{box_size, place_of, values_at}
use Rattle.exec_ranges.proofs.lines.line_of.Given as goal

abbrev pub invariant-dims : goal.invariant-dims
invariant-dims l = record {
  within : l.i ≤ length l.dims;
  combinations : l.combinations ≡ box_size (drop l.i l.dims);
  size : l.size ≡ box_size (drop l.i l.full);
  first : l.first ≡ l.base + place_of (drop l.i l.full) (map (λ d. d.lo) (drop l.i l.dims));
  line : (i : ℕ) → i < box_size (drop l.i l.dims) → l.base + place_of (drop l.i l.full) (values_at (drop l.i l.dims) i) ≡ l.first + i * l.stride;
}

abbrev pub decreases-dims : goal.decreases-dims
decreases-dims l = l.i
