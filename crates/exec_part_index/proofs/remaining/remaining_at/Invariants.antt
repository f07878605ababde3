use Rattle.std.proofs.Common.{◌≡◌, ◌≤◌, length, All}
use Rattle.exec_part_index.specs.Span.{IsSpan}
use Rattle.exec_part_index.specs.PartIndex.{code_after}
use Rattle.exec_part_index.specs.Showing.{shown_signs}
use Rattle.exec_part_index.proofs.RemainingLaws.{AreListed}
use Rattle.exec_part_index.proofs.remaining.remaining_at.Given as goal

abbrev pub invariant-parts : goal.invariant-parts
invariant-parts l = record {
  below : l.i ≤ length l.parts;
  many : length l.spans.items ≡ length l.parts;
  within : All (IsSpan (length l.conditions.items)) l.spans.items;
  listed : AreListed l.q l.parts l.place l.tested.pairs.items (λ k. code_after 0 (shown_signs l.tested k)) l.i l.conditions.items l.spans.items;
}

abbrev pub decreases-parts : goal.decreases-parts
decreases-parts l = l.i
