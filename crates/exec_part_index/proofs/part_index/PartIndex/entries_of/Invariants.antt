use Rattle.std.proofs.Common.{◌≡◌, ℕ, length, slice_get, Some}
use Rattle.exec_part_index.specs.declared.part_entry.PartEntry.{PartEntry}
use Rattle.exec_part_index.specs.PartEntry.{IsPartEntry}
use Rattle.exec_part_index.proofs.part_index.PartIndex.entries_of.Given as goal

abbrev pub invariant-parts : goal.invariant-parts
invariant-parts l = record {
  many : length l.entries.items ≡ l.i;
  each : (k : ℕ) (entry : PartEntry) → slice_get l.entries.items k ≡ Some entry → IsPartEntry l.parts l.place l.self.codes.items l.self.links.items l.self.spans.items k entry;
}
