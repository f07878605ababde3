use Rattle.std.proofs.Common.{◌≡◌, ℕ, List, slice_get, Some, sym, subst}
use Rattle.exec_part_index.specs.declared.part_entry.PartEntry.{PartEntry}
use Rattle.exec_synopsis.proofs.PrepareLaws.{pushed-length}
use Rattle.exec_part_index.specs.PartEntry.{IsPartEntry}
use Rattle.exec_part_index.proofs.Shifting.{entries_more}
use Rattle.exec_part_index.proofs.part_index.PartIndex.entries_of.Goals as goal

pub parts-preserved : goal.parts-preserved
parts-preserved c =
    let P : ℕ → PartEntry → Type 0 = λ k e. IsPartEntry c.args.parts.now c.args.place c.args.self.now.codes.items c.args.self.now.links.items c.args.self.now.spans.items k e in
    record {
      many = pushed-length c.parts.entries.items c.entry_at.result c.push.new.self.items c.parts.i c.in_ok-push.ensures.items c.parts.invariant.many;
      each = subst (λ (xs : List PartEntry). (k : ℕ) (e : PartEntry) → slice_get xs k ≡ Some e → P k e) (sym c.in_ok-push.ensures.items)
          (entries_more c.args.parts.now c.args.place c.args.self.now.codes.items c.args.self.now.links.items c.args.self.now.spans.items c.parts.entries.items c.entry_at.result c.parts.invariant.each
          (subst (λ n. P n c.entry_at.result) (sym c.parts.invariant.many) c.entry_at.ensures));
    }
