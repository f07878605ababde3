use Rattle.std.proofs.Common.{◌≡◌, ℕ, List, slice_get, Some, sym, subst}
use Rattle.exec_synopsis.proofs.PrepareLaws.{pushed-get, pushed-length}
use Rattle.exec_part_index.specs.declared.part_index.PartIndex.{PartIndex}
use Rattle.exec_part_index.specs.PartIndex.{IsPartIndex}
use Rattle.exec_part_index.proofs.prepared.index_parts.Goals as goal

pub places-preserved : goal.places-preserved
places-preserved c =
    let P : ℕ → PartIndex → Type 0 = λ place x. IsPartIndex c.args.q.now c.args.parts.now place x in
    let own : IsPartIndex c.args.q.now c.args.parts.now c.places.place c.in_ok-part_index_at.field-0 = c.in_ok-part_index_at.ensures in
    record {
      many = pushed-length c.places.all.items c.in_ok-part_index_at.field-0 c.push.new.self.items c.places.place c.in_ok-push.ensures.items c.places.invariant.many;
      part_index = subst (λ (xs : List PartIndex). (place : ℕ) (x : PartIndex) → slice_get xs place ≡ Some x → P place x) (sym c.in_ok-push.ensures.items)
          (pushed-get P c.places.all.items c.in_ok-part_index_at.field-0 c.places.invariant.part_index (subst (λ m. P m c.in_ok-part_index_at.field-0) (sym c.places.invariant.many) own));
    }
