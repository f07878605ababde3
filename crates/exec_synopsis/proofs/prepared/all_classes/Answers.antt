use Rattle.std.proofs.Common.{◌≡◌, ℕ, subst, sym, List, get_or, []}
use Rattle.std.specs.Prelude.{Option, Some, slice_get}
use Rattle.arrayvec.specs.ArrayVec.{ArrayVec}
use Rattle.exec_synopsis.specs.Preparing.{class_of}
use Rattle.exec_synopsis.proofs.Lookups.{none-is}
use Rattle.exec_synopsis.proofs.PrepareLaws.{pushed-or, pushed-length}
use Rattle.exec_synopsis.proofs.prepared.all_classes.Goals as goal

pub streams-preserved : goal.streams-preserved
streams-preserved c =
    let P : ℕ → ArrayVec (Option ℕ) → Type 0 = λ i t. (column : ℕ) (class : Option ℕ) → slice_get t.items column ≡ Some class → class ≡ class_of c.args.pairs.now c.args.part.now (record { stream = i; column = column }) in
    let none : ArrayVec (Option ℕ) = record { items = [] } in
    record {
      count = pushed-length c.streams.classes.items c.classes_at.result c.push.new.self.items c.streams.stream c.push.ensures.items c.streams.invariant.count;
      each = subst (λ (xs : List (ArrayVec (Option ℕ))). (i : ℕ) → P i (get_or xs i none)) (sym c.push.ensures.items)
          (pushed-or P none c.streams.classes.items c.classes_at.result (λ i column class e. absurd (none-is class e)) c.streams.invariant.each (subst (λ n. P n c.classes_at.result) (sym c.streams.invariant.count) c.classes_at.ensures));
    }
