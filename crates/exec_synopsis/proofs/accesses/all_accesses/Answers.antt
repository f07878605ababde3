use Rattle.std.proofs.Common.{◌≡◌, ℕ, subst, sym, List, get_or, []}
use Rattle.std.specs.Prelude.{Some, slice_get}
use Rattle.arrayvec.specs.ArrayVec.{ArrayVec}
use Rattle.exec_synopsis.specs.declared.accesses.PlaceAccess.{PlaceAccess}
use Rattle.exec_synopsis.specs.Pinning.{IsWhole}
use Rattle.exec_synopsis.proofs.Lookups.{none-is}
use Rattle.exec_synopsis.proofs.PrepareLaws.{pushed-or, pushed-length}
use Rattle.exec_synopsis.proofs.accesses.all_accesses.Goals as goal

pub streams-preserved : goal.streams-preserved
streams-preserved c =
    let P : ℕ → ArrayVec PlaceAccess → Type 0 = λ i t. (place : ℕ) (access : PlaceAccess) → slice_get t.items place ≡ Some access → access ≡ PlaceAccess.Scan → IsWhole c.args.part.now i place in
    let none : ArrayVec PlaceAccess = record { items = [] } in
    record {
      count = pushed-length c.streams.all.items c.accesses_at.result c.push.new.self.items c.streams.arriving c.push.ensures.items c.streams.invariant.count;
      each = subst (λ (xs : List (ArrayVec PlaceAccess)). (i : ℕ) → P i (get_or xs i none)) (sym c.push.ensures.items)
          (pushed-or P none c.streams.all.items c.accesses_at.result (λ i place access e. absurd (none-is access e)) c.streams.invariant.each (subst (λ n. P n c.accesses_at.result) (sym c.streams.invariant.count) c.accesses_at.ensures));
    }
