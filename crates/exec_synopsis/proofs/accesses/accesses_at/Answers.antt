use Rattle.std.proofs.Common.{◌≡◌, ℕ, List, subst, sym}
use Rattle.std.specs.Prelude.{Some, slice_get}
use Rattle.exec_synopsis.specs.declared.accesses.PlaceAccess.{PlaceAccess}
use Rattle.exec_synopsis.specs.Pinning.{IsWhole}
use Rattle.exec_synopsis.proofs.PrepareLaws.{pushed-get, pushed-length}
use Rattle.exec_synopsis.proofs.accesses.accesses_at.Goals as goal

pub places-preserved : goal.places-preserved
places-preserved c =
    let P : ℕ → PlaceAccess → Type 0 = λ i y. y ≡ PlaceAccess.Scan → IsWhole c.args.part.now c.args.arriving i in
    record {
      count = pushed-length c.places.places.items c.access_at.result c.push.new.self.items c.places.place c.push.ensures.items c.places.invariant.count;
      each = subst (λ (xs : List PlaceAccess). (i : ℕ) (y : PlaceAccess) → slice_get xs i ≡ Some y → P i y) (sym c.push.ensures.items)
          (pushed-get P c.places.places.items c.access_at.result c.places.invariant.each (subst (λ n. P n c.access_at.result) (sym c.places.invariant.count) c.access_at.ensures));
    }
