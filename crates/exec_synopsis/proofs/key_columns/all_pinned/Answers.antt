use Rattle.std.proofs.Common.{◌≡◌, ℕ, List, subst, sym, IfSome}
use Rattle.std.specs.Prelude.{Option, Some, slice_get}
use Rattle.exec_synopsis.specs.declared.key_columns.LookupKey.{LookupKey}
use Rattle.exec_synopsis.specs.Pinning.{IsPinned}
use Rattle.exec_synopsis.proofs.PrepareLaws.{pushed-get, pushed-length}
use Rattle.exec_synopsis.proofs.key_columns.all_pinned.Goals as goal

pub streams-preserved : goal.streams-preserved
streams-preserved c =
    let P : ℕ → Option LookupKey → Type 0 = λ i y. IfSome y (λ p. IsPinned c.args.part.now i p) in
    record {
      count = pushed-length c.streams.all.items c.first_pinned.result c.push.new.self.items c.streams.arriving c.in_ok-push.ensures.items c.streams.invariant.count;
      each = subst (λ (xs : List (Option LookupKey)). (i : ℕ) (y : Option LookupKey) → slice_get xs i ≡ Some y → P i y) (sym c.in_ok-push.ensures.items)
          (pushed-get P c.streams.all.items c.first_pinned.result c.streams.invariant.each (subst (λ n. P n c.first_pinned.result) (sym c.streams.invariant.count) c.first_pinned.ensures));
    }
