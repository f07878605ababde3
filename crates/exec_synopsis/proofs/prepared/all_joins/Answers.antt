use Rattle.std.proofs.Common.{◌≡◌, ℕ, List, subst, sym, IfSome}
use Rattle.std.specs.Prelude.{Option, Some, slice_get}
use Rattle.exec_synopsis.specs.declared.join_lookup.JoinLookup.{JoinLookup}
use Rattle.exec_synopsis.specs.Joining.{IsJoinLookup}
use Rattle.exec_synopsis.proofs.PrepareLaws.{pushed-get, pushed-length}
use Rattle.exec_synopsis.proofs.prepared.all_joins.Goals as goal

pub streams-preserved : goal.streams-preserved
streams-preserved c =
    let P : ℕ → Option JoinLookup → Type 0 = λ i y. IfSome y (λ p. IsJoinLookup c.args.pairs.now c.args.part.now i p) in
    record {
      count = pushed-length c.streams.all.items c.join_lookup_at.result c.push.new.self.items c.streams.arriving c.in_ok-push.ensures.items c.streams.invariant.count;
      each = subst (λ (xs : List (Option JoinLookup)). (i : ℕ) (y : Option JoinLookup) → slice_get xs i ≡ Some y → P i y) (sym c.in_ok-push.ensures.items)
          (pushed-get P c.streams.all.items c.join_lookup_at.result c.streams.invariant.each (subst (λ n. P n c.join_lookup_at.result) (sym c.streams.invariant.count) c.join_lookup_at.ensures));
    }
