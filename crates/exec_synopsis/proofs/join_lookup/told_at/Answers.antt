use Rattle.std.proofs.Common.{◌≡◌, ◌∙◌, ℕ, List, subst, sym, ap, get_or}
use Rattle.std.specs.Prelude.{Option, Some, None, slice_get}
use Rattle.exec_synopsis.specs.Joining.{column_at, class_at}
use Rattle.exec_synopsis.proofs.Lookups.{get-there}
use Rattle.exec_synopsis.proofs.PrepareLaws.{pushed-get, pushed-length}
use Rattle.exec_synopsis.proofs.join_lookup.told_at.Goals as goal

pub classes-preserved : goal.classes-preserved
classes-preserved c =
    let P : ℕ → Option ℕ → Type 0 = λ i y. (n : ℕ) → y ≡ Some n → column_at c.args.keys.now (class_at c.args.pairs.now c.args.part.now c.args.place i) ≡ Some n in
    let class : Option ℕ = get_or c.args.classes.now c.classes.class-index None in
    let own : class ≡ class_at c.args.pairs.now c.args.part.now c.args.place c.classes.class-index
    = c.requires.classes c.classes.class-index class (get-there c.args.classes.now c.classes.class-index None c.classes-test.true) in
    let here : P c.classes.class-index c.column_at.result = λ n e. ap (column_at c.args.keys.now) (sym own) ∙ sym c.column_at.ensures ∙ e in
    record {
      count = pushed-length c.classes.told.items c.column_at.result c.push.new.self.items c.classes.class-index c.push.ensures.items c.classes.invariant.count;
      each = subst (λ (xs : List (Option ℕ)). (i : ℕ) (y : Option ℕ) → slice_get xs i ≡ Some y → P i y) (sym c.push.ensures.items)
          (pushed-get P c.classes.told.items c.column_at.result c.classes.invariant.each (subst (λ n. P n c.column_at.result) (sym c.classes.invariant.count) here));
    }
