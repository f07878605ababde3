use Rattle.std.proofs.Common.{◌≡◌, ℕ, ◌∙◌, subst, sym, ap, List, ◌||◌, position}
use Rattle.std.specs.Prelude.{Option, Some, slice_get}
use Rattle.std.specs.List.{list_any}
use Rattle.sem_query.specs.declared.atom.Attr.{Attr}
use Rattle.sem_query.specs.Query.{attr_eq}
use Rattle.sem_query.specs.Combinations.{binds}
use Rattle.sem_query.specs.Plan.{dims_at}
use Rattle.exec_synopsis.specs.Preparing.{class_of, joins}
use Rattle.exec_synopsis.proofs.PrepareLaws.{pushed-get, pushed-length}
use Rattle.exec_synopsis.proofs.prepared.classes_at.Goals as goal

pub columns-preserved : goal.columns-preserved
columns-preserved c =
    let P : ℕ → Option ℕ → Type 0 = λ i y. y ≡ class_of c.args.pairs.now c.args.part.now (record { stream = c.args.stream; column = i }) in
    let a : Attr = record { stream = c.args.stream; column = c.columns.column } in
    let is : c.class_among.result ≡ class_of c.args.pairs.now c.args.part.now a =
    c.class_among.ensures
    ∙ ap (position (λ d. (attr_eq d.attr a || list_any (joins d.attr a) c.args.ties.now) || list_any (binds d.attr a) c.as_slice-local.result.now)) (c.dims_at-dims.ensures.value ∙ ap (dims_at c.args.part.now) c.from.ensures)
    ∙ (λ k. position (λ d. (attr_eq d.attr a || c.requires d.attr a k) || list_any (binds d.attr a) (c.as_slice-local.ensures k)) (dims_at c.args.part.now c.args.stream)) in
    record {
      count = pushed-length c.columns.classes.items c.class_among.result c.push.new.self.items c.columns.column c.push.ensures.items c.columns.invariant.count;
      each = subst (λ (xs : List (Option ℕ)). (i : ℕ) (y : Option ℕ) → slice_get xs i ≡ Some y → P i y) (sym c.push.ensures.items)
          (pushed-get P c.columns.classes.items c.class_among.result c.columns.invariant.each (subst (λ n. P n c.class_among.result) (sym c.columns.invariant.count) is));
    }
