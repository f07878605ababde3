use Rattle.std.proofs.Common.{◌∙◌}
use Rattle.adv_mends.proofs.Halving.{narrowed_none, narrowed_more, listed-halvings}
use Rattle.adv_mends.proofs.narrowing.narrowings.Goals as goal

pub columns-init : goal.columns-init
columns-init c = rw c.new-best.ensures.items (narrowed_none c.args.shared c.args.query.now c.args.own)

pub add_first-requires : goal.add_first-requires
add_first-requires c =
    listed-halvings c.args.query.now c.attrs-column-items.result.now _ c.columns.column-index _ c.attrs-column-items.ensures.value c.columns-test.true (c.as_slice.ensures.value ∙ c.halvings_of.ensures)

pub columns-preserved : goal.columns-preserved
columns-preserved c =
    narrowed_more c.args.shared c.args.query.now c.args.own c.attrs-column-items.result.now _ c.columns.column-index _ c.columns.best.items c.add_first.new.best.items c.columns-test.true
    (c.as_slice.ensures.value ∙ c.halvings_of.ensures) c.columns.invariant c.in_ok-add_first.ensures
