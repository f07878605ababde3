use Rattle.std.proofs.Common.{sym, ◌∙◌}
use Rattle.adv_key_choices.proofs.Passes.{passed-same, least-same, least-left}
use Rattle.adv_key_choices.proofs.least.least_choices.Goals as goal

pub returns : goal.returns
returns c =
    least-same c.args.queries.now c.args.widths.now _ _ (sym c.reverse-2.ensures.items)
    (least-left c.args.queries.now c.args.widths.now c.in_ok-exact.exact.items c.in_ok-kept.kept.items c.in_ok-least.least.items c.in_ok-exact.ensures
    (passed-same c.args.queries.now _ _ _ c.as_slice.ensures.value c.in_ok-kept.ensures)
    (passed-same c.args.queries.now _ _ _ (c.as_slice-2.ensures.value ∙ c.reverse.ensures.items) c.in_ok-least.ensures))
