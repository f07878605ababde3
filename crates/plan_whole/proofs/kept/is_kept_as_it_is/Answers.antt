use Rattle.plan_whole.proofs.Following.{or_then, or_else}
use Rattle.plan_whole.proofs.Asking.{named_as_it_is, as_it_is_told}
use Rattle.plan_whole.proofs.kept.is_kept_as_it_is.Goals as goal

pub returns-then-is_selected_or_equated : goal.returns-then-is_selected_or_equated
returns-then-is_selected_or_equated c = or_then c.is_selected_or_equated.result (named_as_it_is c.args.closed.now c.args.links.now c.args.a) c.is_selected_or_equated.ensures c.if-is_selected_or_equated.true

pub returns-else-is_selected_or_equated : goal.returns-else-is_selected_or_equated
returns-else-is_selected_or_equated c =
    or_else c.is_selected_or_equated.result c.has_equal_across.result
    (as_it_is_told c.args.closed.now c.args.links.now c.args.a c.is_selected_or_equated.result c.has_equal_across.result c.is_selected_or_equated.ensures c.has_equal_across.ensures)
    c.if-is_selected_or_equated.false
