use Rattle.std.proofs.Common.{List, Option, sym, ap, ◌∙◌}
use Rattle.std.specs.List.{list_all}
use Rattle.std.specs.Option.{is_none}
use Rattle.exec_query_index.specs.declared.boxes.QueryBox.{QueryBox}
use Rattle.exec_registry.proofs.Sparing.{none_spares}
use Rattle.exec_registry.proofs.concerned.list_stream.Goals as goal

pub returns-then-are_none-clause-spared : goal.returns-then-are_none-clause-spared
returns-then-are_none-clause-spared c = λ e.
    none_spares c.args.stream c.put_boxes.new.boxes.items c.args.live.now c.put_boxes.ensures
    (ap (λ (boxes : List (Option QueryBox)). list_all is_none boxes) (sym c.as_slice-2.ensures.value) ∙ sym c.are_none.ensures ∙ c.if-are_none.true)
