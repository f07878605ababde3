use Rattle.std.proofs.Common.{◌∙◌, arith}
use Rattle.exec_pool.proofs.Cells.{length-extents}
use Rattle.exec_pool.proofs.Fresh.{live_count, none_live, fresh_sound}
use Rattle.exec_pool.proofs.pool.Pool.new.Goals as goal

pub invariant_of-result : goal.invariant_of-result
invariant_of-result c =
    rw (c.from-3.ensures, c.from-4.ensures, c.in_ok-cells.ensures, c.from.ensures, c.in_ok-page_table.ensures.items, c.in_ok-spare.ensures.items) (
      fresh_sound c.in_ok-slots.slots.items c.args.pages c.requires c.in_ok-slots.ensures.length c.in_ok-slots.ensures.none,
      record {
        cells = omega arith;
        table = omega (arith, c.in_ok-page_table.ensures.capacity);
        spare = omega (arith, c.in_ok-spare.ensures.capacity, c.from-2.ensures);
      },
    )

pub returns : goal.returns
returns c =
    record {
      all = c.from-4.ensures;
      free = c.from-3.ensures;
      slots = length-extents c.in_ok-cells.cells.cells c.in_ok-page_table.page_table.items c.in_ok-slots.slots.items ∙ c.in_ok-slots.ensures.length;
      none = live_count c.in_ok-cells.cells.cells c.in_ok-page_table.page_table.items c.in_ok-slots.slots.items ∙ none_live c.in_ok-slots.slots.items c.in_ok-slots.ensures.none;
    }
