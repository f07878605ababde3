use Rattle.std.proofs.Common.{length, nat_eq, ◌∙◌, ap, arith}
use Rattle.plan_forms.specs.Placed.{cells_over}
use Rattle.plan_forms.proofs.Boxed.{placed_next, cells_more, placed_room}
use Rattle.plan_forms.proofs.placing.placed.Goals as goal

pub push-requires : goal.push-requires
push-requires c = (omega arith, placed_room (nat_eq (length c.args.streams.now) 1) c.args.streams.now c.streams.list.items c.streams.i 4 c.streams-test.true c.requires.few c.streams.invariant.0)

pub streams-preserved : goal.streams-preserved
streams-preserved c =
    let alone = nat_eq (length c.args.streams.now) 1 in
    let size = c.cells_over-size.ensures ∙ ap (cells_over alone) c.as_slice.ensures.value in (
      placed_next alone c.args.streams.now c.streams.list.items c.push.new.self.items c.streams.i c.index-streams-i-in-streams.result _ c.streams.next c.cells_over-size.result c.plan_of.result c.streams-test.true c.index-streams-i-in-streams.is
          c.streams.invariant.0 c.streams.invariant.1 size c.plan_of.ensures c.push.ensures.items,
      cells_more alone c.args.streams.now c.streams.i _ c.streams.next c.cells_over-size.result c.streams-test.true c.streams.invariant.1 size,
    )
