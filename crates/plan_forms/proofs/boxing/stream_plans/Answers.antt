use Rattle.std.proofs.Common.{ap, ◌∙◌, arith}
use Rattle.plan_layout.specs.Boxed.{cells_over}
use Rattle.plan_layout.specs.Capped.{capped}
use Rattle.plan_forms.proofs.SetStreams.{set_room, set_next, set_all}
use Rattle.plan_forms.proofs.boxing.stream_plans.Goals as goal

pub push-requires : goal.push-requires
push-requires c = (omega arith, set_room c.args.q.now c.args.first c.args.streams.now c.streams.i c.streams.next c.streams.list.items c.streams-test.true c.requires c.streams.invariant)

pub streams-preserved : goal.streams-preserved
streams-preserved c =
    set_next c.args.q.now c.args.first c.args.streams.now c.streams.i c.index-streams-i.result c.streams.next c.saturating_add-next.result c.cells_over-size.result c.narrowed.result c.narrowed-in-streams.result c.plan_of.result
    c.streams.list.items c.push.new.self.items c.streams-test.true c.index-streams-i.is c.streams.invariant
    (c.cells_over-size.ensures ∙ ap (λ z. capped (cells_over c.args.q.now z)) c.as_slice.ensures.value)
    c.narrowed.ensures c.narrowed-in-streams.ensures c.plan_of.ensures c.push.ensures.items c.saturating_add-next.ensures

pub returns : goal.returns
returns c = set_all c.args.q.now c.args.first c.args.streams.now c.streams.i c.streams.next c.streams.list.items c.streams-test.false c.streams.invariant
