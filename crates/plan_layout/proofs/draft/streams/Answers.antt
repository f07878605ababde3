use Rattle.std.proofs.Common.{refl, ap, ◌∙◌}
use Rattle.plan_layout.specs.Capped.{capped}
use Rattle.plan_layout.specs.Boxed.{cells_over}
use Rattle.plan_layout.proofs.DraftLaws.{set_next}
use Rattle.plan_layout.proofs.draft.streams.Goals as goal

pub places-preserved : goal.places-preserved
places-preserved c =
    set_next c.args.q.now c.args.p.now.signs.items c.args.first c.places.place c.places.next c.saturating_add-next.result c.cells_over-size.result c.narrowed.result c.narrowed-in-places.result c.dims-dims.result.items c.kind_of.result
    record { dims = c.dims-dims.result; kind = c.kind_of.result; base = c.narrowed.result; size = c.narrowed-in-places.result }
    c.places.list.items c.push.new.self.items c.places.invariant c.dims-dims.ensures c.kind_of.ensures
    (c.cells_over-size.ensures ∙ ap (λ z. capped (cells_over c.args.q.now z)) c.as_slice.ensures.value)
    c.narrowed.ensures c.narrowed-in-places.ensures refl c.push.ensures.items c.saturating_add-next.ensures
