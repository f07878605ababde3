use Rattle.std.proofs.Common.{ℕ, ◌+◌, ◌*◌, ◌<◌, ◌^◌, ◌∙◌, sym, ap, subst, arith}
use Rattle.sem_query.specs.declared.cell.Cell.{Cell}
use Rattle.exec_pool.specs.Places.{cell_at}
use Rattle.exec_pool.specs.Strides.{HasPage}
use Rattle.exec_pool.proofs.Live.{has_slot, slot_bounds}
use Rattle.exec_pool.proofs.Scanning.{scanned_same, is_seen, one_apart}
use Rattle.exec_pool.proofs.pool.Pool.first_occupied.Goals as goal

pub first_beside-requires-clause-slot : goal.first_beside-requires-clause-slot
first_beside-requires-clause-slot g c =
    let live = rw (← c.self.view_is) at c.requires.live in
    let has = has_slot c.self.inside.cells.cells c.self.inside.page_table.items c.self.inside.slots.items c.self.inside.free c.self.inside.pages c.args.extent.now live in
    let room = slot_bounds c.self.inside.cells.cells c.self.inside.page_table.items c.self.inside.spare.items c.self.inside.slots.items c.self.inside.free c.self.inside.pages c.args.extent.now.slot c.args.extent.now.pages c.self.invariant.0 has.slot in
    omega (arith, c.from-slot.ensures, room.few)

pub first_along-requires-clause-slot : goal.first_along-requires-clause-slot
first_along-requires-clause-slot g c =
    let live = rw (← c.self.view_is) at c.requires.live in
    let has = has_slot c.self.inside.cells.cells c.self.inside.page_table.items c.self.inside.slots.items c.self.inside.free c.self.inside.pages c.args.extent.now live in
    let room = slot_bounds c.self.inside.cells.cells c.self.inside.page_table.items c.self.inside.spare.items c.self.inside.slots.items c.self.inside.free c.self.inside.pages c.args.extent.now.slot c.args.extent.now.pages c.self.invariant.0 has.slot in
    omega (arith, c.from-slot.ensures, room.few)

pub first_beside-requires-clause-fits : goal.first_beside-requires-clause-fits
first_beside-requires-clause-fits g c i h =
    let live = rw (← c.self.view_is) at c.requires.live in
    let seen = is_seen c.self.inside.cells.cells c.self.inside.page_table.items c.self.inside.spare.items c.self.inside.slots.items c.self.inside.free c.self.inside.pages c.args.extent.now (c.args.strided.first + i * c.args.strided.stride) c.self.invariant.0 live (c.requires.within i h) in
    subst (λ (n : ℕ). n < 2 ^ 32) (one_apart c.args.strided.first c.args.strided.stride i c.if-strided-eq1.true) seen.small

pub first_beside-requires-clause-pages : goal.first_beside-requires-clause-pages
first_beside-requires-clause-pages g c i h =
    let live = rw (← c.self.view_is) at c.requires.live in
    let seen = is_seen c.self.inside.cells.cells c.self.inside.page_table.items c.self.inside.spare.items c.self.inside.slots.items c.self.inside.free c.self.inside.pages c.args.extent.now (c.args.strided.first + i * c.args.strided.stride) c.self.invariant.0 live (c.requires.within i h) in
    rw (c.deref.ensures.value, c.from-slot.ensures)
    (subst (λ (n : ℕ). HasPage c.self.inside.cells.cells c.self.inside.page_table.items c.args.extent.now.slot n) (one_apart c.args.strided.first c.args.strided.stride i c.if-strided-eq1.true) seen.page)

pub returns-then-to-from-gt1-clause-reads : goal.returns-then-to-from-gt1-clause-reads
returns-then-to-from-gt1-clause-reads g c =
    let live = rw (← c.self.view_is) at c.requires.live in
    let at : ℕ → Cell = λ n. cell_at c.self.inside.cells.cells c.self.inside.page_table.items c.args.extent.now.slot n in
    let found = rw (c.deref.ensures.value, c.from-slot.ensures) at c.first_beside.ensures.reads in
    rw (← c.self.view_is)
    (scanned_same (λ i. at (c.args.strided.first + i)) _ c.args.from c.args.to c.args.steps.now.reads c.first_beside.result c.first_beside.new.steps.reads
    (λ i h. ap at (sym (one_apart c.args.strided.first c.args.strided.stride i c.if-strided-eq1.true)) ∙ (is_seen c.self.inside.cells.cells c.self.inside.page_table.items c.self.inside.spare.items c.self.inside.slots.items c.self.inside.free c.self.inside.pages c.args.extent.now (c.args.strided.first + i * c.args.strided.stride) c.self.invariant.0 live (c.requires.within i h)).cell)
    found)

pub first_along-requires-clause-fits : goal.first_along-requires-clause-fits
first_along-requires-clause-fits g c i h =
    let live = rw (← c.self.view_is) at c.requires.live in
    (is_seen c.self.inside.cells.cells c.self.inside.page_table.items c.self.inside.spare.items c.self.inside.slots.items c.self.inside.free c.self.inside.pages c.args.extent.now (c.args.strided.first + i * c.args.strided.stride) c.self.invariant.0 live (c.requires.within i h)).small

pub first_along-requires-clause-pages : goal.first_along-requires-clause-pages
first_along-requires-clause-pages g c i h =
    let live = rw (← c.self.view_is) at c.requires.live in
    let seen = is_seen c.self.inside.cells.cells c.self.inside.page_table.items c.self.inside.spare.items c.self.inside.slots.items c.self.inside.free c.self.inside.pages c.args.extent.now (c.args.strided.first + i * c.args.strided.stride) c.self.invariant.0 live (c.requires.within i h) in
    rw (c.deref-2.ensures.value, c.from-slot.ensures) seen.page

pub returns-clause-reads : goal.returns-clause-reads
returns-clause-reads g c =
    let live = rw (← c.self.view_is) at c.requires.live in
    let at : ℕ → Cell = λ n. cell_at c.self.inside.cells.cells c.self.inside.page_table.items c.args.extent.now.slot n in
    let found = rw (c.deref-2.ensures.value, c.from-slot.ensures) at c.first_along.ensures.reads in
    rw (← c.self.view_is)
    (scanned_same (λ i. at (c.args.strided.first + i * c.args.strided.stride)) _ c.args.from c.args.to c.args.steps.now.reads c.first_along.result c.first_along.new.steps.reads
    (λ i h. (is_seen c.self.inside.cells.cells c.self.inside.page_table.items c.self.inside.spare.items c.self.inside.slots.items c.self.inside.free c.self.inside.pages c.args.extent.now (c.args.strided.first + i * c.args.strided.stride) c.self.invariant.0 live (c.requires.within i h)).cell)
    found)
