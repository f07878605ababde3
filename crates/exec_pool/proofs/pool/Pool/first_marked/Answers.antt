use Rattle.std.proofs.Common.{ℕ, ◌+◌, arith}
use Rattle.sem_query.specs.declared.cell.Cell.{Cell}
use Rattle.exec_pool.specs.Places.{cell_at}
use Rattle.exec_pool.proofs.Live.{has_slot, slot_bounds}
use Rattle.exec_pool.proofs.Scanning.{is_seen}
use Rattle.exec_pool.proofs.Words.{marked_same}
use Rattle.exec_pool.proofs.pool.Pool.first_marked.Goals as goal

pub first_marked-requires-clause-slot : goal.first_marked-requires-clause-slot
first_marked-requires-clause-slot g c =
    let live = rw (← c.self.view_is) at c.requires.live in
    let has = has_slot c.self.inside.cells.cells c.self.inside.page_table.items c.self.inside.slots.items c.self.inside.free c.self.inside.pages c.args.extent.now live in
    let room = slot_bounds c.self.inside.cells.cells c.self.inside.page_table.items c.self.inside.spare.items c.self.inside.slots.items c.self.inside.free c.self.inside.pages c.args.extent.now.slot c.args.extent.now.pages c.self.invariant.0 has.slot in
    omega (arith, c.from.ensures, room.few)

pub first_marked-requires-clause-fits : goal.first_marked-requires-clause-fits
first_marked-requires-clause-fits g c i h =
    let live = rw (← c.self.view_is) at c.requires.live in
    (is_seen c.self.inside.cells.cells c.self.inside.page_table.items c.self.inside.spare.items c.self.inside.slots.items c.self.inside.free c.self.inside.pages c.args.extent.now (c.args.first + i) c.self.invariant.0 live (omega (arith, h, c.requires.within))).small

pub first_marked-requires-clause-pages : goal.first_marked-requires-clause-pages
first_marked-requires-clause-pages g c i h =
    let live = rw (← c.self.view_is) at c.requires.live in
    let seen = is_seen c.self.inside.cells.cells c.self.inside.page_table.items c.self.inside.spare.items c.self.inside.slots.items c.self.inside.free c.self.inside.pages c.args.extent.now (c.args.first + i) c.self.invariant.0 live (omega (arith, h, c.requires.within)) in
    rw (c.deref.ensures.value, c.from.ensures) seen.page

pub returns-clause-reads : goal.returns-clause-reads
returns-clause-reads g c =
    let live = rw (← c.self.view_is) at c.requires.live in
    let at : ℕ → Cell = λ n. cell_at c.self.inside.cells.cells c.self.inside.page_table.items c.args.extent.now.slot n in
    let found = rw (c.deref.ensures.value, c.from.ensures) at c.first_marked.ensures.reads in
    rw (← c.self.view_is)
    (marked_same (λ i. at (c.args.first + i)) _ c.args.first c.args.count c.args.steps.now.reads c.first_marked.result c.first_marked.new.steps.reads
    (λ i h. (is_seen c.self.inside.cells.cells c.self.inside.page_table.items c.self.inside.spare.items c.self.inside.slots.items c.self.inside.free c.self.inside.pages c.args.extent.now (c.args.first + i) c.self.invariant.0 live (omega (arith, h, c.requires.within))).cell)
    found)
