use Rattle.std.proofs.Common.{arith}
use Rattle.exec_pool.proofs.Live.{has_slot, place_within, read_place}
use Rattle.exec_pool.proofs.Writing.{written_view}
use Rattle.exec_pool.proofs.pool.Pool.write.Goals as goal

pub index-page-requires : goal.index-page-requires
index-page-requires g c =
    let live = rw (← c.self.view_is) at c.requires.live in
    let has = has_slot c.self.inside.cells.cells c.self.inside.page_table.items c.self.inside.slots.items c.self.inside.free c.self.inside.pages c.args.extent.now live in
    let p = place_within _ _ _ _ _ _ _ _ c.args.index c.self.invariant.0 has.slot c.requires.within in
    let n = c.self.inside.page_table.ok.0 in
    omega (arith, c.from.ensures)

pub set-requires : goal.set-requires
set-requires g c =
    let live = rw (← c.self.view_is) at c.requires.live in
    let has = has_slot c.self.inside.cells.cells c.self.inside.page_table.items c.self.inside.slots.items c.self.inside.free c.self.inside.pages c.args.extent.now live in
    let p = place_within _ _ _ _ _ _ _ _ c.args.index c.self.invariant.0 has.slot c.requires.within in
    let q = read_place c.self.inside.page_table.items c.args.extent.now.slot _ c.args.index _ _ c.from.ensures p.0 c.index-page.ensures c.from-2.ensures in
    omega arith

pub returns-clause-cells : goal.returns-clause-cells
returns-clause-cells g c =
    let live = rw (← c.self.view_is) at c.requires.live in
    let has = has_slot c.self.inside.cells.cells c.self.inside.page_table.items c.self.inside.slots.items c.self.inside.free c.self.inside.pages c.args.extent.now live in
    let p = place_within _ _ _ _ _ _ _ _ c.args.index c.self.invariant.0 has.slot c.requires.within in
    let q = read_place c.self.inside.page_table.items c.args.extent.now.slot _ c.args.index _ _ c.from.ensures p.0 c.index-page.ensures c.from-2.ensures in
    rw (← c.self.view_is) (rw c.set.ensures (written_view _ _ _ _ _ _ c.args.index _ c.args.extent.now c.args.cell c.self.invariant.0 live c.requires.within q))
