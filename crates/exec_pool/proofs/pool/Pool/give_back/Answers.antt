use Rattle.std.proofs.Common.{◌≡◌, ℕ, ◌+◌, length, get_or, None, arith, ap, refl}
use Rattle.exec_pool.specs.Places.{held}
use Rattle.exec_pool.proofs.Live.{has_slot, slot_bounds}
use Rattle.exec_pool.proofs.Apart.{lent_beside_back}
use Rattle.exec_pool.proofs.GivingBack.{Returned, back_sound, given_back}
use Rattle.exec_pool.proofs.pool.Pool.give_back.Goals as goal

pub return_pages-requires-clause-run : goal.return_pages-requires-clause-run
return_pages-requires-clause-run c =
    let live = rw (← c.self.view_is) at c.requires in
    let has = has_slot c.self.inside.cells.cells c.self.inside.page_table.items c.self.inside.slots.items c.self.inside.free c.self.inside.pages c.args.extent live in
    let is : held (get_or c.self.inside.slots.items c.args.extent.slot None) ≡ c.args.extent.pages = ap held has.slot in
    rw (c.deref.ensures.value, c.from-slot.ensures, c.from.ensures)
    (λ i h. c.self.invariant.0.reached c.args.extent.slot i (omega (arith, h, is)))

pub return_pages-requires-clause-room : goal.return_pages-requires-clause-room
return_pages-requires-clause-room c =
    let live = rw (← c.self.view_is) at c.requires in
    let has = has_slot c.self.inside.cells.cells c.self.inside.page_table.items c.self.inside.slots.items c.self.inside.free c.self.inside.pages c.args.extent live in
    let room = slot_bounds _ _ _ _ _ _ _ _ c.self.invariant.0 has.slot in
    omega (arith, c.from.ensures, room.room, c.self.invariant.1.spare)

pub index_mut-requires : goal.index_mut-requires
index_mut-requires c =
    let live = rw (← c.self.view_is) at c.requires in
    let has = has_slot c.self.inside.cells.cells c.self.inside.page_table.items c.self.inside.slots.items c.self.inside.free c.self.inside.pages c.args.extent live in
    let room = slot_bounds _ _ _ _ _ _ _ _ c.self.invariant.0 has.slot in
    let n = c.self.inside.slots.ok.0 in
    omega (arith, c.from-slot.ensures, room.slot)

pub invariant_of-self : goal.invariant_of-self
invariant_of-self c =
    let live = rw (← c.self.view_is) at c.requires in
    let has = has_slot c.self.inside.cells.cells c.self.inside.page_table.items c.self.inside.slots.items c.self.inside.free c.self.inside.pages c.args.extent live in
    let returned : Returned c.self.inside.page_table.items c.self.inside.spare.items c.return_pages.new.spare.items c.args.extent.slot c.args.extent.pages =
    record {
      count = rw (← c.from.ensures) c.return_pages.ensures.len;
      before = c.return_pages.ensures.before;
      back = simp (c.deref.ensures.value, c.from-slot.ensures, c.from.ensures) at c.return_pages.ensures.back;
    } in
    rw (c.from-slot.ensures, c.from-2.ensures) (
      back_sound c.self.inside.cells.cells c.self.inside.page_table.items c.self.inside.spare.items c.return_pages.new.spare.items c.self.inside.slots.items c.self.inside.free c.self.inside.pages c.args.extent.slot c.args.extent.pages c.self.invariant.0 returned has.slot,
      record {
        cells = c.self.invariant.1.cells;
        table = c.self.invariant.1.table;
        spare = (let all = c.self.invariant.1.spare in omega (arith, all, c.return_pages.ensures.room));
      },
    )

pub returns : goal.returns
returns c =
    let live = rw (← c.self.view_is) at c.requires in
    let has = has_slot c.self.inside.cells.cells c.self.inside.page_table.items c.self.inside.slots.items c.self.inside.free c.self.inside.pages c.args.extent live in
    rw (← c.self.view_is)
    record {
      all = refl;
      free = ap (λ (k : ℕ). c.self.inside.free + k) c.from-2.ensures;
      others = rw c.from-slot.ensures (λ t ne. lent_beside_back c.self.inside.page_table.items c.self.inside.slots.items c.args.extent.slot t ne);
      extents = rw c.from-slot.ensures (given_back c.self.inside.cells.cells c.self.inside.page_table.items c.self.inside.slots.items c.args.extent.slot c.args.extent.pages has.slot);
    }
