use Rattle.std.proofs.Common.{◌≡◌, ℕ, ◌+◌, ◌-◌, ◌<◌, ◌≤◌, length, arith, refl, ◌∙◌}
use Rattle.exec_pool.proofs.Cells.{length-extents, get_or-extents}
use Rattle.exec_pool.proofs.Fresh.{live_count}
use Rattle.exec_pool.proofs.Apart.{lent_beside_taken}
use Rattle.exec_pool.proofs.Growing.{Grown}
use Rattle.exec_pool.proofs.NewExtent.{takes, page_known}
use Rattle.exec_pool.proofs.pool.Pool.take.Goals as goal

pub vacant-slot-requires : goal.vacant-slot-requires
vacant-slot-requires c =
    let few = rw (← c.self.view_is) at c.requires.few in
    let l = length-extents c.self.inside.cells.cells c.self.inside.page_table.items c.self.inside.slots.items in
    let n = live_count c.self.inside.cells.cells c.self.inside.page_table.items c.self.inside.slots.items in
    let all = c.self.invariant.0.all_slots in
    rw c.deref.ensures.value (omega arith)

pub clear_pages-requires-clause-run : goal.clear_pages-requires-clause-run
clear_pages-requires-clause-run c =
    rw c.deref-2.ensures.value (λ j h. c.lend_pages.ensures.reached j (omega (arith, h)))

pub clear_pages-requires-clause-inside : goal.clear_pages-requires-clause-inside
clear_pages-requires-clause-inside c =
    let few : c.args.pages ≤ c.self.inside.free = omega (arith, c.if-needed-self.false, c.from-needed.ensures) in
    let sound = c.self.invariant.0 in
    let n = c.self.inside.spare.ok.0 in
    let fresh : c.saturating_sub-fresh.result ≡ c.args.pages - length c.self.inside.spare.items = omega (arith, c.saturating_sub-fresh.ensures, c.from-count.ensures, c.len.ensures) in
    let grown : Grown c.self.inside.cells.cells c.add_pages.new.cells.cells c.self.inside.spare.items c.add_pages.new.spare.items (c.args.pages - length c.self.inside.spare.items) =
    record {
      cell_count = rw (← fresh) c.add_pages.ensures.cells;
      same = c.add_pages.ensures.empty;
      spare_count = rw (← fresh) c.add_pages.ensures.len;
      before = c.add_pages.ensures.before;
      fresh = rw (← fresh) c.add_pages.ensures.fresh;
    } in
    let slot : c.vacant-slot.result < length c.self.inside.slots.items = rw c.deref.ensures.value at c.vacant-slot.ensures.within in
    rw (c.deref-2.ensures.value, c.from-count.ensures, fresh)
    (page_known c.self.inside.cells.cells c.add_pages.new.cells.cells c.self.inside.page_table.items c.lend_pages.new.page_table.items c.self.inside.spare.items c.add_pages.new.spare.items c.self.inside.slots.items c.self.inside.free c.self.inside.pages c.vacant-slot.result c.args.pages
    sound grown few (simp c.from-count.ensures at c.lend_pages.ensures.lent))

pub invariant_of-self : goal.invariant_of-self
invariant_of-self c =
    let few : c.args.pages ≤ c.self.inside.free = omega (arith, c.if-needed-self.false, c.from-needed.ensures) in
    let sound = c.self.invariant.0 in
    let n = c.self.inside.spare.ok.0 in
    let fresh : c.saturating_sub-fresh.result ≡ c.args.pages - length c.self.inside.spare.items = omega (arith, c.saturating_sub-fresh.ensures, c.from-count.ensures, c.len.ensures) in
    let grown : Grown c.self.inside.cells.cells c.add_pages.new.cells.cells c.self.inside.spare.items c.add_pages.new.spare.items (c.args.pages - length c.self.inside.spare.items) =
    record {
      cell_count = rw (← fresh) c.add_pages.ensures.cells;
      same = c.add_pages.ensures.empty;
      spare_count = rw (← fresh) c.add_pages.ensures.len;
      before = c.add_pages.ensures.before;
      fresh = rw (← fresh) c.add_pages.ensures.fresh;
    } in
    let slot : c.vacant-slot.result < length c.self.inside.slots.items = rw c.deref.ensures.value at c.vacant-slot.ensures.within in
    let none = rw c.deref.ensures.value at c.vacant-slot.ensures.none in
    let done = takes c.self.inside.cells.cells c.add_pages.new.cells.cells c.clear_pages.new.cells.cells c.self.inside.page_table.items c.lend_pages.new.page_table.items c.self.inside.spare.items c.add_pages.new.spare.items c.lend_pages.new.spare.items c.self.inside.slots.items c.self.inside.free c.self.inside.pages c.vacant-slot.result c.args.pages
    sound grown few c.requires.small slot none
    (simp c.from-count.ensures at c.lend_pages.ensures.lent)
    (simp c.from-count.ensures at c.lend_pages.ensures.others)
    (simp c.from-count.ensures at c.lend_pages.ensures.reached)
    c.lend_pages.ensures.longer
    (simp c.from-count.ensures at c.lend_pages.ensures.spare)
    c.clear_pages.ensures.len
    (simp (c.deref-2.ensures.value, c.from-count.ensures, fresh) at c.clear_pages.ensures.cleared)
    (simp (c.deref-2.ensures.value, c.from-count.ensures, fresh) at c.clear_pages.ensures.others) in
    rw c.from-needed.ensures (
      done.sound,
      record {
        cells = (let all = c.self.invariant.1.cells in omega (arith, all, c.clear_pages.ensures.room, c.add_pages.ensures.cell_room));
        table = (let all = c.self.invariant.1.table in omega (arith, all, c.lend_pages.ensures.table_room));
        spare = (let all = c.self.invariant.1.spare in omega (arith, all, c.lend_pages.ensures.spare_room, c.add_pages.ensures.spare_room));
      },
    )

pub returns : goal.returns
returns c =
    let few : c.args.pages ≤ c.self.inside.free = omega (arith, c.if-needed-self.false, c.from-needed.ensures) in
    let sound = c.self.invariant.0 in
    let n = c.self.inside.spare.ok.0 in
    let fresh : c.saturating_sub-fresh.result ≡ c.args.pages - length c.self.inside.spare.items = omega (arith, c.saturating_sub-fresh.ensures, c.from-count.ensures, c.len.ensures) in
    let grown : Grown c.self.inside.cells.cells c.add_pages.new.cells.cells c.self.inside.spare.items c.add_pages.new.spare.items (c.args.pages - length c.self.inside.spare.items) =
    record {
      cell_count = rw (← fresh) c.add_pages.ensures.cells;
      same = c.add_pages.ensures.empty;
      spare_count = rw (← fresh) c.add_pages.ensures.len;
      before = c.add_pages.ensures.before;
      fresh = rw (← fresh) c.add_pages.ensures.fresh;
    } in
    let slot : c.vacant-slot.result < length c.self.inside.slots.items = rw c.deref.ensures.value at c.vacant-slot.ensures.within in
    let none = rw c.deref.ensures.value at c.vacant-slot.ensures.none in
    let done = takes c.self.inside.cells.cells c.add_pages.new.cells.cells c.clear_pages.new.cells.cells c.self.inside.page_table.items c.lend_pages.new.page_table.items c.self.inside.spare.items c.add_pages.new.spare.items c.lend_pages.new.spare.items c.self.inside.slots.items c.self.inside.free c.self.inside.pages c.vacant-slot.result c.args.pages
    sound grown few c.requires.small slot none
    (simp c.from-count.ensures at c.lend_pages.ensures.lent)
    (simp c.from-count.ensures at c.lend_pages.ensures.others)
    (simp c.from-count.ensures at c.lend_pages.ensures.reached)
    c.lend_pages.ensures.longer
    (simp c.from-count.ensures at c.lend_pages.ensures.spare)
    c.clear_pages.ensures.len
    (simp (c.deref-2.ensures.value, c.from-count.ensures, fresh) at c.clear_pages.ensures.cleared)
    (simp (c.deref-2.ensures.value, c.from-count.ensures, fresh) at c.clear_pages.ensures.others) in
    rw (← c.self.view_is)
    record {
      pages = refl;
      slot = omega (arith, slot, length-extents c.self.inside.cells.cells c.self.inside.page_table.items c.self.inside.slots.items);
      vacant = get_or-extents c.self.inside.cells.cells c.self.inside.page_table.items c.self.inside.slots.items c.vacant-slot.result ∙ rw none refl;
      all = refl;
      free = rw c.from-needed.ensures (omega (arith, few));
      others = λ t ne.
          lent_beside_taken c.self.inside.page_table.items c.lend_pages.new.page_table.items c.self.inside.slots.items c.vacant-slot.result c.args.pages t
          (simp c.from-count.ensures at c.lend_pages.ensures.others) sound.small c.requires.small ne;
      extents = done.extents;
    }
