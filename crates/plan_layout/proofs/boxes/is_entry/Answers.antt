use Rattle.std.proofs.Common.{arith}
use Rattle.plan_layout.specs.Boxed.{boxed}
use Rattle.plan_layout.specs.Listed.{box_of, box_in}
use Rattle.plan_layout.proofs.Setting.{as_many}
use Rattle.plan_layout.proofs.Listing.{other_code, entry_told}
use Rattle.plan_layout.proofs.boxes.is_entry.Goals as goal

pub offset_bounds-parts-entry : goal.offset_bounds-parts-entry
offset_bounds-parts-entry c = let m = as_many c.args.q.now 0 c.args.parts.now in omega (arith, m)

pub bounds-parts-entry : goal.bounds-parts-entry
bounds-parts-entry c = let m = as_many c.args.q.now 0 c.args.parts.now in omega (arith, m)

pub returns-then-entry-code : goal.returns-then-entry-code
returns-then-entry-code c =
    let m = as_many c.args.q.now 0 c.args.parts.now in
    entry_told c.args.q.now c.args.parts.now c.args.entry c.args.part c.args.place c.index-parts-entry.result c.index-parts-part.result c.is_box.result (omega (arith, m)) c.requires.known
    c.index-parts-entry.is c.index-parts-part.is c.is_box.ensures

pub returns-else-entry-code : goal.returns-else-entry-code
returns-else-entry-code c =
    other_code c.args.q.now (box_of (boxed c.args.q.now 0 c.args.parts.now) c.args.entry) (box_in (boxed c.args.q.now 0 c.args.parts.now) c.args.part c.args.place) c.args.entry.code c.args.code
    c.if-entry-code.false c.requires.entry.code c.requires.code
