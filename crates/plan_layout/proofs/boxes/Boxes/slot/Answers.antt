use Rattle.std.proofs.Common.{refl}
use Rattle.plan_layout.specs.Boxed.{boxed}
use Rattle.plan_layout.specs.Listed.{box_in}
use Rattle.plan_layout.proofs.Bare.{code_told}
use Rattle.plan_layout.proofs.Listing.{found_boxes, found_slot}
use Rattle.plan_layout.proofs.boxes.Boxes.slot.Goals as goal

pub find-requires-clause-code : goal.find-requires-clause-code
find-requires-clause-code c =
    code_told c.args.q.now c.args.parts.now c.args.part c.requires.known c.args.place c.index-parts-part.result c.index-parts-part.is c.code_of-code.result c.code_of-code.ensures

pub push-requires-clause-code : goal.push-requires-clause-code
push-requires-clause-code c =
    code_told c.args.q.now c.args.parts.now c.args.part c.requires.known c.args.place c.index-parts-part.result c.index-parts-part.is c.code_of-code.result c.code_of-code.ensures

pub returns-in-Some-clause-boxes : goal.returns-in-Some-clause-boxes
returns-in-Some-clause-boxes c =
    found_boxes c.args.q.now c.args.parts.now c.args.self.now (box_in (boxed c.args.q.now 0 c.args.parts.now) c.args.part c.args.place) c.in-Some.slot c.in-Some.ensures

pub returns-in-Some-clause-slot : goal.returns-in-Some-clause-slot
returns-in-Some-clause-slot c =
    found_slot c.args.q.now c.args.parts.now c.args.self.now (box_in (boxed c.args.q.now 0 c.args.parts.now) c.args.part c.args.place) c.in-Some.slot c.in-Some.ensures
    c.args.part c.args.place refl c.requires.known c.requires.here c.requires.listed
