use Rattle.std.proofs.Common.{length, sym, ◌∙◌, arith}
use Rattle.plan_layout.specs.Boxed.{boxed}
use Rattle.plan_layout.specs.Listed.{box_in}
use Rattle.plan_layout.proofs.Listing.{last_at, looked_none, looked_at, looked_all}
use Rattle.plan_layout.proofs.boxes.Boxes.find.Goals as goal

pub chain-init : goal.chain-init
chain-init c =
    looked_none c.args.q.now (boxed c.args.q.now 0 c.args.parts.now) c.args.self.now.entries.items c.requires.listed.entries (length c.args.self.now.lasts.items)
    (box_in (boxed c.args.q.now 0 c.args.parts.now) c.args.part c.args.place) c.args.code c.index-number.result.now c.requires.code
    (last_at c.args.q.now (boxed c.args.q.now 0 c.args.parts.now) c.args.self.now c.requires.listed c.args.code c.len.result c.bucket_of.result c.index-number.result.now
    (c.len.ensures ∙ c.args.self.now.lasts.ok.0) c.bucket_of.ensures.bucket c.bucket_of.ensures.within c.index-number.ensures)

pub chain-preserved : goal.chain-preserved
chain-preserved c =
    looked_at c.args.q.now (boxed c.args.q.now 0 c.args.parts.now) c.args.self.now c.requires.listed (box_in (boxed c.args.q.now 0 c.args.parts.now) c.args.part c.args.place)
    c.chain.number c.index-entry.result.now (omega arith) c.index-entry.ensures (sym c.is_entry.ensures ∙ c.if-is_entry.false) c.chain.invariant

pub returns : goal.returns
returns c =
    looked_all c.args.q.now (boxed c.args.q.now 0 c.args.parts.now) c.args.self.now.entries.items (length c.args.self.now.lasts.items)
    (box_in (boxed c.args.q.now 0 c.args.parts.now) c.args.part c.args.place) c.chain.number (omega arith) c.chain.invariant
