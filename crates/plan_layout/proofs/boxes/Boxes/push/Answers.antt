use Rattle.std.proofs.Common.{◌≡◌, ◌<◌, ◌%◌, ℕ, length, set, ap, ◌∙◌, arith}
use Rattle.std.specs.Vec.{with_item}
use Rattle.std.proofs.lemmas.List.{get_or_default}
use Rattle.plan_layout.specs.declared.boxes.BoxEntry.{BoxEntry}
use Rattle.plan_layout.specs.Boxed.{boxed}
use Rattle.plan_layout.proofs.Bare.{size_told}
use Rattle.plan_layout.proofs.Listing.{is_entry_of, box_added, slot_new}
use Rattle.plan_layout.proofs.boxes.Boxes.push.Goals as goal

abbrev entry : (part place base size code before : ℕ) → BoxEntry
entry part place base size code before = record { part = part; place = place; slot = record { base = base; size = size }; code = code; before = before }

pub returns-clause-listed : goal.returns-clause-listed
returns-clause-listed c =
    let e : c.len.result ≡ length c.args.self.now.lasts.items = c.len.ensures ∙ c.args.self.now.lasts.ok.0 in
    let l : c.bucket_of-bucket.result < length c.args.self.now.lasts.items = omega (arith, e, c.bucket_of-bucket.ensures.within) in
    let o : BoxEntry = entry c.args.part c.args.place c.narrowed.result c.narrowed-2.result c.args.code c.index.result.now in
    box_added c.args.q.now (boxed c.args.q.now 0 c.args.parts.now) c.args.self.now
    record { entries = c.push.new.self; lasts = with_item c.args.self.now.lasts c.bucket_of-bucket.result c.len-2.result; cells = c.saturating_add-self.result }
    o c.bucket_of-bucket.result c.cells_over-size.result c.requires.listed
    (is_entry_of c.args.q.now c.args.parts.now o c.requires.known c.requires.here c.requires.code)
    c.requires.new c.in_ok-push.ensures.items
    (size_told c.args.q.now c.args.parts.now c.args.part c.requires.known c.args.place c.index-parts-part.result c.index-parts-part.is c.dims_at.result.now c.cells_over-size.result
    c.requires.here c.dims_at.ensures.value c.cells_over-size.ensures)
    c.saturating_add-self.ensures c.narrowed.ensures c.narrowed-2.ensures
    (ap (λ (n : ℕ). set c.args.self.now.lasts.items c.bucket_of-bucket.result n) (c.len-2.ensures ∙ c.push.new.self.ok.0))
    (c.bucket_of-bucket.ensures.bucket ∙ ap (λ (n : ℕ). c.args.code % n) e) l (c.index.ensures ∙ get_or_default c.args.self.now.lasts.items c.bucket_of-bucket.result c.index.result.now 0 l)

pub returns-clause-slot : goal.returns-clause-slot
returns-clause-slot c =
    let o : BoxEntry = entry c.args.part c.args.place c.narrowed.result c.narrowed-2.result c.args.code c.index.result.now in
    slot_new c.args.q.now (boxed c.args.q.now 0 c.args.parts.now) c.args.self.now
    record { entries = c.push.new.self; lasts = with_item c.args.self.now.lasts c.bucket_of-bucket.result c.len-2.result; cells = c.saturating_add-self.result }
    o c.bucket_of-bucket.result c.cells_over-size.result c.requires.listed
    (is_entry_of c.args.q.now c.args.parts.now o c.requires.known c.requires.here c.requires.code)
    c.requires.new c.in_ok-push.ensures.items
    (size_told c.args.q.now c.args.parts.now c.args.part c.requires.known c.args.place c.index-parts-part.result c.index-parts-part.is c.dims_at.result.now c.cells_over-size.result
    c.requires.here c.dims_at.ensures.value c.cells_over-size.ensures)
    c.saturating_add-self.ensures c.narrowed.ensures c.narrowed-2.ensures
