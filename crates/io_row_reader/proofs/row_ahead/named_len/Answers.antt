use Rattle.std.proofs.Common.{refl, arith}
use Rattle.io_row_reader.proofs.NamesAhead.{front_more, mismatch, name_bytes, name_found, some_ended}
use Rattle.io_row_reader.proofs.row_ahead.named_len.Goals as goal

pub bounds-name-0 : goal.bounds-name-0
bounds-name-0 c = (name_bytes c.args.name.now c.requires.name).0

pub returns-then-text-name : goal.returns-then-text-name
returns-then-text-name c = mismatch c.args.text.now c.args.name.now 0 (name_bytes c.args.name.now c.requires.name).0 c.if-text-name.true

pub comparing-init : goal.comparing-init
comparing-init c =
    let text = c.args.text.now in
    let name = c.args.name.now in
    let some = (name_bytes name c.requires.name).0 in
    let more = front_more text name 0 c.requires.ended c.requires.name (some_ended text c.requires.ended) some refl c.if-text-name.false in
    record { same = more.0; whole = omega (arith, some); within = more.1 }

pub returns-then-text-place : goal.returns-then-text-place
returns-then-text-place c = mismatch c.args.text.now c.args.name.now c.comparing.place (omega (arith, c.comparing-test.true)) c.if-text-place.true

pub comparing-preserved : goal.comparing-preserved
comparing-preserved c =
    let i = c.comparing.invariant in
    let more = front_more c.args.text.now c.args.name.now c.comparing.place c.requires.ended c.requires.name i.within (omega (arith, c.comparing-test.true)) i.same c.if-text-place.false in
    record { same = more.0; whole = omega (arith, c.comparing-test.true); within = more.1 }

pub returns : goal.returns
returns c =
    let i = c.comparing.invariant in
    name_found c.args.text.now c.args.name.now c.comparing.place c.requires.ended c.requires.name i.within (omega (arith, i.whole, c.comparing-test.false)) i.same c.if-text-place-ne44.false
