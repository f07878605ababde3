use Rattle.std.proofs.Common.{refl}
use Rattle.io_row_reader.proofs.FieldsAhead.{negative_at, short_at}
use Rattle.io_row_reader.proofs.PlainFields.{amount_pushed, opposite_pushed}
use Rattle.io_row_reader.proofs.row_ahead.add_integer_at.Goals as goal

pub returns-then-are_few : goal.returns-then-are_few
returns-then-are_few c =
    let d = c.digits_at-amount in
    let few = c.if-are_few.ensures refl in
    let old = c.args.row.now.items in
    let new = c.push.new.self.items in
    negative_at c.args.text.now c.args.start d.result.1 d.result.0 old new c.requires.here c.if-text-start-eq45.true d.ensures.len few d.ensures.within d.ensures.amount (opposite_pushed d.result.0 old new few.2 c.push.ensures.items)

pub returns-then-are_few-2 : goal.returns-then-are_few-2
returns-then-are_few-2 c =
    let d = c.digits_at-amount-else-text-start-eq45 in
    let few = c.if-are_few-2.ensures refl in
    let old = c.args.row.now.items in
    let new = c.push-then-are_few-2.new.self.items in
    short_at c.args.text.now c.args.start d.result.1 d.result.0 old new d.ensures.len few d.ensures.within d.ensures.amount (amount_pushed d.result.0 old new few.2 c.push-then-are_few-2.ensures.items)
