use Rattle.std.proofs.Common.{refl}
use Rattle.io_row_reader.proofs.RowsAhead.{first_ahead, row_line}
use Rattle.cmd_session.specs.Fetched.{buffered}
use Rattle.cmd_each.proofs.NoRow.{none_told}
use Rattle.cmd_each.proofs.run.next_line.Goals as goal

pub give_line-requires-clause-feed : goal.give_line-requires-clause-feed
give_line-requires-clause-feed g c = first_ahead _ _ _ _ _ _ c.ahead_and_feed.ensures c.in-Some.ensures.row

pub returns-in-Some-clause-comes : goal.returns-in-Some-clause-comes
returns-in-Some-clause-comes g c = buffered c.give_line.ensures.gives refl refl refl refl

pub returns-in-Some-clause-row : goal.returns-in-Some-clause-row
returns-in-Some-clause-row g c =
    let row = row_line _ _ _ _ _ _ _ _ c.ahead_and_feed.ensures c.in-Some.ensures.row c.give_line.ensures.line refl in
    (refl, record { row = row.1; opens = c.in-Some.ensures.opens; short = row.0 })

pub returns-in-None-clause-row : goal.returns-in-None-clause-row
returns-in-None-clause-row g c = none_told _ _ _ _ c.any_line.ensures.none
