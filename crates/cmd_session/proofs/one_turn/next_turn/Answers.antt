use Rattle.std.proofs.Common.{refl, sym, subst, inl, inr, arith}
use Rattle.io_line_reader.specs.Reading.{GivesAll, Reading}
use Rattle.cmd_session.specs.AnsweredRows.{no_row}
use Rattle.cmd_session.specs.Turned.{reply}
use Rattle.cmd_session.proofs.AnsweredLines.{IsGiven, lines_in, rows_in, rows_leave, turned_behind}
use Rattle.cmd_session.proofs.one_turn.next_turn.Goals as goal
use Rattle.cmd_session.proofs.one_turn.next_turn.Goals.{then-rows-ne0, else-rows-ne0}

pub returns-then-most-lines-clause-turned : goal.returns-then-most-lines-clause-turned
returns-then-most-lines-clause-turned g c = record {
  reader = _;
  left = _;
  between = _;
  part = _;
  spent = _;
  rows = no_row refl refl refl refl refl refl;
  turned = c.any_turn.ensures.turned;
  takes = (c.any_turn.ensures.reads, c.any_turn.ensures.writes);
}

pub give_lines-requires-clause-lines : goal.give_lines-requires-clause-lines
give_lines-requires-clause-lines g c = lines_in _ _ _ _ _ _ _ _ _ _ _ _ _ _ c.ahead_and_feed-2.ensures c.answer_rows-outcome.ensures.rows

pub any_turn-requires-in-Done-clause-stands : goal.any_turn-requires-in-Done-clause-stands
any_turn-requires-in-Done-clause-stands g c =
    let rows = c.answer_rows-outcome.result.rows in
    let given : IsGiven c.args.reader.now c.if-rows-ne0.reader rows.count rows.begin rows.end = elim c.if-rows-ne0.branch [
      | then-rows-ne0 w ↦ inl (omega (arith, w.if-rows-ne0.true), subst (λ (r : Reading). GivesAll c.args.reader.now r rows.count rows.begin rows.end) (sym w.reader-is) w.give_lines.ensures)
      | else-rows-ne0 w ↦ inr (w.if-rows-ne0.false, w.reader-is)
    ] in
    (rows_leave _ _ _ _ _ _ _ _ _ _ _ c.requires.stands (rows_in c.args.reader.now c.if-rows-ne0.reader _ _ (g.I.Source.seen c.args.input.now) _ _ _ _ _ _ _ _ _ _ _ _ c.in-Done.is c.ahead_and_feed-2.ensures c.answer_rows-outcome.ensures.rows given)).state

pub returns-in-Done-clause-turned : goal.returns-in-Done-clause-turned
returns-in-Done-clause-turned g c =
    let rows = c.answer_rows-outcome.result.rows in
    let given : IsGiven c.args.reader.now c.if-rows-ne0.reader rows.count rows.begin rows.end = elim c.if-rows-ne0.branch [
      | then-rows-ne0 w ↦ inl (omega (arith, w.if-rows-ne0.true), subst (λ (r : Reading). GivesAll c.args.reader.now r rows.count rows.begin rows.end) (sym w.reader-is) w.give_lines.ensures)
      | else-rows-ne0 w ↦ inr (w.if-rows-ne0.false, w.reader-is)
    ] in
    record {
      reader = _;
      left = _;
      between = _;
      part = _;
      spent = _;
      rows = rows_in c.args.reader.now c.if-rows-ne0.reader _ _ (g.I.Source.seen c.args.input.now) _ _ _ _ _ _ _ _ _ _ _ _ c.in-Done.is c.ahead_and_feed-2.ensures c.answer_rows-outcome.ensures.rows given;
      turned = c.any_turn-in-Done.ensures.turned;
      takes = (c.any_turn-in-Done.ensures.reads, c.any_turn-in-Done.ensures.writes);
    }

pub returns-in-WriteFault-clause-turned : goal.returns-in-WriteFault-clause-turned
returns-in-WriteFault-clause-turned g c =
    let rows = c.answer_rows-outcome.result.rows in
    let given : IsGiven c.args.reader.now c.if-rows-ne0.reader rows.count rows.begin rows.end = elim c.if-rows-ne0.branch [
      | then-rows-ne0 w ↦ inl (omega (arith, w.if-rows-ne0.true), subst (λ (r : Reading). GivesAll c.args.reader.now r rows.count rows.begin rows.end) (sym w.reader-is) w.give_lines.ensures)
      | else-rows-ne0 w ↦ inr (w.if-rows-ne0.false, w.reader-is)
    ] in
    turned_behind _ _ _ _ _ _ _ _ _ _ _ _ _ _ _ tt (λ s reader left between part line. reply line) (rows_in c.args.reader.now c.if-rows-ne0.reader _ _ (g.I.Source.seen c.args.input.now) _ _ _ _ _ _ _ _ _ _ _ _ c.in-WriteFault.is c.ahead_and_feed-2.ensures c.answer_rows-outcome.ensures.rows given)

pub returns-in-Memory-clause-turned : goal.returns-in-Memory-clause-turned
returns-in-Memory-clause-turned g c =
    let rows = c.answer_rows-outcome.result.rows in
    let given : IsGiven c.args.reader.now c.if-rows-ne0.reader rows.count rows.begin rows.end = elim c.if-rows-ne0.branch [
      | then-rows-ne0 w ↦ inl (omega (arith, w.if-rows-ne0.true), subst (λ (r : Reading). GivesAll c.args.reader.now r rows.count rows.begin rows.end) (sym w.reader-is) w.give_lines.ensures)
      | else-rows-ne0 w ↦ inr (w.if-rows-ne0.false, w.reader-is)
    ] in
    turned_behind _ _ _ _ _ _ _ _ _ _ _ _ _ _ _ tt (λ s reader left between part line. c.turn_of.ensures.turned s reader _ _ _ left _ between part line) (rows_in c.args.reader.now c.if-rows-ne0.reader _ _ (g.I.Source.seen c.args.input.now) _ _ _ _ _ _ _ _ _ _ _ _ c.in-Memory.is c.ahead_and_feed-2.ensures c.answer_rows-outcome.ensures.rows given)
