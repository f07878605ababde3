use Rattle.std.proofs.Common.{◌≡◌, ◌+◌, ◌-◌, ◌<◌, ◌≤◌, length}
use Rattle.cmd_session.specs.AnsweredRows.{AreAnswered}
use Rattle.cmd_session.specs.declared.outcome.LineOutcome.TheVariants.{Done}
use Rattle.cmd_session.specs.Run.{HasState}
use Rattle.cmd_session.proofs.one_turn.answer_rows.Given as goal

abbrev pub invariant-rows : goal.invariant-rows
invariant-rows g l = record {
  rows : AreAnswered l.text l.fn.session (g.O.Sink.seen l.fn.output.sink.now) l.fn.output.held.items l.fn.steps Done l.rows.count l.rows.begin l.rows.end l.session (g.O.Sink.seen l.output.sink.now) l.output.held.items l.steps;
  within : l.rows.end < length l.text;
  few : l.rows.count ≤ l.rows.end;
  lines : l.session.lines ≡ l.fn.session.lines + l.rows.count;
  known : HasState l.session;
  same : l.output.sink.ghost_name ≡ l.fn.output.sink.ghost_name;
}

abbrev pub decreases-rows : goal.decreases-rows
decreases-rows g l = length l.text - l.rows.end
