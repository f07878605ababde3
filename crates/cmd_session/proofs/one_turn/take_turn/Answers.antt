use Rattle.std.proofs.Common.{false, refl, ◌∙◌, arith}
use Rattle.std.proofs.Math.Nat.{le-max_left}
use Rattle.exec_registry.specs.Registry.{most_reads, most_writes, most_cells}
use Rattle.cmd_session.proofs.MostSteps.{told_reads, told_writes}
use Rattle.cmd_session.specs.Fetched.{buffered}
use Rattle.io_row_reader.proofs.RowsAhead.{first_ahead, row_line}
use Rattle.cmd_session.proofs.SameSink.{same_name}
use Rattle.cmd_session.proofs.one_turn.take_turn.Goals as goal

pub give_line-requires-clause-feed : goal.give_line-requires-clause-feed
give_line-requires-clause-feed g c = first_ahead _ _ _ _ _ _ c.ahead_and_feed.ensures c.in-Some.ensures.row

pub returns-in-Some-clause-turned : goal.returns-in-Some-clause-turned
returns-in-Some-clause-turned g c = λ s stands. c.turn_of.ensures.turned s _ _ _ _ _ _ _ _ (record {
  long = false;
  between = _;
  left = _;
  came = buffered c.give_line.ensures.gives refl refl refl refl;
  name = _;
  name' = _;
  answers = λ text begun.
      let row = row_line _ _ _ _ _ _ _ text c.ahead_and_feed.ensures c.in-Some.ensures.row c.give_line.ensures.line begun in
      c.plain_row-outcome.ensures.reply s text row.0 row.1 stands;
})

pub returns-in-Some-clause-same_reference : goal.returns-in-Some-clause-same_reference
returns-in-Some-clause-same_reference g c =
    let row = row_line _ _ _ _ _ _ _ _ c.ahead_and_feed.ensures c.in-Some.ensures.row c.give_line.ensures.line refl in
    let told = c.plain_row-outcome.ensures.reply c.requires.stands.state _ row.0 row.1 c.requires.stands.stands in
    c.turn_of.ensures.same_reference ∙ same_name _ _ _ _ (g.O.Sink.seen c.args.output.now.sink.now) (g.O.Sink.seen c.plain_row-outcome.new.out.sink.now) _ _ _ _ told

pub returns-in-Some-clause-reads : goal.returns-in-Some-clause-reads
returns-in-Some-clause-reads g c = omega (arith, c.plain_row-outcome.ensures.reads, le-max_left (most_reads c.args.session.now.registry.live) (most_cells c.args.session.now.registry.live))

pub returns-in-Some-clause-writes : goal.returns-in-Some-clause-writes
returns-in-Some-clause-writes g c = omega (arith, c.plain_row-outcome.ensures.writes, le-max_left (most_writes c.args.session.now.registry.live) (most_cells c.args.session.now.registry.live))

pub returns-in-Some-clause-announced : goal.returns-in-Some-clause-announced
returns-in-Some-clause-announced g c = λ s stands. (
  told_reads _ s.queries _ _ stands.queries (returns-in-Some-clause-reads g c),
  told_writes _ s.queries _ _ stands.queries (returns-in-Some-clause-writes g c),
)

pub returns-in-None-clause-announced : goal.returns-in-None-clause-announced
returns-in-None-clause-announced g c = λ s stands. (
  told_reads _ s.queries _ _ stands.queries c.any_turn.ensures.reads,
  told_writes _ s.queries _ _ stands.queries c.any_turn.ensures.writes,
)
