use Rattle.std.proofs.Common.{◌∙◌}
use Rattle.cmd_session.proofs.Progress.{came-begun}
use Rattle.cmd_session.proofs.SameSink.{same_name}
use Rattle.cmd_session.proofs.one_turn.any_turn.Goals as goal

pub returns-in-Given-clause-turned : goal.returns-in-Given-clause-turned
returns-in-Given-clause-turned g c = λ s stands. c.turn_of.ensures.turned s _ _ _ _ _ _ _ _ (record {
  long = c.in-Given.long;
  between = _;
  left = _;
  came = c.in-Given.ensures.comes;
  name = _;
  name' = _;
  answers = λ text begun. c.answer-outcome.ensures.reply s text begun stands;
})

pub returns-in-Given-clause-same_reference : goal.returns-in-Given-clause-same_reference
returns-in-Given-clause-same_reference g c =
    let line = came-begun c.in-Given.long _ _ _ _ _ _ _ _ c.in-Given.ensures.comes in
    let told = c.answer-outcome.ensures.reply c.requires.stands.state line.0 line.1 c.requires.stands.stands in
    c.turn_of.ensures.same_reference ∙ same_name _ _ _ _ (g.O.Sink.seen c.fetch.new.output.sink.now) (g.O.Sink.seen c.answer-outcome.new.output.sink.now) _ _ _ _ told ∙ c.in-Given.ensures.same_reference
