use Rattle.cmd_dispatch.proofs.Sessions.{phase-stands, session-ran, in-file}
use Rattle.cmd_dispatch.proofs.session.answer_both.Goals as goal

pub answer_source-requires-clause-stands : goal.answer_source-requires-clause-stands
answer_source-requires-clause-stands g c =
    let known = c.requires.stands in
    phase-stands c.args.form.file c.args.form.each known.state _ _ _ _ _ _ known.stands (c.in-Done.ensures.phase known.state known.stands)

pub returns-in-Done-clause-ran : goal.returns-in-Done-clause-ran
returns-in-Done-clause-ran g c = λ s stands.
    session-ran c.args.form.file c.args.form.each c.answer_source.result s _ _ _ _ _ _ _ _ _ stands (c.in-Done.ensures.phase s stands) c.answer_source.ensures.streams

pub returns-in_default : goal.returns-in_default
returns-in_default g c = record {
  ran = λ s stands. in-file c.args.form.file c.args.form.each c.answer_file.result s _ _ _ _ _ _ _ c.in_default.not-Done (c.answer_file.ensures.phase s stands);
  same_reference = c.answer_file.ensures.same_reference;
}
