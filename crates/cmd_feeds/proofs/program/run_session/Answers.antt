use Rattle.std.proofs.Common.{[]}
use Rattle.cmd_session.specs.State.{empty}
use Rattle.cmd_feeds.proofs.Outcomes.{session-ran, no-fault, feeds-later, same-later}
use Rattle.cmd_feeds.proofs.program.run_session.Goals as goal

pub returns-clause-ran : goal.returns-clause-ran
returns-clause-ran g c =
    let told = c.answer_all-status.ensures (empty c.args.limit) c.in-Ok-new.ensures in
    session-ran c.answer_all-status.result c.args.limit _ _ _ _ told.ends

pub returns-clause-complete : goal.returns-clause-complete
returns-clause-complete g c = λ feeds output.
    no-fault c.answer_all-status.result [] (empty c.args.limit) _ _ _ _ feeds output (c.answer_all-status.ensures (empty c.args.limit) c.in-Ok-new.ensures).ends

pub returns-in_default-clause-feeds_later : goal.returns-in_default-clause-feeds_later
returns-in_default-clause-feeds_later g c = same-later _

pub returns-in_default-new-clause-feeds_later : goal.returns-in_default-new-clause-feeds_later
returns-in_default-new-clause-feeds_later g c = same-later _

pub returns-clause-feeds_later : goal.returns-clause-feeds_later
returns-clause-feeds_later g c = feeds-later c.answer_all-status.result [] (empty c.args.limit) _ _ _ _ (c.answer_all-status.ensures (empty c.args.limit) c.in-Ok-new.ensures).ends

pub returns-clause-later : goal.returns-clause-later
returns-clause-later g c = (c.answer_all-status.ensures (empty c.args.limit) c.in-Ok-new.ensures).later
