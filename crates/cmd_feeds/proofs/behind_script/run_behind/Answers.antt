use Rattle.std.proofs.Common.{[]}
use Rattle.cmd_feeds.proofs.Outcomes.{same-later}
use Rattle.cmd_feeds.proofs.Scripted.{no-fault-sources, later-sources}
use Rattle.cmd_feeds.proofs.behind_script.run_behind.Goals as goal

pub returns-in_default-clause-sources_later : goal.returns-in_default-clause-sources_later
returns-in_default-clause-sources_later g c = same-later _

pub returns-in_default-new-clause-sources_later : goal.returns-in_default-new-clause-sources_later
returns-in_default-new-clause-sources_later g c = same-later _

pub returns-in_default-new-2-clause-sources_later : goal.returns-in_default-new-2-clause-sources_later
returns-in_default-new-2-clause-sources_later g c = same-later _

pub returns-clause-ran : goal.returns-clause-ran
returns-clause-ran g c = λ file. c.answer_all-ending.ensures.ran c.args.limit file c.in-Ok-new-2.ensures

pub returns-clause-complete : goal.returns-clause-complete
returns-clause-complete g c = λ sources output.
    no-fault-sources c.answer_all-ending.result.status c.answer_all-ending.result.script_failed c.args.limit _ _ _ _ _ sources output (c.answer_all-ending.ensures.ran c.args.limit [] c.in-Ok-new-2.ensures)

pub returns-clause-sources_later : goal.returns-clause-sources_later
returns-clause-sources_later g c =
    later-sources c.answer_all-ending.result.status c.answer_all-ending.result.script_failed c.args.limit _ _ _ _ _ (c.answer_all-ending.ensures.ran c.args.limit [] c.in-Ok-new-2.ensures)
