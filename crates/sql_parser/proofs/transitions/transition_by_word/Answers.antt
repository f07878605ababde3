use Rattle.std.proofs.Common.{◌∙◌}
use Rattle.sql_parser.proofs.Compact.{other_word}
use Rattle.sql_parser.proofs.transitions.transition_by_word.Goals as goal

pub returns-in_default : goal.returns-in_default
returns-in_default c = c.transition.ensures ∙ other_word c.args.state c.args.word.now c.in_default.not-Start c.in_default.not-AfterLock c.in_default.not-AfterLockKey c.in_default.not-AfterCreate c.in_default.not-AfterShared
