use Rattle.std.proofs.Common.{◌∙◌, ap}
use Rattle.sql_parser.specs.Grammar.{is_unlock}
use Rattle.sql_parser.proofs.Unlocks.{unlocking_may}
use Rattle.sql_parser.proofs.unlocking.may_unlock.Goals as goal

pub returns-clause-never : goal.returns-clause-never
returns-clause-never c = λ no k s. cc (unlocking_may c.args.text.now k s, c.is_unlock.ensures ∙ ap is_unlock c.first_word.ensures, no)
