use Rattle.sql_parser.specs.declared.plain.PlainStatement.TheVariants as plain
use Rattle.cmd_session.proofs.Unlocking.{none_unlocked}
use Rattle.cmd_session.proofs.lock.number_unlocked.Goals as goal

pub returns-then-not-may_unlock-clause-none : goal.returns-then-not-may_unlock-clause-none
returns-then-not-may_unlock-clause-none c = λ nothing key u. c.may_unlock.ensures.never c.if-not-may_unlock.true key u.says

pub returns-in-Listed-clause-none : goal.returns-in-Listed-clause-none
returns-in-Listed-clause-none c = λ nothing key u. c.in-Listed.ensures (plain.Unlock key) u.says u.within

pub returns-in-Refused-clause-none : goal.returns-in-Refused-clause-none
returns-in-Refused-clause-none c = λ nothing key u. none_unlocked c.args.text.now _ key c.in-Refused.ensures u
