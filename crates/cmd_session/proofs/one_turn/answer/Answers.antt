use Rattle.std.proofs.Common.{arith}
use Rattle.sql_parser.specs.LineKind.{kind_of_line, stripped}
use Rattle.cmd_session.proofs.MostSteps.{any_reads, any_writes}
use Rattle.cmd_session.proofs.one_turn.answer.Goals as goal

pub returns-else-long-clause-reads : goal.returns-else-long-clause-reads
returns-else-long-clause-reads g c = omega (arith, c.line-else-long.ensures.reads, any_reads (kind_of_line (stripped c.line.result.now)) c.args.session.now.registry.live)

pub returns-else-long-clause-writes : goal.returns-else-long-clause-writes
returns-else-long-clause-writes g c = omega (arith, c.line-else-long.ensures.writes, any_writes (kind_of_line (stripped c.line.result.now)) c.args.session.now.registry.live)
