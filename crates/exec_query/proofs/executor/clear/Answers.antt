use Rattle.std.proofs.Common.{◌∙◌, sym}
use Rattle.exec_query.proofs.ClearedNone.{none-cleared}
use Rattle.exec_query.proofs.executor.clear.Goals as goal

pub returns-then-len-eq0 : goal.returns-then-len-eq0
returns-then-len-eq0 c = none-cleared c.args.distinct c.args.table.now (sym c.len.ensures.len ∙ c.if-len-eq0.true)
