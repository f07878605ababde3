use Rattle.std.proofs.Common.{◌∙◌}
use Rattle.exec_synopsis.proofs.AccessLaws.{free-whole}
use Rattle.exec_synopsis.proofs.accesses.access_at.Goals as goal
use Rattle.std.proofs.Common.{sym}

pub returns-then-all_free : goal.returns-then-all_free
returns-then-all_free c e = free-whole c.args.part.now c.args.arriving c.args.place c.dims_at-dims.result.now c.dims_at-dims.ensures.value (sym c.all_free.ensures ∙ c.if-all_free.true)
