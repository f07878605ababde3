use Rattle.std.proofs.Common.{length}
use Rattle.cmd_advise_split.proofs.printing.+write_queries.Given as goal

abbrev pub decreases-write_queries : goal.decreases-write_queries
decreases-write_queries g l = length l.names.now
