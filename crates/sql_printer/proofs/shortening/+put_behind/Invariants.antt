use Rattle.std.proofs.Common.{length}
use Rattle.sql_printer.proofs.shortening.+put_behind.Given as goal

abbrev pub decreases-put_behind : goal.decreases-put_behind
decreases-put_behind g l = length l.others.now
