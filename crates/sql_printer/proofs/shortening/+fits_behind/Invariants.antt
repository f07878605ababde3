use Rattle.std.proofs.Common.{length}
use Rattle.sql_printer.proofs.shortening.+fits_behind.Given as goal

abbrev pub decreases-fits_behind : goal.decreases-fits_behind
decreases-fits_behind l = length l.others.now
