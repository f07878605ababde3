use Rattle.std.proofs.Common.{length}
use Rattle.cmd_dispatch.proofs.words.+options.Given as goal

-- proposed from what the function passes where it calls itself
abbrev pub decreases-options : goal.decreases-options
decreases-options l = length l.words.now
