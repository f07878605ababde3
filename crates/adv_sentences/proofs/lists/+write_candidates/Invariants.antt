use Rattle.std.proofs.Common.{length}
use Rattle.adv_sentences.proofs.lists.+write_candidates.Given as goal

abbrev pub decreases-write_candidates : goal.decreases-write_candidates
decreases-write_candidates g l = length l.candidates.now
