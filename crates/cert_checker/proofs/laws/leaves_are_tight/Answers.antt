use Rattle.cert_checker.proofs.LeafBounds as bounds
use Rattle.cert_checker.proofs.laws.leaves_are_tight.Goals as goal

pub returns : goal.returns
returns c = bounds.leaves_are_tight
