use Rattle.std.proofs.Common.{◌≤◌, take, length}
use Rattle.adv_hints.specs.Candidates.{AreNext}
use Rattle.adv_hints.specs.declared.candidates.TheConstants.{ALL}
use Rattle.adv_hints.proofs.following.next_at.Given as goal

abbrev pub invariant-loop-candidate : goal.invariant-loop-candidate
invariant-loop-candidate l = record {
  so_far : AreNext l.front (take l.candidate-index ALL) l.next.items;
  room : length l.next.items ≤ l.candidate-index;
}
