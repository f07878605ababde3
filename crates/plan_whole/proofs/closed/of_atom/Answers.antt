use Rattle.plan_whole.proofs.Within.{atom_within}
use Rattle.plan_whole.proofs.closed.of_atom.Goals as goal

pub returns-clause-within : goal.returns-clause-within
returns-clause-within c = atom_within c.args.q.now c.args.atom.now _ (rw c.attrs.ensures.value at c.of_comparison.ensures) c.attrs.ensures.limits c.requires.left c.requires.right c.requires.one
