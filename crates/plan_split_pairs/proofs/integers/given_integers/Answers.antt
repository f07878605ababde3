use Rattle.plan_split_pairs.proofs.Room.{short_at, given_more}
use Rattle.plan_split_pairs.proofs.integers.given_integers.Goals as goal

pub push_comparison-requires-clause-short : goal.push_comparison-requires-clause-short
push_comparison-requires-clause-short c = short_at c.args.q.now _ c.atoms.atom-index _ c.atoms-atom-items.ensures.value c.atoms-test.true c.atoms-atom-items.ensures.limits

pub atoms-preserved : goal.atoms-preserved
atoms-preserved c =
    let r = given_more c.args.q.now c.args.attr c.atoms.atom-index _ c.atoms.list.items c.push_comparison.new.list.items
    (rw c.atoms-atom-items.ensures.value at c.atoms-test.true) c.atoms.invariant.given c.atoms.invariant.few (rw c.atoms-atom-items.ensures.value at c.push_comparison.ensures) in
    record { given = r.0; few = r.1 }
