use Rattle.plan_links.proofs.Gathered.{refs_told, are_inequalities}
use Rattle.plan_links.proofs.reading.refs.Goals as goal

pub min_refs-min_ref-requires-clause-less : goal.min_refs-min_ref-requires-clause-less
min_refs-min_ref-requires-clause-less c = rw c.as_slice-2.ensures.value (are_inequalities _ _ _ c.inequalities-less.ensures)

pub max_refs-max_ref-requires-clause-less : goal.max_refs-max_ref-requires-clause-less
max_refs-max_ref-requires-clause-less c = rw c.as_slice-4.ensures.value (are_inequalities _ _ _ c.inequalities-less.ensures)

pub returns-clause-refs : goal.returns-clause-refs
returns-clause-refs c = refs_told c.args.q.now c.args.p.now.signs.items _ c.ranges-ranges.ensures c.classes.ensures c.equalities.ensures c.inequalities-less.ensures c.min_refs-min_ref.ensures c.max_refs-max_ref.ensures
