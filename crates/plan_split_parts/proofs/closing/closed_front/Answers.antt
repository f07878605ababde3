use Rattle.std.proofs.Common.{length, ap, arith}
use Rattle.plan_split_parts.proofs.Tabled.{satisfiable_front, signed_front, front_closes}
use Rattle.plan_split_parts.proofs.closing.closed_front.Goals as goal

pub bounds_of-bounds-requires-clause-satisfiable : goal.bounds_of-bounds-requires-clause-satisfiable
bounds_of-bounds-requires-clause-satisfiable c = satisfiable_front c.args.q.now c.args.pairs.now c.args.front.now c.attrs.ensures.limits c.requires.pairs c.requires.front

pub bounds_of-bounds-requires-clause-last : goal.bounds_of-bounds-requires-clause-last
bounds_of-bounds-requires-clause-last c = let a = c.requires.front.distances.attrs in let f = ap length c.attrs.ensures.value in let w = c.attrs.ensures.limits.few_attrs in omega (arith, a, f, w)

pub closed_at-requires-clause-signed : goal.closed_at-requires-clause-signed
closed_at-requires-clause-signed c = signed_front c.args.q.now c.args.pairs.now c.args.front.now c.attrs.ensures.limits c.requires.pairs c.requires.front _ c.as_slice.ensures.value

pub closed_at-requires-clause-closed : goal.closed_at-requires-clause-closed
closed_at-requires-clause-closed c = front_closes c.args.q.now c.args.pairs.now c.args.front.now c.attrs.ensures.limits c.requires.pairs c.requires.front _ c.as_slice.ensures.value c.bounds_of-bounds.result c.bounds_of-bounds.ensures
