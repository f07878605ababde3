use Rattle.std.proofs.Common.{[], append-nil, length, ap, sym, subst, arith}
use Rattle.plan_closure.specs.Shortest.{AreDistancesOf}
use Rattle.sem_query.specs.Query.{attrs_of}
use Rattle.plan_constraints.specs.Solutions.{IsSatisfiable}
use Rattle.plan_whole.specs.Closed.{closed_constraints}
use Rattle.plan_whole.proofs.Named.{satisfied}
use Rattle.plan_whole.proofs.Signing.{no_pairs}
use Rattle.plan_split_parts.proofs.Tabled.{satisfiable_distances, closes}
use Rattle.plan_split_parts.proofs.closing.closed_query.Goals as goal

pub returns-then-not-satisfiable : goal.returns-then-not-satisfiable
returns-then-not-satisfiable c = λ v s. let y = (c.satisfiable.ensures _ _ c.distances_of-distances.ensures.distances).1 (satisfied c.args.q.now v s) in cc

pub bounds_of-bounds-requires-clause-satisfiable : goal.bounds_of-bounds-requires-clause-satisfiable
bounds_of-bounds-requires-clause-satisfiable c = satisfiable_distances c.distances_of-distances.result (length (attrs_of c.args.q.now.atoms)) (closed_constraints c.args.q.now) c.distances_of-distances.ensures.distances ((c.satisfiable.ensures _ _ c.distances_of-distances.ensures.distances).0 c.if-not-satisfiable.false)

pub bounds_of-bounds-requires-clause-last : goal.bounds_of-bounds-requires-clause-last
bounds_of-bounds-requires-clause-last c = let a = c.distances_of-distances.ensures.distances.attrs in let f = ap length c.attrs.ensures.value in let w = c.attrs.ensures.limits.few_attrs in omega (arith, a, f, w)

pub closed_at-requires-clause-signed : goal.closed_at-requires-clause-signed
closed_at-requires-clause-signed c = no_pairs c.args.q.now

pub closed_at-requires-clause-closed : goal.closed_at-requires-clause-closed
closed_at-requires-clause-closed c =
    closes c.args.q.now [] [] c.distances_of-distances.result c.bounds_of-bounds.result c.distances_of-distances.ensures.limits (no_pairs c.args.q.now)
    (subst (AreDistancesOf c.distances_of-distances.result (length (attrs_of c.args.q.now.atoms))) (sym (append-nil (closed_constraints c.args.q.now))) c.distances_of-distances.ensures.distances)
    (subst IsSatisfiable (sym (append-nil (closed_constraints c.args.q.now))) ((c.satisfiable.ensures _ _ c.distances_of-distances.ensures.distances).0 c.if-not-satisfiable.false)) c.bounds_of-bounds.ensures
