use Rattle.std.proofs.Common.{◌<◌, List, length, subst, Contains}
use Rattle.sem_query.specs.declared.atom.Attr.{Attr}
use Rattle.plan_layout.proofs.Wanting.{dim_found}
use Rattle.plan_layout.proofs.dims.dim_named.Goals as goal

pub dim_at-requires-clause-place : goal.dim_at-requires-clause-place
dim_at-requires-clause-place c = subst (λ (z : List Attr). c.in-Some.i < length z) c.attrs.ensures.value c.in-Some.ensures.0

pub dim_alone-requires-clause-unnamed : goal.dim_alone-requires-clause-unnamed
dim_alone-requires-clause-unnamed c = subst (λ (z : List Attr). ¬ Contains z c.args.attr) c.attrs.ensures.value c.in-None.ensures

pub returns-in-Some : goal.returns-in-Some
returns-in-Some c = dim_found c.args.q.now c.args.p.now.signs.items c.args.place c.attrs.result.now c.in-Some.i c.args.attr _ c.attrs.ensures.value c.in-Some.ensures.1 c.dim_at.ensures
