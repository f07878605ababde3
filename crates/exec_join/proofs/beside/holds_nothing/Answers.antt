use Rattle.std.proofs.Common.{sym, ap, ◌∙◌, not, subst, arith}
use Rattle.exec_pool.proofs.Words.{marked-few}
use Rattle.exec_join.proofs.AheadLaws.{marked-none}
use Rattle.sem_query.specs.Boxes.{AreNumbered}
use Rattle.sem_query.proofs.BoxLaws.{sound-full}
use Rattle.exec_pool.specs.Extents.{cells_of}
use Rattle.exec_ranges.specs.Lined.{IsLine}
use Rattle.exec_join.proofs.BesideLaws.{axis-within, axis-empty}
use Rattle.exec_join.proofs.beside.holds_nothing.Goals as goal

pub line_of-requires-clause-numbered : goal.line_of-requires-clause-numbered
line_of-requires-clause-numbered g c =
    let out = c.requires.laid in
    subst AreNumbered (sym c.as_slice.ensures.value) (sound-full _ out.full (omega (arith, out.size, out.few)))

pub first_marked-requires-clause-within : goal.first_marked-requires-clause-within
first_marked-requires-clause-within g c =
    let plan = c.args.plan.now in
    let on : IsLine plan.base plan.dims.items c.args.dims.now c.in-Some.line = subst (λ ds. IsLine plan.base ds c.args.dims.now c.in-Some.line) c.as_slice.ensures.value c.in-Some.ensures in
    axis-within plan c.args.dims.now _ c.in-Some.line c.requires.laid c.requires.inner on c.if-line-ne1.false c.size_of-size.result c.size_of-size.ensures c.if-size-eq0.false

pub returns-clause-empty : goal.returns-clause-empty
returns-clause-empty g c t =
    let plan = c.args.plan.now in
    let on : IsLine plan.base plan.dims.items c.args.dims.now c.in-Some.line = subst (λ ds. IsLine plan.base ds c.args.dims.now c.in-Some.line) c.as_slice.ensures.value c.in-Some.ensures in
    axis-empty plan c.args.dims.now _ c.in-Some.line c.requires.laid c.requires.inner on c.if-line-ne1.false (cells_of c.args.pool.now c.args.e.now) c.size_of-size.result c.size_of-size.ensures (marked-none _ _ _ _ _ _ (c.is_none.ensures ∙ ap not t) c.first_marked.ensures.reads)

pub returns-clause-reads : goal.returns-clause-reads
returns-clause-reads g c =
    (let r = marked-few _ _ _ _ _ _ c.first_marked.ensures.reads in let e = c.size_of-size.ensures in omega (arith, r, e))
