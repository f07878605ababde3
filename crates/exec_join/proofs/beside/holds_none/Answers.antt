use Rattle.std.proofs.Common.{◌+◌, ◌*◌, ◌-ℤ◌, nat_abs, [], ◌∷◌, refl, sym, ap, ◌∙◌, not, arith}
use Rattle.std.specs.Prelude.{slice_index_or}
use Rattle.sem_query.specs.declared.cell.Cell.TheVariants.{Empty}
use Rattle.exec_pool.specs.Extents.{cells_of}
use Rattle.exec_pool.proofs.Words.{marked-few}
use Rattle.exec_join.proofs.AheadLaws.{marked-none}
use Rattle.exec_join.proofs.BesideLaws.{only-within, axis-empty}
use Rattle.exec_join.proofs.beside.holds_none.Goals as goal

pub dim_size-size-requires : goal.dim_size-size-requires
dim_size-size-requires g c = c.requires.inner.sound.0

pub offset_of-requires-clause-low : goal.offset_of-requires-clause-low
offset_of-requires-clause-low g c =
    let within = only-within c.args.plan.now (64 * c.args.e.now.pages) c.args.whole c.args.left c.requires.laid c.requires.only c.requires.inner (λ z. c.if-size-eq0.false (c.dim_size-size.ensures ∙ z)) in
    within.low

pub offset_of-requires-clause-high : goal.offset_of-requires-clause-high
offset_of-requires-clause-high g c =
    let within = only-within c.args.plan.now (64 * c.args.e.now.pages) c.args.whole c.args.left c.requires.laid c.requires.only c.requires.inner (λ z. c.if-size-eq0.false (c.dim_size-size.ensures ∙ z)) in
    within.high

pub offset_of-requires-clause-few : goal.offset_of-requires-clause-few
offset_of-requires-clause-few g c =
    let within = only-within c.args.plan.now (64 * c.args.e.now.pages) c.args.whole c.args.left c.requires.laid c.requires.only c.requires.inner (λ z. c.if-size-eq0.false (c.dim_size-size.ensures ∙ z)) in
    within.size

pub overflow_add-plan : goal.overflow_add-plan
overflow_add-plan g c =
    let within = only-within c.args.plan.now (64 * c.args.e.now.pages) c.args.whole c.args.left c.requires.laid c.requires.only c.requires.inner (λ z. c.if-size-eq0.false (c.dim_size-size.ensures ∙ z)) in
    omega (arith, within.fits, c.offset_of.ensures)

pub first_marked-requires-clause-within : goal.first_marked-requires-clause-within
first_marked-requires-clause-within g c =
    let within = only-within c.args.plan.now (64 * c.args.e.now.pages) c.args.whole c.args.left c.requires.laid c.requires.only c.requires.inner (λ z. c.if-size-eq0.false (c.dim_size-size.ensures ∙ z)) in
    omega (arith, within.room, c.offset_of.ensures, c.dim_size-size.ensures)

pub returns-clause-empty : goal.returns-clause-empty
returns-clause-empty g c t =
    let within = only-within c.args.plan.now (64 * c.args.e.now.pages) c.args.whole c.args.left c.requires.laid c.requires.only c.requires.inner (λ z. c.if-size-eq0.false (c.dim_size-size.ensures ∙ z)) in
    let clear = marked-none _ _ _ _ _ _ (c.is_none.ensures ∙ ap not t) c.first_marked.ensures.reads in
    axis-empty c.args.plan.now (c.args.left ∷ []) (64 * c.args.e.now.pages) (record { first = c.args.plan.now.base + nat_abs (c.args.left.lo -ℤ c.args.whole.lo); stride = 1 }) c.requires.laid c.requires.inner within.line refl (cells_of c.args.pool.now c.args.e.now) c.dim_size-size.result (omega (arith, c.dim_size-size.ensures))
    (λ i a b. (λ k. slice_index_or (cells_of c.args.pool.now c.args.e.now) (c.args.plan.now.base + sym c.offset_of.ensures k + i) Empty) ∙ clear i a b)

pub returns-clause-reads : goal.returns-clause-reads
returns-clause-reads g c =
    (let r = marked-few _ _ _ _ _ _ c.first_marked.ensures.reads in let e = c.dim_size-size.ensures in omega (arith, r, e))
