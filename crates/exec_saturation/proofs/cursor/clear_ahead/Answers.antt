use Rattle.std.proofs.Common.{◌≡◌, ℕ, ◌+◌, ◌-◌, slice_index_or, subst, arith}
use Rattle.sem_query.specs.declared.cell.Cell.TheVariants.{Empty}
use Rattle.exec_pool.specs.Extents.{cells_of}
use Rattle.exec_saturation.proofs.cursor.clear_ahead.Goals as goal

pub returns-in-Some-clause-clear : goal.returns-in-Some-clause-clear
returns-in-Some-clause-clear g c i low high =
    let same : (c.args.stream.now.base + c.args.cell) + (i - c.args.cell) ≡ c.args.stream.now.base + i = omega (arith, low) in
    subst (λ (o : ℕ). slice_index_or (cells_of c.args.pool.now c.args.extent.now) o Empty ≡ Empty) same
    (c.in-Some.ensures.reads.0.before (i - c.args.cell) (omega arith) (omega (arith, low, high)))

pub returns-in-None-clause-clear : goal.returns-in-None-clause-clear
returns-in-None-clause-clear g c i low high =
    let same : (c.args.stream.now.base + c.args.cell) + (i - c.args.cell) ≡ c.args.stream.now.base + i = omega (arith, low) in
    subst (λ (o : ℕ). slice_index_or (cells_of c.args.pool.now c.args.extent.now) o Empty ≡ Empty) same
    (c.in-None.ensures.reads.0 (i - c.args.cell) (omega arith) (omega (arith, low, high)))
