use Rattle.std.proofs.Common.{◌-◌, arith}
use Rattle.sem_query.proofs.BoxLaws.{sound-from, room-at, size-next}
use Rattle.sem_query.proofs.boxes.size_of.Goals as goal

pub dim_size-size-requires : goal.dim_size-size-requires
dim_size-size-requires c = (room-at c.args.dims.now (c.sizes.i - 1) _ (omega arith) (sound-from c.args.dims.now (c.sizes.i - 1) c.requires)).one

pub overflow_mul-size : goal.overflow_mul-size
overflow_mul-size c = let h = size-next c.args.dims.now c.sizes.i _ c.sizes.size c.dim_size-size.result (omega arith) c.sizes.invariant.within c.requires c.sizes.invariant.size c.dim_size-size.ensures in omega (arith, h)
