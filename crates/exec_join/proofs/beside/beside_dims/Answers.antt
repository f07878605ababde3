use Rattle.sem_query.specs.Meaning.{by_column}
use Rattle.exec_synopsis.specs.Narrowing.{clip}
use Rattle.exec_join.proofs.BesideLaws.{next_beside}
use Rattle.exec_join.proofs.beside.beside_dims.Goals as goal

pub dims-preserved : goal.dims-preserved
dims-preserved c =
    next_beside (λ links. clip c.args.arriving 0 links (λ a. by_column c.args.row.now a.column)) c.as_slice.result.now c.args.part.now.less.items c.dims_at-dim-items.result.now c.dims.dims.items _ c.dims.dim-index c.clip.result _ c.as_slice.ensures.value c.dims.invariant c.push.ensures.items c.clip.ensures c.dims-test.true
