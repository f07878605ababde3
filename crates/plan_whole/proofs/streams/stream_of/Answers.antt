use Rattle.std.proofs.Common.{◌≡◌, map, sym, subst, arith}
use Rattle.plan_whole.specs.Columns.{atom_of}
use Rattle.plan_whole.proofs.Streaming.{AreDimsOf, dims_first, dims_step, stream_is}
use Rattle.plan_whole.proofs.streams.stream_of.Goals as goal

pub loop-column-init : goal.loop-column-init
loop-column-init c = record {
  within = omega arith;
  dims = subst (AreDimsOf c.args.closed.now (map atom_of c.args.links.now) c.args.place c.kind_of-kind.result 0) (sym c.new-dims.ensures) (dims_first c.args.closed.now (map atom_of c.args.links.now) c.args.place c.kind_of-kind.result);
}

pub add_dim-requires : goal.add_dim-requires
add_dim-requires c = let f = c.loop-column.invariant.dims.few in let l = c.loop-column-test.true in omega (arith, f, l)

pub loop-column-preserved : goal.loop-column-preserved
loop-column-preserved c = record {
  within = (let l = c.loop-column-test.true in omega (arith, l));
  dims = dims_step c.args.closed.now (map atom_of c.args.links.now) c.args.place c.kind_of-kind.result c.loop-column.column c.loop-column.dims.items _ c.dim_of.result c.dim_of.ensures c.add_dim.ensures c.loop-column.invariant.dims;
}

pub returns : goal.returns
returns c =
    let l = c.loop-column-test.false in
    let m = c.loop-column.invariant.within in
    let e : c.loop-column.column ≡ 8 = omega (arith, l, m) in
    stream_is c.args.closed.now (map atom_of c.args.links.now) c.args.place c.kind_of-kind.result c.requires c.kind_of-kind.ensures.formed c.loop-column.dims.items c.kind_of-kind.ensures.kind
    (subst (λ n. AreDimsOf c.args.closed.now (map atom_of c.args.links.now) c.args.place c.kind_of-kind.result n c.loop-column.dims.items) e c.loop-column.invariant.dims)
