use Rattle.std.proofs.Common.{◌≡◌, length, arith}
use Rattle.sem_query.specs.Parts.{pairs}
use Rattle.exec_part_index.proofs.PreparedParts.{prepared-length, part_prepared}
use Rattle.exec_part_index.proofs.prepared.prepared_of.Goals as goal

pub bounds-prepared-i : goal.bounds-prepared-i
bounds-prepared-i c =
    let l : length c.args.prepared.now ≡ length c.args.parts.now = prepared-length (pairs c.args.q.now) c.args.parts.now c.args.prepared.now c.requires.prepared in
    let h = c.requires.inside in
    omega (arith, l, h)

pub returns : goal.returns
returns c = part_prepared (pairs c.args.q.now) c.args.parts.now c.args.prepared.now c.index-prepared-i.result c.args.i c.requires.prepared c.requires.inside c.index-prepared-i.is
