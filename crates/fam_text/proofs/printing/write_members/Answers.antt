use Rattle.std.proofs.Common.{◌<◌, ◌≡◌, ◌+◌, suc, arith, length}
use Rattle.fam_text.specs.Text.{member_text}
use Rattle.fam_text.proofs.Texts.{family_in, member-same, asked-there, writes-more, stops-more}
use Rattle.fam_text.proofs.printing.write_members.Goals as goal

pub write_member-requires-clause-asked : goal.write_member-requires-clause-asked
write_member-requires-clause-asked g c =
    let below : c.loop-i.i < length c.args.g.now = (let l = c.loop-i-test.true in let e = c.requires.many in omega (arith, l, e)) in
    asked-there c.args.catalog.now c.args.stream (length c.args.m.now) c.args.m.now c.args.g.now c.loop-i.i c.index-g-i.result c.as_slice.result.now
    c.requires.taken c.loop-i-test.true below c.index-g-i.is c.as_slice.ensures.value

pub returns-in-Err : goal.returns-in-Err
returns-in-Err g c =
    let below : c.loop-i.i < length c.args.g.now = (let l = c.loop-i-test.true in let e = c.requires.many in omega (arith, l, e)) in
    stops-more (member_text c.args.catalog.now (family_in c.args.stream c.args.m.now c.args.g.now)) c.loop-i.i (length c.args.m.now) _ _ _ _ c.loop-i-test.true
    (member-same c.args.catalog.now c.args.stream c.args.m.now c.args.g.now c.loop-i.i _ c.index-m-i.result c.index-g-i.result c.as_slice.result.now
    c.index-m-i.is c.index-g-i.is c.as_slice.ensures.value c.loop-i-test.true below (omega arith))
    c.loop-i.invariant c.in-Err.ensures

pub loop-i-preserved : goal.loop-i-preserved
loop-i-preserved g c =
    let below : c.loop-i.i < length c.args.g.now = (let l = c.loop-i-test.true in let e = c.requires.many in omega (arith, l, e)) in
    let next : c.loop-i.i + 1 ≡ suc c.loop-i.i = omega arith in
    writes-more (member_text c.args.catalog.now (family_in c.args.stream c.args.m.now c.args.g.now)) c.loop-i.i (c.loop-i.i + 1) _ _ _ _ next
    (member-same c.args.catalog.now c.args.stream c.args.m.now c.args.g.now c.loop-i.i (c.loop-i.i + 1) c.index-m-i.result c.index-g-i.result c.as_slice.result.now
    c.index-m-i.is c.index-g-i.is c.as_slice.ensures.value c.loop-i-test.true below next)
    c.loop-i.invariant c.in-Ok.ensures
