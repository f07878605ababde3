use Rattle.std.proofs.Common.{◌<◌, length, arith}
use Rattle.sem_query.specs.Query.{attrs_of}
use Rattle.plan_links.proofs.Searching.{no_more}
use Rattle.plan_links.proofs.Gathered.{not_from}
use Rattle.plan_layout.specs.Classes.{IsNameAmong}
use Rattle.plan_layout.proofs.Referring.{none_named}
use Rattle.plan_layout.proofs.kinds.name_among.Goals as goal

pub loop-i-preserved : goal.loop-i-preserved
loop-i-preserved c =
    let l : c.loop-i.i < length (attrs_of c.args.q.now.atoms) = omega arith in
    no_more (IsNameAmong c.args.q.now c.args.p.now.signs.items c.args.columns.now c.args.place) (attrs_of c.args.q.now.atoms) c.loop-i.i _ l c.loop-i.invariant (not_from _ c.is_name_among.ensures.1 c.if-is_name_among.false)

pub returns : goal.returns
returns c = none_named c.args.q.now c.args.p.now.signs.items c.args.columns.now c.requires.columns c.args.place c.attr_count-i-end.result c.loop-i.i c.attr_count-i-end.ensures.value c.loop-i-test.false c.loop-i.invariant
