use Rattle.std.proofs.Common.{◌<◌, length, arith}
use Rattle.std.proofs.lemmas.List.Elements.{Contains-get_or}
use Rattle.sem_query.specs.Query.{attrs_of}
use Rattle.plan_links.proofs.Searching.{no_more}
use Rattle.plan_links.proofs.Gathered.{not_from}
use Rattle.plan_layout.specs.ColumnPlaces.{attr_at}
use Rattle.plan_layout.specs.Classes.{IsWantedMember}
use Rattle.plan_layout.proofs.Tested.{no_told}
use Rattle.plan_layout.proofs.Wanting.{has_told}
use Rattle.plan_layout.proofs.dims.has_wanted.Goals as goal

pub loop-j-preserved : goal.loop-j-preserved
loop-j-preserved c =
    let l : c.loop-j.j < length (attrs_of c.args.q.now.atoms) = omega arith in
    no_more (IsWantedMember c.args.q.now c.args.p.now.signs.items (attr_at c.args.q.now c.args.i)) (attrs_of c.args.q.now.atoms) c.loop-j.j _ l c.loop-j.invariant (not_from _ c.is_wanted_member.ensures.1 c.if-is_wanted_member.false)

pub returns : goal.returns
returns c = no_told (has_told c.args.q.now c.args.p.now.signs.items (attr_at c.args.q.now c.args.i) (Contains-get_or (attrs_of c.args.q.now.atoms) c.args.i _ c.requires.place) c.attr_count-j-end.result c.loop-j.j c.attr_count-j-end.ensures.value c.loop-j-test.false c.loop-j.invariant)
