use Rattle.std.proofs.Common.{◌<◌, length, ap, refl, arith, ◌∙◌}
use Rattle.arrayvec.specs.ArrayVec.{ArrayVec as Items}
use Rattle.sem_query.specs.declared.plan.Link.{Link}
use Rattle.plan_links.specs.Sifting.{done, IsOrderedEquality}
use Rattle.plan_links.proofs.Gathered.{kept_at, dropped_at, end_at, all_equalities, sides_among, room_for_equality, not_from}
use Rattle.plan_links.proofs.links.equalities.Goals.{then-is_equality, else-is_equality}
use Rattle.plan_links.proofs.links.equalities.Goals as goal

pub loop-i-init : goal.loop-i-init
loop-i-init c = rw c.new-list.ensures done

pub is_equality-requires-clause-left : goal.is_equality-requires-clause-left
is_equality-requires-clause-left c =
    let e = c.requires.links in
    (sides_among c.args.q.now c.args.p.now.signs.items c.args.links.now c.loop-i.i _ e c.loop-i-test.true).0

pub is_equality-requires-clause-right : goal.is_equality-requires-clause-right
is_equality-requires-clause-right c =
    let e = c.requires.links in
    (sides_among c.args.q.now c.args.p.now.signs.items c.args.links.now c.loop-i.i _ e c.loop-i-test.true).1

pub push-requires : goal.push-requires
push-requires c =
    let e = c.requires.links in
    let n : length c.loop-i.list.items < 66 = room_for_equality c.args.q.now c.args.p.now.signs.items c.args.links.now c.loop-i.list.items c.loop-i.i _ c.requires.known.few e c.loop-i-test.true (c.is_equality.ensures.0 c.if-is_equality.true) c.loop-i.invariant in
    (omega arith, n)

pub loop-i-preserved : goal.loop-i-preserved
loop-i-preserved c =
    elim c.if-is_equality.branch [
      | then-is_equality w ↦
          kept_at (IsOrderedEquality c.args.q.now c.args.p.now.signs.items) c.args.links.now c.args.links.now c.loop-i.list.items _ c.loop-i.i _ refl c.loop-i-test.true (c.is_equality.ensures.0 w.if-is_equality.true) c.loop-i.invariant (ap (λ (v : Items Link). v.items) w.list-is ∙ w.push.ensures.items)
      | else-is_equality w ↦
          dropped_at (IsOrderedEquality c.args.q.now c.args.p.now.signs.items) c.args.links.now c.args.links.now c.loop-i.list.items _ c.loop-i.i _ refl c.loop-i-test.true (not_from _ c.is_equality.ensures.1 w.if-is_equality.false) c.loop-i.invariant (ap (λ (v : Items Link). v.items) w.list-is)
    ]

pub returns : goal.returns
returns c =
    let e = c.requires.links in
    all_equalities c.args.q.now c.args.p.now.signs.items _ _ e (end_at (IsOrderedEquality c.args.q.now c.args.p.now.signs.items) c.args.links.now c.args.links.now c.loop-i.list.items c.loop-i.i refl c.loop-i-test.false c.loop-i.invariant)
