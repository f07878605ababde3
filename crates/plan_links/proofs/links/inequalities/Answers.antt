use Rattle.std.proofs.Common.{◌<◌, length, ap, refl, arith, ◌∙◌}
use Rattle.arrayvec.specs.ArrayVec.{ArrayVec as Items}
use Rattle.sem_query.specs.declared.plan.Link.{Link}
use Rattle.plan_links.specs.Sifting.{done, IsOrderedInequality}
use Rattle.plan_links.proofs.Gathered.{kept_at, dropped_at, end_at, all_inequalities, sides_among, room_for_inequality, not_from}
use Rattle.plan_links.proofs.links.inequalities.Goals.{then-is_inequality, else-is_inequality}
use Rattle.plan_links.proofs.links.inequalities.Goals as goal

pub loop-i-init : goal.loop-i-init
loop-i-init c = rw c.new-list.ensures done

pub is_inequality-requires-clause-left : goal.is_inequality-requires-clause-left
is_inequality-requires-clause-left c =
    let e = c.requires.links in
    (sides_among c.args.q.now c.args.p.now.signs.items c.args.links.now c.loop-i.i _ e c.loop-i-test.true).0

pub is_inequality-requires-clause-right : goal.is_inequality-requires-clause-right
is_inequality-requires-clause-right c =
    let e = c.requires.links in
    (sides_among c.args.q.now c.args.p.now.signs.items c.args.links.now c.loop-i.i _ e c.loop-i-test.true).1

pub push-requires : goal.push-requires
push-requires c =
    let e = c.requires.links in
    let n : length c.loop-i.list.items < 66 = room_for_inequality c.args.q.now c.args.p.now.signs.items c.requires.known.part c.args.links.now c.loop-i.list.items c.loop-i.i _ c.requires.known.few e c.loop-i-test.true (c.is_inequality.ensures.0 c.if-is_inequality.true) c.loop-i.invariant in
    (omega arith, n)

pub loop-i-preserved : goal.loop-i-preserved
loop-i-preserved c =
    elim c.if-is_inequality.branch [
      | then-is_inequality w ↦
          kept_at (IsOrderedInequality c.args.q.now c.args.p.now.signs.items) c.args.links.now c.args.links.now c.loop-i.list.items _ c.loop-i.i _ refl c.loop-i-test.true (c.is_inequality.ensures.0 w.if-is_inequality.true) c.loop-i.invariant (ap (λ (v : Items Link). v.items) w.list-is ∙ w.push.ensures.items)
      | else-is_inequality w ↦
          dropped_at (IsOrderedInequality c.args.q.now c.args.p.now.signs.items) c.args.links.now c.args.links.now c.loop-i.list.items _ c.loop-i.i _ refl c.loop-i-test.true (not_from _ c.is_inequality.ensures.1 w.if-is_inequality.false) c.loop-i.invariant (ap (λ (v : Items Link). v.items) w.list-is)
    ]

pub returns : goal.returns
returns c =
    let e = c.requires.links in
    all_inequalities c.args.q.now c.args.p.now.signs.items _ _ e (end_at (IsOrderedInequality c.args.q.now c.args.p.now.signs.items) c.args.links.now c.args.links.now c.loop-i.list.items c.loop-i.i refl c.loop-i-test.false c.loop-i.invariant)
