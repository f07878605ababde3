use Rattle.std.proofs.Common.{◌+◌, [], length, sym, ap, subst, arith}
use Rattle.sem_query.proofs.Has.{Has, Has-nil}
use Rattle.plan_split_parts.specs.Sifting.{Sifts, done}
use Rattle.plan_split_parts.specs.Fronts.{IsFront, fronts_of}
use Rattle.plan_split_parts.proofs.Listed.{next_are, next_many}
use Rattle.plan_split_parts.proofs.Reached.{place_in, item_length, item_front, reach_more, reach_each, reach_all, not_many}
use Rattle.plan_split_parts.proofs.fronts.next_fronts.Goals as goal

pub loop-front-init : goal.loop-front-init
loop-front-init c = record {
  sifted = subst (λ z. Sifts (IsFront c.args.q.now (c.args.place + 1)) [] (fronts_of z)) (sym c.new-list.ensures.items) done;
  each = λ f h. Has-nil (subst (λ z. Has z f) c.new-list.ensures.items h);
  few = λ u. (let n = ap length c.new-list.ensures.items in omega (arith, n));
}

pub push_fronts-requires-clause-room : goal.push_fronts-requires-clause-room
push_fronts-requires-clause-room c =
    let l = place_in c.args.q.now c.args.pairs.now c.args.place c.requires.pairs.pairs c.requires.room in
    let e = item_length c.args.q.now c.args.place l c.args.fronts.now c.requires.fronts c.loop-front.front-index c.front-item.result c.loop-front-test.true c.front-item.is in
    omega (arith, e, c.requires.room)

pub push_fronts-requires-clause-front : goal.push_fronts-requires-clause-front
push_fronts-requires-clause-front c =
    let l = place_in c.args.q.now c.args.pairs.now c.args.place c.requires.pairs.pairs c.requires.room in
    item_front c.args.q.now c.args.place l c.args.fronts.now c.requires.fronts c.loop-front.front-index c.front-item.result c.loop-front-test.true c.front-item.is

pub returns-then-are_too_many-clause-over : goal.returns-then-are_too_many-clause-over
returns-then-are_too_many-clause-over c =
    let q = c.args.q.now in
    let l = place_in q c.args.pairs.now c.args.place c.requires.pairs.pairs c.requires.room in
    let s = reach_more q c.args.place l c.args.fronts.now c.requires.fronts c.loop-front.front-index c.front-item.result c.loop-front-test.true c.front-item.is c.loop-front.list.items c.push_fronts.new.list.items c.in-Ok.ensures c.loop-front.invariant.sifted in
    let m = c.are_too_many.ensures.0 c.if-are_too_many.true in
    next_many q c.requires.pairs.limits c.args.place l c.args.fronts.now c.requires.fronts (c.loop-front.front-index + 1) c.push_fronts.new.list.items s (omega (arith, m.0, c.requires.pairs.unlikes)) (omega (arith, m.1, c.len.ensures))

pub loop-front-preserved : goal.loop-front-preserved
loop-front-preserved c =
    let q = c.args.q.now in
    let l = place_in q c.args.pairs.now c.args.place c.requires.pairs.pairs c.requires.room in
    record {
      sifted = reach_more q c.args.place l c.args.fronts.now c.requires.fronts c.loop-front.front-index c.front-item.result c.loop-front-test.true c.front-item.is c.loop-front.list.items c.push_fronts.new.list.items c.in-Ok.ensures c.loop-front.invariant.sifted;
      each = reach_each q c.args.place l c.args.fronts.now c.requires.fronts c.loop-front.front-index c.front-item.result c.loop-front-test.true c.front-item.is c.loop-front.list.items c.push_fronts.new.list.items c.in-Ok.ensures c.loop-front.invariant.each;
      few = λ u. (let m = not_many c.are_too_many.result c.args.unlikes (c.args.place + 1) c.len.result c.are_too_many.ensures c.if-are_too_many.false (omega (arith, u, c.requires.pairs.unlikes)) in omega (arith, m, c.len.ensures));
    }

pub returns-clause-fronts : goal.returns-clause-fronts
returns-clause-fronts c =
    let q = c.args.q.now in
    let l = place_in q c.args.pairs.now c.args.place c.requires.pairs.pairs c.requires.room in
    next_are q c.requires.pairs.limits c.args.place l c.args.fronts.now c.requires.fronts c.loop-front.list.items
    (reach_all q c.args.place c.loop-front.front-index c.args.fronts.now c.loop-front.list.items c.loop-front-test.false c.loop-front.invariant.sifted) c.loop-front.invariant.each c.loop-front.invariant.few
