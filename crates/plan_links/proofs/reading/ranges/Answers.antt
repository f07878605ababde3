use Rattle.std.proofs.Common.{◌≡◌, length, take, ap, arith}
use Rattle.std.proofs.lemmas.List.{length-take-le}
use Rattle.sem_query.specs.Query.{attrs_of}
use Rattle.plan_links.specs.Refs.{IsRange}
use Rattle.plan_closure.proofs.Zips.{zip_length, zip_more_at}
use Rattle.plan_links.proofs.reading.ranges.Goals as goal

pub push-requires : goal.push-requires
push-requires c =
    let e : length c.attrs-i-end.result.now ≡ length (attrs_of c.args.q.now.atoms) = ap length c.attrs-i-end.ensures.value in
    let a : length c.loop-i.list.items ≡ length (take c.loop-i.i (attrs_of c.args.q.now.atoms)) = zip_length (IsRange c.args.q.now c.args.p.now.signs.items) _ _ c.loop-i.invariant in
    let b : length (take c.loop-i.i (attrs_of c.args.q.now.atoms)) ≡ c.loop-i.i = length-take-le c.loop-i.i (attrs_of c.args.q.now.atoms) (omega (arith, e)) in
    (omega arith, omega (arith, a, b, e, c.requires.few))

pub loop-i-preserved : goal.loop-i-preserved
loop-i-preserved c = zip_more_at (IsRange c.args.q.now c.args.p.now.signs.items) (attrs_of c.args.q.now.atoms) _ _ _ c.loop-i.i record { stream = 0; column = 0 } _ c.attrs-i-end.ensures.value c.loop-i-test.true c.loop-i.invariant (rw c.attrs-i-end.ensures.value (c.range_at.ensures record { stream = 0; column = 0 })) c.push.ensures.items
