use Rattle.std.proofs.Common.{◌≡◌, ◌<◌, ◌∙◌, List, length, ap, refl, subst, arith}
use Rattle.arrayvec.specs.ArrayVec.{ArrayVec as Items}
use Rattle.sem_query.specs.declared.plan.Link.{Link}
use Rattle.sem_query.specs.Query.{attrs_of}
use Rattle.plan_links.specs.Sifting.{Sifts, done, links_among, IsAcross}
use Rattle.plan_links.proofs.Gathered.{kept_at, dropped_at, end_at, room_among, not_from}
use Rattle.plan_links.proofs.links.links_across.Goals.{then-is_across, else-is_across}
use Rattle.plan_links.proofs.links.links_across.Goals as goal

pub loop-i-init : goal.loop-i-init
loop-i-init c = rw c.new-list.ensures done

pub push-requires : goal.push-requires
push-requires c =
    let e : c.as_slice-links.result.now ≡ links_among (attrs_of c.args.q.now.atoms) (attrs_of c.args.q.now.atoms) = c.as_slice-links.ensures.value ∙ (rw c.attrs.ensures.value at c.all_links-every.ensures) in
    let n : length c.loop-i.list.items < 144 = room_among (attrs_of c.args.q.now.atoms) IsAcross c.as_slice-links.result.now c.loop-i.list.items c.loop-i.i e c.attrs.ensures.limits.few_attrs c.loop-i-test.true c.loop-i.invariant in
    (omega arith, n)

pub loop-i-preserved : goal.loop-i-preserved
loop-i-preserved c = elim c.if-is_across.branch [
  | then-is_across w ↦
      kept_at IsAcross c.as_slice-links.result.now c.as_slice-links.result.now c.loop-i.list.items _ c.loop-i.i _ refl c.loop-i-test.true (c.is_across.ensures.0 w.if-is_across.true) c.loop-i.invariant (ap (λ (v : Items Link). v.items) w.list-is ∙ w.push.ensures.items)
  | else-is_across w ↦
      dropped_at IsAcross c.as_slice-links.result.now c.as_slice-links.result.now c.loop-i.list.items _ c.loop-i.i _ refl c.loop-i-test.true (not_from _ c.is_across.ensures.1 w.if-is_across.false) c.loop-i.invariant (ap (λ (v : Items Link). v.items) w.list-is)
]

pub returns-clause-across : goal.returns-clause-across
returns-clause-across c =
    let e : c.as_slice-links.result.now ≡ links_among (attrs_of c.args.q.now.atoms) (attrs_of c.args.q.now.atoms) = c.as_slice-links.ensures.value ∙ (rw c.attrs.ensures.value at c.all_links-every.ensures) in
    subst (λ (z : List Link). Sifts IsAcross z c.loop-i.list.items) e (end_at IsAcross c.as_slice-links.result.now c.as_slice-links.result.now c.loop-i.list.items c.loop-i.i refl c.loop-i-test.false c.loop-i.invariant)
