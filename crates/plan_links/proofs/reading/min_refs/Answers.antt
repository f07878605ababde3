use Rattle.std.proofs.Common.{◌<◌, length, ◌≤◌, ap, ◌∙◌, arith}
use Rattle.arrayvec.specs.ArrayVec.{ArrayVec as Items}
use Rattle.sem_query.specs.declared.atom.Attr.{Attr}
use Rattle.sem_query.specs.Query.{attrs_of}
use Rattle.sem_query.specs.Links.{IsMinRef}
use Rattle.plan_links.specs.Sifting.{done}
use Rattle.plan_links.proofs.Gathered.{kept_at, dropped_at, end_at, few_of, not_from}
use Rattle.plan_links.proofs.reading.min_refs.Goals.{then-is_min_ref, else-is_min_ref}
use Rattle.plan_links.proofs.reading.min_refs.Goals as goal

pub loop-i-init : goal.loop-i-init
loop-i-init c = rw c.new-list.ensures done

pub push-requires : goal.push-requires
push-requires c =
    let few : length (attrs_of c.args.q.now.atoms) ≤ 12 = c.attrs-attrs.ensures.limits.few_attrs in
    let n : length c.loop-i.list.items < 12 = few_of (IsMinRef c.args.q.now c.args.p.now.signs.items) (attrs_of c.args.q.now.atoms) c.attrs-attrs.result.now c.loop-i.list.items c.loop-i.i c.attrs-attrs.ensures.value c.loop-i-test.true few c.loop-i.invariant in
    (omega arith, n)

pub loop-i-preserved : goal.loop-i-preserved
loop-i-preserved c = elim c.if-is_min_ref.branch [
  | then-is_min_ref w ↦
      kept_at (IsMinRef c.args.q.now c.args.p.now.signs.items) (attrs_of c.args.q.now.atoms) c.attrs-attrs.result.now c.loop-i.list.items _ c.loop-i.i record { stream = 0; column = 0 } c.attrs-attrs.ensures.value c.loop-i-test.true (rw c.attrs-attrs.ensures.value ((c.is_min_ref.ensures record { stream = 0; column = 0 }).0 w.if-is_min_ref.true)) c.loop-i.invariant
      (ap (λ (v : Items Attr). v.items) w.list-is ∙ w.push.ensures.items)
  | else-is_min_ref w ↦
      dropped_at (IsMinRef c.args.q.now c.args.p.now.signs.items) (attrs_of c.args.q.now.atoms) c.attrs-attrs.result.now c.loop-i.list.items _ c.loop-i.i record { stream = 0; column = 0 } c.attrs-attrs.ensures.value c.loop-i-test.true (rw c.attrs-attrs.ensures.value (not_from _ (c.is_min_ref.ensures record { stream = 0; column = 0 }).1 w.if-is_min_ref.false)) c.loop-i.invariant
      (ap (λ (v : Items Attr). v.items) w.list-is)
]

pub returns : goal.returns
returns c = end_at (IsMinRef c.args.q.now c.args.p.now.signs.items) (attrs_of c.args.q.now.atoms) _ c.loop-i.list.items c.loop-i.i c.attrs-attrs.ensures.value c.loop-i-test.false c.loop-i.invariant
