use Rattle.std.proofs.Common.{◌∙◌, map, sym, ap, subst}
use Rattle.sem_whole.specs.System.{system}
use Rattle.sem_whole.specs.Links.{across}
use Rattle.plan_whole.specs.Columns.{atom_of}
use Rattle.plan_whole.proofs.Thinning.{LeadsTo, leads_first, leads_more, leads_links}
use Rattle.plan_whole.proofs.links.links_of.Goals as goal

pub loop-i-init : goal.loop-i-init
loop-i-init c = subst (λ ks. LeadsTo (system c.args.closed.now) c.as_slice-all.result.now ks 0) (sym c.new-kept.ensures) (leads_first (system c.args.closed.now) c.as_slice-all.result.now)

pub loop-i-preserved : goal.loop-i-preserved
loop-i-preserved c =
    leads_more (system c.args.closed.now) c.as_slice-all.result.now c.loop-i.kept.items _ _ c.loop-i.i _ c.goes-is_implied.result c.loop-i-test.true c.as_slice.ensures.value c.goes-is_implied.ensures c.push_unless.ensures c.loop-i.invariant

pub returns : goal.returns
returns c = leads_links c.args.closed.now c.as_slice-all.result.now c.loop-i.kept.items c.loop-i.i (ap (map atom_of) c.as_slice-all.ensures.value ∙ c.across-across.ensures ∙ ap (λ q. across q.atoms) (sym c.signed.ensures.value)) c.loop-i-test.false c.loop-i.invariant
