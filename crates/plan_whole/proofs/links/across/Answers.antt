use Rattle.std.proofs.Common.{◌+◌, [], ◌∷◌, append-nil, sym, ◌∙◌, ap, arith}
use Rattle.sem_whole.specs.Links.{each_once, between_streams}
use Rattle.sem_whole.specs.Signed.{said, all_said}
use Rattle.plan_whole.proofs.Signing.{length_said, said_at, no_pair, no_sign, signs_few}
use Rattle.plan_whole.proofs.Thinning.{across_step, across_few, across_all}
use Rattle.plan_whole.proofs.links.across.Goals as goal

pub add_link-requires : goal.add_link-requires
add_link-requires c = let l = signs_few c.args.q.now c.args.pairs.now c.args.signs.now c.signs.i c.signs.list.items c.requires c.signs.invariant in omega (arith, l)

pub signs-preserved : goal.signs-preserved
signs-preserved c =
    let l = c.signs-test.true in
    let n = length_said c.args.pairs.now c.args.signs.now c.requires.same in
    across_step [] (all_said c.args.pairs.now c.args.signs.now) c.signs.i (said no_pair no_sign) c.signs.list.items _ _ (omega (arith, l, n))
    (c.link_of_sign.ensures ∙ ap (λ t. between_streams (t ∷ [])) (sym (said_at c.args.pairs.now c.args.signs.now c.signs.i no_pair no_sign l c.requires.same))) c.add_link.ensures c.signs.invariant

pub loop-atom-init : goal.loop-atom-init
loop-atom-init c = record {
  few = (let l = signs_few c.args.q.now c.args.pairs.now c.args.signs.now c.signs.i c.signs.list.items c.requires c.signs.invariant in omega (arith, l));
  links = (let l = c.signs-test.false in
      let n = length_said c.args.pairs.now c.args.signs.now c.requires.same in
      across_all [] (all_said c.args.pairs.now c.args.signs.now) c.signs.i c.signs.list.items (omega (arith, l, n)) c.signs.invariant ∙ ap (λ z. each_once (between_streams z)) (sym (append-nil (all_said c.args.pairs.now c.args.signs.now))));
}

pub loop-atom-preserved : goal.loop-atom-preserved
loop-atom-preserved c =
    let l = rw c.atoms-atom-items.ensures.value at c.loop-atom-test.true in
    record {
      few = (let f = across_few c.loop-atom.list.items _ _ (8 + c.loop-atom.atom-index) c.add_link-in-loop-atom.ensures c.loop-atom.invariant.few in omega (arith, f));
      links = across_step (all_said c.args.pairs.now c.args.signs.now) c.args.q.now.atoms c.loop-atom.atom-index _ c.loop-atom.list.items _ _ l (rw c.atoms-atom-items.ensures.value at c.link_of.ensures) c.add_link-in-loop-atom.ensures c.loop-atom.invariant.links;
    }

pub returns : goal.returns
returns c = across_all (all_said c.args.pairs.now c.args.signs.now) c.args.q.now.atoms c.loop-atom.atom-index c.loop-atom.list.items (rw c.atoms-atom-items.ensures.value at c.loop-atom-test.false) c.loop-atom.invariant.links
