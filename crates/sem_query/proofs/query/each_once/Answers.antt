use Rattle.std.proofs.Common.{[], ◌∷◌, ◌++◌, cond, length, get_or, ap, ◌∙◌, sym, arith}
use Rattle.std.proofs.lemmas.List.{take_more}
use Rattle.sem_query.specs.declared.atom.Element.TheVariants as element
use Rattle.sem_query.specs.declared.part.Pair.{Pair}
use Rattle.sem_query.proofs.Once.{listed, once_step}
use Rattle.sem_query.proofs.query.each_once.Goals as goal
use Rattle.sem_query.proofs.query.each_once.Goals.{then-not-is_listed, else-not-is_listed}

pub push-requires : goal.push-requires
push-requires c = (omega arith, omega (arith, c.pairs.invariant.few, c.pairs-test.true, c.requires))

pub pairs-preserved : goal.pairs-preserved
pairs-preserved c =
    let ps = c.args.pairs.now in
    let list = c.pairs.list.items in
    let d : Pair = record { left = record { stream = 0; column = 0 }; right = element.Attr record { stream = 0; column = 0 } } in
    let p : Pair = get_or ps c.pairs.pair-index d in
    let more = take_more ps c.pairs.pair-index d c.pairs-test.true in
    let is = c.is_listed.ensures ∙ ap (λ l. listed l p) c.as_slice.ensures.value in
    elim c.if-not-is_listed.branch [
      | then-not-is_listed w ↦ record {
        once = once_step ps list c.if-not-is_listed.list.items c.pairs.pair-index p c.is_listed.result more c.pairs.invariant.once is (ap (λ l. l.items) w.list-is ∙ w.push.ensures.items ∙ sym (ap (λ b. cond b list (list ++ p ∷ [])) w.if-not-is_listed.true));
        few = let e = ap (λ l. length l.items) w.list-is in omega (arith, e, w.push.ensures.len, c.pairs.invariant.few);
      }
      | else-not-is_listed w ↦ record {
        once = once_step ps list c.if-not-is_listed.list.items c.pairs.pair-index p c.is_listed.result more c.pairs.invariant.once is (ap (λ l. l.items) w.list-is ∙ sym (ap (λ b. cond b list (list ++ p ∷ [])) w.if-not-is_listed.false));
        few = let e = ap (λ l. length l.items) w.list-is in omega (arith, e, c.pairs.invariant.few);
      }
    ]
