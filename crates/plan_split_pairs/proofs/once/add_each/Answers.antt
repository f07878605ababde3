use Rattle.std.proofs.Common.{◌≡◌, ◌+◌, ◌∷◌, ◌++◌, [], get_or, drop, subst}
use Rattle.std.proofs.lemmas.List.{drop_more}
use Rattle.sem_query.specs.Parts.{each_once}
use Rattle.plan_split_pairs.proofs.Adding.{adds_more, adds_once, adds_full, adds_stop, no_pair}
use Rattle.plan_split_pairs.proofs.once.add_each.Goals as goal

pub returns-in_err-add : goal.returns-in_err-add
returns-in_err-add c =
    let left = subst (λ xs. each_once (c.loop-pair.list.items ++ xs) ≡ each_once (c.args.list.now.items ++ c.args.pairs.now)) (drop_more c.args.pairs.now c.loop-pair.pair-index no_pair c.loop-pair-test.true) c.loop-pair.invariant.left in
    adds_stop c.from_residual.result c.args.list.now.items c.args.pairs.now _ c.from_residual.ensures
    (adds_full c.loop-pair.list.items (get_or c.args.pairs.now c.loop-pair.pair-index no_pair ∷ []) (drop (c.loop-pair.pair-index + 1) c.args.pairs.now) _ c.in_err-add.ensures left)

pub loop-pair-preserved : goal.loop-pair-preserved
loop-pair-preserved c =
    let left = subst (λ xs. each_once (c.loop-pair.list.items ++ xs) ≡ each_once (c.args.list.now.items ++ c.args.pairs.now)) (drop_more c.args.pairs.now c.loop-pair.pair-index no_pair c.loop-pair-test.true) c.loop-pair.invariant.left in
    record {
      once = adds_once c.loop-pair.list.items (get_or c.args.pairs.now c.loop-pair.pair-index no_pair ∷ []) c.add.new.list.items c.in_ok-add.ensures;
      left = adds_more c.loop-pair.list.items (get_or c.args.pairs.now c.loop-pair.pair-index no_pair ∷ []) (drop (c.loop-pair.pair-index + 1) c.args.pairs.now) c.add.new.list.items _ c.in_ok-add.ensures left;
    }
