use Rattle.std.proofs.Common.{rules, ◌≡◌, ◌∙◌, ◌+◌, ◌&&◌, not, cond, int_lt, pos, ap, arith, slice_index_or, filter, length}
use Rattle.std.proofs.lemmas.List.{take_all}
use Rattle.fam_fooling_sets.proofs.Moving.{rank-more, one_or_none, few_pass}
use Rattle.fam_fooling_sets.proofs.motion.rank_below.Goals as goal

pub loop-i-preserved : goal.loop-i-preserved
loop-i-preserved c =
    let b : c.lies_below.result ≡ (int_lt (slice_index_or c.args.values.now c.loop-i.i (pos 0)) c.args.beyond.now.end && not (int_lt (slice_index_or c.args.values.now c.loop-i.i (pos 0)) c.args.beyond.now.value)) = search rules in
    let e : c.counted-rank.result ≡ c.loop-i.rank + cond c.lies_below.result 1 0 = c.counted-rank.ensures in
    let o = one_or_none c.lies_below.result in
    let k = c.loop-i.invariant.1 in (
      rank-more (λ v. int_lt v c.args.beyond.now.end && not (int_lt v c.args.beyond.now.value)) c.args.values.now c.loop-i.i c.loop-i.rank c.counted-rank.result c.loop-i-test.true c.loop-i.invariant.0 (e ∙ ap (λ b. c.loop-i.rank + cond b 1 0) b),
      omega (arith, e, o, k),
    )

pub returns-clause-value : goal.returns-clause-value
returns-clause-value c = c.loop-i.invariant.0 ∙ ap (λ ys. length (filter (λ v. int_lt v c.args.beyond.now.end && not (int_lt v c.args.beyond.now.value)) ys)) (take_all c.loop-i.i c.args.values.now (let l = c.loop-i-test.false in omega (arith, l)))

pub returns-clause-small : goal.returns-clause-small
returns-clause-small c =
    let v = c.loop-i.invariant.0 ∙ ap (λ ys. length (filter (λ v. int_lt v c.args.beyond.now.end && not (int_lt v c.args.beyond.now.value)) ys)) (take_all c.loop-i.i c.args.values.now (let l = c.loop-i-test.false in omega (arith, l))) in
    let f = few_pass (λ v. int_lt v c.args.beyond.now.end && not (int_lt v c.args.beyond.now.value)) c.args.values.now in
    let r = c.requires in omega (arith, v, f, r)
