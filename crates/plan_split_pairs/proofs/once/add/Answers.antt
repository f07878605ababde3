use Rattle.std.proofs.Common.{◌∙◌, ◌∷◌, [], ap, sym, length, length-append, arith}
use Rattle.plan_split_pairs.proofs.Adding.{listed_stays, unlisted_comes, full_is}
use Rattle.plan_split_pairs.proofs.once.add.Goals as goal

pub returns-then-is_listed : goal.returns-then-is_listed
returns-then-is_listed c =
    listed_stays c.args.list.now.items c.args.pair c.requires (rw c.as_slice.ensures.value at (rw c.is_listed.ensures at c.if-is_listed.true))

pub returns-then-is_full : goal.returns-then-is_full
returns-then-is_full c =
    let e = unlisted_comes c.args.list.now.items c.args.pair c.requires (rw c.as_slice.ensures.value at (rw c.is_listed.ensures at c.if-is_listed.false)) in
    let n = ap length e in
    let l = length-append c.args.list.now.items (c.args.pair ∷ []) in
    omega (arith, n, l, full_is (length c.args.list.now.items) (sym c.is_full.ensures.value ∙ c.if-is_full.true))

pub returns : goal.returns
returns c =
    c.push.ensures.items ∙ unlisted_comes c.args.list.now.items c.args.pair c.requires (rw c.as_slice.ensures.value at (rw c.is_listed.ensures at c.if-is_listed.false))
