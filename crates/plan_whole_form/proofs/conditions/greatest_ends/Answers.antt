use Rattle.std.proofs.Common.{◌≡◌, sym, subst, arith}
use Rattle.plan_whole.specs.Extremes.{column_at}
use Rattle.plan_whole_form.specs.Conditions.{IsGreatestEnd}
use Rattle.plan_whole_form.specs.Listed.{AreListed}
use Rattle.plan_whole_form.proofs.Conditioned.{greatest_one, listed_first, listed_more}
use Rattle.plan_whole_form.proofs.conditions.greatest_ends.Goals as goal

pub loop-column-init : goal.loop-column-init
loop-column-init c = record {
  within = omega arith;
  listed = subst (AreListed (λ n o. IsGreatestEnd c.args.closed.now (column_at c.args.place n) o) 0) (sym c.new-list.ensures) (listed_first (λ n o. IsGreatestEnd c.args.closed.now (column_at c.args.place n) o));
}

pub add-requires : goal.add-requires
add-requires c = let f = c.loop-column.invariant.listed.few in let l = c.loop-column-test.true in omega (arith, f, l)

pub loop-column-preserved : goal.loop-column-preserved
loop-column-preserved c = record {
  within = (let l = c.loop-column-test.true in omega (arith, l));
  listed = listed_more (λ n o. IsGreatestEnd c.args.closed.now (column_at c.args.place n) o) c.loop-column.column c.greatest_end.result c.loop-column.list.items _ (λ t p. greatest_one c.args.closed.now (column_at c.args.place c.loop-column.column) c.greatest_end.result t c.greatest_end.ensures p) c.greatest_end.ensures c.add.ensures c.loop-column.invariant.listed;
}

pub returns : goal.returns
returns c =
    let l = c.loop-column-test.false in
    let m = c.loop-column.invariant.within in
    let e : c.loop-column.column ≡ 8 = omega (arith, l, m) in
    subst (λ n. AreListed (λ n o. IsGreatestEnd c.args.closed.now (column_at c.args.place n) o) n c.loop-column.list.items) e c.loop-column.invariant.listed
