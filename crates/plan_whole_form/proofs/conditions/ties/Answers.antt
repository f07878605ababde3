use Rattle.std.proofs.Common.{◌≡◌, length, ap, sym, subst, arith}
use Rattle.plan_whole.specs.Extremes.{column_at}
use Rattle.plan_whole_form.specs.Conditions.{IsTie}
use Rattle.plan_whole_form.specs.Listed.{AreListed}
use Rattle.plan_whole_form.proofs.Conditioned.{tie_one, listed_first, listed_more, listed_few}
use Rattle.plan_whole_form.proofs.conditions.ties.Goals as goal

pub loop-column-init : goal.loop-column-init
loop-column-init c = record {
  within = omega arith;
  few = (let e = ap length c.new-list.ensures in omega (arith, e));
  listed = λ q n. subst (AreListed (λ n o. IsTie q (column_at c.args.place n) o) 0) (sym c.new-list.ensures) (listed_first (λ n o. IsTie q (column_at c.args.place n) o));
}

pub add-requires : goal.add-requires
add-requires c = let f = c.loop-column.invariant.few in let l = c.loop-column-test.true in omega (arith, f, l)

pub loop-column-preserved : goal.loop-column-preserved
loop-column-preserved c = record {
  within = (let l = c.loop-column-test.true in omega (arith, l));
  few = listed_few c.loop-column.column c.tie.result c.loop-column.list.items _ c.add.ensures c.loop-column.invariant.few;
  listed = λ q n. listed_more (λ n o. IsTie q (column_at c.args.place n) o) c.loop-column.column c.tie.result c.loop-column.list.items _ (λ t p. tie_one q (column_at c.args.place c.loop-column.column) c.tie.result t (c.tie.ensures q n) p) (c.tie.ensures q n) c.add.ensures (c.loop-column.invariant.listed q n);
}

pub returns : goal.returns
returns c = λ q n.
    let l = c.loop-column-test.false in
    let m = c.loop-column.invariant.within in
    let e : c.loop-column.column ≡ 8 = omega (arith, l, m) in
    subst (λ n. AreListed (λ n o. IsTie q (column_at c.args.place n) o) n c.loop-column.list.items) e (c.loop-column.invariant.listed q n)
