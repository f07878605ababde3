use Rattle.std.proofs.Common.{◌≡◌, ◌/◌, ◌%◌, sym, subst, arith}
use Rattle.plan_whole.specs.Extremes.{column_at}
use Rattle.plan_whole_form.specs.Conditions.{IsBetween}
use Rattle.plan_whole_form.specs.Listed.{AreListed}
use Rattle.plan_whole_form.proofs.Conditioned.{between_one, listed_first, listed_more}
use Rattle.plan_whole_form.proofs.conditions.differences.Goals as goal

pub loop-i-init : goal.loop-i-init
loop-i-init c = record {
  within = omega arith;
  listed = subst (AreListed (λ n o. IsBetween c.args.closed.now (column_at c.args.place (n / 8)) (column_at c.args.place (n % 8)) o) 0) (sym c.new-list.ensures) (listed_first (λ n o. IsBetween c.args.closed.now (column_at c.args.place (n / 8)) (column_at c.args.place (n % 8)) o));
}

pub add-requires : goal.add-requires
add-requires c = let f = c.loop-i.invariant.listed.few in let l = c.loop-i-test.true in omega (arith, f, l)

pub loop-i-preserved : goal.loop-i-preserved
loop-i-preserved c = record {
  within = (let l = c.loop-i-test.true in omega (arith, l));
  listed = listed_more (λ n o. IsBetween c.args.closed.now (column_at c.args.place (n / 8)) (column_at c.args.place (n % 8)) o) c.loop-i.i c.between.result c.loop-i.list.items _ (λ t p. between_one c.args.closed.now (column_at c.args.place (c.loop-i.i / 8)) (column_at c.args.place (c.loop-i.i % 8)) c.between.result t c.between.ensures p) c.between.ensures c.add.ensures c.loop-i.invariant.listed;
}

pub returns : goal.returns
returns c =
    let l = c.loop-i-test.false in
    let m = c.loop-i.invariant.within in
    let e : c.loop-i.i ≡ 64 = omega (arith, l, m) in
    subst (λ n. AreListed (λ n o. IsBetween c.args.closed.now (column_at c.args.place (n / 8)) (column_at c.args.place (n % 8)) o) n c.loop-i.list.items) e c.loop-i.invariant.listed
