use Rattle.std.proofs.Common.{arith}
use Rattle.sem_laws.proofs.Tests.{not_both}
use Rattle.plan_whole.proofs.Classing.{none_first, none_more, named_by, named_itself}
use Rattle.plan_whole.proofs.classes.name_of.Goals as goal

pub loop-column-init : goal.loop-column-init
loop-column-init c = none_first c.args.closed.now c.args.a

pub returns-then-are_one_class : goal.returns-then-are_one_class
returns-then-are_one_class c = named_by c.args.closed.now c.args.a _ (let l = c.loop-column-test.true in omega (arith, l)) (c.are_one_class.ensures.0 c.if-are_one_class.true) c.loop-column.invariant

pub loop-column-preserved : goal.loop-column-preserved
loop-column-preserved c = none_more c.args.closed.now c.args.a c.loop-column.column c.loop-column.invariant (λ i. not_both c.are_one_class.result (c.are_one_class.ensures.1 i) c.if-are_one_class.false)

pub returns : goal.returns
returns c = named_itself c.args.closed.now c.args.a (λ k l. c.loop-column.invariant k (let m = c.loop-column-test.false in omega (arith, l, m)))
