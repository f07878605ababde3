use Rattle.std.proofs.Common.{arith}
use Rattle.sem_laws.proofs.Tests.{not_both}
use Rattle.plan_forms.proofs.Equalities.{found_some, found_not, found_none}
use Rattle.plan_forms.proofs.equating.first_equal.Goals as goal

pub returns-then-are_equal : goal.returns-then-are_equal
returns-then-are_equal c = found_some c.args.closed.now c.args.a c.args.dims.now c.dims.i _ c.dims-test.true (c.are_equal.ensures.0 c.if-are_equal.true)

pub dims-preserved : goal.dims-preserved
dims-preserved c =
    found_not c.args.closed.now c.args.a c.args.dims.now c.dims.i _ c.dims-test.true c.dims.invariant
    (λ e. not_both c.are_equal.result (c.are_equal.ensures.1 e) c.if-are_equal.false)

pub returns : goal.returns
returns c = found_none c.args.closed.now c.args.a c.args.dims.now c.dims.i (let l = c.dims-test.false in omega (arith, l)) c.dims.invariant
