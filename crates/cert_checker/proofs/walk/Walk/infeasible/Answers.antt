use Rattle.std.proofs.Common.{refl}
use Rattle.std.proofs.lemmas.Result.{err_from_is_err_and}
use Rattle.cert_checker.proofs.Judging.{cycle_wrong}
use Rattle.cert_checker.proofs.walk.Walk.infeasible.Goals as goal

pub returns-in_err-judge_cycle : goal.returns-in_err-judge_cycle
returns-in_err-judge_cycle c =
    let p = err_from_is_err_and c.from_residual.result c.from_residual.ensures.1 in
    rw (p.1, p.2) (cycle_wrong c.args.q.now c.args.shown c.args.self.now.place c.as_slice.result.now c.args.numbers.now c.in_err-judge_cycle.field-0.0 c.requires.stands c.as_slice.ensures.value c.in_err-judge_cycle.ensures, refl)
