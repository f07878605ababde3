use Rattle.std.proofs.Common.{refl}
use Rattle.std.proofs.lemmas.Result.{err_from_is_err_and}
use Rattle.cert_checker.specs.Shown.{branching_of}
use Rattle.cert_checker.proofs.Judging.{against_wrong}
use Rattle.cert_checker.proofs.walk.Walk.against.Goals as goal

pub returns-in_err-judge_against : goal.returns-in_err-judge_against
returns-in_err-judge_against c =
    let p = err_from_is_err_and c.from_residual.result c.from_residual.ensures.1 in
    rw (p.1, p.2) (against_wrong (branching_of c.args.shown c.args.q.now) c.args.self.now.place.signs.items c.as_slice.result.now c.args.number c.in_err-judge_against.field-0.0 c.as_slice.ensures.value c.in_err-judge_against.ensures, refl)
