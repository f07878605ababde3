use Rattle.std.proofs.Common.{FitsSigned, w64, rules}
use Rattle.std.proofs.lemmas.Int.{to_z-of_z}
use Rattle.exec_filter.proofs.passing.interval_of.Goals as goal

pub returns : goal.returns
returns c = λ v h.
    let low : FitsSigned w64 c.args.range.now.interval.least = search rules in
    let high : FitsSigned w64 c.args.range.now.interval.greatest = search rules in
    rw to_z-of_z (rw to_z-of_z h)
