use Rattle.std.proofs.Common.{rules, FitsSigned, w64}
use Rattle.std.proofs.lemmas.Int.{to_z-of_z}
use Rattle.sem_laws.proofs.Tests.{and-both}
use Rattle.exec_filter.proofs.interval.narrowed.Goals as goal

pub returns : goal.returns
returns c = λ x a b.
    let low : FitsSigned w64 c.least_of_both.result = search rules in
    let high : FitsSigned w64 c.greatest_of_both.result = search rules in
    rw to_z-of_z (rw to_z-of_z (and-both _ _ (c.least_of_both.ensures x a b) (c.greatest_of_both.ensures x a b)))
