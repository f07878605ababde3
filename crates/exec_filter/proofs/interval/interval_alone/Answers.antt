use Rattle.std.proofs.Common.{◌∙◌, [], ◌∷◌, sym, arith}
use Rattle.std.proofs.lemmas.List.Folds.{list_all_more}
use Rattle.sem_query.specs.Assignment.{meets}
use Rattle.sem_query.specs.Meaning.{by_column, assignment_of}
use Rattle.sem_laws.proofs.Tests.{and-left, and-right}
use Rattle.exec_filter.proofs.interval.interval_alone.Goals as goal

pub atoms-preserved : goal.atoms-preserved
atoms-preserved c = λ values h.
    let both = sym (list_all_more (meets (assignment_of (values ∷ []))) c.args.atoms.now c.atoms.atom-index _ (omega arith)) ∙ h in
    c.narrowed-interval.ensures (by_column values c.args.column) (c.atoms.invariant values (and-left _ _ both)) (c.interval_of.ensures values (and-right _ _ both))
