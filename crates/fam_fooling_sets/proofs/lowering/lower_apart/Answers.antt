use Rattle.std.proofs.Common.{◌∙◌, List, Contains, sym, subst}
use Rattle.sem_query.specs.declared.part.Pair.{Pair}
use Rattle.fam_fooling_sets.proofs.lowering.lower_apart.Goals as goal

pub make_apart-requires-clause-local : goal.make_apart-requires-clause-local
make_apart-requires-clause-local c = λ p h. c.in-None.ensures p (subst (λ (z : List Pair). Contains z p) (sym (c.as_slice.ensures.value ∙ c.pairs.ensures)) h)
