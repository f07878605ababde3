use Rattle.std.proofs.Common.{◌∙◌, List, Contains, sym, subst}
use Rattle.sem_query.specs.declared.part.Pair.{Pair}
use Rattle.fam_fooling_sets.specs.Laws.{AreLocalFor}
use Rattle.fam_fooling_sets.proofs.lowering.lower.Goals as goal

pub make_for-requires-in-None-clause-local : goal.make_for-requires-in-None-clause-local
make_for-requires-in-None-clause-local c =
    subst (AreLocalFor c.args.q.now) (sym c.in-C2.is) (λ p h. c.in-None.ensures p (subst (λ (z : List Pair). Contains z p) (sym (c.as_slice.ensures.value ∙ c.pairs.ensures)) h))
