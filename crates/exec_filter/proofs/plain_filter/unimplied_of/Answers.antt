use Rattle.std.proofs.Common.{[], ◌∷◌, arith}
use Rattle.sem_query.specs.Assignment.{meets}
use Rattle.sem_query.specs.Meaning.{assignment_of}
use Rattle.exec_filter.proofs.PlainFilters.{all_more}
use Rattle.exec_filter.proofs.plain_filter.unimplied_of.Goals as goal

pub atoms-preserved : goal.atoms-preserved
atoms-preserved c = record {
  few = omega (arith, c.put_unimplied.ensures.few, c.atoms.invariant.few);
  so_far = λ values h.
      all_more (meets (assignment_of (values ∷ []))) c.args.atoms.now c.atoms.atom-index _ _ _ c.atoms-test.true (c.put_unimplied.ensures.all values h) (c.atoms.invariant.so_far values h);
}
