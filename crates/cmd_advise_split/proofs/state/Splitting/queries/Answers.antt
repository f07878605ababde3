use Rattle.std.proofs.Common.{List, All, sym, subst}
use Rattle.adv_key_choices.specs.declared.choice.KeyedQuery.{KeyedQuery}
use Rattle.cmd_advise_split.specs.Limited.{IsKnown}
use Rattle.cmd_advise_split.proofs.state.Splitting.queries.Goals as goal

pub returns-clause-keyed : goal.returns-clause-keyed
returns-clause-keyed c = λ k d l. (subst (λ (z : List KeyedQuery). All IsKnown z) (sym c.as_slice.ensures.value) c.self.invariant.1 k d l).keyed

pub returns-clause-limited : goal.returns-clause-limited
returns-clause-limited c = λ k d l. (subst (λ (z : List KeyedQuery). All IsKnown z) (sym c.as_slice.ensures.value) c.self.invariant.1 k d l).limited
