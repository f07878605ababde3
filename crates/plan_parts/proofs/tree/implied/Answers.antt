use Rattle.sem_query.specs.declared.part.Sign.{Sign}
use Rattle.plan_parts.proofs.tree.implied.Goals as goal

pub is_implied-requires-clause-within : goal.is_implied-requires-clause-within
is_implied-requires-clause-within c = c.requires.within Sign.Lt

pub is_implied-requires-else-is_implied-clause-within : goal.is_implied-requires-else-is_implied-clause-within
is_implied-requires-else-is_implied-clause-within c = c.requires.within Sign.Gt

pub is_implied-requires-else-is_implied-2-clause-within : goal.is_implied-requires-else-is_implied-2-clause-within
is_implied-requires-else-is_implied-2-clause-within c = c.requires.within Sign.Eq
