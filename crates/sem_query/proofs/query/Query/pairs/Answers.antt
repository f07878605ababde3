use Rattle.std.proofs.Common.{ap, ◌∙◌}
use Rattle.sem_query.specs.Query.{QueryValue}
use Rattle.sem_query.specs.Parts.{pairs}
use Rattle.sem_query.proofs.query.Query.pairs.Goals as goal

pub returns : goal.returns
returns c = c.self.invariant.3 ∙ ap (λ (q : QueryValue). pairs q) c.self.view_is
