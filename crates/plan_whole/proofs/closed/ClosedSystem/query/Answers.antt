use Rattle.std.proofs.Common.{◌∙◌, sym, ap, subst}
use Rattle.sem_query.specs.Query.{attrs_of}
use Rattle.sem_whole.proofs.Signed.{signed_attrs}
use Rattle.plan_whole.specs.Closed.{IsClosedSystem}
use Rattle.plan_whole.proofs.Told.{is_solvable}
use Rattle.plan_whole.proofs.closed.ClosedSystem.query.Goals as goal

pub returns-clause-signed : goal.returns-clause-signed
returns-clause-signed c = record { pairs = c.self.inside.pairs.now; signs = c.self.inside.signs.now; are = c.self.invariant.0; is = sym c.self.view_is }

pub returns-clause-from : goal.returns-clause-from
returns-clause-from c = ap (λ q. q.from) c.self.view_is

pub returns-clause-select : goal.returns-clause-select
returns-clause-select c = ap (λ q. q.select) c.self.view_is

pub returns-clause-distinct : goal.returns-clause-distinct
returns-clause-distinct c = ap (λ q. q.distinct) c.self.view_is

pub returns-clause-domains : goal.returns-clause-domains
returns-clause-domains c = ap (λ q. q.domains) c.self.view_is

pub returns-clause-attrs : goal.returns-clause-attrs
returns-clause-attrs c = sym (signed_attrs c.self.inside.query.now c.self.inside.pairs.now c.self.inside.signs.now c.self.invariant.0) ∙ ap (λ q. attrs_of q.atoms) c.self.view_is

pub returns-clause-formed : goal.returns-clause-formed
returns-clause-formed c = (subst (λ q. IsClosedSystem q c.self.inside.bounds) c.self.view_is c.self.invariant.1).within

pub returns-clause-solvable : goal.returns-clause-solvable
returns-clause-solvable c = is_solvable c.args.self.now c.self.inside.bounds (subst (λ q. IsClosedSystem q c.self.inside.bounds) c.self.view_is c.self.invariant.1)
