use Rattle.std.proofs.Common.{◌∙◌, ap, subst, sym}
use Rattle.exec_registry.specs.Live.{free_pages}
use Rattle.exec_registry.specs.Registry.{RegistryValue, StandsFor}
use Rattle.exec_registry.proofs.Whole.{free_beside}
use Rattle.exec_registry.proofs.registry.Registry.free.Goals as goal

pub returns-clause-queries : goal.returns-clause-queries
returns-clause-queries c = λ queries all.
    c.free.ensures.count ∙ free_beside c.self.inside.pool c.self.inside.live queries c.self.invariant.0 (subst (λ (v : RegistryValue). StandsFor v queries) (sym c.self.view_is) all)
    ∙ ap (λ (v : RegistryValue). free_pages v.pool.pages queries) c.self.view_is
