use Rattle.std.proofs.Common.{subst}
use Rattle.exec_registry.specs.Registry.{RegistryValue, KeepWithin}
use Rattle.exec_registry.proofs.registry.Registry.len.Goals as goal

pub returns-clause-within : goal.returns-clause-within
returns-clause-within c = subst (λ (v : RegistryValue). KeepWithin v) c.self.view_is c.self.invariant.0.within
