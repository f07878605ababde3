use Rattle.std.proofs.Common.{ℕ, ◌∙◌, ap, subst, sym}
use Rattle.exec_registry.specs.Registry.{RegistryValue, StandsFor}
use Rattle.exec_registry.specs.Live.{free_pages}
use Rattle.exec_registry.specs.Judged.{TellsVerdict, CarriesWhy, Creates}
use Rattle.exec_registry.proofs.Telling.{tells_refusal}
use Rattle.exec_registry.proofs.Whole.{free_beside}
use Rattle.exec_registry.proofs.Creating.{tells, creates, keeps}
use Rattle.exec_registry.proofs.registry.Registry.create.Goals as goal

pub returns-in-Ok-clause-verdict : goal.returns-in-Ok-clause-verdict
returns-in-Ok-clause-verdict c = λ queries all.
    let free = free_beside c.self.inside.pool c.self.inside.live queries c.self.invariant.0 (subst (λ (v : RegistryValue). StandsFor v queries) (sym c.self.view_is) all) in
    subst (λ (n : ℕ). TellsVerdict c.args.shared c.args.query n c.admit.result) (free ∙ ap (λ (v : RegistryValue). free_pages v.pool.pages queries) c.self.view_is)
    (tells c.admit.result c.args.name c.args.query c.args.shared c.in-Ok.plan c.self.inside.pool c.self.inside.live c.admit.new.pool c.admit.new.live c.in-Ok.ensures c.admit.ensures).0

pub returns-in-Ok-clause-why : goal.returns-in-Ok-clause-why
returns-in-Ok-clause-why c =
    subst (λ (v : RegistryValue). CarriesWhy c.args.shared c.args.query v.pool.free c.admit.result) c.self.view_is
    (tells c.admit.result c.args.name c.args.query c.args.shared c.in-Ok.plan c.self.inside.pool c.self.inside.live c.admit.new.pool c.admit.new.live c.in-Ok.ensures c.admit.ensures).1

pub returns-in-Ok-clause-creates : goal.returns-in-Ok-clause-creates
returns-in-Ok-clause-creates c =
    subst (λ (v : RegistryValue). Creates v c.args.name c.args.query c.args.shared c.admit.result (let new : RegistryValue = record { pool = c.admit.new.pool; live = c.admit.new.live } in new)) c.self.view_is
    (creates c.admit.result c.args.name c.args.query c.args.shared c.in-Ok.plan c.self.inside.pool c.self.inside.live c.admit.new.pool c.admit.new.live c.in-Ok.ensures c.admit.ensures)

pub returns-in-Err-clause-verdict : goal.returns-in-Err-clause-verdict
returns-in-Err-clause-verdict c = λ queries all. (tells_refusal c.args.shared c.args.query (free_pages c.args.self.now.pool.pages queries) c.in-Err.why c.in-Err.ensures).0

pub returns-in-Err-clause-why : goal.returns-in-Err-clause-why
returns-in-Err-clause-why c = (tells_refusal c.args.shared c.args.query c.args.self.now.pool.free c.in-Err.why c.in-Err.ensures).1

pub invariant_of-self : goal.invariant_of-self
invariant_of-self c =
    let kept = keeps c.admit.result c.args.name c.args.query c.args.shared c.in-Ok.plan c.self.inside.pool c.self.inside.live c.admit.new.pool c.admit.new.live
    c.self.inside.waiting c.self.invariant.0 c.self.invariant.1 c.admit.ensures in
    (kept.0, kept.1, c.forget.ensures c.admit.new.live)

pub invariant_of-self-in-Err : goal.invariant_of-self-in-Err
invariant_of-self-in-Err c = (c.self.invariant.0, c.self.invariant.1, c.forget.ensures c.self.inside.live)
