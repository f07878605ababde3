use Rattle.std.proofs.Common.{ℕ, sym, ap, ◌∙◌, subst}
use Rattle.cmd_session.specs.declared.announced.Announced.{Announced}
use Rattle.exec_registry.specs.Live.{plan_cells}
use Rattle.cmd_session.specs.Announced.{answers_of, announced_by}
use Rattle.cmd_session.specs.Session.{SessionValue, StandsFor}
use Rattle.cmd_session.proofs.Announcing.{sums_agree}
use Rattle.cmd_session.proofs.session.Session.announced.Goals as goal

pub returns : goal.returns
returns c = λ s stands.
    let old = subst (λ (k : SessionValue). StandsFor k s) (sym c.self.view_is) stands in
    let registry = c.self.inside.registry in
    let sums : ℕ → ℕ → Announced = λ m n. record { cells = m; answers = n } in
    ap (λ m. sums m c.announced_in.result.answers) (c.announced_in.ensures.cells ∙ sums_agree plan_cells registry.pool registry.live s.queries old.queries)
    ∙ ap (sums (announced_by s.queries).cells) (c.announced_in.ensures.answers ∙ sums_agree answers_of registry.pool registry.live s.queries old.queries)
