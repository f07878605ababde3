use Rattle.std.proofs.Common.{rules, w64, to_z, of_z, ap, ◌∙◌, subst, sym}
use Rattle.std.proofs.lemmas.Int.{to_z-of_z}
use Rattle.cmd_session.specs.Requests.{cell_request}
use Rattle.cmd_session.specs.Session.{SessionValue, StandsFor}
use Rattle.cmd_session.specs.State.{one_line_more}
use Rattle.cmd_session.proofs.Explaining.{named_kept}
use Rattle.cmd_session.proofs.Resumed.{same_request, standing, settled_set}
use Rattle.cmd_session.proofs.Short.{short_kept}
use Rattle.cmd_session.proofs.session.Session.resume_cell.Goals as goal

pub invariant_of-self : goal.invariant_of-self
invariant_of-self g c = (
  record {
    within = c.self.invariant.0.within;
    limit = c.self.invariant.0.limit;
    given = c.set_cell-set.ensures.given c.self.inside.taken c.self.invariant.0.given;
    named = named_kept c.self.inside.catalog.streams c.self.inside.registry.live c.set_cell-set.new.registry.live c.self.invariant.0.named c.set_cell-set.ensures.queries;
    short = short_kept c.self.inside.catalog.streams c.self.inside.registry.live c.set_cell-set.new.registry.live c.self.invariant.0.short c.set_cell-set.ensures.queries;
  },
  c.self.invariant.1,
)

pub returns-clause-reply : goal.returns-clause-reply
returns-clause-reply g c = λ s stands.
    let old = subst (λ (k : SessionValue). StandsFor k (one_line_more s)) (sym c.self.view_is) stands in
    same_request c.settle.result s _ _ _ _ _
    (ap (λ x. cell_request s c.args.name.now x (to_z w64 (of_z w64 c.args.content))) (to_z-of_z w64 c.args.index (search rules)) ∙ ap (cell_request s c.args.name.now c.args.index) (to_z-of_z w64 c.args.content (search rules)))
    (c.settle.ensures s _ (settled_set c.set_cell-set.result _ c.set_cell-set.new.registry s _ old (c.set_cell-set.ensures.sets s (standing _ s old)) c.set_cell-set.ensures.quiet c.set_cell-set.ensures.pages))
