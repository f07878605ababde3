use Rattle.std.proofs.Common.{subst, sym}
use Rattle.cmd_session.specs.Session.{SessionValue, StandsFor}
use Rattle.cmd_session.specs.State.{one_line_more}
use Rattle.cmd_session.proofs.Explaining.{named_kept}
use Rattle.cmd_session.proofs.Resumed.{standing, settled_set}
use Rattle.cmd_session.proofs.Short.{short_kept}
use Rattle.cmd_session.proofs.session.Session.resume_tuple.Goals as goal

pub invariant_of-self : goal.invariant_of-self
invariant_of-self g c = (
  record {
    within = c.self.invariant.0.within;
    limit = c.self.invariant.0.limit;
    given = c.set_tuple-set.ensures.given c.self.inside.taken c.self.invariant.0.given;
    named = named_kept c.self.inside.catalog.streams c.self.inside.registry.live c.set_tuple-set.new.registry.live c.self.invariant.0.named c.set_tuple-set.ensures.queries;
    short = short_kept c.self.inside.catalog.streams c.self.inside.registry.live c.set_tuple-set.new.registry.live c.self.invariant.0.short c.set_tuple-set.ensures.queries;
  },
  c.self.invariant.1,
)

pub returns : goal.returns
returns g c = λ s stands.
    let old = subst (λ (k : SessionValue). StandsFor k (one_line_more s)) (sym c.self.view_is) stands in
    c.settle.ensures s _ (settled_set c.set_tuple-set.result _ c.set_tuple-set.new.registry s _ old (c.set_tuple-set.ensures.sets s (standing _ s old)) c.set_tuple-set.ensures.quiet c.set_tuple-set.ensures.pages)
