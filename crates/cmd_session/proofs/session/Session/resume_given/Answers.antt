use Rattle.std.proofs.Common.{rules, w64, ap, subst, sym}
use Rattle.std.proofs.lemmas.Int.{to_z-of_z}
use Rattle.cmd_session.specs.Requests.{given_request}
use Rattle.cmd_session.specs.Session.{SessionValue, StandsFor}
use Rattle.cmd_session.specs.State.{one_line_more}
use Rattle.cmd_session.proofs.Explaining.{named_kept}
use Rattle.cmd_session.proofs.Resumed.{same_request, standing, settled_set}
use Rattle.cmd_session.proofs.Short.{short_kept}
use Rattle.cmd_session.proofs.session.Session.resume_given.Goals as goal

pub invariant_of-self : goal.invariant_of-self
invariant_of-self g c = (
  record {
    within = c.self.invariant.0.within;
    limit = c.self.invariant.0.limit;
    given = c.set_given-set.ensures.given c.self.invariant.0.given;
    named = named_kept c.self.inside.catalog.streams c.self.inside.registry.live c.set_given-set.new.registry.live c.self.invariant.0.named c.set_given-set.ensures.queries;
    short = short_kept c.self.inside.catalog.streams c.self.inside.registry.live c.set_given-set.new.registry.live c.self.invariant.0.short c.set_given-set.ensures.queries;
  },
  c.self.invariant.1,
)

pub returns : goal.returns
returns g c = λ s stands.
    let old = subst (λ (k : SessionValue). StandsFor k (one_line_more s)) (sym c.self.view_is) stands in
    same_request c.settle.result s _ _ _ _ _ (ap (given_request s c.args.name.now) (to_z-of_z w64 c.args.rows (search rules)))
    (c.settle.ensures s _ (settled_set c.set_given-set.result _ c.set_given-set.new.registry s _ old (c.set_given-set.ensures.sets s (standing _ s old) old.taken) c.set_given-set.ensures.quiet c.set_given-set.ensures.pages))
