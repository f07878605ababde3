use Rattle.std.proofs.Common.{rules, sym, subst, List, All, ◌∙◌}
use Rattle.sql_catalog.specs.Streams.{Shape}
use Rattle.sql_parser.specs.Resolution.{HasNamed}
use Rattle.exec_registry.specs.Live.{Live}
use Rattle.cmd_session.proofs.Explaining.{named_with}
use Rattle.cmd_session.proofs.Short.{IsShortLive, short_with}
use Rattle.cmd_session.specs.Request.{created}
use Rattle.cmd_session.specs.Answer.{plain}
use Rattle.cmd_session.specs.State.{one_line_more}
use Rattle.cmd_session.specs.Session.{SessionValue, StandsFor}
use Rattle.cmd_session.proofs.Given.{given}
use Rattle.cmd_session.proofs.session.Session.create_stream.Goals as goal

pub invariant_of-self : goal.invariant_of-self
invariant_of-self g c = (
  record {
    within = c.self.invariant.0.within;
    limit = c.self.invariant.0.limit;
    given = c.self.invariant.0.given;
    named = subst (λ (x : List Shape). All (λ (l : Live). HasNamed x l.executor.query) c.self.inside.registry.live) (sym c.add_stream.ensures.streams)
        (named_with c.self.inside.catalog.streams (record { name = c.args.name; columns = c.args.columns.now }) c.self.inside.registry.live c.self.invariant.0.named);
    short = subst (λ (x : List Shape). All (IsShortLive x) c.self.inside.registry.live) (sym c.add_stream.ensures.streams)
        (short_with c.self.inside.catalog.streams (record { name = c.args.name; columns = c.args.columns.now }) c.self.inside.registry.live c.self.invariant.0.named c.self.invariant.0.short);
  },
  c.add_stream.ensures.opened ∙ c.self.invariant.1,
)

pub returns-in-Ok : goal.returns-in-Ok
returns-in-Ok g c = λ s stands.
    let old = subst (λ (k : SessionValue). StandsFor k (one_line_more s)) (sym c.self.view_is) stands in
    given c.write_created.result c.outcome_of.result s _ (plain (created c.args.name c.args.columns.now)) _ _ _ c.outcome_of.ensures
    (search rules)
    (search rules)
    c.write_created.ensures
