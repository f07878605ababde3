use Rattle.std.proofs.Common.{◌≡◌, refl, sym, ap, ◌∙◌, subst, if◌then◌else◌}
use Rattle.cmd_session.specs.Request.{Request, dropped, refused}
use Rattle.cmd_session.specs.Requests.{drop_request}
use Rattle.sql_replies.specs.declared.refusal.Refusal.TheVariants.{UnknownQuery}
use Rattle.cmd_session.specs.Answer.{plain}
use Rattle.cmd_session.specs.Answers.{Settles}
use Rattle.cmd_session.specs.State.{one_line_more}
use Rattle.cmd_session.specs.Session.{SessionValue, StandsFor, names_in}
use Rattle.cmd_session.proofs.Explaining.{named_kept}
use Rattle.cmd_session.proofs.Given.{given}
use Rattle.cmd_session.proofs.Short.{short_kept}
use Rattle.cmd_session.proofs.session.Session.drop_query.Goals as goal

pub invariant_of-self : goal.invariant_of-self
invariant_of-self g c = (
  record {
    within = c.self.invariant.0.within;
    limit = c.self.invariant.0.limit;
    given = c.drop_query.ensures.given c.self.inside.taken c.self.invariant.0.given;
    named = named_kept c.self.inside.catalog.streams c.self.inside.registry.live c.drop_query.new.self.live c.self.invariant.0.named c.drop_query.ensures.queries;
    short = short_kept c.self.inside.catalog.streams c.self.inside.registry.live c.drop_query.new.self.live c.self.invariant.0.short c.drop_query.ensures.queries;
  },
  c.self.invariant.1,
)

pub returns : goal.returns
returns g c = λ s stands.
    let old = subst (λ (k : SessionValue). StandsFor k (one_line_more s)) (sym c.self.view_is) stands in
    let live = sym c.is_live.ensures.names ∙ c.if-not-is_live.false in
    let asks : drop_request (names_in c.self.inside.registry) c.args.name.now ≡ dropped c.args.name.now
    = ap (λ b. if b then dropped c.args.name.now else refused UnknownQuery) live in
    let asked = ap (λ (k : SessionValue). drop_request (names_in k.registry) c.args.name.now) (sym c.self.view_is) ∙ asks in
    given c.write_dropped.result c.outcome_of.result s _ (plain (dropped c.args.name.now)) _ _ _ c.outcome_of.ensures
    (subst (λ (x : Request). Settles s x (plain (dropped c.args.name.now))) (sym asked) refl)
    (record {
      limit = old.limit;
      streams = old.streams;
      queries = c.drop_query.ensures.stands s.queries old.queries;
      quiet = c.drop_query.ensures.quiet old.quiet;
      taken = old.taken;
      lines = old.lines;
      began = old.began;
      lock = old.lock;
      pages = c.drop_query.ensures.pages ∙ old.pages;
    })
    c.write_dropped.ensures
