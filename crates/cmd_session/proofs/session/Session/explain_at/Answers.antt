use Rattle.std.proofs.Common.{◌≡◌, ℕ, ◌<◌, List, Some, length, refl, sym, ap, ◌∙◌, subst}
use Rattle.std.specs.List.{position}
use Rattle.std.specs.Str.{bytes_eq}
use Rattle.io_streams.specs.Sink.{Writes}
use Rattle.cmd_session.specs.Request.{explained}
use Rattle.cmd_session.specs.Answer.{plain}
use Rattle.cmd_session.specs.State.{one_line_more}
use Rattle.sql_catalog.specs.Streams.{Shape}
use Rattle.sql_parser.specs.Resolution.{HasNamed}
use Rattle.sql_explain.specs.Text.{explain_text}
use Rattle.cmd_session.specs.Replies.{explained_text}
use Rattle.cmd_session.specs.Session.{SessionValue, StandsFor}
use Rattle.cmd_session.proofs.Given.{given}
use Rattle.cmd_session.proofs.Explaining.{query_is_named, plan_is_its, text_is_its}
use Rattle.cmd_session.proofs.session.Session.explain_at.Goals as goal

pub explain-requires-clause-named : goal.explain-requires-clause-named
explain-requires-clause-named g c =
    subst (λ (l : List Shape). HasNamed l c.query-query.result.now) (sym c.all.ensures)
    (query_is_named c.self.inside.catalog.streams c.query-query.result.now c.self.inside.registry.live c.args.place
    (subst (λ (k : SessionValue). c.args.place < length k.registry.live) (sym c.self.view_is) c.requires.there) c.self.invariant.0.named c.query-query.ensures)

pub explain-requires-clause-plan : goal.explain-requires-clause-plan
explain-requires-clause-plan g c =
    plan_is_its c.query-query.result.now c.plan-plan.result.now c.self.inside.registry.live c.args.place
    (subst (λ (k : SessionValue). c.args.place < length k.registry.live) (sym c.self.view_is) c.requires.there) c.query-query.ensures c.plan-plan.ensures.plan

pub returns : goal.returns
returns g c = λ s stands.
    let there = subst (λ (k : SessionValue). c.args.place < length k.registry.live) (sym c.self.view_is) c.requires.there in
    let found = subst (λ (k : SessionValue). position (λ l. bytes_eq l.name c.args.name.now) k.registry.live ≡ Some c.args.place) (sym c.self.view_is) c.requires.found in
    let old = subst (λ (k : SessionValue). StandsFor k (one_line_more s)) (sym c.self.view_is) stands in
    let text = ap (λ (l : List Shape). explain_text l c.args.name.now c.query-query.result.now c.plan-plan.result.now) c.all.ensures
    ∙ text_is_its c.self.inside.catalog.streams c.args.name.now c.self.inside.registry.pool c.self.inside.registry.live s.queries c.args.place c.query-query.result.now c.plan-plan.result.now
    old.queries found there c.query-query.ensures c.plan-plan.ensures.value
    ∙ ap (λ (x : List Shape). explained_text x c.args.name.now s.queries) old.streams in
    given c.explain.result c.outcome_of.result s _ (plain (explained c.args.name.now)) _ _ _ c.outcome_of.ensures refl stands
    (subst (λ (t : List ℕ). Writes c.explain.result (g.O.Sink.seen c.args.out.now) (g.O.Sink.seen c.explain.new.out) t) text c.explain.ensures)
