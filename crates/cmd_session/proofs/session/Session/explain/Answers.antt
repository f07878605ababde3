use Rattle.std.proofs.Common.{◌≡◌, sym, ap, ◌∙◌, subst, if◌then◌else◌}
use Rattle.exec_registry.proofs.Whole.{not_found}
use Rattle.cmd_session.specs.Request.{Request, explained, refused}
use Rattle.cmd_session.specs.Requests.{explain_request}
use Rattle.sql_replies.specs.declared.refusal.Refusal.TheVariants.{UnknownQuery}
use Rattle.cmd_session.specs.Session.{SessionValue, Does, names_in}
use Rattle.cmd_session.proofs.Explaining.{found_name}
use Rattle.cmd_session.proofs.Named.{any_name}
use Rattle.cmd_session.proofs.session.Session.explain.Goals as goal

pub returns-in-Some : goal.returns-in-Some
returns-in-Some g c = λ s stands.
    let there = sym (any_name c.self.inside.registry.live c.args.name.now) ∙ found_name c.args.name.now c.self.inside.registry.live c.in-Some.place (sym c.find.ensures.place ∙ c.in-Some.is) in
    let asks : explain_request (names_in c.self.inside.registry) c.args.name.now ≡ explained c.args.name.now
    = ap (λ b. if b then explained c.args.name.now else refused UnknownQuery) there in
    let asked = ap (λ (k : SessionValue). explain_request (names_in k.registry) c.args.name.now) (sym c.self.view_is) ∙ asks in
    subst (λ (r : Request). Does c.explain_at.result s r c.args.self.now (g.O.Sink.seen c.args.out.now) (g.O.Sink.seen c.explain_at.new.out)) (sym asked) (c.explain_at.ensures s stands)

pub returns-in-None : goal.returns-in-None
returns-in-None g c = λ s stands.
    let absent = sym (any_name c.self.inside.registry.live c.args.name.now) ∙ not_found c.args.name.now c.self.inside.registry.live (sym c.find.ensures.place ∙ c.in-None.is) in
    let asks : explain_request (names_in c.self.inside.registry) c.args.name.now ≡ refused UnknownQuery
    = ap (λ b. if b then explained c.args.name.now else refused UnknownQuery) absent in
    let asked = ap (λ (k : SessionValue). explain_request (names_in k.registry) c.args.name.now) (sym c.self.view_is) ∙ asks in
    subst (λ (r : Request). Does c.refuse.result s r c.args.self.now (g.O.Sink.seen c.args.out.now) (g.O.Sink.seen c.refuse.new.out)) (sym asked) (c.refuse.ensures s stands)
