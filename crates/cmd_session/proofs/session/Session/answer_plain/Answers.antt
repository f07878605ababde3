use Rattle.std.proofs.Common.{ap, sym, ◌∙◌}
use Rattle.sql_parser.specs.Outlines.{whole_of}
use Rattle.sql_parser.specs.declared.plain.PlainStatement.{PlainStatement}
use Rattle.cmd_session.specs.Requests.{explain_request, drop_request, statement_request}
use Rattle.cmd_session.specs.State.{one_line_more}
use Rattle.cmd_session.proofs.Resumed.{same_request}
use Rattle.cmd_session.proofs.Standing.{names-kept}
use Rattle.cmd_session.proofs.session.Session.answer_plain.Goals as goal

pub returns-in-Explain-clause-reply : goal.returns-in-Explain-clause-reply
returns-in-Explain-clause-reply g c = λ s stands.
    same_request c.explain.result s _ _ _ _ _
    (ap (λ x. explain_request x c.in-Explain.name) (names-kept c.args.self.now (one_line_more s) stands) ∙ ap (λ (x : PlainStatement). statement_request s (whole_of x)) (sym c.in-Explain.is)) (c.explain.ensures s stands)

pub returns-in-DropQuery-clause-reply : goal.returns-in-DropQuery-clause-reply
returns-in-DropQuery-clause-reply g c = λ s stands.
    same_request c.drop_query.result s _ _ _ _ _
    (ap (λ x. drop_request x c.in-DropQuery.name) (names-kept c.args.self.now (one_line_more s) stands) ∙ ap (λ (x : PlainStatement). statement_request s (whole_of x)) (sym c.in-DropQuery.is)) (c.drop_query.ensures s stands)
