use Rattle.std.proofs.Common.{◌≡◌, ℕ, List, None, rules, w64, to_z, of_z, ap, sym, ◌∙◌, subst}
use Rattle.std.proofs.lemmas.Int.{to_z-of_z}
use Rattle.sql_parser.specs.declared.tree.Statement.{Statement}
use Rattle.sql_parser.specs.Limits.{limit_of}
use Rattle.sql_parser.proofs.Taken.{domains_have_ends}
use Rattle.sql_catalog.specs.Streams.{Shape}
use Rattle.cmd_session.specs.Requests.{query_request, explain_request, drop_request, cell_request, lock_request, unlock_request, opened_by, statement_request}
use Rattle.cmd_session.specs.Session.{names_in}
use Rattle.cmd_session.specs.State.{one_line_more}
use Rattle.cmd_session.proofs.Resumed.{same_request}
use Rattle.cmd_session.proofs.Standing.{names-kept}
use Rattle.cmd_session.proofs.session.Session.answer_statement.Goals as goal

pub create_stream-requires-clause-domains : goal.create_stream-requires-clause-domains
create_stream-requires-clause-domains g c =
    let within = subst (λ (s : Statement). limit_of s ≡ None) c.in-CreateStream.is c.requires.limits in
    rw c.as_slice.ensures.value (domains_have_ends c.in-CreateStream.name c.in-CreateStream.columns.items within)

pub returns-in-CreateQuery-clause-reply : goal.returns-in-CreateQuery-clause-reply
returns-in-CreateQuery-clause-reply g c = λ s stands.
    same_request c.create_query.result s _ _ _ _ _
    (ap (λ x. query_request x (names_in c.args.self.now.registry) c.in-CreateQuery.name c.in-CreateQuery.select c.in-CreateQuery.shared) stands.streams
    ∙ ap (λ x. query_request s.streams x c.in-CreateQuery.name c.in-CreateQuery.select c.in-CreateQuery.shared) (names-kept c.args.self.now (one_line_more s) stands)
    ∙ ap (statement_request s) (sym c.in-CreateQuery.is)) (c.create_query.ensures s stands)

pub returns-in-Explain-clause-reply : goal.returns-in-Explain-clause-reply
returns-in-Explain-clause-reply g c = λ s stands.
    same_request c.explain.result s _ _ _ _ _ (ap (λ x. explain_request x c.in-Explain.name) (names-kept c.args.self.now (one_line_more s) stands) ∙ ap (statement_request s) (sym c.in-Explain.is)) (c.explain.ensures s stands)

pub returns-in-DropQuery-clause-reply : goal.returns-in-DropQuery-clause-reply
returns-in-DropQuery-clause-reply g c = λ s stands.
    same_request c.drop_query.result s _ _ _ _ _ (ap (λ x. drop_request x c.in-DropQuery.name) (names-kept c.args.self.now (one_line_more s) stands) ∙ ap (statement_request s) (sym c.in-DropQuery.is)) (c.drop_query.ensures s stands)

pub returns-in-ResumeCell-clause-reply : goal.returns-in-ResumeCell-clause-reply
returns-in-ResumeCell-clause-reply g c = λ s stands.
    same_request c.resume_cell.result s _ _ _ _ _
    (ap (λ x. cell_request s c.in-ResumeCell.name x (to_z w64 (of_z w64 c.in-ResumeCell.content))) (to_z-of_z w64 c.in-ResumeCell.index (search rules))
    ∙ ap (λ x. cell_request s c.in-ResumeCell.name c.in-ResumeCell.index x) (to_z-of_z w64 c.in-ResumeCell.content (search rules))
    ∙ ap (statement_request s) (sym c.in-ResumeCell.is)) (c.resume_cell.ensures.reply s stands)

pub returns-in-Lock-clause-reply : goal.returns-in-Lock-clause-reply
returns-in-Lock-clause-reply g c = λ s stands.
    same_request c.lock_to.result s _ _ _ _ _
    (ap (λ (names : List (List ℕ)). lock_request c.in-Lock.key (opened_by c.args.self.now.streams names)) c.as_slice-in-Lock.ensures.value
    ∙ ap (λ (x : List Shape). lock_request c.in-Lock.key (opened_by x c.in-Lock.streams.items)) stands.streams
    ∙ ap (statement_request s) (sym c.in-Lock.is)) (c.lock_to.ensures s stands)

pub returns-in-Unlock-clause-reply : goal.returns-in-Unlock-clause-reply
returns-in-Unlock-clause-reply g c = λ s stands.
    same_request c.unlock.result s _ _ _ _ _ (ap unlock_request stands.lock ∙ ap (statement_request s) (sym c.in-Unlock.is)) (c.unlock.ensures s stands)
