use Rattle.std.proofs.Common.{◌≡◌, List, ap, sym, ◌∙◌, subst, refl}
use Rattle.sql_catalog.specs.Streams.{Shape}
use Rattle.cmd_session.specs.Answer.{plain}
use Rattle.cmd_session.specs.Answers.{Settles}
use Rattle.cmd_session.specs.Lock.{Lock}
use Rattle.cmd_session.specs.Request.{Request, locked}
use Rattle.cmd_session.specs.Requests.{lock_request, opened_by}
use Rattle.cmd_session.specs.Session.{SessionValue}
use Rattle.cmd_session.specs.State.{one_line_more}
use Rattle.cmd_session.proofs.Given.{given}
use Rattle.cmd_session.proofs.session.Session.lock_to.Goals as goal

pub returns-in-Ok : goal.returns-in-Ok
returns-in-Ok g c = λ s stands.
    let lock : Lock = record { key = c.args.key; opened = c.in-Ok.opened } in
    let streams : c.args.self.now.streams ≡ c.all.result.now = sym (ap (λ (k : SessionValue). k.streams) c.self.view_is) ∙ sym c.all.ensures in
    let asks : lock_request c.args.key (opened_by c.args.self.now.streams c.args.names.now) ≡ locked lock =
    ap (λ (x : List Shape). lock_request c.args.key (opened_by x c.args.names.now)) streams ∙ ap (lock_request c.args.key) (c.opened_by.ensures ∙ c.in-Ok.is) in
    given c.write_locked.result c.outcome_of.result s _ (plain (locked lock)) _ _ _ c.outcome_of.ensures
    (subst (λ (x : Request). Settles s x (plain (locked lock))) (sym asks) refl)
    (c.set_lock.ensures.stands (one_line_more s) stands)
    c.write_locked.ensures
