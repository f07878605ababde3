use Rattle.std.proofs.Common.{◌≡◌, ap, sym, ◌∙◌, subst, refl, cond}
use Rattle.sql_replies.specs.declared.refusal.Refusal.TheVariants.{Value}
use Rattle.cmd_session.specs.Answer.{plain}
use Rattle.cmd_session.specs.Answers.{Settles}
use Rattle.cmd_session.specs.Request.{Request, unlocked, refused}
use Rattle.cmd_session.specs.Requests.{unlock_request}
use Rattle.cmd_session.specs.State.{one_line_more}
use Rattle.cmd_session.proofs.Given.{given}
use Rattle.cmd_session.proofs.session.Session.unlock.Goals as goal

pub returns : goal.returns
returns g c = λ s stands.
    let asks : unlock_request c.args.self.now.lock ≡ unlocked = c.is_locked.ensures ∙ ap (λ b. cond b unlocked (refused Value)) c.if-not-is_locked.false in
    given c.write_unlocked.result c.outcome_of.result s _ (plain unlocked) _ _ _ c.outcome_of.ensures
    (subst (λ (x : Request). Settles s x (plain unlocked)) (sym asks) refl)
    (c.set_lock.ensures.stands (one_line_more s) stands)
    c.write_unlocked.ensures
