use Rattle.std.proofs.Common.{rules, w64, ap, ◌∙◌, subst, sym}
use Rattle.std.proofs.lemmas.Int.{to_z-of_z}
use Rattle.cmd_session.specs.Requests.{count_request}
use Rattle.cmd_session.specs.Session.{SessionValue, StandsFor}
use Rattle.cmd_session.specs.State.{one_line_more}
use Rattle.cmd_session.proofs.Resumed.{rows_asked}
use Rattle.cmd_session.proofs.session.Session.resume_rows.Goals as goal

pub returns-in-Ok : goal.returns-in-Ok
returns-in-Ok g c = λ s stands.
    let k : SessionValue
    = record { limit = c.self.inside.limit; streams = c.self.inside.catalog.streams; registry = c.self.inside.registry; taken = c.self.inside.taken; lines = c.self.inside.lines; began = c.self.inside.began; lock = c.self.inside.lock } in
    let old = subst (λ (x : SessionValue). StandsFor x (one_line_more s)) (sym c.self.view_is) stands in
    rows_asked k s c.args.rows c.in-Ok.taken _ old (ap (count_request k.began k.taken k.limit) (sym (to_z-of_z w64 c.args.rows (search rules))) ∙ c.in-Ok.ensures.request)
