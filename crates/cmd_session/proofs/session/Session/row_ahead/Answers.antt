use Rattle.std.proofs.Common.{List, ℕ, Option, IfSome, IsTrue, subst}
use Rattle.io_row_reader.specs.Open.{is_open}
use Rattle.cmd_session.specs.Lock.{open_in}
use Rattle.cmd_session.specs.Session.{SessionValue}
use Rattle.cmd_session.proofs.session.Session.row_ahead.Goals as goal

pub returns-clause-opens : goal.returns-clause-opens
returns-clause-opens c =
    subst (λ (k : SessionValue). IfSome c.read_row_ahead.result (λ found. IsTrue (is_open (open_in k.lock) found.0))) c.self.view_is
    (subst (λ (o : Option (List ℕ)). IfSome c.read_row_ahead.result (λ found. IsTrue (is_open o found.0))) c.self.invariant.1 c.read_row_ahead.ensures.opens)
