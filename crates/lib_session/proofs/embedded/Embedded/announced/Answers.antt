use Rattle.std.proofs.Common.{ap, sym, subst}
use Rattle.cmd_session.specs.Session.{SessionValue, StandsFor}
use Rattle.lib_session.specs.Embedded.{EmbeddedValue}
use Rattle.lib_session.proofs.embedded.Embedded.announced.Goals as goal

pub returns : goal.returns
returns c = λ s stands. c.announced.ensures s (subst (λ (k : SessionValue). StandsFor k s) (sym (ap (λ (e : EmbeddedValue). e.session) c.self.view_is)) stands)
