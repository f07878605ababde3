use Rattle.std.proofs.Common.{refl}
use Rattle.cmd_feeds.proofs.Outcomes.{same-later}
use Rattle.cmd_feeds.proofs.program.run_feeds.Goals as goal

pub returns-else-sources-feeds-clause-feeds_later : goal.returns-else-sources-feeds-clause-feeds_later
returns-else-sources-feeds-clause-feeds_later g c = same-later _

pub returns-in-None-clause-feeds_later : goal.returns-in-None-clause-feeds_later
returns-in-None-clause-feeds_later g c = same-later _

pub returns-in-None-clause-ends : goal.returns-in-None-clause-ends
returns-in-None-clause-ends g c = (refl, λ limit script names are many. c.in-None.ensures limit script names are, (refl, refl))
