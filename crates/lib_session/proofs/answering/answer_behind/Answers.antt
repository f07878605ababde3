use Rattle.lib_session.proofs.FirstLines.{first_short}
use Rattle.lib_session.proofs.answering.answer_behind.Goals as goal

pub returns-in-Some-clause-reply : goal.returns-in-Some-clause-reply
returns-in-Some-clause-reply g c = λ s stands.
    let row = c.in-Some.ensures.row in c.plain_row-outcome.ensures.reply s _ (first_short _ _ row.feed.0 row.short) row.row stands
