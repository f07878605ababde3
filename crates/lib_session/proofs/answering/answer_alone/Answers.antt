use Rattle.std.proofs.Common.{List, ℕ, ap, ◌∙◌, subst, take}
use Rattle.io_line_reader.specs.Reading.{IsFirstFeed}
use Rattle.cmd_session.specs.Session.{Answered}
use Rattle.lib_session.proofs.FirstLines.{first_short, first_of_text}
use Rattle.lib_session.proofs.answering.answer_alone.Goals as goal

pub returns-in-Some-clause-feed : goal.returns-in-Some-clause-feed
returns-in-Some-clause-feed g c =
    (first_of_text c.args.text.now _ c.in-Some.found.1 c.requires.ended (subst (λ (t : List ℕ). IsFirstFeed t c.in-Some.found.1) c.put_front.ensures c.in-Some.ensures.row.feed)).0

pub returns-in-Some-clause-reply : goal.returns-in-Some-clause-reply
returns-in-Some-clause-reply g c = λ s stands.
    let row = c.in-Some.ensures.row in
    let first = first_of_text c.args.text.now _ c.in-Some.found.1 c.requires.ended (subst (λ (t : List ℕ). IsFirstFeed t c.in-Some.found.1) c.put_front.ensures row.feed) in
    let same = ap (λ (t : List ℕ). take c.in-Some.found.1 t) c.put_front.ensures ∙ first.1 in
    subst (λ (line : List ℕ). Answered c.plain_row-outcome.result s line c.plain_row-outcome.new.self (g.O.Sink.seen c.args.out.now) (g.O.Sink.seen c.plain_row-outcome.new.out)) same
    (c.plain_row-outcome.ensures.reply s _ (first_short _ _ row.feed.0 row.short) row.row stands)
