use Rattle.std.proofs.Common.{List, ℕ, take, subst, sym, refl, arith}
use Rattle.io_line_reader.specs.Reading.{IsFirstFeed}
use Rattle.io_row_reader.proofs.NamesAhead.{some_ended}
use Rattle.io_row_reader.specs.Ahead.{IsEnded}
use Rattle.cmd_session.specs.Session.{Answered, SessionValue}
use Rattle.lib_session.specs.Fed.{AnswersFront}
use Rattle.lib_session.proofs.FirstLines.{first_short}
use Rattle.lib_session.proofs.Fronts.{counted_inside, counts_on, ended_behind, first_answered}
use Rattle.lib_session.proofs.answering.answer_front.Goals as goal

pub returns-then-text-le-ONE_LINE : goal.returns-then-text-le-ONE_LINE
returns-then-text-le-ONE_LINE g c = first_answered _ _ _ _ _ _ _ c.answer_alone.ensures.feed c.answer_alone.ensures.reply

pub split_at-requires : goal.split_at-requires
split_at-requires g c = (let inside = counted_inside _ _ _ _ _ _ (some_ended c.args.text.now c.requires.ended) c.in-Counted.ensures.1 in omega (arith, inside))

pub answer_behind-line-requires-clause-ended : goal.answer_behind-line-requires-clause-ended
answer_behind-line-requires-clause-ended g c =
    subst (λ (t : List ℕ). IsEnded t) (sym c.split_at.ensures.back)
    (ended_behind c.args.text.now c.in-Counted.rows.end (counted_inside _ _ _ _ _ _ (some_ended c.args.text.now c.requires.ended) c.in-Counted.ensures.1) c.requires.ended)

pub answer_behind-line-requires-clause-few : goal.answer_behind-line-requires-clause-few
answer_behind-line-requires-clause-few g c =
    let on = (counts_on _ _ c.requires.stands _ _ _ _ c.in-Counted.ensures.1).1 in
    let inside = counted_inside _ _ _ _ _ _ (some_ended c.args.text.now c.requires.ended) c.in-Counted.ensures.1 in
    let few = c.requires.few in
    omega (arith, on, inside, few)

pub returns-in-Counted : goal.returns-in-Counted
returns-in-Counted g c = record {
  count = c.in-Counted.rows.count;
  begin = c.in-Counted.rows.begin;
  end = c.in-Counted.rows.end;
  left = c.front_ahead.new.self;
  rows = c.in-Counted.ensures.1;
  first = c.answer_behind-line.result.len;
  feed = subst (λ (t : List ℕ). IsFirstFeed t c.answer_behind-line.result.len) c.split_at.ensures.back c.answer_behind-line.ensures.feed;
  size = refl;
  reply = λ s stands.
      subst (λ (t : List ℕ). Answered c.answer_behind-line.result.outcome s (take c.answer_behind-line.result.len t) c.answer_behind-line.new.session (g.O.Sink.seen c.args.out.now) (g.O.Sink.seen c.answer_behind-line.new.out)) c.split_at.ensures.back
      (c.answer_behind-line.ensures.reply s stands);
}

pub returns-in-Row : goal.returns-in-Row
returns-in-Row g c =
    let row = c.in-Row.ensures.1 in
    subst (λ (k : SessionValue). AnswersFront c.args.text.now k c.in-Row.len c.plain_row-outcome.result c.plain_row-outcome.new.self (g.O.Sink.seen c.args.out.now) (g.O.Sink.seen c.plain_row-outcome.new.out)) c.in-Row.ensures.0
    (first_answered _ _ _ _ _ _ _ row.feed (λ s stands. c.plain_row-outcome.ensures.reply s _ (first_short _ _ row.feed.0 row.short) row.row stands))

pub returns-in-Other : goal.returns-in-Other
returns-in-Other g c =
    subst (λ (k : SessionValue). AnswersFront c.args.text.now k c.answer_any.result.len c.answer_any.result.outcome c.answer_any.new.session (g.O.Sink.seen c.args.out.now) (g.O.Sink.seen c.answer_any.new.out)) c.in-Other.ensures
    (first_answered _ _ _ _ _ _ _ c.answer_any.ensures.feed c.answer_any.ensures.reply)
