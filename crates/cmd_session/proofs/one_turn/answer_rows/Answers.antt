use Rattle.std.proofs.Common.{◌≡◌, ◌∙◌, List, ℕ, take, drop, length-drop, length-take, refl, sym, ap, subst, arith}
use Rattle.io_row_reader.proofs.NamesAhead.{some_ended}
use Rattle.io_row_reader.specs.Ahead.{IsRowAhead}
use Rattle.cmd_session.specs.AnsweredRows.{AreAnswered, none}
use Rattle.cmd_session.specs.declared.outcome.LineOutcome.TheVariants.{Done}
use Rattle.cmd_session.specs.Run.{HasState}
use Rattle.cmd_session.specs.Session.{SessionValue}
use Rattle.cmd_session.specs.Counted.{AreCounted}
use Rattle.cmd_session.proofs.MostSteps.{row_takes}
use Rattle.cmd_session.proofs.AnsweredLines.{answer_leaves, answered_more, counted_behind, counted_leaves, not_done}
use Rattle.cmd_session.proofs.CountedTexts.{counted_begin, counted_few, counted_within}
use Rattle.cmd_session.proofs.SameSink.{same_name}
use Rattle.cmd_session.proofs.one_turn.answer_rows.Goals as goal

pub rows-init : goal.rows-init
rows-init g c = record {
  rows = none refl refl refl refl refl refl refl;
  within = some_ended c.args.text.now c.requires.ended;
  few = omega arith;
  lines = omega arith;
  known = c.requires.stands;
  same = refl;
}

pub rows-preserved-in-Counted : goal.rows-preserved-in-Counted
rows-preserved-in-Counted g c =
    let rows = c.rows.rows in
    let others = c.in-Counted.more in
    let left = c.front_ahead.new.self in
    let all : AreCounted (drop rows.end c.args.text.now) c.rows.session others.count others.begin others.end left =
    subst (λ (t : List ℕ). AreCounted t c.rows.session others.count others.begin others.end left) c.split_at.ensures.back c.in-Counted.ensures.1 in
    let some = c.in-Counted.ensures.0 in
    let inside = counted_within _ _ _ _ _ _ (omega (arith, c.rows.invariant.within, length-drop rows.end c.args.text.now)) all in
    let leaves = counted_leaves _ _ _ _ _ _ (g.O.Sink.seen c.args.output.now.sink.now) c.rows.invariant.known all in
    record {
      rows = counted_behind _ _ _ _ _ _ _ _ _ _ _ _ _ _ _ _ some c.rows.invariant.rows all;
      within = omega (arith, inside, length-drop rows.end c.args.text.now);
      few = omega (arith, counted_few _ _ _ _ _ _ all, c.rows.invariant.few);
      lines = omega (arith, leaves.1, c.rows.invariant.lines);
      known = leaves.0;
      same = c.rows.invariant.same;
    }

pub overflow_add-rows : goal.overflow_add-rows
overflow_add-rows g c =
    let rows = c.rows.rows in
    let others = c.in-Counted.more in
    let left = c.front_ahead.new.self in
    let all : AreCounted (drop rows.end c.args.text.now) c.rows.session others.count others.begin others.end left =
    subst (λ (t : List ℕ). AreCounted t c.rows.session others.count others.begin others.end left) c.split_at.ensures.back c.in-Counted.ensures.1 in
    let inside = counted_within _ _ _ _ _ _ (omega (arith, c.rows.invariant.within, length-drop rows.end c.args.text.now)) all in
    omega (arith, counted_few _ _ _ _ _ _ all, c.rows.invariant.few, inside, c.rows.invariant.within, c.requires.room, length-drop rows.end c.args.text.now)

pub overflow_add-rows-in-Counted : goal.overflow_add-rows-in-Counted
overflow_add-rows-in-Counted g c =
    let rows = c.rows.rows in
    let others = c.in-Counted.more in
    let left = c.front_ahead.new.self in
    let all : AreCounted (drop rows.end c.args.text.now) c.rows.session others.count others.begin others.end left =
    subst (λ (t : List ℕ). AreCounted t c.rows.session others.count others.begin others.end left) c.split_at.ensures.back c.in-Counted.ensures.1 in
    let inside = counted_within _ _ _ _ _ _ (omega (arith, c.rows.invariant.within, length-drop rows.end c.args.text.now)) all in
    omega (arith, counted_begin _ _ _ _ _ _ c.in-Counted.ensures.0 all, inside, c.rows.invariant.within, c.requires.room, length-drop rows.end c.args.text.now)

pub overflow_add-rows-in-Counted-2 : goal.overflow_add-rows-in-Counted-2
overflow_add-rows-in-Counted-2 g c =
    let rows = c.rows.rows in
    let others = c.in-Counted.more in
    let left = c.front_ahead.new.self in
    let all : AreCounted (drop rows.end c.args.text.now) c.rows.session others.count others.begin others.end left =
    subst (λ (t : List ℕ). AreCounted t c.rows.session others.count others.begin others.end left) c.split_at.ensures.back c.in-Counted.ensures.1 in
    let inside = counted_within _ _ _ _ _ _ (omega (arith, c.rows.invariant.within, length-drop rows.end c.args.text.now)) all in
    omega (arith, inside, c.rows.invariant.within, c.requires.room, length-drop rows.end c.args.text.now)

pub rows-smaller-in-Counted : goal.rows-smaller-in-Counted
rows-smaller-in-Counted g c =
    let rows = c.rows.rows in
    let others = c.in-Counted.more in
    let left = c.front_ahead.new.self in
    let all : AreCounted (drop rows.end c.args.text.now) c.rows.session others.count others.begin others.end left =
    subst (λ (t : List ℕ). AreCounted t c.rows.session others.count others.begin others.end left) c.split_at.ensures.back c.in-Counted.ensures.1 in
    let inside = counted_within _ _ _ _ _ _ (omega (arith, c.rows.invariant.within, length-drop rows.end c.args.text.now)) all in
    omega (arith, c.in-Counted.ensures.0, counted_few _ _ _ _ _ _ all, inside, c.rows.invariant.within, length-drop rows.end c.args.text.now)

pub returns-in-WriteFault : goal.returns-in-WriteFault
returns-in-WriteFault g c =
    let left = c.front_ahead.new.self in
    let row = subst (λ (t : List ℕ). IsRowAhead left.streams t c.in-Row.stream c.in-Row.len c.front_ahead.new.row.items) c.split_at.ensures.back c.in-Row.ensures.1 in
    let before = subst (λ (k : SessionValue). AreAnswered c.args.text.now c.args.session.now (g.O.Sink.seen c.args.output.now.sink.now) c.args.output.now.held.items c.args.steps.now Done c.rows.rows.count c.rows.rows.begin c.rows.rows.end k (g.O.Sink.seen c.rows.output.sink.now) c.rows.output.held.items c.rows.steps)
    (sym c.in-Row.ensures.0) c.rows.invariant.rows in
    let known : HasState left = subst HasState (sym c.in-Row.ensures.0) c.rows.invariant.known in
    let told = c.plain_row-outcome.ensures.reply known.state (take c.in-Row.len (drop c.rows.rows.end c.args.text.now)) (omega (arith, length-take c.in-Row.len (drop c.rows.rows.end c.args.text.now), row.short)) row.row known.stands in
    record {
      rows = answered_more _ _ _ _ _ _ _ _ _ _ _ _ _ _ _ _ _ _ _ _ _ _ _ refl before row c.in-Row.ensures.2 c.plain_row-outcome.ensures.reply (row_takes left.registry.live c.rows.steps c.plain_row-outcome.new.steps c.plain_row-outcome.ensures.reads c.plain_row-outcome.ensures.writes);
      room = λ done. absurd (not_done c.plain_row-outcome.result c.in-WriteFault.is done);
      same_reference = same_name _ _ _ _ (g.O.Sink.seen c.rows.output.sink.now) (g.O.Sink.seen c.plain_row-outcome.new.out.sink.now) _ _ _ _ told ∙ c.rows.invariant.same;
    }

pub rows-preserved : goal.rows-preserved
rows-preserved g c =
    let left = c.front_ahead.new.self in
    let row = subst (λ (t : List ℕ). IsRowAhead left.streams t c.in-Row.stream c.in-Row.len c.front_ahead.new.row.items) c.split_at.ensures.back c.in-Row.ensures.1 in
    let before = subst (λ (k : SessionValue). AreAnswered c.args.text.now c.args.session.now (g.O.Sink.seen c.args.output.now.sink.now) c.args.output.now.held.items c.args.steps.now Done c.rows.rows.count c.rows.rows.begin c.rows.rows.end k (g.O.Sink.seen c.rows.output.sink.now) c.rows.output.held.items c.rows.steps)
    (sym c.in-Row.ensures.0) c.rows.invariant.rows in
    let known : HasState left = subst HasState (sym c.in-Row.ensures.0) c.rows.invariant.known in
    let told = c.plain_row-outcome.ensures.reply known.state (take c.in-Row.len (drop c.rows.rows.end c.args.text.now)) (omega (arith, length-take c.in-Row.len (drop c.rows.rows.end c.args.text.now), row.short)) row.row known.stands in
    let done = c.in-Done.is in
    let leaves = answer_leaves _ _ _ _ _ _ _ done known.stands told in
    let lines : left.lines ≡ c.rows.session.lines = ap (λ (k : SessionValue). k.lines) c.in-Row.ensures.0 in
    record {
      rows = answered_more _ _ _ _ _ _ _ _ _ _ _ _ _ _ _ _ _ _ _ _ _ _ _ done before row c.in-Row.ensures.2 c.plain_row-outcome.ensures.reply (row_takes left.registry.live c.rows.steps c.plain_row-outcome.new.steps c.plain_row-outcome.ensures.reads c.plain_row-outcome.ensures.writes);
      within = omega (arith, row.before, length-drop c.rows.rows.end c.args.text.now);
      few = omega (arith, c.rows.invariant.few);
      lines = omega (arith, leaves.1, lines, c.rows.invariant.lines);
      known = leaves.0;
      same = same_name _ _ _ _ (g.O.Sink.seen c.rows.output.sink.now) (g.O.Sink.seen c.plain_row-outcome.new.out.sink.now) _ _ _ _ told ∙ c.rows.invariant.same;
    }

pub returns-in-Other-clause-rows : goal.returns-in-Other-clause-rows
returns-in-Other-clause-rows g c =
    subst (λ (k : SessionValue). AreAnswered c.args.text.now c.args.session.now (g.O.Sink.seen c.args.output.now.sink.now) c.args.output.now.held.items c.args.steps.now Done c.rows.rows.count c.rows.rows.begin c.rows.rows.end k (g.O.Sink.seen c.rows.output.sink.now) c.rows.output.held.items c.rows.steps)
    (sym c.in-Other.ensures) c.rows.invariant.rows
