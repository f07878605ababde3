-- Rows that are answered one after another, and given behind them.
use Rattle.std.proofs.Common.{◌≡◌, ◌⊎◌, ℕ, ℤ, ◌+◌, ◌-◌, ◌<◌, ◌≤◌, false, List, [], ◌∷◌, ◌++◌, length, take, drop, length-append, length-drop, length-take, refl, ap, sym, ◌∙◌, subst, arith, IsTrue, inl, inr}
use Rattle.std.specs.Bool.{⊤}
use Rattle.std.proofs.lemmas.List.{drop-append-le, drop-drop}
use Rattle.io_streams.specs.Gathered.{gathered_seen}
use Rattle.io_streams.specs.Sink.{SinkState}
use Rattle.io_streams.specs.Source.{SourceState}
use Rattle.io_line_reader.specs.Reading.{AreLinesAhead, GivesAll, IsBuffered, Reading}
use Rattle.io_line_reader.specs.Reading as feed
use Rattle.exec_pool.specs.Counted.{StepsValue}
use Rattle.io_row_reader.specs.Ahead.{IsRowAhead}
use Rattle.io_row_reader.specs.Counted.{IsSomeRowAhead}
use Rattle.io_row_reader.specs.Open.{is_open}
use Rattle.io_row_reader.specs.Plain.{IsPlainRow}
use Rattle.io_row_reader.proofs.LinesCounted.{stands}
use Rattle.io_row_reader.proofs.RowsAhead.{lies_ahead}
use Rattle.cmd_session.specs.declared.outcome.LineOutcome.{LineOutcome}
use Rattle.cmd_session.specs.declared.one_turn.Turn.{Turn}
use Rattle.cmd_session.specs.declared.outcome.LineOutcome.TheVariants.{Done, Memory, WriteFault}
use Rattle.cmd_session.specs.AnsweredRows.{AnswersRows, AnswersText, AreAnswered, TurnedBehind, none, more, no_row, row_more}
use Rattle.cmd_session.specs.Counted as counting
use Rattle.cmd_session.specs.Counted.{AnswersNothing, AreCounted}
use Rattle.cmd_session.specs.Fetched.{buffered}
use Rattle.cmd_session.specs.Lock.{open_in}
use Rattle.cmd_session.specs.Run.{HasState}
use Rattle.cmd_session.specs.Session.{Answered, SessionValue, StandsFor, TakesCells}
use Rattle.cmd_session.specs.State.{State, next_of}
use Rattle.cmd_session.specs.Turned.{AnsweredLine, Turned}
use Rattle.cmd_session.proofs.CountedLines.{HasRoom, reader_at, reading_is, row_given}
use Rattle.cmd_session.proofs.LineRuns.{next_of-lines}
use Rattle.cmd_session.proofs.Progress.{came-begun, counted}

-- rows end before the last LF of a text
rows_within : (text : List ℕ) (k : SessionValue) (below : SinkState) (held : List ℕ) (steps : StepsValue) (how : LineOutcome) (count begin end : ℕ) (kept : SessionValue) (after : SinkState) (full : List ℕ) (now : StepsValue) → 0 < length text
    → AreAnswered text k below held steps how count begin end kept after full now → end < length text
rows_within text k below held steps how count begin end kept after full now some (none h c e a b d n) = omega (arith, e, some)
rows_within text k below held steps how count begin end kept after full now some (more before start len left between part spent h row t w c e) = omega (arith, e, row.row.before, length-drop begin text)

-- rows end in what is ahead, where one LF more stands behind that
within_ahead : (ahead : List ℕ) (k : SessionValue) (below : SinkState) (held : List ℕ) (steps : StepsValue) (how : LineOutcome) (count begin end : ℕ) (kept : SessionValue) (after : SinkState) (full : List ℕ) (now : StepsValue)
    → AreAnswered (ahead ++ 10 ∷ []) k below held steps how count begin end kept after full now → end ≤ length ahead
within_ahead ahead k below held steps how count begin end kept after full now h =
    let room : 0 < length (ahead ++ 10 ∷ []) = omega (arith, length-append ahead (10 ∷ [])) in
    omega (arith, rows_within (ahead ++ 10 ∷ []) k below held steps how count begin end kept after full now room h, length-append ahead (10 ∷ []))

-- rows that are answered are lines
lines_of : (ahead : List ℕ) (k : SessionValue) (below : SinkState) (held : List ℕ) (steps : StepsValue) (how : LineOutcome) (count begin end : ℕ) (kept : SessionValue) (after : SinkState) (full : List ℕ) (now : StepsValue)
    → AreAnswered (ahead ++ 10 ∷ []) k below held steps how count begin end kept after full now → AreLinesAhead ahead count begin end
lines_of ahead k below held steps how count begin end kept after full now (none h c e a b d n) = feed.none c e
lines_of ahead k below held steps how count begin end kept after full now (more before start len left between part spent h row t w c e) =
    let is = stands left.streams (open_in left.lock) ahead begin len (within_ahead ahead k below held steps Done before start begin left between part spent h) row in
    feed.more before start len (lines_of ahead k below held steps Done before start begin left between part spent h) is.feed is.short c e

-- so many rows were given and answered
record Reached (old : Reading) (k : SessionValue) (source : SourceState) (below : SinkState) (held : List ℕ) (steps : StepsValue) (how : LineOutcome) (count end : ℕ) (kept : SessionValue) (after : SinkState) (full : List ℕ) (now : StepsValue) : Type 0 where
  line : List ℕ
  rows : AnswersRows old k source below held steps how (reader_at old count end line) kept after full now

-- a row that was given was answered
one_line : (s : State) (how : LineOutcome) (old new : Reading) (left kept : SessionValue) (source : SourceState) (between after : SinkState) (part full line : List ℕ) → IsBuffered old new → line ≡ new.line
    → AnswersText how left line kept between after part full → StandsFor left s → AnsweredLine how s old new source source kept between after part full
one_line s how old new left kept source between after part full line b is t st = record {
  long = false;
  between = between;
  left = part;
  came = buffered b refl refl refl refl;
  name = t.name;
  name' = t.name';
  answers = λ text begun. subst (λ (l : List ℕ). Answered how s l kept (gathered_seen between t.name part) (gathered_seen after t.name' full)) (is ∙ begun) (t.answers s st);
}

one_more : (old : Reading) (k : SessionValue) (source : SourceState) (below : SinkState) (held : List ℕ) (steps : StepsValue) (how : LineOutcome) (before begin len : ℕ) (left kept : SessionValue) (between after : SinkState) (part full : List ℕ) (spent now : StepsValue)
    → HasRoom old (before + 1) → begin ≤ length old.ahead → Reached old k source below held steps Done before begin left between part spent → IsSomeRowAhead left.streams (open_in left.lock) (drop begin (old.ahead ++ 10 ∷ [])) len
    → AnswersText how left (take len (drop begin (old.ahead ++ 10 ∷ []))) kept between after part full → TakesCells left.registry.live spent now
    → AnswersRows old k source below held steps how (reader_at old (before + 1) (begin + len + 1) (take len (drop begin old.ahead))) kept after full now
one_more old k source below held steps how before begin len left kept between after part full spent now room inside h row t w =
    let rest = drop begin old.ahead in
    let is = stands left.streams (open_in left.lock) old.ahead begin len inside row in
    let same : take len (drop begin (old.ahead ++ 10 ∷ [])) ≡ take len rest = ap (λ (x : List ℕ). take len x) (drop-append-le begin old.ahead (10 ∷ []) inside) ∙ (lies_ahead rest len is.row.row.feed is.row.row.before).same in
    let given = row_given old left.streams (open_in left.lock) before begin len h.line room inside row in
    row_more (reader_at old before begin h.line) left between part spent h.rows
    (λ s st. one_line s how (reader_at old before begin h.line) (reader_at old (before + 1) (begin + len + 1) (take len rest)) left kept source between after part full (take len (drop begin (old.ahead ++ 10 ∷ []))) given same t st)
    w

less_room : (old : Reading) (before count : ℕ) → count ≡ before + 1 → HasRoom old count → HasRoom old before
less_room old before count e h = record { counted = (omega (arith, e, h.counted.0), h.counted.1); ended = h.ended; unfailed = h.unfailed }

nothing_more : (n : ℕ) → n + 0 ≡ n
nothing_more n = omega arith

reached : (old : Reading) (k : SessionValue) (source : SourceState) (below : SinkState) (held : List ℕ) (steps : StepsValue) (how : LineOutcome) (count begin end : ℕ) (kept : SessionValue) (after : SinkState) (full : List ℕ) (now : StepsValue) → HasRoom old count
    → AreAnswered (old.ahead ++ 10 ∷ []) k below held steps how count begin end kept after full now → Reached old k source below held steps how count end kept after full now
reached old k source below held steps how count begin end kept after full now room (none h c e a b d n) =
    let reader : reader_at old 0 0 old.line ≡ old = ap (λ (n : ℕ). record old { lines = n }) (nothing_more old.lines) in
    let at_start : Reached old k source below held steps how 0 0 kept after full now = record { line = old.line; rows = no_row h reader a b d n } in
    subst (λ n. Reached old k source below held steps how n end kept after full now) (sym c) (subst (λ n. Reached old k source below held steps how 0 n kept after full now) (sym e) at_start)
reached old k source below held steps how count begin end kept after full now room (more before start len left between part spent h row t w c e) =
    let inside = within_ahead old.ahead k below held steps Done before start begin left between part spent h in
    let last : Reached old k source below held steps how (before + 1) (begin + len + 1) kept after full now = record {
      line = take len (drop begin old.ahead);
      rows = one_more old k source below held steps how before begin len left kept between after part full spent now (subst (λ n. HasRoom old n) c room) inside
          (reached old k source below held steps Done before start begin left between part spent (less_room old before count c room) h) row t w;
    } in
    subst (λ n. Reached old k source below held steps how n end kept after full now) (sym c) (subst (λ n. Reached old k source below held steps how (before + 1) n kept after full now) (sym e) last)

-- the rows at the front of what was ahead were answered, and then given
some_given : (old new : Reading) (k : SessionValue) (source : SourceState) (below : SinkState) (held : List ℕ) (steps : StepsValue) (how : LineOutcome) (count begin end : ℕ) (kept : SessionValue) (after : SinkState) (full : List ℕ) (now : StepsValue) → 0 < count
    → AreAnswered (old.ahead ++ 10 ∷ []) k below held steps how count begin end kept after full now → GivesAll old new count begin end → AnswersRows old k source below held steps how new kept after full now
some_given old new k source below held steps how count begin end kept after full now some (none h c e a b d n) gives = absurd (omega (arith, some, c))
some_given old new k source below held steps how count begin end kept after full now some (more before start len left between part spent h row t w c e) gives =
    let room : HasRoom old count = record {
      counted = (omega (arith, gives.counted.0, gives.lines, gives.taken), omega (arith, gives.counted.1, gives.taken));
      ended = gives.ended.0;
      unfailed = gives.unfailed.0;
    } in
    let inside = within_ahead old.ahead k below held steps Done before start begin left between part spent h in
    let all = one_more old k source below held steps how before begin len left kept between after part full spent now (subst (λ n. HasRoom old n) c room) inside
    (reached old k source below held steps Done before start begin left between part spent (less_room old before count c room) h) row t w in
    let size : end - 1 - begin ≡ len = omega (arith, e) in
    let given : new ≡ reader_at old (before + 1) (begin + len + 1) (take len (drop begin old.ahead)) =
    reading_is new (reader_at old (before + 1) (begin + len + 1) (take len (drop begin old.ahead)))
    (gives.ahead ∙ ap (λ n. drop n old.ahead) e) (gives.line ∙ ap (λ n. take n (drop begin old.ahead)) size) gives.taken (gives.lines ∙ ap (λ n. old.lines + n) c)
    (gives.ended.1 ∙ sym gives.ended.0) (gives.unfailed.1 ∙ sym gives.unfailed.0) in
    subst (λ r. AnswersRows old k source below held steps how r kept after full now) (sym given) all

none_given : (old new : Reading) (k : SessionValue) (source : SourceState) (below : SinkState) (held : List ℕ) (steps : StepsValue) (how : LineOutcome) (count begin end : ℕ) (kept : SessionValue) (after : SinkState) (full : List ℕ) (now : StepsValue) → count ≡ 0
    → AreAnswered (old.ahead ++ 10 ∷ []) k below held steps how count begin end kept after full now → new ≡ old → AnswersRows old k source below held steps how new kept after full now
none_given old new k source below held steps how count begin end kept after full now nothing (none h c e a b d n) same = no_row h same a b d n
none_given old new k source below held steps how count begin end kept after full now nothing (more before start len left between part spent h row t w c e) same = absurd (omega (arith, nothing, c))

-- the lines of rows were given, or there are none and nothing was done
abbrev pub IsGiven : Reading → Reading → ℕ → ℕ → ℕ → Type 0
IsGiven old new count begin end = ((0 < count) × GivesAll old new count begin end) ⊎ ((count ≡ 0) × (new ≡ old))

rows_given : (old new : Reading) (k : SessionValue) (source : SourceState) (below : SinkState) (held : List ℕ) (steps : StepsValue) (how : LineOutcome) (count begin end : ℕ) (kept : SessionValue) (after : SinkState) (full : List ℕ) (now : StepsValue)
    → AreAnswered (old.ahead ++ 10 ∷ []) k below held steps how count begin end kept after full now → IsGiven old new count begin end → AnswersRows old k source below held steps how new kept after full now
rows_given old new k source below held steps how count begin end kept after full now h (inl some) = some_given old new k source below held steps how count begin end kept after full now some.0 h some.1
rows_given old new k source below held steps how count begin end kept after full now h (inr nothing) = none_given old new k source below held steps how count begin end kept after full now nothing.0 h nothing.1

-- what rows leave that were answered and are done: the session stands for some state, and has answered as many lines as the reader gave
pub record Leaves (old new : Reading) (k kept : SessionValue) : Type 0 where
  pub state : HasState kept
  pub lines : kept.lines + old.lines ≡ k.lines + new.lines
  pub later : old.lines ≤ new.lines

one_left : (s : State) (old reader new : Reading) (k left kept : SessionValue) (source : SourceState) (between after : SinkState) (part full : List ℕ) → Leaves old reader k left → StandsFor left s
    → AnsweredLine Done s reader new source source kept between after part full → Leaves old new k kept
one_left s old reader new k left kept source between after part full h stands line =
    let given = counted line.long reader new source source between line.between part line.left line.came in
    let begun = came-begun line.long reader new source source between line.between part line.left line.came in
    let does = (line.answers begun.0 begun.1).does in
    record {
      state = record { state = _; stands = does.stands };
      lines = omega (arith, h.lines, given.lines, does.stands.lines, next_of-lines s does.answer, stands.lines);
      later = omega (arith, h.later, given.lines);
    }

pub rows_leave : (old : Reading) (k : SessionValue) (source : SourceState) (below : SinkState) (held : List ℕ) (steps : StepsValue) (new : Reading) (kept : SessionValue) (after : SinkState) (full : List ℕ) (now : StepsValue) → HasState k
    → AnswersRows old k source below held steps Done new kept after full now → Leaves old new k kept
rows_leave old k source below held steps new kept after full now known (no_row h reader session a b n) =
    record {
      state = subst (λ (x : SessionValue). HasState x) (sym session) known;
      lines = omega (arith, ap (λ (r : Reading). r.lines) reader, ap (λ (x : SessionValue). x.lines) session);
      later = omega (arith, ap (λ (r : Reading). r.lines) reader);
    }
rows_leave old k source below held steps new kept after full now known (row_more reader left between part spent h line w) =
    let before = rows_leave old k source below held steps reader left between part spent known h in
    one_left before.state.state old reader new k left kept source between after part full before before.state.stands (line before.state.state before.state.stands)

-- The rows of a text that one LF more than what is ahead makes.

pub lines_in : (ahead given : List ℕ) (k : SessionValue) (below : SinkState) (held : List ℕ) (steps : StepsValue) (how : LineOutcome) (count begin end : ℕ) (kept : SessionValue) (after : SinkState) (full : List ℕ) (now : StepsValue) → given ≡ ahead ++ 10 ∷ []
    → AreAnswered given k below held steps how count begin end kept after full now → AreLinesAhead ahead count begin end
lines_in ahead given k below held steps how count begin end kept after full now is h =
    lines_of ahead k below held steps how count begin end kept after full now (subst (λ (t : List ℕ). AreAnswered t k below held steps how count begin end kept after full now) is h)

pub rows_in : (old new : Reading) (given : List ℕ) (k : SessionValue) (source : SourceState) (below : SinkState) (held : List ℕ) (steps : StepsValue) (how how' : LineOutcome) (count begin end : ℕ) (kept : SessionValue) (after : SinkState) (full : List ℕ) (now : StepsValue) → how ≡ how'
    → given ≡ old.ahead ++ 10 ∷ [] → AreAnswered given k below held steps how count begin end kept after full now → IsGiven old new count begin end → AnswersRows old k source below held steps how' new kept after full now
rows_in old new given k source below held steps how how' count begin end kept after full now same is h lines =
    subst (λ (o : LineOutcome). AnswersRows old k source below held steps o new kept after full now) same
    (rows_given old new k source below held steps how count begin end kept after full now (subst (λ (t : List ℕ). AreAnswered t k below held steps how count begin end kept after full now) is h) lines)

-- one row more was answered
pub answered_more : (text : List ℕ) (k : SessionValue) (below : SinkState) (held : List ℕ) (steps : StepsValue) (how how' : LineOutcome) (count begin end len stream : ℕ) (values : List ℤ) (left kept : SessionValue) (between after : SinkState) (part full : List ℕ) (name name' : ℕ) (spent now : StepsValue)
    → how ≡ how' → AreAnswered text k below held steps Done count begin end left between part spent → IsRowAhead left.streams (drop end text) stream len values → IsTrue (is_open (open_in left.lock) stream)
    → ((s : State) → (line : List ℕ) → length line ≤ 1024 → IsPlainRow left.streams line stream values → StandsFor left s → Answered how s line kept (gathered_seen between name part) (gathered_seen after name' full))
    → TakesCells left.registry.live spent now → AreAnswered text k below held steps how' (count + 1) end (end + len + 1) kept after full now
answered_more text k below held steps how how' count begin end len stream values left kept between after part full name name' spent now same h row opens reply w =
    subst (λ (o : LineOutcome). AreAnswered text k below held steps o (count + 1) end (end + len + 1) kept after full now) same
    (more count begin len left between part spent h (record { stream = stream; values = values; row = row; opens = opens })
    (record { name = name; name' = name'; answers = λ s st. reply s (take len (drop end text)) (omega (arith, length-take len (drop end text), row.short)) row.row st })
    w refl refl)

-- what an answer that is done leaves
pub answer_leaves : (how : LineOutcome) (s : State) (line : List ℕ) (left kept : SessionValue) (seen seen' : SinkState) → how ≡ Done → StandsFor left s → Answered how s line kept seen seen' → HasState kept × (kept.lines ≡ left.lines + 1)
answer_leaves how s line left kept seen seen' done stands told =
    let t = subst (λ (o : LineOutcome). Answered o s line kept seen seen') done told in
    (record { state = next_of s t.does.answer; stands = t.does.stands }, omega (arith, t.does.stands.lines, next_of-lines s t.does.answer, stands.lines))

-- an outcome that is not done
abbrev pub IsFault : LineOutcome → Type 0
IsFault Done = ⊥
IsFault WriteFault = ⊤
IsFault Memory = ⊤

pub not_done : (how : LineOutcome) → (how ≡ WriteFault) ⊎ (how ≡ Memory) → how ≡ Done → ⊥
not_done how (inl fault) done = subst IsFault (sym fault ∙ done) tt
not_done how (inr fault) done = subst IsFault (sym fault ∙ done) tt

-- a turn that the last row made, which is not done
pub turned_behind : (how : LineOutcome) (turn : Turn) (old : Reading) (k : SessionValue) (source : SourceState) (below : SinkState) (held : List ℕ) (steps : StepsValue) (new : Reading) (kept : SessionValue) (after lower : SinkState) (full rest : List ℕ) (now : StepsValue) → IsFault how
    → ((s : State) → (reader : Reading) → (left : SessionValue) → (between : SinkState) → (part : List ℕ) → AnsweredLine how s reader new source source kept between after part full → Turned turn s reader new source source left kept between lower part rest)
    → AnswersRows old k source below held steps how new kept after full now → TurnedBehind turn old new source source k kept below lower held rest steps now
turned_behind how turn old k source below held steps new kept after lower full rest now fault turned (no_row h reader session a b n) = absurd (subst IsFault h fault)
turned_behind how turn old k source below held steps new kept after lower full rest now fault turned (row_more reader left between part spent h line w) =
    record { reader = reader; left = left; between = between; part = part; spent = spent; rows = h; turned = λ s st. turned s reader left between part (line s st); takes = w }

-- Rows that are counted behind rows that were answered.

-- so many rows were answered, the last from some place on
record Behind (text : List ℕ) (k : SessionValue) (below : SinkState) (held : List ℕ) (steps : StepsValue) (count end : ℕ) (kept : SessionValue) (after : SinkState) (full : List ℕ) (now : StepsValue) : Type 0 where
  begin : ℕ
  rows : AreAnswered text k below held steps Done count begin end kept after full now

-- one row more was counted
one_behind : (text : List ℕ) (k : SessionValue) (below : SinkState) (held : List ℕ) (steps : StepsValue) (count end before begin len : ℕ) (left kept : SessionValue) (after : SinkState) (full : List ℕ) (now : StepsValue)
    → Behind text k below held steps (count + before) (end + begin) left after full now → IsSomeRowAhead left.streams (open_in left.lock) (drop begin (drop end text)) len → AnswersNothing left (take len (drop begin (drop end text))) kept
    → AreAnswered text k below held steps Done (count + (before + 1)) (end + begin) (end + (begin + len + 1)) kept after full now
one_behind text k below held steps count end before begin len left kept after full now h row answers =
    let here : drop begin (drop end text) ≡ drop (end + begin) text = drop-drop begin end text ∙ ap (λ n. drop n text) (omega arith) in
    more (count + before) h.begin len left after full now h.rows (subst (λ (t : List ℕ). IsSomeRowAhead left.streams (open_in left.lock) t len) here row)
    (record {
      name = 0;
      name' = 0;
      answers = λ s st. subst (λ (t : List ℕ). Answered Done s (take len t) kept (gathered_seen after 0 full) (gathered_seen after 0 full)) here (answers s (gathered_seen after 0 full) st);
    })
    (omega arith, omega arith) (omega arith) (omega arith)

behind : (text : List ℕ) (k : SessionValue) (below : SinkState) (held : List ℕ) (steps : StepsValue) (count start end : ℕ) (left : SessionValue) (after : SinkState) (full : List ℕ) (now : StepsValue) (others begin to : ℕ) (kept : SessionValue)
    → AreAnswered text k below held steps Done count start end left after full now → AreCounted (drop end text) left others begin to kept → Behind text k below held steps (count + others) (end + to) kept after full now
behind text k below held steps count start end left after full now others begin to kept h (counting.no_row c e is) =
    let size : count ≡ count + others = omega (arith, c) in
    let place : end ≡ end + to = omega (arith, e) in
    record {
      begin = start;
      rows = subst (λ (n : ℕ). AreAnswered text k below held steps Done n start (end + to) kept after full now) size
          (subst (λ (n : ℕ). AreAnswered text k below held steps Done count start n kept after full now) place (subst (λ (x : SessionValue). AreAnswered text k below held steps Done count start end x after full now) (sym is) h));
    }
behind text k below held steps count start end left after full now others begin to kept h (counting.row_more before from len between first row answers c e) =
    let was = behind text k below held steps count start end left after full now before from begin between h first in
    let last = one_behind text k below held steps count end before begin len between kept after full now was row answers in
    record {
      begin = end + begin;
      rows = subst (λ (n : ℕ). AreAnswered text k below held steps Done (count + n) (end + begin) (end + to) kept after full now) (sym c)
          (subst (λ (n : ℕ). AreAnswered text k below held steps Done (count + (before + 1)) (end + begin) (end + n) kept after full now) (sym e) last);
    }

-- some rows more were counted
pub counted_behind : (text : List ℕ) (k : SessionValue) (below : SinkState) (held : List ℕ) (steps : StepsValue) (count start end : ℕ) (left : SessionValue) (after : SinkState) (full : List ℕ) (now : StepsValue) (others begin to : ℕ) (kept : SessionValue) → 0 < others
    → AreAnswered text k below held steps Done count start end left after full now → AreCounted (drop end text) left others begin to kept → AreAnswered text k below held steps Done (count + others) (end + begin) (end + to) kept after full now
counted_behind text k below held steps count start end left after full now others begin to kept some h (counting.no_row c e is) = absurd (omega (arith, some, c))
counted_behind text k below held steps count start end left after full now others begin to kept some h (counting.row_more before from len between first row answers c e) =
    let was = behind text k below held steps count start end left after full now before from begin between h first in
    let last = one_behind text k below held steps count end before begin len between kept after full now was row answers in
    subst (λ (n : ℕ). AreAnswered text k below held steps Done (count + n) (end + begin) (end + to) kept after full now) (sym c)
    (subst (λ (n : ℕ). AreAnswered text k below held steps Done (count + (before + 1)) (end + begin) (end + n) kept after full now) (sym e) last)

-- what rows leave that were counted
pub counted_leaves : (text : List ℕ) (k : SessionValue) (count begin end : ℕ) (kept : SessionValue) (seen : SinkState) → HasState k → AreCounted text k count begin end kept → HasState kept × (kept.lines ≡ k.lines + count)
counted_leaves text k count begin end kept seen known (counting.no_row c e is) = (subst HasState (sym is) known, (let lines : kept.lines ≡ k.lines = ap (λ (x : SessionValue). x.lines) is in omega (arith, lines, c)))
counted_leaves text k count begin end kept seen known (counting.row_more before from len left first row answers c e) =
    let was = counted_leaves text k before from begin left seen known first in
    let stands = was.0.stands in
    let one = answer_leaves Done was.0.state (take len (drop begin text)) left kept seen seen refl stands (answers was.0.state seen stands) in
    (one.0, (let lines = was.1 in let next = one.1 in omega (arith, lines, next, c)))
