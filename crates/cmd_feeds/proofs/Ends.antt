-- How a session over feeds ends, by how far it was.
use Rattle.std.proofs.Common.{◌≡◌, ℕ, zero, ◌+◌, ◌-◌, ◌^◌, ◌<◌, ◌≤◌, inl, inr, Bool, true, false, ◌||◌, List, [], ◌∷◌, ◌++◌, map, length, refl, sym, ap, ◌∙◌, subst, append_assoc, append-nil, arith}
use Rattle.std.specs.List.{list_any}
use Rattle.std.specs.Io.KnownBytes.{Appends}
use Rattle.std.proofs.lemmas.Bool.{false≢true}
use Rattle.io_streams.specs.Source.{SourceState}
use Rattle.io_streams.specs.Sink.{SinkState, Wrote}
use Rattle.io_streams.specs.Gathered.{StaysHeld}
use Rattle.io_streams.proofs.Writing.{Rose-earlier}
use Rattle.io_streams.specs.declared.status.Status.{Status}
use Rattle.io_streams.specs.declared.status.Status.TheVariants as status
use Rattle.std.specs.declared.option.Option.{Option}
use Rattle.cmd_session.specs.Lock.{Lock}
use Rattle.cmd_session.specs.State.{State}
use Rattle.cmd_session.specs.Events.{Event, lines_of, IsClose}
use Rattle.cmd_session.proofs.Passing.{IfSome-map}
use Rattle.cmd_session.proofs.ToldEvents.{Told, answers_of, events_of, event_of, events_of-append}
use Rattle.cmd_session.proofs.ToldEvents as told
use Rattle.cmd_feeds.specs.declared.stage.Lane.{Lane}
use Rattle.cmd_feeds.specs.declared.stage.Stage.{Stage}
use Rattle.cmd_feeds.specs.declared.stage.Stage.TheVariants as stage
use Rattle.cmd_feeds.specs.Lanes.{is_open, is_failed}
use Rattle.cmd_feeds.specs.Turns.{turns}
use Rattle.cmd_feeds.specs.FeedsRead.{TakenFeed, feed_of, OfEach, FeedsTaken, WroteEvents, IsEventText, StopsAtEvent, told_in, line_count}
use Rattle.cmd_feeds.specs.FeedsEnd.{SomeFailed, HasRoom, RanLater}
use Rattle.cmd_feeds.specs.Visited.{Finished, well, faulty, unwritten}
use Rattle.cmd_feeds.proofs.Rounds.{told-agrees, told-all, told-front, AllPast}
use Rattle.cmd_feeds.proofs.Rows.{Row, Each, each-map, feeds_of, lanes_of}
use Rattle.cmd_feeds.proofs.Around.{Stands, gives, done, broken, Standing, Course}
use Rattle.cmd_feeds.proofs.Held.{held-all, held-stopped}
use Rattle.cmd_feeds.proofs.Stops.{Stopped}
use Rattle.cmd_feeds.proofs.Told.{at, replied, reply, IsTold, AreTold, AreTold-front, at-behind, are-events, replied-events}
use Rattle.cmd_feeds.proofs.Grown.{NearEach, Grown, grown, NoneOpen, AllGrown, all-grown, of-each-map}

-- what belongs to the events was written
pub wrote-events : (gates : List (Option Lock)) (s : State) (ts : List Told) (events : List Event) (before now : SinkState) → events_of ts ≡ events → AreTold gates s ts → Appends before.written now.written (replied gates s ts) → WroteEvents gates s events before now
wrote-events gates s ts events before now e are w = subst (λ es. WroteEvents gates s es before now) e (record {
  text = replied gates s ts;
  is_text = record { answers = answers_of ts; are = are-events gates s ts are; replied = replied-events gates s ts };
  written = w;
})

-- the feeds of a call, and that what was told of them is a front of their turns
pub record Cut (P : ℕ → TakenFeed → Type 0) (starts ends : List SourceState) (events : List Event) (round place : ℕ) : Type 0 where
  pub f : FeedsTaken starts ends
  pub told : events ≡ told_in round place (map feed_of f.taken)
  pub more : List Event
  pub whole : turns (map feed_of f.taken) ≡ events ++ more
  pub hold : OfEach P 1 f.taken

abbrev pub cut : (P : ℕ → TakenFeed → Type 0) (starts ends : List SourceState) (events : List Event) (round place : ℕ) (rows : List Row) → map (λ (r : Row). r.source) rows ≡ starts → map (λ (r : Row). r.now) rows ≡ ends
    → events ≡ told_in round place (feeds_of rows) → AllGrown P 1 round place rows → Cut P starts ends events round place
cut P starts ends events round place rows sources nows e a =
    let told = e ∙ told-agrees round place (feeds_of rows) (map feed_of a.taken) a.agree in
    let front = told-front round place (map feed_of a.taken) in
    record {
      f = record { taken = a.taken; before = a.sources ∙ sources; after = a.nows ∙ nows; are = a.are };
      told = told;
      more = front.0;
      whole = front.1 ∙ ap (λ es. es ++ front.0) (sym told);
      hold = a.hold;
    }

-- what is known of the feeds that were told so
pub cut-standing : (starts ends : List SourceState) (all : List Lane) (answered pending : List Event) (round place : ℕ) → Standing starts ends all answered pending round place → Cut (NearEach answered pending) starts ends (answered ++ pending) round place
cut-standing starts ends all answered pending round place z =
    cut (NearEach answered pending) starts ends (answered ++ pending) round place z.rows z.sources z.nows z.events
    (all-grown (NearEach answered pending) 1 round place z.rows (each-map (Stands answered pending) (Grown (NearEach answered pending)) 1 round place z.rows (grown answered pending) z.each))

-- The sink failed in the text of one of the pending events. More of them may wait behind those.
pub stops-cut : (gates : List (Option Lock)) (s : State) (starts ends : List SourceState) (before below : SinkState) (round place : ℕ) (answered pending : List Told) (waiting : List Event)
    → (c : Cut (NearEach (events_of answered) (events_of pending ++ waiting)) starts ends (events_of answered ++ (events_of pending ++ waiting)) round place)
    → AreTold gates s (answered ++ pending) → Stopped gates s answered pending before below → StopsAtEvent gates s c.f before below
stops-cut gates s starts ends before below round place answered pending waiting c are st =
    let split : answered ++ pending ≡ (answered ++ st.done) ++ st.here ∷ st.others = ap (λ ts. answered ++ ts) st.whole ∙ sym (append_assoc answered st.done (st.here ∷ st.others)) in
    let front = AreTold-front gates s (answered ++ st.done) st.here st.others (subst (AreTold gates s) split are) in
    let told = events_of (answered ++ st.done) in
    let cut-here : events_of pending ++ waiting ≡ events_of st.done ++ event_of st.here ∷ (events_of st.others ++ waiting) =
    ap (λ ts. events_of ts ++ waiting) st.whole ∙ ap (λ es. es ++ waiting) (events_of-append st.done (st.here ∷ st.others)) ∙ append_assoc (events_of st.done) (event_of st.here ∷ events_of st.others) waiting in
    let joined : events_of answered ++ (events_of st.done ++ event_of st.here ∷ []) ≡ told ++ event_of st.here ∷ [] =
    sym (append_assoc (events_of answered) (events_of st.done) (event_of st.here ∷ [])) ∙ ap (λ es. es ++ event_of st.here ∷ []) (sym (events_of-append answered st.done)) in
    record {
      at_event = record {
        told = told;
        event = event_of st.here;
        others = (events_of st.others ++ waiting) ++ c.more;
        whole =
            c.whole
            ∙ ap (λ es. (events_of answered ++ es) ++ c.more) cut-here
            ∙ ap (λ es. es ++ c.more) (sym (append_assoc (events_of answered) (events_of st.done) (event_of st.here ∷ (events_of st.others ++ waiting))) ∙ ap (λ es. es ++ event_of st.here ∷ (events_of st.others ++ waiting)) (sym (events_of-append answered st.done)))
            ∙ append_assoc told (event_of st.here ∷ (events_of st.others ++ waiting)) c.more;
        near = of-each-map (NearEach (events_of answered) (events_of pending ++ waiting)) (λ number t. t.stage ≡ stage.Open → IsClose t.text (lines_of number (told ++ event_of st.here ∷ [])) t.now.last) 1 c.f.taken
            (λ number t near yet. subst (λ es. IsClose t.text (lines_of number es) t.now.last) joined (near yet (events_of st.done) (event_of st.here) (events_of st.others ++ waiting) cut-here)) c.hold;
        answers = answers_of (answered ++ st.done);
        are = are-events gates s (answered ++ st.done) front.0;
      };
      front = st.front;
      rest = st.rest;
      part = subst (λ u. IsEventText gates u (event_of st.here) (st.front ++ st.rest)) (at-behind gates s (answered ++ st.done)) (text-of (at gates s (answered ++ st.done)) st.here (st.front ++ st.rest) front.1 (sym st.part));
      written = subst (λ r. Appends before.written below.written (r ++ st.front)) (replied-events gates s (answered ++ st.done)) st.written;
    }
  where
    text-of : (u : State) (t : Told) (text : List ℕ) → IsTold gates u t → text ≡ reply gates u t → IsEventText gates u (event_of t) text
    text-of u (told.line number l answer) text is e = (answer, is, e)
    text-of u (told.fault number) text is e = e

-- the sink failed while what was held was written
pub ends-blocked : (gates : List (Option Lock)) (s : State) (starts ends : List SourceState) (all : List Lane) (before below below' : SinkState) (held held' : List ℕ) (lines round place : ℕ) → (i : Course gates s starts ends all before below held lines round place)
    → StaysHeld below below' held held' → RanLater status.WriteFault gates s starts ends before below'
ends-blocked gates s starts ends all before below below' held held' lines round place i stays =
    let A = events_of i.answered in
    let P = events_of i.pending in
    let c = subst (λ es. Cut (NearEach A es) starts ends (A ++ es) round place) (sym (append-nil P)) (cut-standing starts ends all A P round place i.standing) in
    record {
      ends = (
        Rose-earlier _ _ _ i.has.later stays.rose,
        c.f,
        IfSome-map before.written (λ _. Stopped gates s i.answered i.pending before below') (λ _. StopsAtEvent gates s c.f before below')
            (λ _ q. stops-cut gates s starts ends before below' round place i.answered i.pending [] c i.has.are q)
            (held-stopped gates s i.answered i.pending before below below' held held' i.has stays),
      );
      later = omega (arith, i.has.later, stays.wrote.later.faults);
    }

-- one of two is true
or-false : (b c : Bool) → (b || c) ≡ false → (b ≡ false) × (c ≡ false)
or-false true c e = absurd (false≢true (sym e))
or-false false c e = (refl, e)

-- all feeds have ended
pub none-open : (rows : List Row) → list_any (λ (lane : Lane). is_open lane.stage) (lanes_of rows) ≡ false → NoneOpen rows
none-open [] e = tt
none-open (row ∷ rows) e =
    let both = or-false (is_open row.lane.stage) (list_any (λ (lane : Lane). is_open lane.stage) (lanes_of rows)) e in
    (λ yet-open. false≢true (sym both.0 ∙ ap is_open yet-open), none-open rows both.1)

all-past : (answered pending : List Event) (number round : ℕ) (rows : List Row) → NoneOpen rows → Each (Stands answered pending) number round zero rows → AllPast round (feeds_of rows)
all-past answered pending number round [] none p = tt
all-past answered pending number round (row ∷ rows) none p = (past p.0, all-past answered pending (number + 1) round rows none.1 p.1)
  where
    past : Stands answered pending number round row → length row.feed.lines < round
    past (gives yet-open g e f n) = absurd (none.0 yet-open)
    past (done ended text all f n) = n
    past (broken failed text last rose f n) = n

ended-of : (x : Stage) → (x ≡ stage.Open → ⊥) → is_failed x ≡ false → x ≡ stage.Ended
ended-of stage.Open ne e = absurd (ne refl)
ended-of stage.Ended ne e = refl
ended-of stage.Failed ne e = absurd (false≢true (sym e))

failed-of : (x : Stage) → is_failed x ≡ true → x ≡ stage.Failed
failed-of stage.Open e = absurd (false≢true e)
failed-of stage.Ended e = absurd (false≢true e)
failed-of stage.Failed e = refl

-- how far the feeds are, in a list
abbrev stages_of : List TakenFeed → List Stage
stages_of taken = map (λ (t : TakenFeed). t.stage) taken

abbrev row_stages : List Row → List Stage
row_stages rows = map (λ (r : Row). r.lane.stage) rows

head-of : (x y : Stage) (xs ys : List Stage) → x ∷ xs ≡ y ∷ ys → x ≡ y
head-of x y xs ys e = cc

tail-of : (x y : Stage) (xs ys : List Stage) → x ∷ xs ≡ y ∷ ys → xs ≡ ys
tail-of x y xs ys e = cc

ended-each : (number : ℕ) (taken : List TakenFeed) (rows : List Row) → stages_of taken ≡ row_stages rows → NoneOpen rows → list_any (λ (lane : Lane). is_failed lane.stage) (lanes_of rows) ≡ false
    → OfEach (λ m t. t.stage ≡ stage.Ended) number taken
ended-each number [] rows e none any = tt
ended-each number (t ∷ taken) [] e none any = cc
ended-each number (t ∷ taken) (row ∷ rows) e none any =
    let both = or-false (is_failed row.lane.stage) (list_any (λ (lane : Lane). is_failed lane.stage) (lanes_of rows)) any in (
      head-of t.stage row.lane.stage (stages_of taken) (row_stages rows) e ∙ ended-of row.lane.stage none.0 both.0,
      ended-each (number + 1) taken rows (tail-of t.stage row.lane.stage (stages_of taken) (row_stages rows) e) none.1 both.1,
    )

closed-each : (number : ℕ) (taken : List TakenFeed) (rows : List Row) → stages_of taken ≡ row_stages rows → NoneOpen rows → OfEach (λ m t. t.stage ≡ stage.Open → ⊥) number taken
closed-each number [] rows e none = tt
closed-each number (t ∷ taken) [] e none = cc
closed-each number (t ∷ taken) (row ∷ rows) e none =
    (λ yet-open. none.0 (sym (head-of t.stage row.lane.stage (stages_of taken) (row_stages rows) e) ∙ yet-open), closed-each (number + 1) taken rows (tail-of t.stage row.lane.stage (stages_of taken) (row_stages rows) e) none.1)

some-failed : (taken : List TakenFeed) (rows : List Row) → stages_of taken ≡ row_stages rows → list_any (λ (lane : Lane). is_failed lane.stage) (lanes_of rows) ≡ true → SomeFailed taken
some-failed [] [] e any = false≢true any
some-failed [] (row ∷ rows) e any = cc
some-failed (t ∷ taken) [] e any = cc
some-failed (t ∷ taken) (row ∷ rows) e any = by_head (is_failed row.lane.stage) refl any (some-failed taken rows (tail-of t.stage row.lane.stage (stages_of taken) (row_stages rows) e))
  where
    by_head : (b : Bool) → is_failed row.lane.stage ≡ b → (b || list_any (λ (lane : Lane). is_failed lane.stage) (lanes_of rows)) ≡ true
        → (list_any (λ (lane : Lane). is_failed lane.stage) (lanes_of rows) ≡ true → SomeFailed taken) → SomeFailed (t ∷ taken)
    by_head true h any rest = inl (head-of t.stage row.lane.stage (stages_of taken) (row_stages rows) e ∙ failed-of row.lane.stage h)
    by_head false h any rest = inr (rest any)

-- All feeds have ended, and what was told is all their turns.
record AllOver (gates : List (Option Lock)) (s : State) (starts ends : List SourceState) (all : List Lane) (before below : SinkState) : Type 0 where
  pub f : FeedsTaken starts ends
  pub closed : OfEach (λ m t. t.stage ≡ stage.Open → ⊥) 1 f.taken
  pub well : list_any (λ (lane : Lane). is_failed lane.stage) all ≡ false → OfEach (λ m t. t.stage ≡ stage.Ended) 1 f.taken
  pub faulty : list_any (λ (lane : Lane). is_failed lane.stage) all ≡ true → SomeFailed f.taken
  pub wrote : WroteEvents gates s (turns (map feed_of f.taken)) before below
  pub room : HasRoom s (turns (map feed_of f.taken))

all-over : (gates : List (Option Lock)) (s : State) (starts ends : List SourceState) (all : List Lane) (before below below' : SinkState) (held : List ℕ) (lines round : ℕ) → (i : Course gates s starts ends all before below held lines round 0)
    → lines ≤ 2 ^ 64 - 2 → list_any (λ (lane : Lane). is_open lane.stage) all ≡ false → Wrote below below' held → AllOver gates s starts ends all before below'
all-over gates s starts ends all before below below' held lines round i few closed wrote =
    let A = events_of i.answered in
    let P = events_of i.pending in
    let z = i.standing in
    let none = none-open z.rows (ap (list_any (λ (lane : Lane). is_open lane.stage)) z.lanes ∙ closed) in
    let a = all-grown (NearEach A P) 1 round 0 z.rows (each-map (Stands A P) (Grown (NearEach A P)) 1 round 0 z.rows (grown A P) z.each) in
    let whole : events_of (i.answered ++ i.pending) ≡ turns (map feed_of a.taken) =
    events_of-append i.answered i.pending ∙ z.events ∙ told-all round (feeds_of z.rows) (all-past A P 1 round z.rows none z.each) ∙ ap turns (sym (a.same none)) in
    let size : s.lines + line_count (turns (map feed_of a.taken)) ≡ lines = ap (λ (es : List Event). s.lines + line_count es) (sym whole ∙ events_of-append i.answered i.pending) ∙ i.many in
    record {
      f = record { taken = a.taken; before = a.sources ∙ z.sources; after = a.nows ∙ z.nows; are = a.are };
      closed = closed-each 1 a.taken z.rows a.stages none;
      well = λ any. ended-each 1 a.taken z.rows a.stages none (ap (list_any (λ (lane : Lane). is_failed lane.stage)) z.lanes ∙ any);
      faulty = λ any. some-failed a.taken z.rows a.stages (ap (list_any (λ (lane : Lane). is_failed lane.stage)) z.lanes ∙ any);
      wrote = wrote-events gates s (i.answered ++ i.pending) (turns (map feed_of a.taken)) before below' whole i.has.are (held-all gates s i.answered i.pending before below below' held i.has wrote.bytes);
      room = omega (arith, size, few);
    }

-- all feeds have ended
pub ends-finished : (result : Status) (gates : List (Option Lock)) (s : State) (starts ends : List SourceState) (all : List Lane) (before below below' : SinkState) (held held' : List ℕ) (lines round : ℕ) → (i : Course gates s starts ends all before below held lines round 0)
    → lines ≤ 2 ^ 64 - 2 → list_any (λ (lane : Lane). is_open lane.stage) all ≡ false → Finished result all below below' held held' → RanLater result gates s starts ends before below'
ends-finished result gates s starts ends all before below below' held held' lines round i few closed (well e none wrote) =
    let o = all-over gates s starts ends all before below below' held lines round i few closed wrote in
    rw e (record { ends = (o.f, o.well none, o.wrote, o.room); later = omega (arith, i.has.later, wrote.later.faults) })
ends-finished result gates s starts ends all before below below' held held' lines round i few closed (faulty e some wrote) =
    let o = all-over gates s starts ends all before below below' held lines round i few closed wrote in
    rw e (record { ends = (o.f, o.closed, o.faulty some, o.wrote, o.room); later = omega (arith, i.has.later, wrote.later.faults) })
ends-finished result gates s starts ends all before below below' held held' lines round i few closed (unwritten e stays) =
    rw e (ends-blocked gates s starts ends all before below below' held held' lines round 0 i stays)
