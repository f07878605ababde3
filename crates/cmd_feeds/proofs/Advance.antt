-- One turn after another.
use Rattle.std.proofs.Common.{◌≡◌, ℕ, suc, ◌+◌, ◌<◌, true, false, List, [], ◌∷◌, ◌++◌, length, refl, sym, ap, ◌∙◌, subst, append_assoc, append-nil, length-append, arith, slice_set}
use Rattle.std.proofs.lemmas.Bool.{false≢true}
use Rattle.io_streams.specs.Source.{SourceState}
use Rattle.io_streams.specs.Sink.{SinkState, Wrote}
use Rattle.io_line_reader.specs.declared.reader.LineAnswer.TheVariants as reads
use Rattle.io_line_reader.proofs.GivenEnds.{all-given, last-text, last-given, rose-given}
use Rattle.std.specs.declared.option.Option.{Option}
use Rattle.cmd_session.specs.Lock.{Lock}
use Rattle.cmd_session.specs.State.{State}
use Rattle.cmd_session.specs.declared.outcome.LineOutcome.TheVariants as outcome
use Rattle.io_line_reader.specs.GivenLines.{GivenLines}
use Rattle.io_line_reader.specs.Reading.{NextLine}
use Rattle.cmd_session.specs.Session.{SessionValue, StandsFor}
use Rattle.cmd_session.specs.Events.{Event, line, fault, lines_of}
use Rattle.cmd_session.specs.Fetched.{Read}
use Rattle.cmd_session.proofs.ToldEvents.{Told, events_of, events_of-append, lines_of-append, lines_of-here}
use Rattle.cmd_session.proofs.ToldEvents as told
use Rattle.cmd_session.proofs.Held.{Moves, sink, moves-all}
use Rattle.cmd_session.proofs.GivenAmong.{Given}
use Rattle.cmd_session.specs.Turned.{AnsweredLine}
use Rattle.cmd_feeds.specs.declared.stage.Lane.{Lane}
use Rattle.cmd_feeds.specs.declared.stage.Stage.TheVariants as stage
use Rattle.cmd_feeds.specs.Lanes.{is_open, FaultMet}
use Rattle.cmd_feeds.specs.Turns.{Feed}
use Rattle.cmd_feeds.specs.Turns as turns
use Rattle.cmd_feeds.specs.FeedsRead.{told_in, line_count}
use Rattle.cmd_feeds.specs.Gates.{under}
use Rattle.cmd_feeds.specs.Visited.{new_lane, no_source, slot}
use Rattle.cmd_feeds.proofs.Rounds.{event-past, event-ended, event-fault, event-grown, event-here, told-set, told-round}
use Rattle.cmd_feeds.proofs.Rows.{Row, each-at, each-set, each-round, feeds_of, map-set, map-at, map-kept, set-same}
use Rattle.cmd_feeds.proofs.Around.{Stands, gives, done, broken, other-line, stands-moved, stands-pushed, Standing, Course, Around, Inside, around-inside, no_row, line_count-append}
use Rattle.cmd_feeds.proofs.Held.{held-flushed, held-more}
use Rattle.cmd_feeds.proofs.Pushed.{pushed}
use Rattle.cmd_feeds.proofs.Told.{at, at-push}

length-map : (rs : List Row) → length (feeds_of rs) ≡ length rs
length-map [] = refl
length-map (r ∷ rs) = ap suc (length-map rs)

-- the feed of a place has its turn
standing-set : (starts ends : List SourceState) (all : List Lane) (answered pending answered' pending' : List Event) (round place : ℕ) → (z : Standing starts ends all answered pending round place) → (row : Row) → place < length z.rows
    → row.source ≡ (slot z.rows place no_row).source
    → ((m had : ℕ) (other : Row) → (m ≡ 1 + place → ⊥) → Stands answered pending m had other → Stands answered' pending' m had other)
    → Stands answered' pending' (1 + place) (round + 1) row
    → ((r : ℕ) → r < round → turns.event_of (1 + place) r (slot z.rows place no_row).feed ≡ turns.event_of (1 + place) r row.feed)
    → answered' ++ pending' ≡ (answered ++ pending) ++ turns.event_of (1 + place) round row.feed
    → Standing starts (slice_set ends place row.now) (slice_set all place row.lane) answered' pending' round (suc place)
standing-set starts ends all answered pending answered' pending' round place z row l same others here agrees events =
    let size : length z.rows ≡ length (feeds_of z.rows) = sym (length-map z.rows) in
    record {
      rows = slice_set z.rows place row;
      sources = map-kept (λ (r : Row). r.source) z.rows place row no_row l same ∙ z.sources;
      nows = map-set (λ (r : Row). r.now) z.rows place row ∙ ap (λ ns. slice_set ns place row.now) z.nows;
      lanes = map-set (λ (r : Row). r.lane) z.rows place row ∙ ap (λ ls. slice_set ls place row.lane) z.lanes;
      each = each-set (Stands answered pending) (Stands answered' pending') 1 round place z.rows row others l here z.each;
      events =
          events ∙ ap (λ es. es ++ turns.event_of (1 + place) round row.feed) z.events
          ∙ sym (told-set round place (feeds_of z.rows) row.feed no_row.feed (omega (arith, l, size))
          (λ r k. ap (λ (f : Feed). turns.event_of (1 + place) r f) (map-at (λ (x : Row). x.feed) z.rows place no_row) ∙ agrees r k))
          ∙ ap (told_in round (suc place)) (sym (map-set (λ (r : Row). r.feed) z.rows place row));
    }

-- the feed of a place: its lane and its source are those of its row
pub record At (starts ends : List SourceState) (all : List Lane) (answered pending : List Event) (round place : ℕ) (z : Standing starts ends all answered pending round place) : Type 0 where
  pub lane : slot all place new_lane ≡ (slot z.rows place no_row).lane
  pub now : slot ends place no_source ≡ (slot z.rows place no_row).now
  pub known : Stands answered pending (1 + place) round (slot z.rows place no_row)

pub standing-at : (starts ends : List SourceState) (all : List Lane) (answered pending : List Event) (round place : ℕ) → (z : Standing starts ends all answered pending round place) → place < length z.rows → At starts ends all answered pending round place z
standing-at starts ends all answered pending round place z l = record {
  lane = ap (λ (ls : List Lane). slot ls place new_lane) (sym z.lanes) ∙ map-at (λ (r : Row). r.lane) z.rows place no_row;
  now = ap (λ (ns : List SourceState). slot ns place no_source) (sym z.nows) ∙ map-at (λ (r : Row). r.now) z.rows place no_row;
  known = each-at (Stands answered pending) 1 round place z.rows no_row l z.each;
}

closed-past : (answered pending : List Event) (number round : ℕ) (row : Row) → Stands answered pending number round row → is_open row.lane.stage ≡ false → Stands answered pending number (round + 1) row × (length row.feed.lines < round)
closed-past answered pending number round row (gives yet-open g e f n) shut = absurd (false≢true (sym shut ∙ ap is_open yet-open))
closed-past answered pending number round row (done ended text a f n) shut = (done ended text a f (omega (arith, n)), n)
closed-past answered pending number round row (broken failed text a rose f n) shut = (broken failed text a rose f (omega (arith, n)), n)

-- a feed that has ended is passed over
standing-skip : (starts ends : List SourceState) (all : List Lane) (answered pending : List Event) (round place : ℕ) → (z : Standing starts ends all answered pending round place) → place < length z.rows → is_open (slot all place new_lane).stage ≡ false
    → Standing starts ends all answered pending round (suc place)
standing-skip starts ends all answered pending round place z l closed =
    let row = slot z.rows place no_row in
    let a = standing-at starts ends all answered pending round place z l in
    let past = closed-past answered pending (1 + place) round row a.known (ap (λ (x : Lane). is_open x.stage) (sym a.lane) ∙ closed) in
    let moved = standing-set starts ends all answered pending answered pending round place z row l refl (λ m had other ne x. x) past.0 (λ r k. refl)
    (sym (append-nil (answered ++ pending)) ∙ ap (λ es. (answered ++ pending) ++ es) (sym (event-past (1 + place) round row.feed past.1))) in
    subst (λ (ns : List SourceState). Standing starts ns all answered pending round (suc place)) (ap (slice_set ends place) (sym a.now) ∙ set-same ends place no_source)
    (subst (λ (ls : List Lane). Standing starts (slice_set ends place row.now) ls answered pending round (suc place)) (ap (slice_set all place) (sym a.lane) ∙ set-same all place new_lane) moved)

-- what is known of a feed that has not ended
pub record Opened (answered pending : List Event) (number turn : ℕ) (row : Row) : Type 0 where
  pub given : Given number row.source row.now row.lane.reader answered pending
  pub lines : row.feed.lines ≡ lines_of number (answered ++ pending)
  pub failed : row.feed.failed ≡ false
  pub size : length row.feed.lines ≡ turn

pub opened : (answered pending : List Event) (number turn : ℕ) (row : Row) → Stands answered pending number turn row → is_open row.lane.stage ≡ true → Opened answered pending number turn row
opened answered pending number turn row (gives yet-open g e f n) yet = record { given = g; lines = e; failed = f; size = n }
opened answered pending number turn row (done ended text a f n) yet = absurd (false≢true (sym (ap is_open ended) ∙ yet))
opened answered pending number turn row (broken failed text a rose f n) yet = absurd (false≢true (sym (ap is_open failed) ∙ yet))

-- a line of the feed of a place came
pub standing-line : (starts ends : List SourceState) (all : List Lane) (answered pending answered' pending' : List Told) (round place : ℕ) (lane : Lane) (source : SourceState) (text : List ℕ)
    → (z : Standing starts ends all (events_of answered) (events_of pending) round place) → place < length z.rows → Opened (events_of answered) (events_of pending) (1 + place) round (slot z.rows place no_row)
    → Moves answered pending answered' pending' → lane.stage ≡ stage.Open → Given (1 + place) (slot z.rows place no_row).source source lane.reader (events_of answered') (events_of pending' ++ line (1 + place) text ∷ [])
    → Standing starts (slice_set ends place source) (slice_set all place lane) (events_of answered') (events_of pending' ++ line (1 + place) text ∷ []) round (suc place)
standing-line starts ends all answered pending answered' pending' round place lane source text z l o m yet-open given =
    let row = slot z.rows place no_row in
    let n = 1 + place in
    let A = events_of answered in
    let P = events_of pending in
    let A' = events_of answered' in
    let P' = events_of pending' in
    let e = line n text in
    let later : Row = record { source = row.source; now = source; lane = lane; feed = record { lines = row.feed.lines ++ text ∷ []; failed = false } } in
    let here : turns.event_of n round later.feed ≡ e ∷ [] = subst (λ (k : ℕ). turns.event_of n k later.feed ≡ e ∷ []) o.size (event-here n row.feed later.feed text refl) in
    let kept : A' ++ P' ≡ A ++ P = sym (events_of-append answered' pending') ∙ ap events_of (moves-all answered pending answered' pending' m) ∙ events_of-append answered pending in
    let more : A' ++ (P' ++ e ∷ []) ≡ (A ++ P) ++ e ∷ [] = sym (append_assoc A' P' (e ∷ [])) ∙ ap (λ es. es ++ e ∷ []) kept in
    let lines-now : later.feed.lines ≡ lines_of n (A' ++ (P' ++ e ∷ [])) =
    ap (λ ls. ls ++ text ∷ []) o.lines ∙ ap (λ ls. lines_of n (A ++ P) ++ ls) (sym (lines_of-here n text [])) ∙ sym (lines_of-append n (A ++ P) (e ∷ [])) ∙ ap (lines_of n) (sym more) in
    standing-set starts ends all A P A' (P' ++ e ∷ []) round place z later l refl
    (λ k had other ne x. stands-pushed A' P' e k had other (other-line k n text ne) (stands-moved answered pending answered' pending' k had other m x))
    (gives yet-open given lines-now refl (length-append row.feed.lines (text ∷ []) ∙ ap (λ (k : ℕ). k + 1) o.size))
    (λ r k. event-grown n r row.feed later.feed (text ∷ []) refl (omega (arith, k, o.size)))
    (more ∙ ap (λ es. (A ++ P) ++ es) (sym here))

-- the feed of a place is at its end
standing-ended : (starts ends : List SourceState) (all : List Lane) (answered pending : List Told) (round place : ℕ) (lane : Lane) (source : SourceState)
    → (z : Standing starts ends all (events_of answered) (events_of pending) round place) → place < length z.rows → Opened (events_of answered) (events_of pending) (1 + place) round (slot z.rows place no_row)
    → lane.stage ≡ stage.Ended → NextLine reads.End (slot z.rows place no_row).lane.reader lane.reader (slot z.rows place no_row).now source
    → Standing starts (slice_set ends place source) (slice_set all place lane) (events_of (answered ++ pending)) [] round (suc place)
standing-ended starts ends all answered pending round place lane source z l o ended next =
    let row = slot z.rows place no_row in
    let n = 1 + place in
    let A = events_of answered in
    let P = events_of pending in
    let sunk = events_of (answered ++ pending) in
    let later : Row = record { source = row.source; now = source; lane = lane; feed = row.feed } in
    let given = subst (λ ls. GivenLines row.source row.now row.lane.reader o.given.front ls) (sym o.lines) o.given.given in
    let a = all-given row.source row.now source row.lane.reader lane.reader o.given.front row.feed.lines given next in
    standing-set starts ends all A P sunk [] round place z later l refl
    (λ m had other ne x. stands-moved answered pending (answered ++ pending) [] m had other (sink refl refl) x)
    (done ended o.given.front a o.failed (omega (arith, o.size)))
    (λ r k. refl)
    (append-nil sunk ∙ events_of-append answered pending ∙ sym (append-nil (A ++ P)) ∙ ap (λ es. (A ++ P) ++ es) (sym (event-ended n round row.feed o.size o.failed)))

-- the source of the feed of a place failed
pub standing-fault : (starts ends : List SourceState) (all : List Lane) (answered pending : List Told) (round place : ℕ) (lane : Lane) (source : SourceState)
    → (z : Standing starts ends all (events_of answered) (events_of pending) round place) → place < length z.rows → Opened (events_of answered) (events_of pending) (1 + place) round (slot z.rows place no_row)
    → lane.stage ≡ stage.Failed → NextLine reads.ReadFault (slot z.rows place no_row).lane.reader lane.reader (slot z.rows place no_row).now source
    → Standing starts (slice_set ends place source) (slice_set all place lane) (events_of (answered ++ pending)) (fault (1 + place) ∷ []) round (suc place)
standing-fault starts ends all answered pending round place lane source z l o failed next =
    let row = slot z.rows place no_row in
    let n = 1 + place in
    let A = events_of answered in
    let P = events_of pending in
    let sunk = events_of (answered ++ pending) in
    let later : Row = record { source = row.source; now = source; lane = lane; feed = record { lines = row.feed.lines; failed = true } } in
    let given = subst (λ ls. GivenLines row.source row.now row.lane.reader o.given.front ls) (sym o.lines) o.given.given in
    let tells = next.tells in
    let last = last-given reads.ReadFault row.source row.now source row.lane.reader lane.reader o.given.front row.feed.lines given next tells.0 tells.1 tells.2 in
    standing-set starts ends all A P sunk (fault n ∷ []) round place z later l refl
    (λ m had other ne x. stands-pushed sunk [] (fault n) m had other refl (stands-moved answered pending (answered ++ pending) [] m had other (sink refl refl) x))
    (broken failed (last-text reads.ReadFault row.lane.reader lane.reader row.now source o.given.front next) last (rose-given row.source row.now source row.lane.reader lane.reader o.given.front row.feed.lines given next) refl (omega (arith, o.size)))
    (λ k m. event-grown n k row.feed later.feed [] (sym (append-nil row.feed.lines)) (omega (arith, m, o.size)))
    (ap (λ es. es ++ fault n ∷ []) (events_of-append answered pending) ∙ ap (λ es. (A ++ P) ++ es) (sym (event-fault n round later.feed o.size refl)))

-- the feed of a place, which has not ended, in the session
pub record Here (gates : List (Option Lock)) (s : State) (starts ends : List SourceState) (all : List Lane) (before below : SinkState) (held : List ℕ) (lines round place : ℕ) (i : Course gates s starts ends all before below held lines round place) : Type 0 where
  pub lane : slot all place new_lane ≡ (slot i.standing.rows place no_row).lane
  pub now : slot ends place no_source ≡ (slot i.standing.rows place no_row).now
  pub yet-open : Opened (events_of i.answered) (events_of i.pending) (1 + place) round (slot i.standing.rows place no_row)

pub around-here : (gates : List (Option Lock)) (s : State) (starts ends : List SourceState) (all : List Lane) (before below : SinkState) (held : List ℕ) (lines round place : ℕ) → (i : Course gates s starts ends all before below held lines round place)
    → place < length i.standing.rows → is_open (slot all place new_lane).stage ≡ true → Here gates s starts ends all before below held lines round place i
around-here gates s starts ends all before below held lines round place i l yet =
    let a = standing-at starts ends all (events_of i.answered) (events_of i.pending) round place i.standing l in
    record {
      lane = a.lane;
      now = a.now;
      yet-open = opened (events_of i.answered) (events_of i.pending) (1 + place) round (slot i.standing.rows place no_row) a.known (sym (ap (λ (x : Lane). is_open x.stage) a.lane) ∙ yet);
    }

pub around-skip : (gates : List (Option Lock)) (s : State) (starts ends : List SourceState) (all : List Lane) (session : SessionValue) (before below : SinkState) (held : List ℕ) (lines round place : ℕ)
    → (i : Course gates s starts ends all before below held lines round place) → Inside gates s i.answered i.pending session lines place → place < length i.standing.rows → is_open (slot all place new_lane).stage ≡ false
    → Around gates s starts ends all session before below held lines round (suc place)
around-skip gates s starts ends all session before below held lines round place i inside l closed = around-inside gates s starts ends all session before below held lines round (suc place) place
    (record {
      answered = i.answered;
      pending = i.pending;
      has = i.has;
      standing = standing-skip starts ends all (events_of i.answered) (events_of i.pending) round place i.standing l closed;
      many = i.many;
    }) (at gates s (i.answered ++ i.pending)) refl inside.stands inside.counted

-- the feed of a place gave a line, which was answered
pub around-line : (gates : List (Option Lock)) (s : State) (starts ends : List SourceState) (all : List Lane) (session session' : SessionValue) (before below below' : SinkState) (held held' : List ℕ) (lines round place : ℕ) (lane : Lane) (source : SourceState)
    → (i : Course gates s starts ends all before below held lines round place) → Inside gates s i.answered i.pending session lines place → place < length i.standing.rows → (h : Here gates s starts ends all before below held lines round place i)
    → lane.stage ≡ stage.Open
    → AnsweredLine outcome.Done (under gates (1 + place) (at gates s (i.answered ++ i.pending))) (slot i.standing.rows place no_row).lane.reader lane.reader (slot i.standing.rows place no_row).now source session' below below' held held'
    → Around gates s starts (slice_set ends place source) (slice_set all place lane) session' before below' held' (lines + 1) round (suc place)
around-line gates s starts ends all session session' before below below' held held' lines round place lane source i inside l h yet-open answer =
    let row = slot i.standing.rows place no_row in
    let n = 1 + place in
    let q = pushed gates n s row.source row.now source row.lane.reader lane.reader session session' before below below' held held' i.answered i.pending i.has h.yet-open.given inside.stands answer in
    let t = told.line n q.text q.answer in
    let pushed-events : events_of (q.pending ++ t ∷ []) ≡ events_of q.pending ++ line n q.text ∷ [] = events_of-append q.pending (t ∷ []) in
    let z = standing-line starts ends all i.answered i.pending q.answered q.pending round place lane source q.text i.standing l h.yet-open q.moves yet-open
    (subst (λ es. Given n row.source source lane.reader (events_of q.answered) es) pushed-events q.given) in
    let all-told : events_of q.answered ++ events_of (q.pending ++ t ∷ []) ≡ (events_of i.answered ++ events_of i.pending) ++ line n q.text ∷ [] =
    sym (events_of-append q.answered (q.pending ++ t ∷ []))
    ∙ ap events_of (sym (append_assoc q.answered q.pending (t ∷ [])) ∙ ap (λ ts. ts ++ t ∷ []) (moves-all i.answered i.pending q.answered q.pending q.moves))
    ∙ events_of-append (i.answered ++ i.pending) (t ∷ []) ∙ ap (λ es. es ++ line n q.text ∷ []) (events_of-append i.answered i.pending) in
    let one-more : line_count (events_of q.answered ++ events_of (q.pending ++ t ∷ [])) ≡ line_count (events_of i.answered ++ events_of i.pending) + 1 =
    ap line_count all-told ∙ line_count-append (events_of i.answered ++ events_of i.pending) (line n q.text ∷ []) in
    record {
      course = record {
        answered = q.answered;
        pending = q.pending ++ t ∷ [];
        has = q.has;
        standing = subst (λ es. Standing starts (slice_set ends place source) (slice_set all place lane) (events_of q.answered) es round (suc place)) (sym pushed-events) z;
        many = omega (arith, one-more, i.many);
      };
      kept = at gates s (q.answered ++ (q.pending ++ t ∷ []));
      stands = q.stands;
      follows = λ m. refl;
      counted = q.counted ∙ ap (λ (k : ℕ). k + 1) inside.counted;
    }

-- the feed of a place is at its end
pub around-ended : (gates : List (Option Lock)) (s : State) (starts ends : List SourceState) (all : List Lane) (session session' : SessionValue) (before below below' : SinkState) (held held' : List ℕ) (lines round place : ℕ) (lane : Lane) (source : SourceState)
    → (i : Course gates s starts ends all before below held lines round place) → Inside gates s i.answered i.pending session lines place → place < length i.standing.rows → (h : Here gates s starts ends all before below held lines round place i)
    → lane.stage ≡ stage.Ended → session' ≡ session
    → Read reads.End (slot i.standing.rows place no_row).lane.reader lane.reader (slot i.standing.rows place no_row).now source below below' held held'
    → Around gates s starts (slice_set ends place source) (slice_set all place lane) session' before below' held' lines round (suc place)
around-ended gates s starts ends all session session' before below below' held held' lines round place lane source i inside l h ended kept r =
    let sunk = i.answered ++ i.pending in
    around-inside gates s starts (slice_set ends place source) (slice_set all place lane) session' before below' held' lines round (suc place) place
    (record {
      answered = sunk;
      pending = [];
      has = held-flushed gates s i.answered i.pending before below below' held held' i.has r.wrote r.none;
      standing = standing-ended starts ends all i.answered i.pending round place lane source i.standing l h.yet-open ended r.next;
      many = ap (λ (es : List Event). s.lines + line_count es) (append-nil (events_of sunk) ∙ events_of-append i.answered i.pending) ∙ i.many;
    }) (at gates s sunk) (ap (at gates s) (sym (append-nil sunk)))
    (subst (λ k. StandsFor k (under gates (1 + place) (at gates s sunk))) (sym kept) inside.stands) (ap (λ (k : SessionValue). k.lines) kept ∙ inside.counted)

-- the source of the feed of a place failed, and that was written
pub around-fault : (gates : List (Option Lock)) (s : State) (starts ends : List SourceState) (all : List Lane) (session session' : SessionValue) (before below below' : SinkState) (held held' : List ℕ) (lines round place : ℕ) (lane : Lane) (source : SourceState)
    → (i : Course gates s starts ends all before below held lines round place) → Inside gates s i.answered i.pending session lines place → place < length i.standing.rows → (h : Here gates s starts ends all before below held lines round place i)
    → lane.stage ≡ stage.Failed → session' ≡ session
    → FaultMet (1 + place) (slot i.standing.rows place no_row).lane.reader lane.reader (slot i.standing.rows place no_row).now source below below' held held' Wrote
    → Around gates s starts (slice_set ends place source) (slice_set all place lane) session' before below' held' lines round (suc place)
around-fault gates s starts ends all session session' before below below' held held' lines round place lane source i inside l h failed kept f =
    let n = 1 + place in
    let r = f.met in
    let sunk = i.answered ++ i.pending in
    let t = told.fault n in
    let flushed = held-flushed gates s i.answered i.pending before below f.between held f.left i.has r.wrote r.none in
    let none-more : line_count (events_of sunk ++ fault n ∷ []) ≡ line_count (events_of sunk) + 0 = line_count-append (events_of sunk) (fault n ∷ []) in
    let size : line_count (events_of sunk) ≡ line_count (events_of i.answered ++ events_of i.pending) = ap line_count (events_of-append i.answered i.pending) in
    around-inside gates s starts (slice_set ends place source) (slice_set all place lane) session' before below' held' lines round (suc place) place
    (record {
      answered = sunk;
      pending = t ∷ [];
      has = held-more gates s sunk [] before f.between below' f.left held' f.name f.name' t flushed tt f.told;
      standing = standing-fault starts ends all i.answered i.pending round place lane source i.standing l h.yet-open failed r.next;
      many = omega (arith, none-more, size, i.many);
    }) (at gates s sunk) (sym (at-push gates s sunk t))
    (subst (λ k. StandsFor k (under gates (1 + place) (at gates s sunk))) (sym kept) inside.stands) (ap (λ (k : SessionValue). k.lines) kept ∙ inside.counted)

-- a round is over
pub around-round : (gates : List (Option Lock)) (s : State) (starts ends : List SourceState) (all : List Lane) (session : SessionValue) (before below : SinkState) (held : List ℕ) (lines round place : ℕ)
    → (i : Around gates s starts ends all session before below held lines round place) → place ≡ length i.course.standing.rows → Around gates s starts ends all session before below held lines (round + 1) 0
around-round gates s starts ends all session before below held lines round place i over =
    let c = i.course in
    record {
      course = record {
        answered = c.answered;
        pending = c.pending;
        has = c.has;
        standing = record {
          rows = c.standing.rows;
          sources = c.standing.sources;
          nows = c.standing.nows;
          lanes = c.standing.lanes;
          each = each-round (Stands (events_of c.answered) (events_of c.pending)) 1 round place c.standing.rows over c.standing.each;
          events = c.standing.events ∙ ap (λ (k : ℕ). told_in round k (feeds_of c.standing.rows)) (over ∙ sym (length-map c.standing.rows)) ∙ told-round round (feeds_of c.standing.rows);
        };
        many = c.many;
      };
      kept = i.kept;
      stands = i.stands;
      follows = i.follows;
      counted = i.counted;
    }
