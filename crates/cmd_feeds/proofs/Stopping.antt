-- How a session over feeds ends in the turn of one of them.
use Rattle.std.proofs.Common.{◌≡◌, ℕ, zero, suc, ◌+◌, ◌-◌, ◌^◌, ◌<◌, inl, inr, Bool, List, [], ◌∷◌, ◌++◌, map, length, refl, sym, ap, ◌∙◌, subst, append_assoc, append-nil, arith, slice_set}
use Rattle.std.specs.Io.KnownBytes.{Appends}
use Rattle.io_streams.specs.Source.{SourceState}
use Rattle.io_streams.specs.Sink.{SinkState, Wrote, BrokeOff}
use Rattle.io_streams.specs.Gathered.{gathered_seen, StaysHeld}
use Rattle.io_streams.proofs.Writing.{Rose-earlier}
use Rattle.io_streams.specs.declared.status.Status.TheVariants as status
use Rattle.io_line_reader.specs.declared.reader.LineAnswer.TheVariants as reads
use Rattle.io_line_reader.specs.GivenLines.{GivenLines}
use Rattle.io_line_reader.specs.Reading.{answer_to}
use Rattle.io_line_reader.proofs.GivenEnds.{last-text, last-given}
use Rattle.io_line_reader.proofs.GivenLines.{step-read}
use Rattle.cmd_session.specs.declared.outcome.LineOutcome.{LineOutcome}
use Rattle.cmd_session.specs.declared.outcome.LineOutcome.TheVariants as outcome
use Rattle.cmd_session.specs.Requests.{IsRequest}
use Rattle.std.specs.declared.option.Option.{Option}
use Rattle.cmd_session.specs.Lock.{Lock}
use Rattle.cmd_session.specs.State.{State}
use Rattle.cmd_session.specs.Session.{SessionValue, Answered}
use Rattle.cmd_session.specs.Events.{Event, line, fault, lines_of, IsClose}
use Rattle.cmd_session.specs.Fetched.{Read}
use Rattle.cmd_session.specs.Turned.{AnsweredLine, LacksMemory, SinkFailed, ahead, reply, behind}
use Rattle.cmd_session.proofs.Passing.{IfSome-map}
use Rattle.cmd_session.proofs.ToldEvents.{Told, events_of, answers_of, events_of-append}
use Rattle.cmd_session.proofs.ToldEvents as told
use Rattle.cmd_session.proofs.GivenAmong.{Given, given-read}
use Rattle.cmd_session.proofs.Held.{sink, moves-all}
use Rattle.cmd_feeds.specs.declared.stage.Lane.{Lane}
use Rattle.cmd_feeds.specs.declared.stage.Stage.TheVariants as stage
use Rattle.cmd_feeds.specs.Lanes.{FaultMet}
use Rattle.cmd_feeds.specs.Turns.{Feed}
use Rattle.cmd_feeds.specs.Turns as turns
use Rattle.cmd_feeds.specs.FeedsRead.{TakenFeed, feed_of, OfEach, StopsAtEvent, told_in, line_count}
use Rattle.cmd_feeds.specs.FeedsEnd.{IsFullAt, RanLater}
use Rattle.cmd_feeds.specs.Gates.{under}
use Rattle.cmd_feeds.specs.Visited.{no_source, slot}
use Rattle.cmd_feeds.proofs.Rounds.{told-put}
use Rattle.cmd_feeds.proofs.Rows.{Row, each-put, feeds_of, map-set, map-at, map-kept, set-same}
use Rattle.cmd_feeds.proofs.Around.{Stands, Standing, Course, no_row}
use Rattle.cmd_feeds.proofs.Advance.{Here, standing-line, standing-fault}
use Rattle.cmd_feeds.proofs.Grown.{NearEach, Grown, grown, all-grown, of-each-map}
use Rattle.cmd_feeds.proofs.Ends.{Cut, cut, cut-standing, stops-cut, wrote-events, ends-blocked}
use Rattle.cmd_feeds.proofs.Held.{Held, held-all, held-still, held-flushed, held-stopped, held-broke}
use Rattle.cmd_feeds.proofs.Pushed.{waits}
use Rattle.cmd_feeds.proofs.Stops.{Stopped}
use Rattle.cmd_feeds.proofs.Told.{at, at-behind, AreTold, AreTold-push, IsTold, are-events, replied-events}

-- as many bytes were taken of the feed of this number as can be counted, and its lines were given in the rounds before
abbrev FullAt : ℕ → ℕ → ℕ → TakenFeed → Type 0
FullAt n round m t = m ≡ n → (length t.text ≡ 2 ^ 64 - 1) × (length t.lines ≡ round)

full-at : (n round number place : ℕ) (taken : List TakenFeed) → number + place ≡ n → place < length taken → OfEach (FullAt n round) number taken → IsFullAt round place taken
full-at n round number place [] e l p = absurd (omega (arith, l))
full-at n round number zero (t ∷ taken) e l p = p.0 (omega (arith, e))
full-at n round number (suc place) (t ∷ taken) e l p = full-at n round (number + 1) place taken (omega (arith, e)) (omega (arith, l)) p.1

weaken : (answered pending : List Event) (n round m had : ℕ) (row : Row) → (m ≡ n → ⊥) → Stands answered pending m had row → Grown (FullAt n round) m had row
weaken answered pending n round m had row ne h =
    let g = grown answered pending m had row h in
    record { t = g.t; source = g.source; now = g.now; how = g.how; is = g.is; agrees = g.agrees; same = g.same; holds = λ e. absurd (ne e) }

length-map : {X Y : Type 0} (f : X → Y) (xs : List X) → length (map f xs) ≡ length xs
length-map f [] = refl
length-map f (x ∷ xs) = ap suc (length-map f xs)

length-set : (rows : List Row) (place : ℕ) (row : Row) → length (slice_set rows place row) ≡ length rows
length-set [] place row = refl
length-set (r ∷ rows) zero row = refl
length-set (r ∷ rows) (suc place) row = ap suc (length-set rows place row)

-- the feed of a place has more bytes than can be counted
pub ends-full : (gates : List (Option Lock)) (s : State) (starts ends : List SourceState) (all : List Lane) (before below below' : SinkState) (held held' : List ℕ) (lines round place : ℕ) (lane : Lane) (source : SourceState)
    → (i : Course gates s starts ends all before below held lines round place) → place < length i.standing.rows → (h : Here gates s starts ends all before below held lines round place i) → lane.stage ≡ stage.Open
    → Read reads.ByteLimit (slot i.standing.rows place no_row).lane.reader lane.reader (slot i.standing.rows place no_row).now source below below' held held'
    → RanLater status.ByteLimit gates s starts (slice_set ends place source) before below'
ends-full gates s starts ends all before below below' held held' lines round place lane source i l h yet-open r =
    let z = i.standing in
    let row = slot z.rows place no_row in
    let n = 1 + place in
    let A = events_of i.answered in
    let P = events_of i.pending in
    let o = h.yet-open in
    let given = subst (λ ls. GivenLines row.source row.now row.lane.reader o.given.front ls) (sym o.lines) o.given.given in
    let tells = r.next.tells in
    let text = last-text reads.ByteLimit row.lane.reader lane.reader row.now source o.given.front r.next in
    let last = last-given reads.ByteLimit row.source row.now source row.lane.reader lane.reader o.given.front row.feed.lines given r.next tells.0 tells.1 tells.2 in
    let t : TakenFeed = record { source = row.source; now = source; stage = stage.Open; text = text; lines = row.feed.lines } in
    let later : Row = record { source = row.source; now = source; lane = lane; feed = feed_of t } in
    let here : Grown (FullAt n round) n round later = record {
      t = t;
      source = refl;
      now = refl;
      how = sym yet-open;
      is = record { taken = last.taken; are = inl (sym last.are); later = last.later };
      agrees = λ k m. refl;
      same = λ ne. refl;
      holds = λ e. (sym last.count ∙ tells.3, o.size);
    } in
    let rows = slice_set z.rows place later in
    let a = all-grown (FullAt n round) 1 round place rows (each-put (Stands A P) (Grown (FullAt n round)) 1 round place z.rows later (λ m had other ne x. weaken A P n round m had other ne x) l here z.each) in
    let events : A ++ P ≡ told_in round place (feeds_of rows) =
    z.events ∙ told-put round place (feeds_of z.rows) (feed_of t) no_row.feed (λ k m. ap (λ (f : Feed). turns.event_of n k f) (map-at (λ (x : Row). x.feed) z.rows place no_row ∙ ap (λ b. record { lines = row.feed.lines; failed = b }) o.failed))
    ∙ ap (told_in round place) (sym (map-set (λ (x : Row). x.feed) z.rows place later)) in
    let c = cut (FullAt n round) starts (slice_set ends place source) (A ++ P) round place rows
    (map-kept (λ (x : Row). x.source) z.rows place later no_row l refl ∙ z.sources)
    (map-set (λ (x : Row). x.now) z.rows place later ∙ ap (λ ns. slice_set ns place source) z.nows) events a in
    let size : place < length a.taken = (let x = length-map (λ (t : TakenFeed). t.source) a.taken in let y = length-map (λ (r : Row). r.source) rows in let w = length-set z.rows place later in let v = ap (length {A = SourceState}) a.sources in omega (arith, l, x, y, w, v)) in
    record {
      ends = (
        c.f,
        inl (record {
          round = round;
          place = place;
          full = full-at n round 1 place c.f.taken refl size c.hold;
          wrote = wrote-events gates s (i.answered ++ i.pending) (told_in round place (map feed_of c.f.taken)) before below' (events_of-append i.answered i.pending ∙ c.told) i.has.are (held-all gates s i.answered i.pending before below below' held i.has r.wrote.bytes);
        }),
      );
      later = omega (arith, i.has.later, r.wrote.later.faults);
    }

-- the feed of a place has another line, and the session takes no more
pub ends-more : (gates : List (Option Lock)) (s : State) (starts ends : List SourceState) (all : List Lane) (before below below' : SinkState) (held held' : List ℕ) (lines round place : ℕ) (lane : Lane) (source : SourceState) (long : Bool)
    → (i : Course gates s starts ends all before below held lines round place) → place < length i.standing.rows → (h : Here gates s starts ends all before below held lines round place i) → lane.stage ≡ stage.Open
    → lines ≡ 2 ^ 64 - 2 → Read (answer_to long) (slot i.standing.rows place no_row).lane.reader lane.reader (slot i.standing.rows place no_row).now source below below' held held'
    → RanLater status.ByteLimit gates s starts (slice_set ends place source) before below'
ends-more gates s starts ends all before below below' held held' lines round place lane source long i l h yet-open many r =
    let row = slot i.standing.rows place no_row in
    let n = 1 + place in
    let ts = i.answered ++ i.pending in
    let step = step-read long row.lane.reader lane.reader row.now source r.next in
    let e = line n step.line in
    let ends' = slice_set ends place source in
    let given = subst (λ es. Given n row.source source lane.reader es (e ∷ [])) (sym (events_of-append i.answered i.pending))
    (given-read long n row.source row.now source row.lane.reader lane.reader (events_of i.answered) (events_of i.pending) h.yet-open.given step) in
    let z = standing-line starts ends all i.answered i.pending ts [] round place lane source step.line i.standing l h.yet-open (sink refl refl) yet-open given in
    let c = cut-standing starts ends' (slice_set all place lane) (events_of ts) (e ∷ []) round (suc place) z in
    record {
      ends = (
        c.f,
        inr (record {
          at_event = record {
            told = events_of ts;
            event = e;
            others = c.more;
            whole = c.whole ∙ append_assoc (events_of ts) (e ∷ []) c.more;
            near = of-each-map (NearEach (events_of ts) (e ∷ [])) (λ number t. t.stage ≡ stage.Open → IsClose t.text (lines_of number (events_of ts ++ e ∷ [])) t.now.last) 1 c.f.taken
                (λ number t near yet. near yet [] e [] refl) c.hold;
            answers = answers_of ts;
            are = are-events gates s ts i.has.are;
          };
          number = n;
          text = step.line;
          is_line = refl;
          many = ap (λ (es : List Event). s.lines + line_count es) (events_of-append i.answered i.pending) ∙ i.many ∙ many;
          written = subst (λ t. Appends before.written below'.written t) (replied-events gates s ts) (held-all gates s i.answered i.pending before below below' held i.has r.wrote.bytes);
        }),
      );
      later = omega (arith, i.has.later, r.wrote.later.faults);
    }

-- A line of the feed of a place came, which was answered so: where it waits, and what is known of the feeds then.
record Asked (how : LineOutcome) (gates : List (Option Lock)) (s : State) (starts ends : List SourceState) (all : List Lane) (session : SessionValue) (before between below : SinkState) (left held : List ℕ) (name name' round place : ℕ) : Type 0 where
  pub answered : List Told
  pub pending : List Told
  pub has : Held gates s answered pending before between left
  pub text : List ℕ
  pub does : Answered how (under gates (1 + place) (at gates s (answered ++ pending))) text session (gathered_seen between name left) (gathered_seen below name' held)
  pub standing : Standing starts ends all (events_of answered) (events_of pending ++ line (1 + place) text ∷ []) round (suc place)

asked : (how : LineOutcome) (gates : List (Option Lock)) (s : State) (starts ends : List SourceState) (all : List Lane) (session' : SessionValue) (before below below' : SinkState) (held held' : List ℕ) (lines round place : ℕ) (lane : Lane) (source : SourceState)
    → (i : Course gates s starts ends all before below held lines round place) → place < length i.standing.rows → (h : Here gates s starts ends all before below held lines round place i) → lane.stage ≡ stage.Open
    → (answer : AnsweredLine how (under gates (1 + place) (at gates s (i.answered ++ i.pending))) (slot i.standing.rows place no_row).lane.reader lane.reader (slot i.standing.rows place no_row).now source session' below below' held held')
    → Asked how gates s starts (slice_set ends place source) (slice_set all place lane) session' before answer.between below' answer.left held' answer.name answer.name' round place
asked how gates s starts ends all session' before below below' held held' lines round place lane source i l h yet-open answer =
    let row = slot i.standing.rows place no_row in
    let n = 1 + place in
    let w = waits gates n answer.long s row.source row.now source row.lane.reader lane.reader before below answer.between held answer.left i.answered i.pending i.has h.yet-open.given answer.came in
    record {
      answered = w.answered;
      pending = w.pending;
      has = w.has;
      text = w.text;
      does = subst (λ u. Answered how u w.text session' (gathered_seen answer.between answer.name answer.left) (gathered_seen below' answer.name' held'))
          (ap (λ ts. under gates n (at gates s ts)) (sym (moves-all i.answered i.pending w.answered w.pending w.moves))) (answer.answers w.text w.begun);
      standing = standing-line starts ends all i.answered i.pending w.answered w.pending round place lane source w.text i.standing l h.yet-open w.moves yet-open w.given;
    }

-- the sink failed in the reply to a line, or in an earlier text that was held
ends-reply : (gates : List (Option Lock)) (s : State) (starts ends : List SourceState) (all : List Lane) (session' : SessionValue) (before below below' : SinkState) (held held' : List ℕ) (lines round place : ℕ) (lane : Lane) (source : SourceState)
    → (i : Course gates s starts ends all before below held lines round place) → place < length i.standing.rows → (h : Here gates s starts ends all before below held lines round place i) → lane.stage ≡ stage.Open
    → AnsweredLine outcome.WriteFault (under gates (1 + place) (at gates s (i.answered ++ i.pending))) (slot i.standing.rows place no_row).lane.reader lane.reader (slot i.standing.rows place no_row).now source session' below below' held held'
    → RanLater status.WriteFault gates s starts (slice_set ends place source) before below'
ends-reply gates s starts ends all session' before below below' held held' lines round place lane source i l h yet-open answer =
    let a = asked outcome.WriteFault gates s starts ends all session' before below below' held held' lines round place lane source i l h yet-open answer in
    let n = 1 + place in
    let broke = a.does.does.reply in
    let t = told.line n a.text a.does.does.answer in
    let is-told : IsTold gates (at gates s (a.answered ++ a.pending)) t = record { request = a.does.request; asks = a.does.asks; settles = a.does.does.settles } in
    let pushed = a.pending ++ t ∷ [] in
    let A = events_of a.answered in
    let c = subst (λ es. Cut (NearEach A es) starts (slice_set ends place source) (A ++ es) round (suc place)) (sym (events_of-append a.pending (t ∷ [])) ∙ sym (append-nil (events_of pushed)))
    (cut-standing starts (slice_set ends place source) (slice_set all place lane) A (events_of a.pending ++ line n a.text ∷ []) round (suc place) a.standing) in
    record {
      ends = (
        Rose-earlier _ _ _ a.has.later broke.rose,
        c.f,
        IfSome-map before.written (λ _. Stopped gates s a.answered pushed before below') (λ _. StopsAtEvent gates s c.f before below')
            (λ _ q. stops-cut gates s starts (slice_set ends place source) before below' round (suc place) a.answered pushed [] c
            (subst (AreTold gates s) (append_assoc a.answered a.pending (t ∷ [])) (AreTold-push gates s (a.answered ++ a.pending) t a.has.are is-told)) q)
            (held-broke gates s a.answered a.pending before answer.between below' answer.left held' answer.name answer.name' t a.has broke),
      );
      later = omega (arith, a.has.later, broke.wrote.later.faults);
    }

-- no memory was found for a line, and the sink failed in an earlier text that was held
ends-behind : (gates : List (Option Lock)) (s : State) (starts ends : List SourceState) (all : List Lane) (session' : SessionValue) (before below below' below'' : SinkState) (held held' kept : List ℕ) (lines round place : ℕ) (lane : Lane) (source : SourceState)
    → (i : Course gates s starts ends all before below held lines round place) → place < length i.standing.rows → (h : Here gates s starts ends all before below held lines round place i) → lane.stage ≡ stage.Open
    → AnsweredLine outcome.Memory (under gates (1 + place) (at gates s (i.answered ++ i.pending))) (slot i.standing.rows place no_row).lane.reader lane.reader (slot i.standing.rows place no_row).now source session' below below' held held'
    → StaysHeld below' below'' held' kept → RanLater status.WriteFault gates s starts (slice_set ends place source) before below''
ends-behind gates s starts ends all session' before below below' below'' held held' kept lines round place lane source i l h yet-open answer stays =
    let a = asked outcome.Memory gates s starts ends all session' before below below' held held' lines round place lane source i l h yet-open answer in
    let n = 1 + place in
    let still = held-still gates s a.answered a.pending before answer.between below' answer.left held' answer.name answer.name' a.has a.does.does.2 in
    let c = cut-standing starts (slice_set ends place source) (slice_set all place lane) (events_of a.answered) (events_of a.pending ++ line n a.text ∷ []) round (suc place) a.standing in
    record {
      ends = (
        Rose-earlier _ _ _ still.later stays.rose,
        c.f,
        IfSome-map before.written (λ _. Stopped gates s a.answered a.pending before below'') (λ _. StopsAtEvent gates s c.f before below'')
            (λ _ q. stops-cut gates s starts (slice_set ends place source) before below'' round (suc place) a.answered a.pending (line n a.text ∷ []) c a.has.are q)
            (held-stopped gates s a.answered a.pending before below' below'' held' kept still stays),
      );
      later = omega (arith, still.later, stays.wrote.later.faults);
    }

-- the sink failed in the turn of a feed
pub ends-stopped : (gates : List (Option Lock)) (s : State) (starts ends : List SourceState) (all : List Lane) (session session' : SessionValue) (before below below' : SinkState) (held held' : List ℕ) (lines round place : ℕ) (lane : Lane) (source : SourceState)
    → (i : Course gates s starts ends all before below held lines round place) → place < length i.standing.rows → (h : Here gates s starts ends all before below held lines round place i) → lane.stage ≡ stage.Open
    → SinkFailed (under gates (1 + place) (at gates s (i.answered ++ i.pending))) (slot i.standing.rows place no_row).lane.reader lane.reader (slot i.standing.rows place no_row).now source session session' below below' held held'
    → RanLater status.WriteFault gates s starts (slice_set ends place source) before below'
ends-stopped gates s starts ends all session session' before below below' held held' lines round place lane source i l h yet-open (ahead r same) =
    subst (λ (ns : List SourceState). RanLater status.WriteFault gates s starts ns before below') (sym (ap (slice_set ends place) (r.left ∙ sym h.now) ∙ set-same ends place no_source))
    (ends-blocked gates s starts ends all before below below' held held' lines round place i r.stays)
ends-stopped gates s starts ends all session session' before below below' held held' lines round place lane source i l h yet-open (reply answer) =
    ends-reply gates s starts ends all session' before below below' held held' lines round place lane source i l h yet-open answer
ends-stopped gates s starts ends all session session' before below below' held held' lines round place lane source i l h yet-open (behind m) =
    ends-behind gates s starts ends all session' before below m.sink below' held m.full held' lines round place lane source i l h yet-open m.lacks m.flushes

-- the sink failed in the line of a fault, or in an earlier text that was held
pub ends-untold : (gates : List (Option Lock)) (s : State) (starts ends : List SourceState) (all : List Lane) (before below below' : SinkState) (held held' : List ℕ) (lines round place : ℕ) (lane : Lane) (source : SourceState)
    → (i : Course gates s starts ends all before below held lines round place) → place < length i.standing.rows → (h : Here gates s starts ends all before below held lines round place i) → lane.stage ≡ stage.Failed
    → FaultMet (1 + place) (slot i.standing.rows place no_row).lane.reader lane.reader (slot i.standing.rows place no_row).now source below below' held held' BrokeOff
    → RanLater status.WriteFault gates s starts (slice_set ends place source) before below'
ends-untold gates s starts ends all before below below' held held' lines round place lane source i l h failed f =
    let n = 1 + place in
    let r = f.met in
    let sunk = i.answered ++ i.pending in
    let t = told.fault n in
    let flushed = held-flushed gates s i.answered i.pending before below f.between held f.left i.has r.wrote r.none in
    let z = standing-fault starts ends all i.answered i.pending round place lane source i.standing l h.yet-open failed r.next in
    let c = cut-standing starts (slice_set ends place source) (slice_set all place lane) (events_of sunk) (fault n ∷ []) round (suc place) z in
    let are : AreTold gates s (sunk ++ t ∷ []) = AreTold-push gates s sunk t i.has.are tt in
    record {
      ends = (
        Rose-earlier _ _ _ flushed.later f.told.rose,
        c.f,
        IfSome-map before.written (λ _. Stopped gates s sunk (t ∷ []) before below') (λ _. StopsAtEvent gates s c.f before below')
            (λ _ q. stops-cut gates s starts (slice_set ends place source) before below' round (suc place) sunk (t ∷ []) [] c are q)
            (held-broke gates s sunk [] before f.between below' f.left held' f.name f.name' t flushed f.told),
      );
      later = omega (arith, flushed.later, f.told.wrote.later.faults);
    }

-- no memory was found for a line, and all that was held was written
pub ends-memory : (gates : List (Option Lock)) (s : State) (starts ends : List SourceState) (all : List Lane) (session' : SessionValue) (before below below'' : SinkState) (held : List ℕ) (lines round place : ℕ) (lane : Lane) (source : SourceState)
    → (i : Course gates s starts ends all before below held lines round place) → place < length i.standing.rows → (h : Here gates s starts ends all before below held lines round place i) → lane.stage ≡ stage.Open
    → LacksMemory (under gates (1 + place) (at gates s (i.answered ++ i.pending))) (slot i.standing.rows place no_row).lane.reader lane.reader (slot i.standing.rows place no_row).now source session' below held (λ lower full. Wrote lower below'' full)
    → RanLater status.Memory gates s starts (slice_set ends place source) before below''
ends-memory gates s starts ends all session' before below below'' held lines round place lane source i l h yet-open m =
    let answer = m.lacks in
    let a = asked outcome.Memory gates s starts ends all session' before below m.sink held m.full lines round place lane source i l h yet-open answer in
    let n = 1 + place in
    let ends' = slice_set ends place source in
    let still = held-still gates s a.answered a.pending before answer.between m.sink answer.left m.full answer.name answer.name' a.has a.does.does.2 in
    let ts = a.answered ++ a.pending in
    let e = line n a.text in
    let A = events_of a.answered in
    let P = events_of a.pending in
    let c = cut-standing starts ends' (slice_set all place lane) A (P ++ e ∷ []) round (suc place) a.standing in
    let joined : A ++ (P ++ e ∷ []) ≡ events_of ts ++ e ∷ [] = sym (append_assoc A P (e ∷ [])) ∙ ap (λ es. es ++ e ∷ []) (sym (events_of-append a.answered a.pending)) in
    record {
      ends = (
        c.f,
        record {
          at_event = record {
            told = events_of ts;
            event = e;
            others = c.more;
            whole = c.whole ∙ ap (λ es. es ++ c.more) joined ∙ append_assoc (events_of ts) (e ∷ []) c.more;
            near = of-each-map (NearEach A (P ++ e ∷ [])) (λ number t. t.stage ≡ stage.Open → IsClose t.text (lines_of number (events_of ts ++ e ∷ [])) t.now.last) 1 c.f.taken
                (λ number t near yet. subst (λ es. IsClose t.text (lines_of number es) t.now.last) joined (near yet P e [] refl)) c.hold;
            answers = answers_of ts;
            are = are-events gates s ts a.has.are;
          };
          number = n;
          text = a.text;
          is_line = refl;
          request = a.does.request;
          asks = subst (λ u. IsRequest (under gates n u) a.text a.does.request) (at-behind gates s ts) a.does.asks;
          creates = a.does.does.0;
          written = subst (λ r. Appends before.written below''.written r) (replied-events gates s ts) (held-all gates s a.answered a.pending before m.sink below'' m.full still m.flushes.bytes);
        },
      );
      later = omega (arith, still.later, m.flushes.later.faults);
    }
