-- What a visit to the feed of a place leads to.
use Rattle.std.proofs.Common.{◌≡◌, ℕ, suc, ◌+◌, ◌-◌, ◌^◌, ◌<◌, ◌≤◌, inl, inr, Bool, false, List, ◌++◌, length, sym, subst, arith, slice_set, nat_lt}
use Rattle.std.specs.declared.option.Option.{Option}
use Rattle.std.specs.declared.option.Option.TheVariants.{None, Some}
use Rattle.std.proofs.lemmas.Bool.Decides.{nat_tests}
use Rattle.io_streams.specs.Source.{SourceState}
use Rattle.io_streams.specs.Sink.{SinkState}
use Rattle.io_streams.specs.declared.status.Status.{Status}
use Rattle.io_streams.specs.declared.status.Status.TheVariants as status
use Rattle.cmd_session.specs.Lock.{Lock}
use Rattle.cmd_session.specs.State.{State}
use Rattle.cmd_session.specs.Session.{SessionValue}
use Rattle.cmd_session.specs.declared.one_turn.Turn.{Turn}
use Rattle.cmd_session.specs.declared.one_turn.Turn.TheVariants as turn
use Rattle.cmd_feeds.specs.declared.stage.Lane.{Lane}
use Rattle.cmd_feeds.specs.declared.stage.Stage.TheVariants as stage
use Rattle.cmd_feeds.specs.Gates.{under}
use Rattle.cmd_feeds.specs.Lanes.{LaneTurned, Filled}
use Rattle.cmd_feeds.specs.Lanes as filled
use Rattle.cmd_feeds.specs.FeedsEnd.{RanLater}
use Rattle.cmd_feeds.specs.Visited.{new_lane, no_source, slot, status_after, lines_after, FeedTurned, Visited, skipped, turned}
use Rattle.cmd_feeds.proofs.Around.{Course, Around, Inside, no_row}
use Rattle.cmd_feeds.proofs.Advance.{Here, around-here, around-skip, around-line, around-ended, around-fault}
use Rattle.cmd_feeds.proofs.Told.{at}
use Rattle.cmd_feeds.proofs.Stopping.{ends-full, ends-more, ends-stopped, ends-untold, ends-memory}

-- the turn of the feed, by what is known of it
turned-here : (how : Turn) (more : Bool) (gates : List (Option Lock)) (s : State) (starts ends ends' : List SourceState) (all all' : List Lane) (session session' : SessionValue) (before below below' : SinkState) (held held' : List ℕ) (lines round place : ℕ)
    → (i : Course gates s starts ends all before below held lines round place) → Here gates s starts ends all before below held lines round place i
    → (t : FeedTurned how more (under gates (1 + place) (at gates s (i.answered ++ i.pending))) place all all' ends ends' session session' below below' held held')
    → LaneTurned how more (under gates (1 + place) (at gates s (i.answered ++ i.pending))) (1 + place) (slot i.standing.rows place no_row).lane t.lane (slot i.standing.rows place no_row).now t.source session session' below below' held held'
turned-here how more gates s starts ends ends' all all' session session' before below below' held held' lines round place i h t =
    subst (λ (x : SourceState). LaneTurned how more (under gates (1 + place) (at gates s (i.answered ++ i.pending))) (1 + place) (slot i.standing.rows place no_row).lane t.lane x t.source session session' below below' held held') h.now
    (subst (λ (x : Lane). LaneTurned how more (under gates (1 + place) (at gates s (i.answered ++ i.pending))) (1 + place) x t.lane (slot ends place no_source) t.source session session' below below' held held') h.lane
    (subst (λ (n : ℕ). LaneTurned how more (under gates (1 + place) (at gates s (i.answered ++ i.pending))) n (slot all place new_lane) t.lane (slot ends place no_source) t.source session session' below below' held held') (let z : place + 1 ≡ 1 + place = omega arith in z) t.turned))

-- The session goes on with the next feed, or it ends with a status.
abbrev pub Leads : Option Status → List (Option Lock) → State → List SourceState → List SourceState → List Lane → SessionValue → SinkState → SinkState → List ℕ → ℕ → ℕ → ℕ → Type 0
Leads None gates s starts ends all session before below held lines round place = Around gates s starts ends all session before below held lines round place
Leads (Some how) gates s starts ends all session before below held lines round place = RanLater how gates s starts ends before below

-- a feed has more bytes than can be counted, or a line more than the session takes
by-filled : (more : Bool) (gates : List (Option Lock)) (s : State) (starts ends : List SourceState) (all : List Lane) (before below below' : SinkState) (held held' : List ℕ) (lines round place : ℕ) (lane : Lane) (source : SourceState)
    → (i : Course gates s starts ends all before below held lines round place) → place < length i.standing.rows → (h : Here gates s starts ends all before below held lines round place i) → (more ≡ false → lines ≡ 2 ^ 64 - 2) → lane.stage ≡ stage.Open
    → Filled more (slot i.standing.rows place no_row).lane.reader lane.reader (slot i.standing.rows place no_row).now source below below' held held'
    → RanLater status.ByteLimit gates s starts (slice_set ends place source) before below'
by-filled more gates s starts ends all before below below' held held' lines round place lane source i l h few yet-open (filled.bytes r) =
    ends-full gates s starts ends all before below below' held held' lines round place lane source i l h yet-open r
by-filled more gates s starts ends all before below below' held held' lines round place lane source i l h few yet-open (filled.lines none long r) =
    ends-more gates s starts ends all before below below' held held' lines round place lane source long i l h yet-open (few none) r

by-turn : (how : Turn) (more : Bool) (gates : List (Option Lock)) (s : State) (starts ends : List SourceState) (all : List Lane) (session session' : SessionValue) (before below below' : SinkState) (held held' : List ℕ) (lines round place : ℕ) (lane : Lane) (source : SourceState)
    → (i : Course gates s starts ends all before below held lines round place) → Inside gates s i.answered i.pending session lines place → place < length i.standing.rows → (h : Here gates s starts ends all before below held lines round place i) → (more ≡ false → lines ≡ 2 ^ 64 - 2)
    → LaneTurned how more (under gates (1 + place) (at gates s (i.answered ++ i.pending))) (1 + place) (slot i.standing.rows place no_row).lane lane (slot i.standing.rows place no_row).now source session session' below below' held held'
    → Leads (status_after how) gates s starts (slice_set ends place source) (slice_set all place lane) session' before below' held' (lines_after how lines) round (suc place)
by-turn turn.Answered more gates s starts ends all session session' before below below' held held' lines round place lane source i inside l h few t =
    around-line gates s starts ends all session session' before below below' held held' lines round place lane source i inside l h t.1 t.0
by-turn turn.Ended more gates s starts ends all session session' before below below' held held' lines round place lane source i inside l h few t =
    around-ended gates s starts ends all session session' before below below' held held' lines round place lane source i inside l h t.2 t.1 t.0
by-turn turn.Failed more gates s starts ends all session session' before below below' held held' lines round place lane source i inside l h few t =
    around-fault gates s starts ends all session session' before below below' held held' lines round place lane source i inside l h t.2 t.1 t.0
by-turn turn.Full more gates s starts ends all session session' before below below' held held' lines round place lane source i inside l h few t =
    by-filled more gates s starts ends all before below below' held held' lines round place lane source i l h few t.1 t.0
by-turn turn.Stopped more gates s starts ends all session session' before below below' held held' lines round place lane source i inside l h few (inl t) =
    ends-stopped gates s starts ends all session session' before below below' held held' lines round place lane source i l h t.1 t.0
by-turn turn.Stopped more gates s starts ends all session session' before below below' held held' lines round place lane source i inside l h few (inr t) =
    ends-untold gates s starts ends all before below below' held held' lines round place lane source i l h t.1 t.0
by-turn turn.Memory more gates s starts ends all session session' before below below' held held' lines round place lane source i inside l h few t =
    ends-memory gates s starts ends all session' before below below' held lines round place lane source i l h t.1 t.0

-- as many lines were given as a session over feeds takes, where it takes no more
none-more : (lines : ℕ) → lines ≤ 2 ^ 64 - 2 → nat_lt lines (2 ^ 64 - 2) ≡ false → lines ≡ 2 ^ 64 - 2
none-more lines room none = grind (arith, nat_tests, room, none)

pub leads : (result : Option Status) (gates : List (Option Lock)) (s : State) (starts ends ends' : List SourceState) (all all' : List Lane) (session session' : SessionValue) (before below below' : SinkState) (held held' : List ℕ) (lines lines' round place : ℕ)
    → (i : Course gates s starts ends all before below held lines round place) → Inside gates s i.answered i.pending session lines place → place < length i.standing.rows → lines ≤ 2 ^ 64 - 2
    → Visited result (under gates (1 + place) (at gates s (i.answered ++ i.pending))) place all all' ends ends' session session' below below' held held' lines lines'
    → Leads result gates s starts ends' all' session' before below' held' lines' round (suc place)
leads result gates s starts ends ends' all all' session session' before below below' held held' lines lines' round place i inside l room (skipped e closed a b c d f g) =
    rw (e, a, b, c, d, f, g) (around-skip gates s starts ends all session before below held lines round place i inside l closed)
leads result gates s starts ends ends' all all' session session' before below below' held held' lines lines' round place i inside l room (turned how e yet t f) =
    let h = around-here gates s starts ends all before below held lines round place i l yet in
    let more = nat_lt lines (2 ^ 64 - 2) in
    rw (e, t.lanes_set, t.sources_set, f)
    (by-turn how more gates s starts ends all session session' before below below' held held' lines round place t.lane t.source i inside l h (none-more lines room)
    (turned-here how more gates s starts ends ends' all all' session session' before below below' held held' lines round place i h t))

-- the feed of a place took its turn, by the elements at that place
pub feed-turned : (how : Turn) (more : Bool) (s : State) (place : ℕ) (lanes lanes' : List Lane) (nows nows' : List SourceState) (session session' : SessionValue) (below after : SinkState) (held kept : List ℕ) (old lane : Lane) (was source : SourceState)
    → slot lanes place new_lane ≡ old → slot nows place no_source ≡ was → lanes' ≡ slice_set lanes place lane → nows' ≡ slice_set nows place source
    → LaneTurned how more s (place + 1) old lane was source session session' below after held kept → FeedTurned how more s place lanes lanes' nows nows' session session' below after held kept
feed-turned how more s place lanes lanes' nows nows' session session' below after held kept old lane was source a b c d t = record {
  lane = lane;
  source = source;
  lanes_set = c;
  sources_set = d;
  turned = subst (λ (x : Lane). LaneTurned how more s (place + 1) x lane (slot nows place no_source) source session session' below after held kept) (sym a)
      (subst (λ (x : SourceState). LaneTurned how more s (place + 1) old lane x source session session' below after held kept) (sym b) t);
}

pub around-next : (gates : List (Option Lock)) (s : State) (starts ends : List SourceState) (all : List Lane) (session : SessionValue) (before below : SinkState) (held : List ℕ) (lines round place : ℕ)
    → Around gates s starts ends all session before below held lines round (suc place) → Around gates s starts ends all session before below held lines round (place + 1)
around-next gates s starts ends all session before below held lines round place i = subst (λ (k : ℕ). Around gates s starts ends all session before below held lines round k) (let z : suc place ≡ place + 1 = omega arith in z) i
