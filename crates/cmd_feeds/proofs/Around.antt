-- How far a session over feeds is: which events there were, what of their texts was passed on, and what is known of each feed.
use Rattle.std.proofs.Common.{◌≡◌, ℕ, ◌+◌, ◌<◌, true, false, List, [], ◌∷◌, ◌++◌, length, refl, sym, ap, ◌∙◌, subst, append_assoc, append-nil, arith}
use Rattle.std.proofs.lemmas.Bool.{ne_eqb}
use Rattle.io_streams.specs.Counts.{Rose}
use Rattle.io_streams.specs.Source.{SourceState}
use Rattle.io_streams.specs.Sink.{SinkState}
use Rattle.io_line_reader.specs.GivenLines.{AllGiven, LastGiven}
use Rattle.std.specs.declared.option.Option.{Option}
use Rattle.cmd_session.specs.Lock.{Lock}
use Rattle.cmd_session.specs.State.{State}
use Rattle.cmd_session.specs.Session.{SessionValue, StandsFor}
use Rattle.cmd_session.specs.Events.{Event, line, fault, lines_of}
use Rattle.cmd_session.proofs.ToldEvents.{Told, events_of, events_of-append, lines_of-append}
use Rattle.cmd_session.proofs.Held.{Moves, stay, sink}
use Rattle.cmd_session.proofs.GivenAmong.{Given, given-sunk, given-other}
use Rattle.cmd_feeds.specs.declared.stage.Lane.{Lane}
use Rattle.cmd_feeds.specs.declared.stage.Stage.TheVariants as stage
use Rattle.cmd_feeds.specs.FeedsRead.{told_in, line_count}
use Rattle.cmd_feeds.specs.Gates.{under}
use Rattle.cmd_feeds.specs.Visited.{new_lane, no_source}
use Rattle.cmd_feeds.proofs.Held.{Held}
use Rattle.cmd_feeds.proofs.Rows.{Row, Each, feeds_of, lanes_of, nows_of, sources_of}
use Rattle.cmd_feeds.proofs.Told.{at, under-over, under-lines}

-- What is known of a feed, by how far it is, in the turn that it takes next: it has given a line in each turn before, or ended in one of them.
pub data Stands (answered pending : List Event) (number turn : ℕ) (row : Row) : Type 0 where
  gives : row.lane.stage ≡ stage.Open → Given number row.source row.now row.lane.reader answered pending → row.feed.lines ≡ lines_of number (answered ++ pending) → row.feed.failed ≡ false → length row.feed.lines ≡ turn
      → Stands answered pending number turn row
  done : row.lane.stage ≡ stage.Ended → (text : List ℕ) → AllGiven row.source row.now row.lane.reader text row.feed.lines → row.feed.failed ≡ false → length row.feed.lines < turn → Stands answered pending number turn row
  broken : row.lane.stage ≡ stage.Failed → (text : List ℕ) → LastGiven row.source row.now row.lane.reader text row.feed.lines → Rose row.source.faults row.now.faults → row.feed.failed ≡ true → length row.feed.lines < turn
      → Stands answered pending number turn row

-- an event of another feed is no line of this one
pub other-line : (number other : ℕ) (text : List ℕ) → (number ≡ other → ⊥) → lines_of number (line other text ∷ []) ≡ []
other-line number other text ne = rw (ne_eqb other number (λ e. ne (sym e))) refl

-- the events came to stand below, or stayed
pub stands-moved : (answered pending answered' pending' : List Told) (number turn : ℕ) (row : Row) → Moves answered pending answered' pending' → Stands (events_of answered) (events_of pending) number turn row → Stands (events_of answered') (events_of pending') number turn row
stands-moved answered pending answered' pending' number turn row (stay a p) h = rw (a, p) h
stands-moved answered pending answered' pending' number turn row (sink a p) (gives yet-open g e f l) =
    rw (a, p) (gives yet-open
    (subst (λ es. Given number row.source row.now row.lane.reader es []) (sym (events_of-append answered pending)) (given-sunk number row.source row.now row.lane.reader (events_of answered) (events_of pending) g))
    (e ∙ ap (lines_of number) (sym (events_of-append answered pending) ∙ sym (append-nil (events_of (answered ++ pending))))) f l)
stands-moved answered pending answered' pending' number turn row (sink a p) (done ended text all f l) = done ended text all f l
stands-moved answered pending answered' pending' number turn row (sink a p) (broken failed text last rose f l) = broken failed text last rose f l

-- the lines of a feed among the events and one more
lines-pushed : (number : ℕ) (answered pending : List Event) (e : Event) → lines_of number (answered ++ (pending ++ e ∷ [])) ≡ lines_of number (answered ++ pending) ++ lines_of number (e ∷ [])
lines-pushed number answered pending e = ap (lines_of number) (sym (append_assoc answered pending (e ∷ []))) ∙ lines_of-append number (answered ++ pending) (e ∷ [])

-- an event of another feed is pending
pub stands-pushed : (answered pending : List Event) (e : Event) (number turn : ℕ) (row : Row) → lines_of number (e ∷ []) ≡ [] → Stands answered pending number turn row → Stands answered (pending ++ e ∷ []) number turn row
stands-pushed answered pending e number turn row none (gives yet-open g same f l) =
    gives yet-open (given-other number row.source row.now row.lane.reader answered pending e none g)
    (same ∙ sym (lines-pushed number answered pending e ∙ ap (λ ls. lines_of number (answered ++ pending) ++ ls) none ∙ append-nil (lines_of number (answered ++ pending)))) f l
stands-pushed answered pending e number turn row none (done ended text all f l) = done ended text all f l
stands-pushed answered pending e number turn row none (broken failed text last rose f l) = broken failed text last rose f l

-- What is known of the feeds before the turn of the feed of a place, from 0, in a round: which events they had.
pub record Standing (starts ends : List SourceState) (all : List Lane) (answered pending : List Event) (round place : ℕ) : Type 0 where
  pub rows : List Row
  pub sources : sources_of rows ≡ starts
  pub nows : nows_of rows ≡ ends
  pub lanes : lanes_of rows ≡ all
  pub each : Each (Stands answered pending) 1 round place rows
  pub events : answered ++ pending ≡ told_in round place (feeds_of rows)

-- The events of a session over feeds, before the turn of the feed of a place, in a round. So many lines were answered with them, and before.
pub record Course (gates : List (Option Lock)) (s : State) (starts ends : List SourceState) (all : List Lane) (before below : SinkState) (held : List ℕ) (lines round place : ℕ) : Type 0 where
  pub answered : List Told
  pub pending : List Told
  pub has : Held gates s answered pending before below held
  pub standing : Standing starts ends all (events_of answered) (events_of pending) round place
  pub many : s.lines + line_count (events_of answered ++ events_of pending) ≡ lines

-- A session over feeds then. It stands for a state that becomes, under the lock of any feed, what the state behind the events becomes.
pub record Around (gates : List (Option Lock)) (s : State) (starts ends : List SourceState) (all : List Lane) (session : SessionValue) (before below : SinkState) (held : List ℕ) (lines round place : ℕ) : Type 0 where
  pub course : Course gates s starts ends all before below held lines round place
  pub kept : State
  pub stands : StandsFor session kept
  pub follows : (n : ℕ) → under gates n kept ≡ under gates n (at gates s (course.answered ++ course.pending))
  pub counted : session.lines ≡ lines

-- the session takes the turn of the feed of a place: it stands for the state behind the events under the lock of that feed
pub record Inside (gates : List (Option Lock)) (s : State) (answered pending : List Told) (session : SessionValue) (lines place : ℕ) : Type 0 where
  pub stands : StandsFor session (under gates (1 + place) (at gates s (answered ++ pending)))
  pub counted : session.lines ≡ lines

-- the lock of the feed of a place was set
pub around-enter : (gates : List (Option Lock)) (s : State) (starts ends : List SourceState) (all : List Lane) (session session' : SessionValue) (before below : SinkState) (held : List ℕ) (lines round place : ℕ)
    → (i : Around gates s starts ends all session before below held lines round place) → ((u : State) → StandsFor session u → StandsFor session' (under gates (place + 1) u))
    → Inside gates s i.course.answered i.course.pending session' lines place
around-enter gates s starts ends all session session' before below held lines round place i enters =
    let set = subst (λ (n : ℕ). StandsFor session' (under gates n i.kept)) (let z : place + 1 ≡ 1 + place = omega arith in z) (enters i.kept i.stands) in
    record {
      stands = subst (λ u. StandsFor session' u) (i.follows (1 + place)) set;
      counted = set.lines ∙ under-lines gates (1 + place) i.kept ∙ sym i.stands.lines ∙ i.counted;
    }

-- behind a turn without an event
pub around-inside : (gates : List (Option Lock)) (s : State) (starts ends : List SourceState) (all : List Lane) (session : SessionValue) (before below : SinkState) (held : List ℕ) (lines round place here : ℕ)
    → (c : Course gates s starts ends all before below held lines round place) → (u : State) → u ≡ at gates s (c.answered ++ c.pending) → StandsFor session (under gates (1 + here) u) → session.lines ≡ lines
    → Around gates s starts ends all session before below held lines round place
around-inside gates s starts ends all session before below held lines round place here c u same stands counted = record {
  course = c;
  kept = under gates (1 + here) u;
  stands = stands;
  follows = λ n. under-over gates n (1 + here) u ∙ ap (under gates n) same;
  counted = counted;
}

abbrev pub no_row : Row
no_row = record { source = no_source; now = no_source; lane = new_lane; feed = record { lines = []; failed = false } }

pub line_count-append : (front others : List Event) → line_count (front ++ others) ≡ line_count front + line_count others
line_count-append [] others = omega arith
line_count-append (line number text ∷ front) others = let r = line_count-append front others in omega (arith, r)
line_count-append (fault number ∷ front) others = line_count-append front others
