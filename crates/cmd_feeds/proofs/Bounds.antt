-- Where a session over feeds begins, and where all feeds have ended.
use Rattle.std.proofs.Common.{◌≡◌, ℕ, zero, suc, ◌+◌, ◌<◌, ◌≤◌, Bool, true, false, ◌||◌, nat_eq, cond, List, [], ◌∷◌, ◌++◌, map, length, replicate, refl, sym, ap, ◌∙◌, arith}
use Rattle.std.specs.List.{list_any}
use Rattle.io_streams.specs.Source.{SourceState}
use Rattle.io_streams.specs.Sink.{SinkState}
use Rattle.std.specs.declared.option.Option.{Option}
use Rattle.cmd_session.specs.Lock.{Lock}
use Rattle.cmd_session.specs.State.{State}
use Rattle.cmd_session.specs.Session.{SessionValue, StandsFor}
use Rattle.cmd_session.specs.Run.{HasState}
use Rattle.cmd_session.specs.Events.{Event, line, fault, lines_of}
use Rattle.cmd_session.proofs.ToldEvents.{Told, events_of}
use Rattle.cmd_session.proofs.GivenAmong.{given-begins}
use Rattle.cmd_feeds.specs.declared.stage.Lane.{Lane}
use Rattle.cmd_feeds.specs.declared.stage.Stage.{Stage}
use Rattle.cmd_feeds.specs.declared.stage.Stage.TheVariants as stage
use Rattle.std.proofs.lemmas.Bool.{false≢true}
use Rattle.cmd_feeds.specs.Lanes.{is_open}
use Rattle.cmd_feeds.specs.FeedsRead.{line_count}
use Rattle.cmd_feeds.specs.Gates.{under}
use Rattle.cmd_feeds.specs.Visited.{new_lane}
use Rattle.cmd_feeds.proofs.Rows.{Row, Each, lanes_of, nows_of, sources_of}
use Rattle.cmd_feeds.proofs.Around.{Stands, gives, done, broken, Course, Around, Inside}
use Rattle.cmd_feeds.proofs.Held.{held-none}
use Rattle.cmd_feeds.proofs.Told.{at, at-none}

-- a feed of which nothing was taken
abbrev new_row : SourceState → Row
new_row source = record { source = source; now = source; lane = new_lane; feed = record { lines = []; failed = false } }

abbrev new_rows : List SourceState → List Row
new_rows starts = map new_row starts

sources-new : (starts : List SourceState) → sources_of (new_rows starts) ≡ starts
sources-new [] = refl
sources-new (x ∷ starts) = ap (λ l. x ∷ l) (sources-new starts)

nows-new : (starts : List SourceState) → nows_of (new_rows starts) ≡ starts
nows-new [] = refl
nows-new (x ∷ starts) = ap (λ l. x ∷ l) (nows-new starts)

lanes-new : (starts : List SourceState) → lanes_of (new_rows starts) ≡ replicate (length starts) new_lane
lanes-new [] = refl
lanes-new (x ∷ starts) = ap (λ l. new_lane ∷ l) (lanes-new starts)

each-new : (number : ℕ) (starts : List SourceState) → Each (Stands [] []) number 0 zero (new_rows starts)
each-new number [] = tt
each-new number (x ∷ starts) = (gives refl (given-begins number x new_lane.reader refl) refl refl refl, each-new (number + 1) starts)

-- nothing was taken of any feed
pub around-begins : (gates : List (Option Lock)) (s : State) (starts : List SourceState) (all : List Lane) (session : SessionValue) (before : SinkState) (held : List ℕ) (lines : ℕ) → all ≡ replicate (length starts) new_lane → lines ≡ session.lines → held ≡ [] → StandsFor session s
    → Around gates s starts starts all session before before held lines 0 0
around-begins gates s starts all session before held lines lanes counted empty stands = record {
  course = record {
    answered = [];
    pending = [];
    has = held-none gates s before held empty;
    standing = record {
      rows = new_rows starts;
      sources = sources-new starts;
      nows = nows-new starts;
      lanes = lanes-new starts ∙ sym lanes;
      each = each-new 1 starts;
      events = refl;
    };
    many = omega (arith, counted, stands.lines);
  };
  kept = s;
  stands = stands;
  follows = λ n. ap (under gates n) (sym (at-none gates s));
  counted = sym counted;
}

length-lanes : (rows : List Row) → length (lanes_of rows) ≡ length rows
length-lanes [] = refl
length-lanes (r ∷ rows) = ap suc (length-lanes rows)

pub rows-size : (gates : List (Option Lock)) (s : State) (starts ends : List SourceState) (all : List Lane) (before below : SinkState) (held : List ℕ) (lines round place : ℕ) → (i : Course gates s starts ends all before below held lines round place)
    → length i.standing.rows ≡ length all
rows-size gates s starts ends all before below held lines round place i = sym (length-lanes i.standing.rows) ∙ ap (length {A = Lane}) i.standing.lanes

pub inside-state : (gates : List (Option Lock)) (s : State) (answered pending : List Told) (session : SessionValue) (lines place : ℕ) → Inside gates s answered pending session lines place → HasState session
inside-state gates s answered pending session lines place i = record { state = under gates (1 + place) (at gates s (answered ++ pending)); stands = i.stands }

-- a feed has no more lines than there are
few-lines : (number : ℕ) (events : List Event) → length (lines_of number events) ≤ line_count events
few-lines number [] = omega arith
few-lines number (line other text ∷ events) = by_number (nat_eq other number) (few-lines number events)
  where
    by_number : (b : Bool) → length (lines_of number events) ≤ line_count events → length (cond b (text ∷ lines_of number events) (lines_of number events)) ≤ line_count events + 1
    by_number true le = omega (arith, le)
    by_number false le = omega (arith, le)
few-lines number (fault other ∷ events) = few-lines number events

closed-lane : (answered pending : List Event) (number round : ℕ) (row : Row) → line_count (answered ++ pending) < round → Stands answered pending number round row → is_open row.lane.stage ≡ false
closed-lane answered pending number round row l (gives yet-open g e f n) =
    let few = few-lines number (answered ++ pending) in
    let same = ap (length {A = List ℕ}) e in
    absurd (omega (arith, l, few, same, n))
closed-lane answered pending number round row l (done ended text all f n) = ap is_open ended
closed-lane answered pending number round row l (broken failed text last rose f n) = ap is_open failed

closed-lanes : (answered pending : List Event) (number round : ℕ) (rows : List Row) → line_count (answered ++ pending) < round → Each (Stands answered pending) number round zero rows → list_any (λ (lane : Lane). is_open lane.stage) (lanes_of rows) ≡ false
closed-lanes answered pending number round [] l p = refl
closed-lanes answered pending number round (row ∷ rows) l p =
    ap (λ b. b || list_any (λ (lane : Lane). is_open lane.stage) (lanes_of rows)) (closed-lane answered pending number round row l p.0) ∙ closed-lanes answered pending (number + 1) round rows l p.1

-- behind as many rounds as a session takes lines, all feeds have ended
pub all-closed : (gates : List (Option Lock)) (s : State) (starts ends : List SourceState) (all : List Lane) (before below : SinkState) (held : List ℕ) (lines round : ℕ) → (i : Course gates s starts ends all before below held lines round 0) → lines < round
    → list_any (λ (lane : Lane). is_open lane.stage) all ≡ false
all-closed gates s starts ends all before below held lines round i l =
    ap (list_any (λ (lane : Lane). is_open lane.stage)) (sym i.standing.lanes) ∙ closed-lanes (events_of i.answered) (events_of i.pending) 1 round i.standing.rows (omega (arith, l, i.many)) i.standing.each

pub open-of : (x : Stage) → is_open x ≡ true → x ≡ stage.Open
open-of stage.Open e = refl
open-of stage.Ended e = absurd (false≢true e)
open-of stage.Failed e = absurd (false≢true e)

pub size-map : {X Y : Type 0} (f : X → Y) (xs : List X) → length (map f xs) ≡ length xs
size-map f [] = refl
size-map f (x ∷ xs) = ap suc (size-map f xs)
