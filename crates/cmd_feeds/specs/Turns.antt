-- Feeds that take turns: in each round every feed that has not ended gives one line, in order.
use Rattle.std.specs.Prelude.{◌≡◌, ℕ, ◌+◌, Bool, true, ◌&&◌, nat_eq, nat_lt, List, [], ◌∷◌, ◌++◌, length, take, max, if◌then◌else◌}
use Rattle.std.specs.List.{flat_map, range_with_len, slice_index_or}
use Rattle.cmd_session.specs.Events.{Event, line, fault}

-- the lines of a feed, and whether it ended by a fault
pub record Feed : Type 0 where
  pub lines : List (List ℕ)
  pub failed : Bool

-- the event of a feed in a round, rounds being numbered from 0: its line there, or the fault behind its last line
abbrev pub event_of : ℕ → ℕ → Feed → List Event
event_of number round feed =
    if nat_lt round (length feed.lines) then line number (slice_index_or feed.lines round []) ∷ []
    else (if feed.failed && nat_eq round (length feed.lines) then fault number ∷ [] else [])

-- the events of a round: those of the feeds from a number on, in order
abbrev pub round_of : ℕ → ℕ → List Feed → List Event
round_of round number [] = []
round_of round number (feed ∷ feeds) = event_of number round feed ++ round_of round (number + 1) feeds

-- one round more than the longest feed has lines
abbrev pub rounds : List Feed → ℕ
rounds [] = 0
rounds (feed ∷ feeds) = max (length feed.lines + 1) (rounds feeds)

-- all events, by round and within a round by feed; feeds are numbered from 1
abbrev pub turns : List Feed → List Event
turns feeds = flat_map (λ round. round_of round 1 feeds) (range_with_len 0 (rounds feeds))

-- of a feed that has not ended, more lines may come; one that has ended stays as it is
pub record GrowsTo (ended : Bool) (feed later : Feed) : Type 0 where
  pub front : take (length feed.lines) later.lines ≡ feed.lines
  pub last : ended ≡ true → later ≡ feed
