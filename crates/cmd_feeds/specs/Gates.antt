-- The locks under which feeds give their lines.
use Rattle.std.specs.Prelude.{ℕ, zero, suc, Bool, false, List, [], ◌∷◌, Option, Some, None, map, filter, nat_eq}
use Rattle.std.specs.List.{list_any, range_with_len, slice_index_or}
use Rattle.sql_catalog.specs.Streams.{Shape, stream_number}
use Rattle.cmd_session.specs.Lock.{Lock, narrowed}
use Rattle.cmd_session.specs.State.{State}
use Rattle.cmd_feeds.specs.FeedWord.{streams_in}

-- the lock that lets no row
abbrev pub shut : Lock
shut = record { key = None; opened = Some [] }

-- the lock of the feed of this number, from 1
abbrev pub gate : List (Option Lock) → ℕ → Option Lock
gate locks zero = Some shut
gate locks (suc place) = slice_index_or locks place (Some shut)

-- The state in which a line of the feed of this number is answered: the lock of the feed stands in it. Where feeds have no locks, it is the state
-- that the events before led to.
abbrev pub under : List (Option Lock) → ℕ → State → State
under [] number s = s
under (lock ∷ locks) number s = record s { lock = gate (lock ∷ locks) number }

-- whether this is the number that was found
abbrev pub is_number : ℕ → Option ℕ → Bool
is_number number None = false
is_number number (Some found) = nat_eq number found

-- whether one of the names is that of the stream of this number
abbrev pub is_named : List Shape → List (List ℕ) → ℕ → Bool
is_named streams names number = list_any (λ name. is_number number (stream_number streams name)) names

-- the numbers of the streams that have one of these names; there are at most 16 streams
unfoldable pub numbers_named : List Shape → List (List ℕ) → List ℕ
numbers_named streams names = filter (is_named streams names) (range_with_len 0 16)

-- the streams that a word of these names opens, or all where it has no names; a name of no stream opens nothing
abbrev pub opened_by : List Shape → Option (List (List ℕ)) → Option (List ℕ)
opened_by streams None = None
opened_by streams (Some names) = Some (numbers_named streams names)

-- the lock of a feed that a word names, in a session with this lock and these streams: it lets rows alone, of streams that the word opens and the
-- session lets
abbrev pub gate_of : Option Lock → List Shape → List ℕ → Option Lock
gate_of lock streams word = Some (narrowed lock (opened_by streams (streams_in word)))

-- the locks of feeds that these words name, in a state
abbrev pub gates_in : State → List (List ℕ) → List (Option Lock)
gates_in s words = map (gate_of s.lock s.streams) words
