-- How a session over feeds ends.
use Rattle.std.specs.Prelude.{◌≡◌, ◌⊎◌, ⊤, ℕ, zero, suc, ◌+◌, ◌-◌, ◌^◌, ◌<◌, ◌≤◌, Bool, true, false, Option, Some, None, IfSome, List, [], ◌∷◌, length, String}
use Rattle.std.specs.Io.KnownBytes.{Appends}
use Rattle.std.specs.declared.alloc.Global.{Global}
use Rattle.io_streams.specs.Counts.{Rose}
use Rattle.io_streams.specs.Source.{SourceState}
use Rattle.io_streams.specs.Sink.{SinkState}
use Rattle.io_streams.specs.declared.status.Status.{Status}
use Rattle.io_streams.specs.declared.status.Status.TheVariants as status
use Rattle.sql_text.specs.Lines.{lines}
use Rattle.io_line_reader.specs.Reading.{TakesAll}
use Rattle.cmd_session.specs.Answer.{Answer}
use Rattle.cmd_session.specs.Lock.{Lock}
use Rattle.cmd_session.specs.State.{State, empty, after}
use Rattle.cmd_session.specs.Replies.{replies, AreAnswers}
use Rattle.cmd_session.specs.Run as run
use Rattle.cmd_session.specs.declared.run.Ending.{Ending}
use Rattle.cmd_session.specs.declared.run.Ending.TheVariants as ending
use Rattle.cmd_feeds.specs.declared.stage.Stage.TheVariants.{Open, Ended, Failed}
use Rattle.cmd_feeds.specs.Turns.{turns}
use Rattle.cmd_session.specs.Events.{Event, line}
use Rattle.cmd_feeds.specs.FeedsText.{event_replies}
use Rattle.cmd_feeds.specs.FeedsRead.{TakenFeed, OfEach, FeedsTaken, feeds_of, WroteEvents, AtEvent, StopsAtEvent, StopsAtCreate, told_in, line_count}
use Rattle.cmd_feeds.specs.Gates.{gates_in}
use Rattle.cmd_feeds.specs.Words.{AreFeedNames, sources_of}

-- some feed has ended by a fault
abbrev pub SomeFailed : List TakenFeed → Type 0
SomeFailed [] = ⊥
SomeFailed (t ∷ ts) = (t.stage ≡ Failed) ⊎ SomeFailed ts

-- the feed of this place, from 0, gave its lines in the rounds before this one, and as many bytes as can be counted
abbrev pub IsFullAt : ℕ → ℕ → List TakenFeed → Type 0
IsFullAt round place [] = ⊥
IsFullAt round zero (t ∷ ts) = (length t.text ≡ 2 ^ 64 - 1) × (length t.lines ≡ round)
IsFullAt round (suc place) (t ∷ ts) = IsFullAt round place ts

-- the lines that were answered before, and those among the events, are no more than a session over feeds takes
abbrev pub HasRoom : State → List Event → Type 0
HasRoom s events = s.lines + line_count events ≤ 2 ^ 64 - 2

-- What belongs to the events before one turn was written. In that turn the feed has more bytes than can be counted.
pub record StopsAtBytes {sources nows : List SourceState} (gates : List (Option Lock)) (s : State) (f : FeedsTaken sources nows) (before now : SinkState) : Type 0 where
  pub round : ℕ
  pub place : ℕ
  pub full : IsFullAt round place f.taken
  pub wrote : WroteEvents gates s (told_in round place (feeds_of f)) before now

-- The texts of the events before one event were written, and nothing else. That event is a line, and as many lines come before it as a session
-- over feeds takes.
pub record StopsAtLines {sources nows : List SourceState} (gates : List (Option Lock)) (s : State) (f : FeedsTaken sources nows) (before now : SinkState) : Type 0 where
  pub at_event : AtEvent gates s f
  pub number : ℕ
  pub text : List ℕ
  pub is_line : at_event.event ≡ line number text
  pub many : s.lines + line_count at_event.told ≡ 2 ^ 64 - 2
  pub written : Appends before.written now.written (event_replies gates s at_event.told at_event.answers)

-- How a session over feeds ends that was opened, from a state on, by the bytes that were taken of each feed and those that were written. A sink
-- that does not tell its bytes does not show at which event it failed.
abbrev pub Ran : Status → List (Option Lock) → State → List SourceState → List SourceState → SinkState → SinkState → Type 0
Ran status.Done gates s sources nows sink sink' =
    (f : FeedsTaken sources nows) × OfEach (λ number t. t.stage ≡ Ended) 1 f.taken × WroteEvents gates s (turns (feeds_of f)) sink sink' × HasRoom s (turns (feeds_of f))
Ran status.Invalid gates s sources nows sink sink' = ⊥
Ran status.Usage gates s sources nows sink sink' = ⊥
Ran status.ReadFault gates s sources nows sink sink' =
    (f : FeedsTaken sources nows) × OfEach (λ number t. t.stage ≡ Open → ⊥) 1 f.taken × SomeFailed f.taken × WroteEvents gates s (turns (feeds_of f)) sink sink' × HasRoom s (turns (feeds_of f))
Ran status.WriteFault gates s sources nows sink sink' = Rose sink.faults sink'.faults × (f : FeedsTaken sources nows) × IfSome sink.written (λ _. StopsAtEvent gates s f sink sink')
Ran status.Memory gates s sources nows sink sink' = (f : FeedsTaken sources nows) × StopsAtCreate gates s f sink sink'
Ran status.ByteLimit gates s sources nows sink sink' = (f : FeedsTaken sources nows) × (StopsAtBytes gates s f sink sink' ⊎ StopsAtLines gates s f sink sink')

-- a session over feeds ends so, and the count of faults of the sink did not fall
pub record RanLater (how : Status) (gates : List (Option Lock)) (s : State) (sources nows : List SourceState) (sink sink' : SinkState) : Type 0 where
  pub ends : Ran how gates s sources nows sink sink'
  pub later : sink.faults ≤ sink'.faults

-- the count of faults of one of these sources rose
abbrev pub SomeRose : List SourceState → List SourceState → Type 0
SomeRose [] nows = ⊥
SomeRose (source ∷ sources) [] = ⊥
SomeRose (source ∷ sources) (now ∷ nows) = Rose source.faults now.faults ⊎ SomeRose sources nows

-- no count of faults of these sources fell
abbrev pub NoneFell : List SourceState → List SourceState → Type 0
NoneFell [] [] = ⊤
NoneFell [] (now ∷ nows) = ⊥
NoneFell (source ∷ sources) [] = ⊥
NoneFell (source ∷ sources) (now ∷ nows) = (source.faults ≤ now.faults) × NoneFell sources nows

-- nothing was read or written
abbrev pub DidNothing : List SourceState → List SourceState → SinkState → SinkState → Type 0
DidNothing sources nows sink sink' = (nows ≡ sources) × (sink' ≡ sink)

-- How a session over feeds ends that may take so many rows. Want of memory may come while it is opened, too.
abbrev pub SessionRan : Status → ℕ → List SourceState → List SourceState → SinkState → SinkState → Type 0
SessionRan status.Done limit sources nows sink sink' = Ran status.Done [] (empty limit) sources nows sink sink'
SessionRan status.Invalid limit sources nows sink sink' = ⊥
SessionRan status.Usage limit sources nows sink sink' = ⊥
SessionRan status.ReadFault limit sources nows sink sink' = Ran status.ReadFault [] (empty limit) sources nows sink sink'
SessionRan status.WriteFault limit sources nows sink sink' = Ran status.WriteFault [] (empty limit) sources nows sink sink'
SessionRan status.Memory limit sources nows sink sink' = DidNothing sources nows sink sink' ⊎ Ran status.Memory [] (empty limit) sources nows sink sink'
SessionRan status.ByteLimit limit sources nows sink sink' = Ran status.ByteLimit [] (empty limit) sources nows sink sink'

-- The lines of a script came first, all of them, from the empty state on, and were answered. Then this holds of the state behind them, and of the
-- sink in between.
pub record Behind (limit : ℕ) (script script' : SourceState) (sink : SinkState) (P : State → SinkState → Type 0) : Type 0 where
  pub text : List ℕ
  pub all : TakesAll script script' text
  pub few : length text < 2 ^ 64 - 1
  pub read : script.faults ≤ script'.faults
  pub answers : List Answer
  pub are : AreAnswers (empty limit) (lines text) answers
  pub middle : SinkState
  pub written : Appends sink.written middle.written (replies (empty limit) answers)
  pub later : sink.faults ≤ middle.faults
  pub goes : P (after (empty limit) answers) middle

-- Behind a script, feeds that these words name took turns, each line under the lock of its feed, and the session ended so.
abbrev pub RanBehind : Status → ℕ → List (List ℕ) → SourceState → SourceState → List SourceState → List SourceState → SinkState → SinkState → Type 0
RanBehind how limit words script script' feeds nows sink sink' = Behind limit script script' sink (λ s middle. Ran how (gates_in s words) s feeds nows middle sink')

-- The session ended so in the lines of the script, and no feed was touched.
abbrev pub EndsInScript : Ending → ℕ → SourceState → SourceState → List SourceState → List SourceState → SinkState → SinkState → Type 0
EndsInScript how limit script script' feeds nows sink sink' = run.Ran how (empty limit) script script' sink sink' × (nows ≡ feeds)

-- How a session over feeds behind a script ends. A script that failed is told apart from feeds that failed. Want of memory may come before the
-- script is read, too.
abbrev pub ScriptRan : Status → Bool → ℕ → List (List ℕ) → SourceState → SourceState → List SourceState → List SourceState → SinkState → SinkState → Type 0
ScriptRan status.Done failed limit words script script' feeds nows sink sink' = (failed ≡ false) × RanBehind status.Done limit words script script' feeds nows sink sink'
ScriptRan status.Invalid failed limit words script script' feeds nows sink sink' = ⊥
ScriptRan status.Usage failed limit words script script' feeds nows sink sink' = ⊥
ScriptRan status.ReadFault true limit words script script' feeds nows sink sink' = EndsInScript ending.ReadFault limit script script' feeds nows sink sink'
ScriptRan status.ReadFault false limit words script script' feeds nows sink sink' = RanBehind status.ReadFault limit words script script' feeds nows sink sink'
ScriptRan status.WriteFault failed limit words script script' feeds nows sink sink' =
    (failed ≡ false) × (EndsInScript ending.WriteFault limit script script' feeds nows sink sink' ⊎ RanBehind status.WriteFault limit words script script' feeds nows sink sink')
ScriptRan status.Memory failed limit words script script' feeds nows sink sink' =
    (failed ≡ false)
    × (DidNothing (script ∷ feeds) (script' ∷ nows) sink sink' ⊎ (EndsInScript ending.Memory limit script script' feeds nows sink sink' ⊎ RanBehind status.Memory limit words script script' feeds nows sink sink'))
ScriptRan status.ByteLimit failed limit words script script' feeds nows sink sink' =
    (failed ≡ false) × (EndsInScript ending.ByteLimit limit script script' feeds nows sink sink' ⊎ RanBehind status.ByteLimit limit words script script' feeds nows sink sink')

-- How a session over feeds ends, behind a script or without one. The script is the first source, where there is one.
abbrev pub FeedsRan : Status → Bool → ℕ → Option (List ℕ) → List (List ℕ) → List SourceState → List SourceState → SinkState → SinkState → Type 0
FeedsRan how failed limit None words sources nows sink sink' = (failed ≡ false) × SessionRan how limit sources nows sink sink'
FeedsRan how failed limit (Some file) words [] nows sink sink' = ⊥
FeedsRan how failed limit (Some file) words (script ∷ feeds) [] sink sink' = ⊥
FeedsRan how failed limit (Some file) words (script ∷ feeds) (script' ∷ nows) sink sink' = ScriptRan how failed limit words script script' feeds nows sink sink'

-- the words ask for a session over so many sources, and this holds of its row limit, its script and the words that name its feeds
pub record Asked (words : List (String Global)) (count : ℕ) (P : ℕ → Option (List ℕ) → List (List ℕ) → Type 0) : Type 0 where
  pub limit : ℕ
  pub script : Option (List ℕ)
  pub names : List (List ℕ)
  pub asks : AreFeedNames words limit script names
  pub many : sources_of script names ≡ count
  pub holds : P limit script names

-- the words ask for no session over so many sources
abbrev pub AskForNone : List (String Global) → ℕ → Type 0
AskForNone words count = (limit : ℕ) → (script : Option (List ℕ)) → (names : List (List ℕ)) → AreFeedNames words limit script names → sources_of script names ≡ count → ⊥

-- How the program ends over feeds, by the status. Usage: the words are not of the form, or ask for another number of sources. Each other status: the
-- words ask for a session over as many sources as there are, and it ended so.
abbrev pub FeedsEnd : Status → Bool → List (String Global) → List SourceState → List SourceState → SinkState → SinkState → Type 0
FeedsEnd status.Usage failed words sources nows sink sink' = (failed ≡ false) × AskForNone words (length sources) × DidNothing sources nows sink sink'
FeedsEnd status.Done failed words sources nows sink sink' = Asked words (length sources) (λ limit script names. FeedsRan status.Done failed limit script names sources nows sink sink')
FeedsEnd status.Invalid failed words sources nows sink sink' = ⊥
FeedsEnd status.ReadFault failed words sources nows sink sink' = Asked words (length sources) (λ limit script names. FeedsRan status.ReadFault failed limit script names sources nows sink sink')
FeedsEnd status.WriteFault failed words sources nows sink sink' = Asked words (length sources) (λ limit script names. FeedsRan status.WriteFault failed limit script names sources nows sink sink')
FeedsEnd status.Memory failed words sources nows sink sink' = Asked words (length sources) (λ limit script names. FeedsRan status.Memory failed limit script names sources nows sink sink')
FeedsEnd status.ByteLimit failed words sources nows sink sink' = Asked words (length sources) (λ limit script names. FeedsRan status.ByteLimit failed limit script names sources nows sink sink')
