-- What holds of the turns of feeds.
use Rattle.std.specs.Prelude.{◌≡◌, ℕ, ◌<◌, Bool, false, List, [], ◌∷◌, map, length, ⊤}
use Rattle.sql_text.specs.Lines.{lines}
use Rattle.cmd_session.specs.Replies.{IsSessionText}
use Rattle.cmd_session.specs.Events.{line}
use Rattle.cmd_feeds.specs.Turns.{Feed, round_of, turns, GrowsTo}
use Rattle.cmd_feeds.specs.FeedsText.{IsFeedsText}

-- feeds have at most one text
abbrev pub HasOneFeedsText : Type 0
HasOneFeedsText = (limit : ℕ) → (feeds : List Feed) → (written : List ℕ) → (other : List ℕ) → IsFeedsText limit feeds written → IsFeedsText limit feeds other → written ≡ other

-- one feed that did not fail takes its turns line by line
abbrev pub OneFeedGivesItsLines : Type 0
OneFeedGivesItsLines = (feed : Feed) → feed.failed ≡ false → turns (feed ∷ []) ≡ map (line 1) feed.lines

-- the text over one feed that did not fail is the session text of its lines
abbrev pub OneFeedIsASession : Type 0
OneFeedIsASession = (limit : ℕ) → (text : List ℕ) → (written : List ℕ) → IsFeedsText limit (record { lines = lines text; failed = false } ∷ []) written → IsSessionText limit text written

-- each feed may have grown, if it has not ended; one that has not ended has given a line in this round and has not failed
abbrev pub HaveGrown : ℕ → List Bool → List Feed → List Feed → Type 0
HaveGrown round [] [] [] = ⊤
HaveGrown round (e ∷ ended) (f ∷ feeds) (g ∷ later) = GrowsTo e f g × (e ≡ false → (round < length f.lines) × (f.failed ≡ false)) × HaveGrown round ended feeds later
HaveGrown round ended feeds later = ⊥

-- then the events of the round stay: what was told is a front of the turns, however much more comes
abbrev pub RoundsStay : Type 0
RoundsStay = (round : ℕ) → (number : ℕ) → (ended : List Bool) → (feeds : List Feed) → (later : List Feed) → HaveGrown round ended feeds later → round_of round number feeds ≡ round_of round number later
