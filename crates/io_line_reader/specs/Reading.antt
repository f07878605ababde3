-- What a reader of lines keeps, and what its calls do.
use Rattle.std.specs.Prelude.{◌≡◌, ℕ, ◌+◌, ◌-◌, ◌^◌, ◌<◌, ◌≤◌, ◌≢◌, ◌⊎◌, ⊤, Bool, true, false, List, [], ◌∷◌, ◌++◌, length, take, drop, slice_index, slice_range, IfSome}
use Rattle.std.specs.List.{All}
use Rattle.std.specs.Io.KnownBytes.{Consumes}
use Rattle.io_streams.specs.Counts.{Rose}
use Rattle.io_streams.specs.Source.{SourceState}
use Rattle.sql_text.specs.Lines.{lines}
use Rattle.io_line_reader.specs.declared.reader.LineAnswer.{LineAnswer}
use Rattle.io_line_reader.specs.declared.reader.LineAnswer.TheVariants.{Line, TooLong, End, ReadFault, ByteLimit}

-- what a reader of lines keeps
pub record Reading : Type 0 where
  -- the bytes that were taken and are of no line yet
  pub ahead : List ℕ
  -- the last line that was given
  pub line : List ℕ
  -- how many bytes were taken from the source
  pub taken : ℕ
  -- how many lines were given or called too long
  pub lines : ℕ
  -- whether the source has said that it is at its end
  pub ended : Bool
  -- whether the source has failed in a call
  pub failed : Bool

-- a reader that has taken nothing
abbrev pub fresh : Reading
fresh = record { ahead = []; line = []; taken = 0; lines = 0; ended = false; failed = false }

-- no byte is LF
abbrev pub IsPlain : List ℕ → Type 0
IsPlain bytes = All (λ b. b ≢ 10) bytes

-- the first LF of these bytes stands at this place
abbrev pub IsFirstFeed : List ℕ → ℕ → Type 0
IsFirstFeed bytes place = (place < length bytes) × (slice_index bytes place ≡ 10) × IsPlain (take place bytes)

-- the bytes of a line: the line and its LF, or the last line without one, behind which the source has ended
pub data IsLine (given line : List ℕ) (ended : Bool) : Type 0 where
  fed : given ≡ line ++ 10 ∷ [] → ended ≡ false → IsLine given line ended
  last : given ≡ line → 0 < length line → ended ≡ true → IsLine given line ended

-- A line that lies whole in what was read: it is given, and nothing is taken.
pub record IsBuffered (old new : Reading) : Type 0 where
  pub whole : old.ahead ≡ new.line ++ 10 ∷ new.ahead
  pub plain : IsPlain new.line
  pub short : length new.line ≤ 1024
  pub taken : new.taken ≡ old.taken
  pub lines : new.lines ≡ old.lines + 1
  pub counted : (new.lines ≤ new.taken) × (new.taken < 2 ^ 64)
  pub ended : (old.ended ≡ false) × (new.ended ≡ false)
  pub unfailed : (old.failed ≡ false) × (new.failed ≡ false)

-- So many lines of at most 1,024 bytes, each with its LF, stand one after another at the front of bytes, the last from this place on, and
-- end at that one.
pub data AreLinesAhead (bytes : List ℕ) : ℕ → ℕ → ℕ → Type 0 where
  none : {count begin end : ℕ} → count ≡ 0 → end ≡ 0 → AreLinesAhead bytes count begin end
  more : {count begin end : ℕ} → (before start len : ℕ) → AreLinesAhead bytes before start begin → IsFirstFeed (drop begin bytes) len → len ≤ 1024 → count ≡ before + 1 → end ≡ begin + len + 1
      → AreLinesAhead bytes count begin end

-- So many lines are given up to a place of what is ahead, of which the last begins at that one; nothing is taken.
pub record GivesAll (old new : Reading) (count begin end : ℕ) : Type 0 where
  pub ahead : new.ahead ≡ drop end old.ahead
  pub line : new.line ≡ slice_range old.ahead begin (end - 1)
  pub taken : new.taken ≡ old.taken
  pub lines : new.lines ≡ old.lines + count
  pub counted : (new.lines ≤ new.taken) × (new.taken < 2 ^ 64)
  pub ended : (old.ended ≡ false) × (new.ended ≡ false)
  pub unfailed : (old.failed ≡ false) × (new.failed ≡ false)

-- Nothing is changed: what begins ahead and lies whole in what was read, if anything does, is too long.
pub record NoneBuffered (old new : Reading) : Type 0 where
  pub same : new ≡ old
  pub long : (line rest : List ℕ) → IsPlain line → old.ahead ≡ line ++ 10 ∷ rest → 1024 < length line

-- The next line is given exactly where it lies whole in what was read and is not too long.
abbrev pub GivesBuffered : Bool → Reading → Reading → Type 0
GivesBuffered true old new = IsBuffered old new
GivesBuffered false old new = NoneBuffered old new

-- What an answer says of the bytes that are given up with it. Line and TooLong: they are a line, of at most 1,024 bytes, or of
-- more, which counts. End: there are none. ReadFault and ByteLimit: they are of a line that has no LF yet, and it does not count.
abbrev pub Tells : LineAnswer → List ℕ → Reading → Reading → SourceState → SourceState → Type 0
Tells Line given old new before after = IsLine given new.line new.ended × IsPlain new.line × (length new.line ≤ 1024) × (old.ended ≡ false) × (new.lines ≡ old.lines + 1)
Tells TooLong given old new before after = (line : List ℕ) × IsLine given line new.ended × IsPlain line × (1024 < length line) × (old.ended ≡ false) × (new.lines ≡ old.lines + 1)
Tells End given old new before after = (given ≡ []) × (new.ended ≡ true) × (new.lines ≡ old.lines)
Tells ReadFault given old new before after = IsPlain given × (new.ahead ≡ []) × (old.ended ≡ false) × (new.taken < 2 ^ 64 - 1) × (new.lines ≡ old.lines)
Tells ByteLimit given old new before after = IsPlain given × (new.ahead ≡ []) × (old.ended ≡ false) × (new.taken ≡ 2 ^ 64 - 1) × (new.lines ≡ old.lines)

-- Where a call answers that the source failed, it failed in this call, or in an earlier one: then nothing is changed. Every other
-- answer comes from a reader of which no call has answered that.
abbrev pub Fails : LineAnswer → Reading → Reading → SourceState → SourceState → Type 0
Fails ReadFault old new before after = (new.failed ≡ true) × (((old.failed ≡ false) × Rose before.faults after.faults) ⊎ ((new ≡ old) × (after ≡ before)))
Fails _ old new before after = (old.failed ≡ false) × (new.failed ≡ false)

-- these bytes were taken, and they are all that were left, where the source tells them
pub record TakesAll (before after : SourceState) (bytes : List ℕ) : Type 0 where
  pub taken : Consumes before.left after.left bytes
  pub whole : IfSome before.left (λ left. left ≡ bytes)

-- The source is read no further than a line asks for. Either it was not read: nothing was got, and it is as it was. Or no LF was
-- ahead, and where the bytes that are given up end in LF, that LF came by the last read: fewer bytes are ahead than it gave.
pub data ReadsNoFurther (old new : Reading) (before after : SourceState) (got given : List ℕ) : Type 0 where
  unread : got ≡ [] → after ≡ before → ReadsNoFurther old new before after got given
  needed : IsPlain old.ahead → ((line : List ℕ) → given ≡ line ++ 10 ∷ [] → length new.ahead < after.last) → ReadsNoFurther old new before after got given

-- What a call for the next line takes from the source, and which bytes it gives up: the first of those that were ahead and
-- those that were got. At most 4,096 bytes are ahead after it, and there are no more lines than bytes.
pub record NextLine (answer : LineAnswer) (old new : Reading) (before after : SourceState) : Type 0 where
  pub got : List ℕ
  pub given : List ℕ
  pub whole : old.ahead ++ got ≡ given ++ new.ahead
  pub taken : Consumes before.left after.left got
  pub count : new.taken ≡ old.taken + length got
  pub near : length new.ahead ≤ 4096
  -- so a line that has come whole is given before the source is read again
  pub prompt : ReadsNoFurther old new before after got given
  pub counted : (new.lines ≤ new.taken) × (new.taken < 2 ^ 64)
  pub tells : Tells answer given old new before after
  pub fails : Fails answer old new before after
  -- at the end nothing is ahead, the limit was not reached, and the source said so now or before
  pub over : new.ended ≡ true → (new.ahead ≡ []) × (new.taken < 2 ^ 64 - 1) × ((old.ended ≡ true) ⊎ TakesAll before after got)
  pub later : before.faults ≤ after.faults

-- the text of which lines are still to be given: what is ahead, and what the source has left, where it tells it
abbrev pub IfToCome : Reading → SourceState → (List ℕ → Type 0) → Type 0
IfToCome reading source P = IfSome source.left (λ left. P (reading.ahead ++ left))

-- What an answer says of the lines that are still to be given. Line gives the first of them, and TooLong skips it; the others
-- are still to be given then. At the end there are none.
abbrev pub GivesLine : LineAnswer → Reading → Reading → SourceState → SourceState → Type 0
GivesLine Line old new before after = IfToCome old before (λ text. IfToCome new after (λ rest. lines text ≡ new.line ∷ lines rest))
GivesLine TooLong old new before after = IfToCome old before (λ text. IfToCome new after (λ rest. (line : List ℕ) × (1024 < length line) × (lines text ≡ line ∷ lines rest)))
GivesLine End old new before after = old.ended ≡ false → IfToCome old before (λ text. lines text ≡ [])
GivesLine ReadFault old new before after = ⊤
GivesLine ByteLimit old new before after = ⊤

-- what is held of a line that was begun, and whether it is too long to be held
abbrev pub IsBegun : Bool → List ℕ → List ℕ → Type 0
IsBegun true held line = 1024 < length line
IsBegun false held line = held ≡ line

-- what is answered to a line, by whether it is too long
abbrev pub answer_to : Bool → LineAnswer
answer_to true = TooLong
answer_to false = Line
