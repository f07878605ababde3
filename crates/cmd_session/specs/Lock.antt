-- The lock of a session: which lines are let.
use Rattle.std.specs.Prelude.{◌≡◌, ℕ, ℤ, Bool, true, false, List, ⊤, IsTrue, Option, Some, None}
use Rattle.sql_text.specs.Word.{word_of}
use Rattle.sql_catalog.specs.Streams.{Shape, stream_number}
use Rattle.sql_parser.specs.declared.line.LineKind.{LineKind}
use Rattle.sql_parser.specs.declared.line.LineKind.TheVariants as kinds
use Rattle.sql_parser.specs.declared.tree.Statement.TheVariants.{Unlock}
use Rattle.sql_parser.specs.LineKind.{stripped, kind_of_line}
use Rattle.sql_parser.specs.Syntax.{IsStatement}
use Rattle.sql_parser.specs.Limits.{limit_of}
use Rattle.io_row_reader.specs.Open.{is_open, open_by_both}

-- the number that unlocks, where one does, and the numbers of the streams whose rows are let, or None where those of all streams are
pub record Lock : Type 0 where
  pub key : Option ℤ
  pub opened : Option (List ℕ)

-- the streams whose rows are let: where no lock stands, all
abbrev pub open_in : Option Lock → Option (List ℕ)
open_in None = None
open_in (Some lock) = lock.opened

-- a lock that no number opens, which lets rows of these streams alone, where the other lets them too
abbrev pub narrowed : Option Lock → Option (List ℕ) → Lock
narrowed lock opened = record { key = None; opened = open_by_both (open_in lock) opened }

-- whether a stream was found and is open
abbrev pub is_found_open : Option (List ℕ) → Option ℕ → Bool
is_found_open opened None = false
is_found_open opened (Some stream) = is_open opened stream

-- whether a row is let: all streams are open, or its first word is the name of an open one
abbrev pub lets_row : Option (List ℕ) → List Shape → List ℕ → Bool
lets_row None streams text = true
lets_row (Some numbers) streams text = is_found_open (Some numbers) (stream_number streams (word_of text))

-- the text is the UNLOCK of this number
pub record IsUnlock (text : List ℕ) (key : ℤ) : Type 0 where
  pub says : IsStatement text (Unlock key)
  pub within : limit_of (Unlock key) ≡ None

-- the text unlocks; a lock without a number is opened by none
abbrev pub Unlocks : Option ℤ → List ℕ → Type 0
Unlocks None text = ⊥
Unlocks (Some key) text = IsUnlock text key

-- a text of a kind is let: no lock stands, or it lets the text
abbrev pub LetsText : Option Lock → List Shape → LineKind → List ℕ → Type 0
LetsText None streams kind text = ⊤
LetsText (Some lock) streams kinds.Nothing text = ⊤
LetsText (Some lock) streams kinds.RowLine text = IsTrue (lets_row lock.opened streams text)
LetsText (Some lock) streams kinds.StatementLine text = Unlocks lock.key text

-- a line is let where what is left of it is
abbrev pub Lets : Option Lock → List Shape → List ℕ → Type 0
Lets lock streams line = LetsText lock streams (kind_of_line (stripped line)) (stripped line)
