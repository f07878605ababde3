-- How reading a script ends.
use Rattle.std.specs.Prelude.{◌≡◌, ℕ, suc, ◌-◌, ◌^◌, ◌<◌, ◌≤◌, ⊤, Bool, List, [], ◌∷◌, ◌++◌, length}
use Rattle.std.specs.List.{AllByRecursion}
use Rattle.std.specs.declared.result.Result.{Result}
use Rattle.std.specs.declared.result.Result.TheVariants.{Ok, Err}
use Rattle.io_streams.specs.Counts.{Rose}
use Rattle.io_streams.specs.Source.{SourceState}
use Rattle.sql_text.specs.Lines.{lines}
use Rattle.io_line_reader.specs.Reading.{Reading, TakesAll}
use Rattle.io_line_reader.specs.GivenLines.{GivenLines, TookLines, AllGiven, LastGiven}
use Rattle.sql_catalog.specs.Streams.{Shape}
use Rattle.sql_parser.specs.declared.tree.SelectAst.{SelectAst}
use Rattle.sql_parser.specs.declared.tree.Statement.TheVariants.{CreateQuery}
use Rattle.sql_parser.specs.Resolution.{HasNamed}
use Rattle.sql_replies.specs.declared.refusal.Refusal.{Refusal}
use Rattle.sql_replies.specs.declared.refusal.Refusal.TheVariants.{LineTooLong, Syntax}
use Rattle.sql_script.specs.declared.end.ScriptEnd.{ScriptEnd}
use Rattle.sql_script.specs.declared.end.ScriptEnd.TheVariants.{Refused, ReadFault, ByteLimit, Memory}
use Rattle.sql_script.specs.declared.texts.TextAnswer.{TextAnswer}
use Rattle.sql_script.specs.declared.texts.TextAnswer.TheVariants as answers
use Rattle.sql_script.specs.declared.creation.Asked.{Asked}
use Rattle.sql_script.specs.declared.script.Script.{Script}
use Rattle.sql_script.specs.Script.{SaysNothing, IsBlank, IsMisplaced, CreateStreams, Asks, IsRefusedAt, at_line, at_end}

-- Behind the lines that were given, blank lines and then this one were given; this holds of its number and the line.
pub record GaveLine (source now : SourceState) (given : List (List ℕ)) (reader : Reading) (P : ℕ → List ℕ → Type 0) : Type 0 where
  pub blanks : List (List ℕ)
  pub line : List ℕ
  pub front : List ℕ
  pub lines : GivenLines source now reader front (given ++ (blanks ++ line ∷ []))
  pub blank : AllByRecursion IsBlank blanks
  pub holds : P (suc (length (given ++ blanks))) line

-- Behind the lines that were given, blank lines were given up to the end of the source.
pub record GaveAll (source now : SourceState) (given : List (List ℕ)) (reader : Reading) : Type 0 where
  pub blanks : List (List ℕ)
  pub text : List ℕ
  pub lines : AllGiven source now reader text (given ++ blanks)
  pub blank : AllByRecursion IsBlank blanks

-- Behind the lines that were given, blank lines were given, and then the reader broke off; this holds of all bytes that were taken.
pub record GaveLast (source now : SourceState) (given : List (List ℕ)) (reader : Reading) (P : List ℕ → Type 0) : Type 0 where
  pub blanks : List (List ℕ)
  pub text : List ℕ
  pub lines : LastGiven source now reader text (given ++ blanks)
  pub blank : AllByRecursion IsBlank blanks
  pub holds : P text

-- as many bytes as can be counted
abbrev pub IsFull : List ℕ → Type 0
IsFull text = length text ≡ 2 ^ 64 - 1

-- what comes behind the lines that were given
abbrev pub GivesText : TextAnswer → SourceState → SourceState → List (List ℕ) → Reading → Type 0
GivesText answers.Text source now given reader = GaveLine source now given reader (λ number line. (reader.lines ≡ number) × (reader.line ≡ line) × (length line ≤ 1024) × ¬ (IsBlank line))
GivesText answers.TooLong source now given reader = GaveLine source now given reader (λ number line. (reader.lines ≡ number) × (1024 < length line))
GivesText answers.End source now given reader = GaveAll source now given reader
GivesText answers.ReadFault source now given reader = Rose source.faults now.faults × GaveLast source now given reader (λ text. ⊤)
GivesText answers.ByteLimit source now given reader = GaveLast source now given reader IsFull

-- what is known of the line that was given last
abbrev pub IsText : TextAnswer → List ℕ → Type 0
IsText answers.Text line = (length line ≤ 1024) × ¬ (SaysNothing line)
IsText _ line = ⊤

-- how reading the lines behind a query ends, by what comes behind blank ones, and the number of the line that was given last
abbrev pub blank_end : TextAnswer → ℕ → Result Unit ScriptEnd
blank_end answers.Text number = Err (Refused number Syntax)
blank_end answers.TooLong number = Err (Refused number LineTooLong)
blank_end answers.End number = Ok tt
blank_end answers.ReadFault number = Err ReadFault
blank_end answers.ByteLimit number = Err ByteLimit

-- How reading the lines behind a query ends: all of them are blank, up to the end of the source; or the first that is not is refused.
abbrev pub ReadsBlank : Result Unit ScriptEnd → SourceState → SourceState → List (List ℕ) → Reading → Type 0
ReadsBlank (Ok done) source now given reader = GaveAll source now given reader
ReadsBlank (Err (Refused number word)) source now given reader = GaveLine source now given reader (λ place line. (number ≡ place) × IsMisplaced line word)
ReadsBlank (Err ReadFault) source now given reader = Rose source.faults now.faults × GaveLast source now given reader (λ text. ⊤)
ReadsBlank (Err ByteLimit) source now given reader = GaveLast source now given reader IsFull
ReadsBlank (Err Memory) source now given reader = ⊥

-- The lines up to that of the query were given, and nothing else.
pub record GaveQuery (asked : Asked) (streams : List Shape) (source now : SourceState) (reader : Reading) : Type 0 where
  pub front : List ℕ
  pub given : List (List ℕ)
  pub lines : GivenLines source now reader front given
  pub name : List ℕ
  pub select : SelectAst
  pub shared : Bool
  pub states : asked.statement ≡ CreateQuery name select shared
  pub asks : Asks given streams name select shared asked.query (length given)
  pub named : HasNamed streams asked.query

-- this holds where a script ends before its query
abbrev pub IfAtEnd : {all : List (List ℕ)} {number : ℕ} {word : Refusal} → IsRefusedAt all number word → Type 0 → Type 0
IfAtEnd (at_line before line behind streams whole create is number_is) P = ⊤
IfAtEnd (at_end streams create word_is number_is) P = P

-- nothing stands behind the line that is refused
abbrev pub IsLast : {all : List (List ℕ)} {number : ℕ} {word : Refusal} → IsRefusedAt all number word → Type 0
IsLast (at_line before line behind streams whole create is number_is) = behind ≡ []
IsLast (at_end streams create word_is number_is) = ⊤

-- The lines of a text were taken, each of them whole, and the last of them is refused. A script that ends before its query was read to
-- its end, and has fewer bytes than can be counted.
pub record IsRefused (number : ℕ) (word : Refusal) (source now : SourceState) : Type 0 where
  pub text : List ℕ
  pub took : TookLines source now text
  pub refused : IsRefusedAt (lines text) number word
  pub last : IsLast refused
  pub all : IfAtEnd refused (TakesAll source now text × (length text < 2 ^ 64 - 1))

-- The reader broke off. All lines that ended in the bytes that were taken create streams, and this holds of these bytes.
pub record GaveStreams (source now : SourceState) (reader : Reading) (P : List ℕ → Type 0) : Type 0 where
  pub given : List (List ℕ)
  pub text : List ℕ
  pub lines : LastGiven source now reader text given
  pub streams : List Shape
  pub create : CreateStreams [] given streams
  pub holds : P text

-- How reading a script ends where it is not taken. Want of memory comes before anything is read.
abbrev pub EndsEarly : ScriptEnd → SourceState → SourceState → Reading → Type 0
EndsEarly (Refused number word) source now reader = IsRefused number word source now
EndsEarly ReadFault source now reader = Rose source.faults now.faults × GaveStreams source now reader (λ text. ⊤)
EndsEarly ByteLimit source now reader = GaveStreams source now reader IsFull
EndsEarly Memory source now reader = now ≡ source

-- how reading a script up to its query ends, by the streams in the catalog
abbrev pub ReadsQuery : Result Asked ScriptEnd → List Shape → SourceState → SourceState → Reading → Type 0
ReadsQuery (Ok asked) streams source now reader = GaveQuery asked streams source now reader
ReadsQuery (Err end) streams source now reader = EndsEarly end source now reader

-- A script up to the line of its query: the lines up to there were given, and nothing else.
pub record GaveScript (script : Script) (source now : SourceState) (reader : Reading) : Type 0 where
  pub front : List ℕ
  pub given : List (List ℕ)
  pub lines : GivenLines source now reader front given
  pub name : List ℕ
  pub select : SelectAst
  pub shared : Bool
  pub states : script.statement ≡ CreateQuery name select shared
  pub asks : Asks given script.catalog name select shared script.query script.line
  pub last : script.line ≡ length given
  pub named : HasNamed script.catalog script.query

-- how reading a script ends
abbrev pub ReadsScript : Result Script ScriptEnd → SourceState → SourceState → Reading → Type 0
ReadsScript (Ok script) source now reader = GaveScript script source now reader
ReadsScript (Err end) source now reader = EndsEarly end source now reader
