-- How reading a certificate behind a query ends, and what a check finds.
use Rattle.std.specs.Prelude.{◌≡◌, ℕ, ◌+◌, ◌-◌, ◌^◌, ◌<◌, ⊤, List, [], ◌∷◌, ◌++◌, length}
use Rattle.std.specs.declared.result.Result.{Result}
use Rattle.std.specs.declared.result.Result.TheVariants.{Ok, Err}
use Rattle.std.specs.Io.KnownBytes.{Consumes}
use Rattle.io_streams.specs.Counts.{Rose}
use Rattle.io_streams.specs.declared.sink.WriteFault.{WriteFault}
use Rattle.io_streams.specs.declared.status.Status.{Status}
use Rattle.io_streams.specs.declared.status.Status.TheVariants as status
use Rattle.io_streams.specs.Source.{SourceState}
use Rattle.sql_text.specs.Lines.{lines}
use Rattle.io_line_reader.specs.Reading.{Reading, TakesAll}
use Rattle.io_line_reader.specs.Texts.{ended_part}
use Rattle.io_line_reader.specs.GivenLines.{GivenLines, TookLines}
use Rattle.sql_parser.specs.Resolution.{HasNamed}
use Rattle.sql_replies.specs.declared.refusal.Refusal.{Refusal}
use Rattle.sql_replies.specs.declared.refusal.Refusal.TheVariants as words
use Rattle.cert_format.specs.declared.line.Line.{Line}
use Rattle.cert_format.specs.declared.error.CertError.{CertError}
use Rattle.cert_format.specs.declared.error.CertError.TheVariants as why
use Rattle.cert_format.specs.Nodes.{Node}
use Rattle.cert_checker.specs.Shown.{IsCheckAnswer}
use Rattle.sql_script.specs.declared.end.ScriptEnd.{ScriptEnd}
use Rattle.sql_script.specs.declared.end.ScriptEnd.TheVariants.{Refused, ReadFault, ByteLimit, Memory}
use Rattle.sql_script.specs.Ends.{IsFull}
use Rattle.sql_script.specs.Script.{name_of}
use Rattle.cmd_certify.specs.declared.checking.Checked.{Checked}
use Rattle.sql_script.specs.Commands.{Outcome, ComesTo}
use Rattle.sql_script.specs.Ending.{StopsAt}
use Rattle.cmd_certify.specs.Checking.{Collect, IsRefusedLine, answered, Checks}

-- some lines were given, since the source was in some state
pub record HasGiven (now : SourceState) (reader : Reading) : Type 0 where
  pub source : SourceState
  pub front : List ℕ
  pub given : List (List ℕ)
  pub lines : GivenLines source now reader front given

-- how a script ends at the line of this number that is not added to the certificate
abbrev pub end_at : ℕ → CertError → ScriptEnd
end_at number why.Syntax = Refused number words.Syntax
end_at number why.Limit = Refused number words.Limit
end_at number why.Memory = Memory

-- Behind the lines that were given, those of a certificate were given up to the end of the source, whose bytes can be counted.
pub record GaveCertificate (source now : SourceState) (given : List (List ℕ)) (certificate : List Line) : Type 0 where
  pub text : List ℕ
  pub behind : List (List ℕ)
  pub all : TakesAll source now text
  pub few : length text < 2 ^ 64 - 1
  pub are : lines text ≡ given ++ behind
  pub collect : Collect [] behind certificate

-- Behind the lines that were given and those of a certificate, the line of this number is refused.
pub record GaveRefused (source now : SourceState) (given : List (List ℕ)) (number : ℕ) (word : Refusal) : Type 0 where
  pub text : List ℕ
  pub took : TookLines source now text
  pub before : List (List ℕ)
  pub line : List ℕ
  pub are : lines text ≡ given ++ (before ++ line ∷ [])
  pub certificate : List Line
  pub collect : Collect [] before certificate
  pub refused : IsRefusedLine certificate line word
  pub number_is : number ≡ length given + length before + 1

-- Behind the lines that were given, those of a certificate were given, and then the reader broke off; this holds of all bytes that were
-- taken.
pub record GaveLines (source now : SourceState) (given : List (List ℕ)) (P : List ℕ → Type 0) : Type 0 where
  pub text : List ℕ
  pub taken : Consumes source.left now.left text
  pub behind : List (List ℕ)
  pub are : lines (ended_part text) ≡ given ++ behind
  pub certificate : List Line
  pub collect : Collect [] behind certificate
  pub holds : P text

-- how reading a certificate ends, behind the lines that were given
abbrev pub ReadsCertificate : Result (List Line) ScriptEnd → SourceState → SourceState → List (List ℕ) → Type 0
ReadsCertificate (Ok certificate) source now given = GaveCertificate source now given certificate
ReadsCertificate (Err (Refused number word)) source now given = GaveRefused source now given number word
ReadsCertificate (Err ReadFault) source now given = Rose source.faults now.faults × GaveLines source now given (λ text. ⊤)
ReadsCertificate (Err ByteLimit) source now given = GaveLines source now given IsFull
ReadsCertificate (Err Memory) source now given = ⊤

-- what the answer of the check of a script comes to
abbrev pub outcome_of : Checked → Outcome
outcome_of checked = answered checked.script.catalog (name_of checked.script.statement) checked.script.query checked.answer

-- the answer of a check, and all that its text names is there
pub record IsSound (checked : Checked) : Type 0 where
  pub nodes : List Node
  pub is : IsCheckAnswer checked.script.query nodes checked.answer
  pub named : HasNamed checked.script.catalog checked.script.query

-- how the check of a script ends before anything is written
abbrev pub ReadsAnswer : Result Checked ScriptEnd → SourceState → SourceState → Type 0
ReadsAnswer (Ok checked) source now = ComesTo Checks source now (outcome_of checked) × IsSound checked
ReadsAnswer (Err end) source now = StopsAt Checks end source now

-- the status behind a write: this one, or that the sink failed
abbrev pub status_after : Result Unit WriteFault → Status → Status
status_after (Ok done) aim = aim
status_after (Err fault) aim = status.WriteFault
