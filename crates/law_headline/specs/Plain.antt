-- The same where few kinds of lines are used.
use Rattle.std.specs.Prelude.{◌≡◌, ℕ, Bool, false, List, String, All}
use Rattle.std.specs.Io.KnownBytes.{Appends}
use Rattle.std.specs.declared.alloc.Global.{Global}
use Rattle.io_streams.specs.declared.status.Status.TheVariants as status
use Rattle.io_streams.specs.Source.{SourceState}
use Rattle.io_streams.specs.Sink.{SinkState}
use Rattle.io_line_reader.specs.Reading.{TakesAll}
use Rattle.sql_text.specs.Lines.{lines}
use Rattle.law_resume.specs.Continuing.{IsResumeLine}
use Rattle.law_plain_texts.specs.Texts.{IsLookLine, IsPlainText}
use Rattle.cmd_dispatch.specs.declared.words.RunForm.{RunForm}
use Rattle.cmd_dispatch.specs.Words.{AreRun}
use Rattle.cmd_dispatch.specs.Ends.{Ends}

-- the words name no file, and each reply is written as it is
pub record IsOverInput (form : RunForm) : Type 0 where
  pub file : form.file ≡ false
  pub each : form.each ≡ false

-- all bytes of the source were read; where no line of them is an EXPLAIN, CHECKPOINT or RESUME line, what the sink holds grew by the plain text of them
pub record AnswersPlainly (limit : ℕ) (source source' : SourceState) (sink sink' : SinkState) : Type 0 where
  pub text : List ℕ
  pub all : TakesAll source source' text
  pub written : List ℕ
  pub grew : Appends sink.written sink'.written written
  pub is_text : All (λ line. ¬ IsResumeLine line) (lines text) → All (λ line. ¬ IsLookLine line) (lines text) → IsPlainText limit text written

-- where the words run such a session and the program ends with Done, this is so
abbrev pub PlainHeadline : Type 0
PlainHeadline =
    (words : List (String Global)) (form : RunForm) (failed : Bool) (input input' : SourceState) (files files' : List SourceState) (sink sink' : SinkState)
    → AreRun words form → IsOverInput form → Ends status.Done failed words input input' files files' sink sink' → AnswersPlainly form.limit input input' sink sink'
