-- What a session comes to that ends with Done: nothing that is said of other words, or of another end, need be read.
use Rattle.std.specs.Prelude.{◌≡◌, ℕ, Bool, true, false, List, [], ◌++◌, String}
use Rattle.std.specs.declared.alloc.Global.{Global}
use Rattle.io_streams.specs.declared.status.Status.TheVariants as status
use Rattle.io_streams.specs.Source.{SourceState}
use Rattle.io_streams.specs.Sink.{SinkState}
use Rattle.io_line_reader.specs.Reading.{TakesAll}
use Rattle.cmd_session.specs.State.{empty}
use Rattle.cmd_dispatch.specs.declared.words.RunForm.{RunForm}
use Rattle.cmd_dispatch.specs.Words.{AreRun}
use Rattle.cmd_dispatch.specs.Behind.{whole, WroteAs}
use Rattle.cmd_dispatch.specs.Files.{FirstRead}
use Rattle.cmd_dispatch.specs.Ends.{Ends}

-- all bytes of a file were read, and this is its text, with an LF at its end
pub record IsWholeFile (file file' : SourceState) (ahead : List ℕ) : Type 0 where
  pub text : List ℕ
  pub all : TakesAll file file' text
  pub is : ahead ≡ whole text

-- what stands before the input: the text of the first file, where the words name one, and else nothing
abbrev pub IsAhead : Bool → List SourceState → List SourceState → List ℕ → Type 0
IsAhead false files files' ahead = (files' ≡ files) × (ahead ≡ [])
IsAhead true files files' ahead = FirstRead files files' (λ file file'. IsWholeFile file file' ahead)

-- all bytes of the file and of the input were read, and what the sink holds grew by the replies to just their lines, each as it is or as one line
pub record AnswersAll (form : RunForm) (input input' : SourceState) (files files' : List SourceState) (sink sink' : SinkState) : Type 0 where
  pub ahead : List ℕ
  pub text : List ℕ
  pub first : IsAhead form.file files files' ahead
  pub all : TakesAll input input' text
  pub wrote : WroteAs form.each (empty form.limit) (ahead ++ text) sink sink'

-- where the words run such a session and the program ends with Done, this is so
abbrev pub Headline : Type 0
Headline =
    (words : List (String Global)) (form : RunForm) (failed : Bool) (input input' : SourceState) (files files' : List SourceState) (sink sink' : SinkState)
    → AreRun words form → Ends status.Done failed words input input' files files' sink sink' → AnswersAll form input input' files files' sink sink'
