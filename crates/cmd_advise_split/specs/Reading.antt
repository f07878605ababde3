-- How reading all lines ends.
use Rattle.std.specs.Prelude.{◌≡◌, ℕ, ◌-◌, ◌^◌, ◌<◌, List, length, None}
use Rattle.std.specs.declared.result.Result.{Result}
use Rattle.std.specs.declared.result.Result.TheVariants.{Ok, Err}
use Rattle.io_streams.specs.Source.{SourceState}
use Rattle.sql_text.specs.Lines.{lines}
use Rattle.io_line_reader.specs.Reading.{TakesAll}
use Rattle.sql_script.specs.declared.end.ScriptEnd.{ScriptEnd}
use Rattle.sql_script.specs.Ending.{StopsAt}
use Rattle.cmd_advise_split.specs.declared.finding.Found.{Found}
use Rattle.cmd_advise_split.specs.State.{State}
use Rattle.cmd_advise_split.specs.Steps.{ComeTo}
use Rattle.cmd_advise_split.specs.Splitting.{Splits}
use Rattle.cmd_advise_split.specs.Finding.{IsFinding}

-- the source was read to its end, and its lines have made this
pub record ReadAll (source now : SourceState) (s : State) : Type 0 where
  pub bytes : List ℕ
  pub all : TakesAll source now bytes
  pub few : length bytes < 2 ^ 64 - 1
  pub come : ComeTo (lines bytes) s

-- how reading all lines ends
abbrev pub ReadsAll : Result Unit ScriptEnd → SourceState → SourceState → State → Type 0
ReadsAll (Ok done) source now s = ReadAll source now s
ReadsAll (Err end) source now s = StopsAt Splits end source now

-- all lines were read, none of them is refused, and this is found
pub record ReadFound (source now : SourceState) (f : Found) : Type 0 where
  pub read : ReadAll source now f.state
  pub sound : f.state.stop ≡ None
  pub is : IsFinding f.state f.finding

-- how looking for choices ends
abbrev pub ReadsFound : Result Found ScriptEnd → SourceState → SourceState → Type 0
ReadsFound (Ok f) source now = ReadFound source now f
ReadsFound (Err end) source now = StopsAt Splits end source now
