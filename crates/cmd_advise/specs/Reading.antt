-- How reading all lines ends.
use Rattle.std.specs.Prelude.{ℕ, ◌-◌, ◌^◌, ◌<◌, List, length}
use Rattle.std.specs.declared.result.Result.{Result}
use Rattle.std.specs.declared.result.Result.TheVariants.{Ok, Err}
use Rattle.io_streams.specs.Source.{SourceState}
use Rattle.sql_text.specs.Lines.{lines}
use Rattle.io_line_reader.specs.Reading.{TakesAll}
use Rattle.sql_script.specs.declared.end.ScriptEnd.{ScriptEnd}
use Rattle.sql_script.specs.Ending.{StopsAt}
use Rattle.cmd_advise.specs.declared.report.Report.{Report}
use Rattle.cmd_advise.specs.State.{State}
use Rattle.cmd_advise.specs.Advising.{ComeTo, Advises}

-- the source was read to its end, and its lines come to this text and this state
pub record ReadAll (source now : SourceState) (text : List ℕ) (s : State) : Type 0 where
  pub bytes : List ℕ
  pub all : TakesAll source now bytes
  pub few : length bytes < 2 ^ 64 - 1
  pub come : ComeTo (lines bytes) text s

-- how reading all lines ends, with what they have made and what is said of them
abbrev pub ReadsTold : Result Report ScriptEnd → SourceState → SourceState → Type 0
ReadsTold (Ok told) source now = ReadAll source now told.held.bytes told.state
ReadsTold (Err end) source now = StopsAt Advises end source now
