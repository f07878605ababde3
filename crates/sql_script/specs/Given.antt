-- What comes next in a source.
use Rattle.io_streams.specs.Source.{SourceState}
use Rattle.io_line_reader.specs.Reading.{Reading, NextLine, answer_to}
use Rattle.io_line_reader.specs.declared.reader.LineAnswer.TheVariants as answers
use Rattle.sql_script.specs.declared.given.NextGiven.{NextGiven}
use Rattle.sql_script.specs.declared.given.NextGiven.TheVariants as next

-- what comes next: a line, or none
abbrev pub GivesNext : NextGiven → Reading → Reading → SourceState → SourceState → Type 0
GivesNext (next.Given long) old new before after = NextLine (answer_to long) old new before after
GivesNext next.End old new before after = NextLine answers.End old new before after
GivesNext next.ReadFault old new before after = NextLine answers.ReadFault old new before after
GivesNext next.ByteLimit old new before after = NextLine answers.ByteLimit old new before after
