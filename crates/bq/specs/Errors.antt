-- What the program writes to standard error.
use Rattle.std.specs.Prelude.{ℕ, Bool, true, false, ◌⊎◌, List, [], ◌++◌, codes}
use Rattle.io_streams.specs.Sink.{SinkState, Wrote, BrokeOff}
use Rattle.io_streams.specs.declared.status.Status.{Status}
use Rattle.io_streams.specs.declared.status.Status.TheVariants as status
use Rattle.bq.specs.declared.errors.TheConstants.{USAGE}

-- that the words are no form of the command, as it stands in the code
abbrev pub usage_text : List ℕ
usage_text = USAGE.now

-- that a file of this name cannot be read
abbrev pub unread_text : List ℕ → List ℕ
unread_text name = codes "bq: " ++ (name ++ codes ": cannot be read\n")

-- what is told where the program ended so, of the file of this name
abbrev pub told_of : Status → Bool → List ℕ → List ℕ
told_of status.Usage failed name = usage_text
told_of status.ReadFault true name = unread_text name
told_of status.ReadFault false name = []
told_of status.Done failed name = []
told_of status.Invalid failed name = []
told_of status.WriteFault failed name = []
told_of status.Memory failed name = []
told_of status.ByteLimit failed name = []

-- The text was written, or a front of it, and then the sink failed.
abbrev pub Tells : SinkState → SinkState → List ℕ → Type 0
Tells before after text = Wrote before after text ⊎ BrokeOff before after text
