-- What the program does, by its first word.
use Rattle.std.specs.Prelude.{◌≡◌, ℕ, Bool, true, false, List, [], ◌∷◌, length, codes, map, String, get_or, if◌then◌else◌}
use Rattle.std.specs.Str.{bytes_eq}
use Rattle.std.specs.String.{string_bytes}
use Rattle.std.specs.declared.alloc.Global.{Global}
use Rattle.io_streams.specs.declared.status.Status.{Status}
use Rattle.io_streams.specs.Source.{SourceState}
use Rattle.io_streams.specs.Sink.{SinkState}
use Rattle.cmd_dispatch.specs.Ends.{Ends}
use Rattle.cmd_feeds.specs.FeedsEnd.{FeedsEnd}
use Rattle.bq.specs.Errors.{Tells, told_of}

-- the first word is `feeds`
abbrev pub asks_feeds : List (List ℕ) → Bool
asks_feeds [] = false
asks_feeds (first ∷ others) = bytes_eq first (codes "feeds")

-- the place of the script of feeds among the words behind the first, from the first on: `--script FILE` stands there, or behind `--rows N`
abbrev pub script_place : List (List ℕ) → ℕ
script_place [] = 4
script_place (option ∷ others) = if bytes_eq option (codes "--script") then 2 else 4

-- the place of the word that names the file which is read first, where the words name one: the script of feeds, or the last word
abbrev pub file_place : List (List ℕ) → ℕ
file_place [] = 0
file_place (first ∷ others) = if bytes_eq first (codes "feeds") then script_place others else length others

-- that word
abbrev pub file_name : List (List ℕ) → List ℕ
file_name texts = get_or texts (file_place texts) []

-- With `feeds` first, a session over the feeds, which leaves the input as it was; else what `run` does.
abbrev pub Serves : Bool → Status → Bool → List (String Global) → SourceState → SourceState → List SourceState → List SourceState → SinkState → SinkState → Type 0
Serves true result failed words source source' sources nows sink sink' = FeedsEnd result failed words sources nows sink sink' × (source' ≡ source)
Serves false result failed words source source' sources nows sink sink' = Ends result failed words source source' sources nows sink sink'

-- The program did this, and told on standard error what there is to tell, or a front of it, and nothing else.
pub record Served (result : Status) (words : List (String Global)) (source source' : SourceState) (sources nows : List SourceState) (sink sink' : SinkState) (errors errors' : SinkState) : Type 0 where
  pub failed : Bool
  pub serves : Serves (asks_feeds (map string_bytes words)) result failed words source source' sources nows sink sink'
  pub tells : Tells errors errors' (told_of result failed (file_name (map string_bytes words)))
