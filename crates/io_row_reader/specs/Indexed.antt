-- What is kept beside the streams of a catalog for their rows, and which of them are open.
use Rattle.std.specs.Prelude.{◌≡◌, ℕ, ℤ, ◌+◌, ◌*◌, ◌<◌, ◌≤◌, true, List, [], ◌∷◌, length, slice_index, slice_index_or, IsTrue, Option}
use Rattle.sql_catalog.specs.Streams.{Shape, shape_at, lie_within}
use Rattle.io_row_reader.specs.declared.noted_stream.NotedStream.{NotedStream}
use Rattle.io_row_reader.specs.declared.starts.Starts.{Starts}
use Rattle.io_row_reader.specs.Open.{is_open}

-- streams, and the numbers of those that are open, or None where all are
pub record IndexedValue : Type 0 where
  pub streams : List Shape
  pub opened : Option (List ℕ)

-- What is noted of a stream is so: the byte that its name is, where one below 256 is noted; how many columns it has, 1 to 8; how many bytes
-- of a text its rows with integers of at most 15 digits take at most, with the longest name, and with one byte behind them; and that no
-- column has a domain, where that is noted.
pub record IsNoted (noted : NotedStream) (shape : Shape) : Type 0 where
  pub single : noted.single < 256 → shape.name ≡ noted.single ∷ []
  pub width : noted.width ≡ length shape.columns
  pub some : 0 < noted.width
  pub few : noted.width ≤ 8
  pub room : noted.room ≡ 16 * noted.width + 27
  pub free : noted.is_free ≡ true → (values : List ℤ) → length values ≡ length shape.columns → lie_within shape.columns values ≡ true

-- each of at most 16 streams is noted, in a table of 16
pub record IsIndexed (noted : List NotedStream) (streams : List Shape) : Type 0 where
  pub few : length streams ≤ 16
  pub room : length noted ≡ 16
  pub notes : (stream : ℕ) (none : NotedStream) → stream < length streams → IsNoted (slice_index_or noted stream none) (shape_at streams stream)

-- each stream that a byte leads to is open
abbrev pub LeadToOpen : Starts → Option (List ℕ) → Type 0
LeadToOpen starts opened = (byte : ℕ) → byte < 256 → slice_index starts.numbers byte < 16 → IsTrue (is_open opened (slice_index starts.numbers byte))
