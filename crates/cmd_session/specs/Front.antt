-- What stands at the front of a text.
use Rattle.std.specs.Prelude.{◌≡◌, ℕ, ℤ, ◌<◌, List, IsTrue}
use Rattle.io_row_reader.specs.Ahead.{IsRowAhead}
use Rattle.io_row_reader.specs.Open.{is_open}
use Rattle.cmd_session.specs.declared.front.Front.{Front}
use Rattle.cmd_session.specs.declared.front.Front.TheVariants.{Counted, Row, Other}
use Rattle.cmd_session.specs.Counted.{AreCounted}
use Rattle.cmd_session.specs.Lock.{open_in}
use Rattle.cmd_session.specs.Session.{SessionValue}

-- some rows there were counted; or the first line is this row of an open stream, and nothing was done; or nothing is said, and nothing was done
abbrev pub IsFront : Front → List ℕ → SessionValue → List ℤ → SessionValue → Type 0
IsFront (Counted rows) text old row new = (0 < rows.count) × AreCounted text old rows.count rows.begin rows.end new
IsFront (Row stream len) text old row new = (new ≡ old) × IsRowAhead new.streams text stream len row × IsTrue (is_open (open_in new.lock) stream)
IsFront Other text old row new = new ≡ old
