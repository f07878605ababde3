-- Rows that are given to a session, one after another.
use Rattle.std.proofs.Common.{◌≡◌, ℕ, ◌+◌, ◌^◌, ◌<◌, ◌≤◌, Bool, false, List, [], ◌∷◌, ◌++◌, length, take, drop, refl, ap, ◌∙◌, arith, Option}
use Rattle.std.proofs.lemmas.List.{drop-drop, length-take}
use Rattle.io_line_reader.specs.Reading.{IsBuffered, Reading}
use Rattle.io_line_reader.proofs.Pieces.{cut-at}
use Rattle.io_row_reader.specs.Counted.{IsSomeRowAhead}
use Rattle.sql_catalog.specs.Streams.{Shape}
use Rattle.io_row_reader.proofs.LinesCounted.{stands}

-- what a reader keeps when so many lines were given up to a place
abbrev pub reader_at : Reading → ℕ → ℕ → List ℕ → Reading
reader_at old count end line = record old { ahead = drop end old.ahead; line = line; lines = old.lines + count }

-- what a reader has room for
pub record HasRoom (old : Reading) (count : ℕ) : Type 0 where
  pub counted : (old.lines + count ≤ old.taken) × (old.taken < 2 ^ 64)
  pub ended : old.ended ≡ false
  pub unfailed : old.failed ≡ false

-- one row more is given
pub row_given : (old : Reading) (streams : List Shape) (opened : Option (List ℕ)) (before begin len : ℕ) (line : List ℕ) → HasRoom old (before + 1) → begin ≤ length old.ahead → IsSomeRowAhead streams opened (drop begin (old.ahead ++ 10 ∷ [])) len
    → IsBuffered (reader_at old before begin line) (reader_at old (before + 1) (begin + len + 1) (take len (drop begin old.ahead)))
row_given old streams opened before begin len line room inside row =
    let rest = drop begin old.ahead in
    let is = stands streams opened old.ahead begin len inside row in
    let later : drop (len + 1) rest ≡ drop (begin + len + 1) old.ahead = drop-drop (len + 1) begin old.ahead ∙ ap (λ n. drop n old.ahead) (omega arith) in
    record {
      whole = cut-at rest len 10 is.feed.0 is.feed.1 ∙ ap (λ l. take len rest ++ 10 ∷ l) later;
      plain = is.feed.2;
      short = omega (arith, length-take len rest, is.short);
      taken = refl;
      lines = omega arith;
      counted = (omega (arith, room.counted.0), room.counted.1);
      ended = (room.ended, room.ended);
      unfailed = (room.unfailed, room.unfailed);
    }

-- a reader is told by what it keeps
pub reading_is : (r s : Reading) → r.ahead ≡ s.ahead → r.line ≡ s.line → r.taken ≡ s.taken → r.lines ≡ s.lines → r.ended ≡ s.ended → r.failed ≡ s.failed → r ≡ s
reading_is r s ahead line taken lines ended failed =
    ap (λ (x : List ℕ). record r { ahead = x }) ahead
    ∙ ap (λ (x : List ℕ). record r { ahead = s.ahead; line = x }) line
    ∙ ap (λ (x : ℕ). record r { ahead = s.ahead; line = s.line; taken = x }) taken
    ∙ ap (λ (x : ℕ). record r { ahead = s.ahead; line = s.line; taken = s.taken; lines = x }) lines
    ∙ ap (λ (x : Bool). record r { ahead = s.ahead; line = s.line; taken = s.taken; lines = s.lines; ended = x }) ended
    ∙ ap (λ (x : Bool). record s { failed = x }) failed
