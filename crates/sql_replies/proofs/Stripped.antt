-- What is left of a line is no longer than the line.
use Rattle.std.proofs.Common.{◌≡◌, ℕ, ◌-◌, ◌≤◌, Bool, true, false, cond, List, length, take, drop, length-drop, arith}
use Rattle.std.specs.List.{prefix_len, suffix_len}
use Rattle.std.specs.Io.BufRead.{ends_with_byte, strip_last}
use Rattle.std.proofs.lemmas.List.{length-take}
use Rattle.sql_text.specs.Blank.{is_blank, without_blanks_before, trimmed}
use Rattle.sql_parser.specs.LineKind.{stripped}

front-short : (n : ℕ) (text : List ℕ) → length (take n text) ≤ length text
front-short n text = omega (arith, length-take n text)

rest-short : (n : ℕ) (text : List ℕ) → length (drop n text) ≤ length text
rest-short n text = omega (arith, length-drop n text)

trimmed-short : (text : List ℕ) → length (trimmed text) ≤ length text
unfolding trimmed
trimmed-short text =
    let rest = without_blanks_before text in
    omega (arith, front-short (length rest - suffix_len is_blank rest) rest, rest-short (prefix_len is_blank text) text)

cut-short : (b : Bool) (text : List ℕ) → length (cond b (take (length text - 1) text) text) ≤ length text
cut-short true text = front-short (length text - 1) text
cut-short false text = omega arith

pub stripped-short : (line text : List ℕ) → text ≡ stripped line → length line ≤ 1024 → length text ≤ 1024
stripped-short line text e short =
    rw e (omega (arith, short, trimmed-short (strip_last 13 line), cut-short (ends_with_byte 13 line) line))
