-- The first line of a text, and of what is left of one.
use Rattle.std.proofs.Common.{◌≡◌, ℕ, ◌+◌, ◌-◌, ◌<◌, ◌≤◌, List, ◌∷◌, ◌++◌, length, take, drop, get_or, length-append, length-drop, length-take-le, refl, sym, ap, ◌∙◌, subst, inl, inr, arith}
use Rattle.std.proofs.lemmas.Bool.{cases_lt}
use Rattle.std.proofs.lemmas.List.{take-append-drop, take-append-le, drop_more, get_or-drop, get_or-take, get_or_append_left, get_or-append_right, length-take}
use Rattle.sql_text.specs.Lines.{lines}
use Rattle.io_line_reader.specs.Reading.{IsFirstFeed, IsPlain}
use Rattle.io_line_reader.proofs.LineTexts.{lines-fed}
use Rattle.io_row_reader.specs.Ahead.{IsEnded}
use Rattle.io_row_reader.proofs.NamesAhead.{some_ended}

-- a text as its first line and the others
pub first_line : (text : List ℕ) (len : ℕ) → IsFirstFeed text len → lines text ≡ take len text ∷ lines (drop (len + 1) text)
first_line text len feed =
    ap lines (sym (take-append-drop len text) ∙ ap (λ (r : List ℕ). take len text ++ r) (drop_more text len 0 feed.0 ∙ ap (λ (b : ℕ). b ∷ drop (len + 1) text) feed.1))
    ∙ lines-fed (take len text) (drop (len + 1) text) feed.2

-- a text that ends with LF has one
pub not_plain : (text : List ℕ) → IsEnded text → IsPlain text → ⊥
not_plain text ended plain = plain (length text - 1) 0 (omega (arith, some_ended text ended)) ended

-- the first line of what is left lies within the text
pub within : (text rest : List ℕ) (taken len : ℕ) → rest ≡ drop taken text → len < length rest → taken + (len + 1) ≤ length text
within text rest taken len at room = omega (arith, room, ap length at, length-drop taken text)

-- a first line is no longer than its place says
pub first_short : (text : List ℕ) (len : ℕ) → len < length text → len ≤ 1024 → length (take len text) ≤ 1024
first_short text len within short = omega (arith, short, length-take-le len text (omega (arith, within)))

-- the first line of a text that ends with LF, whatever stands behind it
first_within : (text rest : List ℕ) (len : ℕ) → IsEnded text → IsFirstFeed (text ++ rest) len → len < length text
first_within text rest len ended feed = elim (cases_lt len (length text)) [
  | inl less ↦ less
  | inr past ↦ (
      let some = some_ended text ended in
      let place : ℕ = length text - 1 in
      let size = length-take len (text ++ rest) in
      let whole = length-append text rest in
      let kept : get_or (take len (text ++ rest)) place 0 ≡ get_or (text ++ rest) place 0 = get_or-take len (text ++ rest) place 0 (omega (arith, some, past)) in
      let here : get_or (text ++ rest) place 0 ≡ 10 = get_or_append_left text rest 0 place (omega (arith, some)) ∙ ended in
      absurd (feed.2 place 0 (omega (arith, some, past, size, whole)) (kept ∙ here)))
]

pub first_of_text : (text rest : List ℕ) (len : ℕ) → IsEnded text → IsFirstFeed (text ++ rest) len → IsFirstFeed text len × (take len (text ++ rest) ≡ take len text)
first_of_text text rest len ended feed =
    let less = first_within text rest len ended feed in
    let same : take len (text ++ rest) ≡ take len text = take-append-le len text rest (omega (arith, less)) in
    ((less, sym (get_or_append_left text rest 0 len less) ∙ feed.1, subst IsPlain same feed.2), same)

-- a text at the front of a longer room that ends with LF
pub ended_behind : (text room : List ℕ) → length text < length room → IsEnded room → IsEnded (text ++ drop (length text) room)
ended_behind text room less ended =
    let place : ℕ = length room - 1 in
    let size : length (text ++ drop (length text) room) ≡ length room = omega (arith, less, length-append text (drop (length text) room), length-drop (length text) room) in
    let back : length text + (place - length text) ≡ place = omega (arith, less) in
    subst (λ (n : ℕ). get_or (text ++ drop (length text) room) (n - 1) 0 ≡ 10) (sym size)
    (get_or-append_right text (drop (length text) room) (length text) place 0 refl (omega (arith, less)) ∙ get_or-drop (length text) room (place - length text) 0 ∙ ap (λ (i : ℕ). get_or room i 0) back ∙ ended)
