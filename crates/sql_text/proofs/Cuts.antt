-- Where a text is cut.
use Rattle.std.proofs.Common.{◌≡◌, ℕ, ◌+◌, ◌-◌, ◌<◌, ◌≤◌, Bool, cond, nat_lt, List, [], ◌∷◌, length, take, drop, refl, ap, ◌∙◌, arith, Some, None}
use Rattle.std.specs.List.{slice_split, position, position_or_len, before_first, after_first}
use Rattle.std.proofs.lemmas.List.{take_rest}
use Rattle.std.proofs.lemmas.List.Splits.{slice_split_first, slice_split_none, length-slice_split}
use Rattle.std.proofs.lemmas.List.Sums.{position_or_len_is, fails_before_first}
use Rattle.std.proofs.lemmas.List.Quantifiers.{position-Some}
use Rattle.std.proofs.lemmas.Bool.Decides.{nat_tests}
use Rattle.sql_text.specs.Lines.{lines, without_empty_last, is_line_feed}

-- position p xs, taken apart
pub position-at : (p : ℕ → Bool) (xs : List ℕ) (i : ℕ) → position p xs ≡ Some i → (i < length xs) × (position_or_len p xs ≡ i)
position-at p xs i e =
    let h = position-Some p xs i 0 e in
    (h.0, position_or_len_is p xs i 0 (omega arith) h.2 (λ _. h.1))

none_from_cond : (a b : ℕ) → cond (nat_lt a b) (Some a) None ≡ None → b ≤ a
none_from_cond a b e = grind (arith, nat_tests)

pub slice_split-some : (p : ℕ → Bool) (xs : List ℕ) (i : ℕ) → position p xs ≡ Some i → slice_split p xs ≡ take i xs ∷ slice_split p (take (length xs - (i + 1)) (drop (i + 1) xs))
slice_split-some p xs i e =
    let h = position-at p xs i e in
    let at : position_or_len p xs ≡ i = h.1 in
    let cut : slice_split p xs ≡ before_first p xs ∷ slice_split p (after_first p xs) = slice_split_first p xs 0 (omega arith) in
    rw take_rest (cut ∙ ap (λ k. take k xs ∷ slice_split p (drop (k + 1) xs)) at)

pub slice_split-none : (p : ℕ → Bool) (xs : List ℕ) → position p xs ≡ None → slice_split p xs ≡ xs ∷ []
slice_split-none p xs e =
    let far : length xs ≤ position_or_len p xs = none_from_cond _ _ e in
    slice_split_none p xs (λ k d lt. fails_before_first p xs k d (omega arith))

more_lines : (line : List ℕ) (pieces : List (List ℕ)) → 0 < length pieces → without_empty_last (line ∷ pieces) ≡ line ∷ without_empty_last pieces
more_lines line [] lt = absurd (omega arith)
more_lines [] (piece ∷ pieces) lt = refl
more_lines (x ∷ line) (piece ∷ pieces) lt = refl

-- a line and the others
pub lines-some : (text line rest : List ℕ) → slice_split is_line_feed text ≡ line ∷ slice_split is_line_feed rest → lines text ≡ line ∷ lines rest
lines-some text line rest e = ap without_empty_last e ∙ more_lines line (slice_split is_line_feed rest) (omega (arith, length-slice_split is_line_feed rest))

-- a last line without LF
pub lines-none : (text line : List ℕ) → 0 < length text → line ≡ text → slice_split is_line_feed text ≡ line ∷ [] → lines text ≡ line ∷ []
lines-none [] line lt same e = absurd (omega arith)
lines-none (x ∷ xs) line lt same e = rw same (ap without_empty_last (e ∙ ap (λ l. l ∷ []) same))
