-- Texts that are cut at a line end.
use Rattle.std.proofs.Common.{◌≡◌, ℕ, ◌<◌, Bool, true, false, cond, List, [], ◌∷◌, ◌++◌, length, refl, sym, ap, ◌∙◌, append-nil, arith}
use Rattle.std.specs.List.{slice_split, onto_first}
use Rattle.std.proofs.lemmas.List.Splits.{length-slice_split}
use Rattle.sql_text.specs.Lines.{lines, without_empty_last, is_line_feed}
use Rattle.sql_text.specs.Laws.{CutsAtLineEnd}

onto_first-append : (x : ℕ) (parts others : List (List ℕ)) → 0 < length parts → onto_first x (parts ++ others) ≡ onto_first x parts ++ others
onto_first-append x [] others h = absurd (omega arith)
onto_first-append x (part ∷ parts) others h = refl

-- the parts of a text behind which a line ends, and those of the rest
slice_split-append : (front rest : List ℕ) → slice_split is_line_feed (front ++ 10 ∷ rest) ≡ slice_split is_line_feed front ++ slice_split is_line_feed rest
slice_split-append [] rest = refl
slice_split-append (x ∷ front) rest = by (is_line_feed x) (slice_split-append front rest)
  where
    by : (b : Bool) → slice_split is_line_feed (front ++ 10 ∷ rest) ≡ slice_split is_line_feed front ++ slice_split is_line_feed rest
        → cond b ([] ∷ slice_split is_line_feed (front ++ 10 ∷ rest)) (onto_first x (slice_split is_line_feed (front ++ 10 ∷ rest))) ≡ cond b ([] ∷ slice_split is_line_feed front) (onto_first x (slice_split is_line_feed front)) ++ slice_split is_line_feed rest
    by true e = ap (λ l. [] ∷ l) e
    by false e = ap (onto_first x) e ∙ onto_first-append x (slice_split is_line_feed front) (slice_split is_line_feed rest) (omega (arith, length-slice_split is_line_feed front))

without_empty_last-cons : (part : List ℕ) (parts : List (List ℕ)) → 0 < length parts → without_empty_last (part ∷ parts) ≡ part ∷ without_empty_last parts
without_empty_last-cons part [] h = absurd (omega arith)
without_empty_last-cons [] (other ∷ parts) h = refl
without_empty_last-cons (x ∷ part) (other ∷ parts) h = refl

length-more : (parts others : List (List ℕ)) → 0 < length others → 0 < length (parts ++ others)
length-more [] others h = h
length-more (part ∷ parts) others h = omega arith

-- the last part alone may be none
without_empty_last-append : (parts others : List (List ℕ)) → 0 < length others → without_empty_last (parts ++ others) ≡ parts ++ without_empty_last others
without_empty_last-append [] others h = refl
without_empty_last-append (part ∷ parts) others h = without_empty_last-cons part (parts ++ others) (length-more parts others h) ∙ ap (λ l. part ∷ l) (without_empty_last-append parts others h)

-- each line of a text that ends with LF ends with one
lines-ended : (front : List ℕ) → lines (front ++ 10 ∷ []) ≡ slice_split is_line_feed front
lines-ended front =
    ap without_empty_last (slice_split-append front []) ∙ without_empty_last-append (slice_split is_line_feed front) ([] ∷ []) (omega arith)
    ∙ append-nil (slice_split is_line_feed front)

pub cuts_at_line_end : CutsAtLineEnd
cuts_at_line_end front rest =
    ap without_empty_last (slice_split-append front rest)
    ∙ without_empty_last-append (slice_split is_line_feed front) (slice_split is_line_feed rest) (omega (arith, length-slice_split is_line_feed rest))
    ∙ ap (λ l. l ++ lines rest) (sym (lines-ended front))
