-- The lines of a text that is made whole, and of what follows.
use Rattle.std.proofs.Common.{◌≡◌, ℕ, ◌<◌, Bool, true, false, cond, List, [], ◌∷◌, ◌++◌, length, refl, sym, ap, ◌∙◌, append_assoc, append-nil, arith}
use Rattle.std.specs.List.{slice_split, onto_first}
use Rattle.std.proofs.lemmas.Bool.Decides.{nat_tests}
use Rattle.sql_text.specs.Lines.{lines, without_empty_last, is_line_feed}
use Rattle.sql_text.proofs.LinesInPieces.{cuts_at_line_end}
use Rattle.cmd_each.specs.OneLine.{ends_in_feed}
use Rattle.cmd_dispatch.specs.Behind.{whole}

-- the last of some parts has a byte
LastFull : List (List ℕ) → Type 0
LastFull [] = ⊥
LastFull (part ∷ []) = 0 < length part
LastFull (part ∷ other ∷ parts) = LastFull (other ∷ parts)

full-behind : (part : List ℕ) (parts : List (List ℕ)) → LastFull parts → LastFull (part ∷ parts)
unfolding LastFull
full-behind part [] h = absurd h
full-behind part (other ∷ parts) h = h

full-onto : (x : ℕ) (parts : List (List ℕ)) → LastFull parts → LastFull (onto_first x parts)
unfolding LastFull
full-onto x [] h = absurd h
full-onto x (part ∷ []) h = omega arith
full-onto x (part ∷ other ∷ parts) h = h

last-full : (x : ℕ) (text : List ℕ) → ends_in_feed (x ∷ text) ≡ false → LastFull (slice_split is_line_feed (x ∷ text))
unfolding LastFull
last-full x [] e = by (is_line_feed x) e
  where
    by : (b : Bool) → b ≡ false → LastFull (cond b ([] ∷ [] ∷ []) (onto_first x ([] ∷ [])))
    by true e = cc
    by false e = omega arith
last-full x (y ∷ text) e = by (is_line_feed x) (last-full y text e)
  where
    by : (b : Bool) → LastFull (slice_split is_line_feed (y ∷ text)) → LastFull (cond b ([] ∷ slice_split is_line_feed (y ∷ text)) (onto_first x (slice_split is_line_feed (y ∷ text))))
    by true h = full-behind [] (slice_split is_line_feed (y ∷ text)) h
    by false h = full-onto x (slice_split is_line_feed (y ∷ text)) h

full-kept : (parts : List (List ℕ)) → LastFull parts → without_empty_last parts ≡ parts
unfolding LastFull
full-kept [] h = refl
full-kept ([] ∷ []) h = absurd (omega (arith, h))
full-kept ((x ∷ part) ∷ []) h = refl
full-kept ([] ∷ other ∷ parts) h = ap (λ l. [] ∷ l) (full-kept (other ∷ parts) h)
full-kept ((x ∷ part) ∷ other ∷ parts) h = ap (λ l. (x ∷ part) ∷ l) (full-kept (other ∷ parts) h)

-- an LF behind a text adds a part that is empty
onto-more : (x : ℕ) (parts : List (List ℕ)) → LastFull parts → onto_first x (parts ++ [] ∷ []) ≡ onto_first x parts ++ [] ∷ []
unfolding LastFull
onto-more x [] h = absurd h
onto-more x (part ∷ parts) h = refl

split-fed : (x : ℕ) (text : List ℕ) → ends_in_feed (x ∷ text) ≡ false → slice_split is_line_feed ((x ∷ text) ++ 10 ∷ []) ≡ slice_split is_line_feed (x ∷ text) ++ [] ∷ []
split-fed x [] e = by (is_line_feed x)
  where
    by : (b : Bool) → cond b ([] ∷ [] ∷ [] ∷ []) (onto_first x ([] ∷ [] ∷ [])) ≡ cond b ([] ∷ [] ∷ []) (onto_first x ([] ∷ [])) ++ [] ∷ []
    by true = refl
    by false = refl
split-fed x (y ∷ text) e = by (is_line_feed x) (split-fed y text e) (last-full y text e)
  where
    by : (b : Bool) → slice_split is_line_feed ((y ∷ text) ++ 10 ∷ []) ≡ slice_split is_line_feed (y ∷ text) ++ [] ∷ [] → LastFull (slice_split is_line_feed (y ∷ text))
        → cond b ([] ∷ slice_split is_line_feed ((y ∷ text) ++ 10 ∷ [])) (onto_first x (slice_split is_line_feed ((y ∷ text) ++ 10 ∷ []))) ≡ cond b ([] ∷ slice_split is_line_feed (y ∷ text)) (onto_first x (slice_split is_line_feed (y ∷ text))) ++ [] ∷ []
    by true same h = ap (λ l. [] ∷ l) same
    by false same h = ap (onto_first x) same ∙ onto-more x (slice_split is_line_feed (y ∷ text)) h

drops-empty : (parts : List (List ℕ)) → LastFull parts → without_empty_last (parts ++ [] ∷ []) ≡ parts
unfolding LastFull
drops-empty [] h = absurd h
drops-empty ([] ∷ []) h = absurd (omega (arith, h))
drops-empty ((x ∷ part) ∷ []) h = refl
drops-empty ([] ∷ other ∷ parts) h = ap (λ l. [] ∷ l) (drops-empty (other ∷ parts) h)
drops-empty ((x ∷ part) ∷ other ∷ parts) h = ap (λ l. (x ∷ part) ∷ l) (drops-empty (other ∷ parts) h)

-- an LF behind the last line makes no line more
lines-fed-once : (x : ℕ) (text : List ℕ) → ends_in_feed (x ∷ text) ≡ false → lines ((x ∷ text) ++ 10 ∷ []) ≡ lines (x ∷ text)
lines-fed-once x text e =
    let full = last-full x text e in
    ap without_empty_last (split-fed x text e) ∙ drops-empty (slice_split is_line_feed (x ∷ text)) full ∙ sym (full-kept (slice_split is_line_feed (x ∷ text)) full)

fed-front : (text : List ℕ) → ends_in_feed text ≡ true → (front : List ℕ) × (text ≡ front ++ 10 ∷ [])
fed-front [] e = cc
fed-front (b ∷ []) e = ([], ap (λ (x : ℕ). x ∷ []) (grind (arith, nat_tests)))
fed-front (b ∷ c ∷ text) e = let h = fed-front (c ∷ text) e in (b ∷ h.0, ap (λ l. b ∷ l) h.1)

-- the lines of a text that is made whole, and then those of what follows
pub lines-whole : (file rest : List ℕ) → lines (whole file ++ rest) ≡ lines file ++ lines rest
lines-whole [] rest = refl
lines-whole (b ∷ text) rest = by (ends_in_feed (b ∷ text)) refl
  where
    by : (fed : Bool) → ends_in_feed (b ∷ text) ≡ fed → lines (cond fed (b ∷ text) ((b ∷ text) ++ 10 ∷ []) ++ rest) ≡ lines (b ∷ text) ++ lines rest
    by true e =
        let h = fed-front (b ∷ text) e in
        ap (λ (l : List ℕ). lines (l ++ rest)) h.1 ∙ ap lines (append_assoc h.0 (10 ∷ []) rest) ∙ cuts_at_line_end h.0 rest ∙ ap (λ (l : List ℕ). lines l ++ lines rest) (sym h.1)
    by false e = ap lines (append_assoc (b ∷ text) (10 ∷ []) rest) ∙ cuts_at_line_end (b ∷ text) rest ∙ ap (λ (ls : List (List ℕ)). ls ++ lines rest) (lines-fed-once b text e)

-- a text that is made whole has the same lines
pub lines-made : (file : List ℕ) → lines (whole file) ≡ lines file
lines-made file = ap lines (sym (append-nil (whole file))) ∙ lines-whole file [] ∙ append-nil (lines file)
