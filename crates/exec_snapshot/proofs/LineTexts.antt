-- The text of lines that are written one after another.
use Rattle.std.proofs.Common.{◌≡◌, ℕ, ◌+◌, ◌<◌, List, [], ◌∷◌, ◌++◌, length, get_or, take, map, flat_map, Result, Ok, Err, refl, sym, ap, ◌∙◌, subst, append-nil}
use Rattle.std.proofs.lemmas.List.{take_more}
use Rattle.std.proofs.lemmas.List.Concat.{flat_map-append}
use Rattle.io_streams.specs.Sink.{SinkState, Wrote, BrokeOff, Writes}
use Rattle.io_streams.proofs.Writing.{Wrote-trans, BrokeOff-then, BrokeOff-at}
use Rattle.exec_snapshot.specs.Lines.{text_of_lines}

pub lines_append : (xs ys : List (List ℕ)) → text_of_lines (xs ++ ys) ≡ text_of_lines xs ++ text_of_lines ys
lines_append xs ys = flat_map-append (λ (line : List ℕ). line ++ 10 ∷ []) xs ys

pub one_line : (line : List ℕ) → text_of_lines (line ∷ []) ≡ line ++ 10 ∷ []
one_line line = append-nil (line ++ 10 ∷ [])

-- a line for each item, and lines for each item
pub each_line : {X : Type 0} (f : X → List ℕ) (xs : List X) → text_of_lines (map f xs) ≡ flat_map (λ (x : X). f x ++ 10 ∷ []) xs
each_line f [] = refl
each_line f (x ∷ xs) = ap (λ t. (f x ++ 10 ∷ []) ++ t) (each_line f xs)

pub each_lines : {X : Type 0} (g : X → List (List ℕ)) (xs : List X) → text_of_lines (flat_map g xs) ≡ flat_map (λ (x : X). text_of_lines (g x)) xs
each_lines g [] = refl
each_lines g (x ∷ xs) = lines_append (g x) (flat_map g xs) ∙ ap (λ t. text_of_lines (g x) ++ t) (each_lines g xs)

-- the text of one more item
text_more : {X : Type 0} (f : X → List ℕ) (xs : List X) (i : ℕ) (d : X) → i < length xs → flat_map f (take (i + 1) xs) ≡ flat_map f (take i xs) ++ f (get_or xs i d)
text_more f xs i d lt =
    ap (flat_map f) (take_more xs i d lt) ∙ flat_map-append f (take i xs) (get_or xs i d ∷ [])
    ∙ ap (λ t. flat_map f (take i xs) ++ t) (append-nil (f (get_or xs i d)))

-- the text of one more item was written, and the texts of all were
pub wrote_more : {X : Type 0} (f : X → List ℕ) (xs : List X) (i : ℕ) (d : X) (a b c : SinkState) → i < length xs → Wrote a b (flat_map f (take i xs)) → Wrote b c (f (get_or xs i d)) → Wrote a c (flat_map f (take (i + 1) xs))
wrote_more f xs i d a b c lt p q = subst (Wrote a c) (sym (text_more f xs i d lt)) (Wrote-trans a b c _ _ p q)

-- the text of an item broke off behind those of the items before it
pub broke_at : {X : Type 0} (f : X → List ℕ) (xs : List X) (i : ℕ) (d : X) (a b c : SinkState) → i < length xs → Wrote a b (flat_map f (take i xs)) → BrokeOff b c (f (get_or xs i d)) → BrokeOff a c (flat_map f xs)
broke_at f xs i d a b c lt p q = BrokeOff-at f xs i d a b c lt p q

-- one more text behind a text that was written, and the end of a line
pub writes_after : {T E : Type 0} (r : Result T E) (a b c : SinkState) (s t : List ℕ) → Wrote a b s → Writes r b c t → Writes r a c (s ++ t)
writes_after (Ok x) a b c s t p q = Wrote-trans a b c s t p q
writes_after (Err e) a b c s t p q = BrokeOff-then a b c s t p q

pub writes_end : {T E : Type 0} (r : Result T E) (a b c : SinkState) (line : List ℕ) → Wrote a b line → Writes r b c (10 ∷ []) → Writes r a c (text_of_lines (line ∷ []))
writes_end r a b c line p q = subst (Writes r a c) (sym (one_line line)) (writes_after r a b c line (10 ∷ []) p q)
