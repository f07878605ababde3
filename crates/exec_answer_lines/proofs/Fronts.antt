-- A text that is put behind others.
use Rattle.std.proofs.Common.{◌≡◌, ℕ, ℤ, ◌+◌, ◌≤◌, List, ◌++◌, ◌∷◌, [], length, take, drop, length-take-le, take-append-drop, append_assoc, ap, sym, ◌∙◌, arith}
use Rattle.std.proofs.lemmas.Simd.{put_chunk_is}
use lib.Lanes.{put_chunk}
use Rattle.std.proofs.Math.Seq.{take-append-add}
use Rattle.sql_text.specs.Tuple.{tuple_text, tuple_line}
use Rattle.std.proofs.lemmas.List.{drop_at, take-append-le}

-- the front of a text that is put at a place stands there
pub put_front : (xs text : List ℕ) (at len : ℕ) → at + length text ≤ length xs → len ≤ length text → take (at + len) (put_chunk at xs text) ≡ take at xs ++ take len text
put_front xs text at len room short =
    let front = length-take-le at xs (omega (arith, room)) in
    ap (take (at + len)) (put_chunk_is at xs text room)
    ∙ ap (λ n. take (n + len) (take at xs ++ (text ++ drop (length text) (drop at xs)))) (sym front)
    ∙ take-append-add (take at xs) (text ++ drop (length text) (drop at xs)) len
    ∙ ap (λ l. take at xs ++ l) (take-append-le len text (drop (length text) (drop at xs)) short)

-- a text that was put at a place stands there, before what was behind it
pub put_there : (xs ys text : List ℕ) (at end : ℕ) → at ≤ length xs → take end ys ≡ take at xs ++ text → drop end ys ≡ drop end xs → drop at ys ≡ text ++ drop end xs
put_there xs ys text at end inside front behind =
    ap (drop at)
    (sym (take-append-drop end ys) ∙ ap (λ l. l ++ drop end ys) front ∙ ap (λ l. (take at xs ++ text) ++ l) behind ∙ append_assoc (take at xs) text (drop end xs))
    ∙ drop_at (take at xs) (text ++ drop end xs) at (length-take-le at xs inside)

-- a name that was put before the values of a tuple makes its line
pub line_there : (values room name : List ℕ) (tuple : List ℤ) (start end behind : ℕ) → start + length name ≡ end → end ≤ length values → behind ≡ start + length name
    → drop end values ≡ tuple_text tuple ++ 10 ∷ [] → take behind room ≡ take start values ++ name → drop behind room ≡ drop behind values
    → drop start room ≡ tuple_line name tuple
line_there values room name tuple start end behind long inside at text front rest =
    put_there values room name start behind (omega (arith, long, inside)) front rest
    ∙ ap (λ n. name ++ drop n values) (at ∙ long)
    ∙ ap (λ l. name ++ l) text
    ∙ sym (append_assoc name (tuple_text tuple) (10 ∷ []))
