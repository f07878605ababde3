-- A text that is put before itself again and again.
use Rattle.std.proofs.Common.{◌≡◌, ℕ, zero, suc, ◌+◌, ◌-◌, ◌≤◌, ℤ, List, [], ◌++◌, length, take, drop, replicate, length-take-le, take-append-drop, append_assoc, subst, refl, ap, sym, ◌∙◌, arith}
use Rattle.std.specs.List.{flat_map}
use Rattle.std.proofs.lemmas.Simd.{put_chunk_is}
use lib.Lanes.{put_chunk}
use Rattle.std.proofs.lemmas.List.{drop-drop, drop-append-le, drop_at}
use Rattle.std.specs.Prelude.{⊤}
use Rattle.std.proofs.KnownBytes.{Appends-nil, Appends-kept}
use Rattle.std.specs.declared.result.Result.{Result}
use Rattle.std.specs.declared.result.Result.TheVariants.{Ok, Err}
use Rattle.io_streams.specs.declared.sink.WriteFault.{WriteFault}
use Rattle.io_streams.specs.declared.sink.WriteAnswer.TheVariants.{Failed}
use Rattle.io_streams.specs.Sink.{SinkState, Wrote, BrokeOff, Writes, WritesSome}
use Rattle.io_streams.proofs.Writing.{Wrote-trans, BrokeOff-then, BrokeOff-stop}
use Rattle.sql_text.specs.Tuple.{tuple_line}

-- what is put at a place stands there
pub put_at : (xs text : List ℕ) (i : ℕ) → i + length text ≤ length xs → drop i (put_chunk i xs text) ≡ text ++ drop (i + length text) xs
put_at xs text i h =
    ap (drop i) (put_chunk_is i xs text h)
    ∙ drop_at (take i xs) (text ++ drop (length text) (drop i xs)) i (length-take-le i xs (omega (arith, h)))
    ∙ ap (λ l. text ++ l) (drop-drop (length text) i xs)

-- and so does what is put before a place
pub put_before : (xs text : List ℕ) (e n : ℕ) → length text ≡ n → n ≤ e → e ≤ length xs → drop (e - n) (put_chunk (e - n) xs text) ≡ text ++ drop e xs
put_before xs text e n h room inside =
    let at : (e - n) + length text ≡ e = omega (arith, h, room) in
    put_at xs text (e - n) (omega (arith, at, inside)) ∙ ap (λ m. text ++ drop m xs) at

-- the end of what stands before a place
pub tail_before : (w : ℕ) (xs text ys : List ℕ) (e l : ℕ) → length text ≡ w → l ≤ w → w ≤ e
    → drop (e - w) xs ≡ text ++ ys → drop (e - l) xs ≡ drop (w - l) text ++ ys
tail_before w xs text ys e l n short room h =
    let at : (e - w) + (w - l) ≡ e - l = omega (arith, short, room) in
    ap (λ m. drop m xs) (sym at)
    ∙ sym (drop-drop (w - l) (e - w) xs)
    ∙ ap (drop (w - l)) h
    ∙ drop-append-le (w - l) text ys (omega (arith, n))

-- what stands behind it
pub whole_before : (xs text ys : List ℕ) (e : ℕ) → length text ≡ 16 → 16 ≤ e → drop (e - 16) xs ≡ text ++ ys → drop e xs ≡ ys
whole_before xs text ys e n room h =
    let at : (e - 16) + 16 ≡ e = omega (arith, room) in
    ap (λ m. drop m xs) (sym at) ∙ sym (drop-drop 16 (e - 16) xs) ∙ ap (drop 16) h ∙ drop_at text ys 16 n

-- the end of a room, of which the last bytes were copied
pub tail_is : (xs text : List ℕ) (s : ℕ) → text ≡ drop 512 xs → 512 ≤ s → s ≤ 528 → drop (16 - (528 - s)) text ≡ drop s xs
tail_is xs text s h low high =
    let at : 512 + (16 - (528 - s)) ≡ s = omega (arith, low, high) in
    ap (drop (16 - (528 - s))) h ∙ drop-drop (16 - (528 - s)) 512 xs ∙ ap (λ m. drop m xs) at

-- once more
pub once_more : (text : List ℕ) (n : ℕ) → text ++ flat_map (λ t. t) (replicate n text) ≡ flat_map (λ t. t) (replicate (n + 1) text)
once_more text n = ap (λ (m : ℕ). flat_map (λ (t : List ℕ). t) (replicate m text)) (let e : suc n ≡ n + 1 = omega arith in e)

-- what stands behind a place stands behind each later one
pub behind_later : (xs ys : List ℕ) (at s : ℕ) → at ≤ s → drop at xs ≡ drop at ys → drop s xs ≡ drop s ys
behind_later xs ys at s h e =
    let sum : at + (s - at) ≡ s = omega (arith, h) in
    ap (λ m. drop m xs) (sym sum) ∙ sym (drop-drop (s - at) at xs) ∙ ap (drop (s - at)) e ∙ drop-drop (s - at) at ys ∙ ap (λ m. drop m ys) sum

-- copies one after another
copies_more : (text : List ℕ) (m n : ℕ) → flat_map (λ (t : List ℕ). t) (replicate (m + n) text) ≡ flat_map (λ t. t) (replicate m text) ++ flat_map (λ t. t) (replicate n text)
copies_more text zero n = ap (λ (k : ℕ). flat_map (λ (t : List ℕ). t) (replicate k text)) (let e : 0 + n ≡ n = omega arith in e)
copies_more text (suc m) n =
    ap (λ (k : ℕ). flat_map (λ (t : List ℕ). t) (replicate k text)) (let e : suc m + n ≡ suc (m + n) = omega arith in e)
    ∙ ap (λ l. text ++ l) (copies_more text m n)
    ∙ sym (append_assoc text (flat_map (λ (t : List ℕ). t) (replicate m text)) (flat_map (λ (t : List ℕ). t) (replicate n text)))

-- one and so many copies more
pub one_and_more : (t u : List ℕ) (m n : ℕ) → t ≡ u → m + 1 ≡ n
    → flat_map (λ (text : List ℕ). text) (replicate (m + 1) t) ≡ flat_map (λ (text : List ℕ). text) (replicate n u)
one_and_more t u m n h e =
    ap (λ (k : ℕ). flat_map (λ (text : List ℕ). text) (replicate k t)) e ∙ ap (λ (x : List ℕ). flat_map (λ (text : List ℕ). text) (replicate n x)) h

-- a front was written, and then the rest or a front of it
pub front_and_rest : (text : List ℕ) (n : ℕ) (a b c : SinkState) (result : Result ⊤ WriteFault) → Wrote a b (take n text) → Writes result b c (drop n text) → Writes result a c text
front_and_rest text n a b c (Ok x) w o = subst (Wrote a c) (take-append-drop n text) (Wrote-trans a b c _ _ w o)
front_and_rest text n a b c (Err e) w o = subst (BrokeOff a c) (take-append-drop n text) (BrokeOff-then a b c _ _ w o)

-- nothing of a text was written
pub broke_at_once : (text : List ℕ) (a b : SinkState) → WritesSome Failed text a b → BrokeOff a b text
broke_at_once text a b w = record { front = []; rest = text; whole = refl; wrote = record { bytes = Appends-kept a.written a.written b.written [] (Appends-nil a.written) w.1; later = w.2 }; rose = w.0 }

module _ (text : List ℕ) (a b c : SinkState) where
  -- so many copies more were written
  pub wrote_more : (times left count : ℕ) → left ≤ times → count ≤ left
      → Wrote a b (flat_map (λ t. t) (replicate (times - left) text)) → Wrote b c (flat_map (λ t. t) (replicate count text))
      → Wrote a c (flat_map (λ t. t) (replicate (times - (left - count)) text))
  wrote_more times left count l m w o =
      let e : (times - left) + count ≡ times - (left - count) = omega (arith, l, m) in
      subst (Wrote a c) (sym (copies_more text (times - left) count) ∙ ap (λ (k : ℕ). flat_map (λ (t : List ℕ). t) (replicate k text)) e) (Wrote-trans a b c _ _ w o)

  -- they broke off
  pub broke_more : (times left count : ℕ) → left ≤ times → count ≤ left
      → Wrote a b (flat_map (λ t. t) (replicate (times - left) text)) → BrokeOff b c (flat_map (λ t. t) (replicate count text))
      → BrokeOff a c (flat_map (λ t. t) (replicate times text))
  broke_more times left count l m w o =
      let e : ((times - left) + count) + (left - count) ≡ times = omega (arith, l, m) in
      subst (BrokeOff a c)
      (sym (copies_more text ((times - left) + count) (left - count) ∙ ap (λ u. u ++ flat_map (λ (t : List ℕ). t) (replicate (left - count) text)) (copies_more text (times - left) count))
      ∙ ap (λ (k : ℕ). flat_map (λ (t : List ℕ). t) (replicate k text)) e)
      (BrokeOff-stop a c _ _ (BrokeOff-then a b c _ _ w o))

module _ (name : List ℕ) (t : List ℤ) where
  each_line : (n : ℕ) → flat_map (λ text. text) (replicate n (tuple_line name t)) ≡ flat_map (tuple_line name) (replicate n t)
  each_line zero = refl
  each_line (suc n) = ap (λ l. tuple_line name t ++ l) (each_line n)

  -- the line of a tuple so many times
  pub lines_of_text : (text : List ℕ) (n : ℕ) → text ≡ tuple_line name t → flat_map (λ text. text) (replicate n text) ≡ flat_map (tuple_line name) (replicate n t)
  lines_of_text text n h = ap (λ (x : List ℕ). flat_map (λ (text : List ℕ). text) (replicate n x)) h ∙ each_line n
