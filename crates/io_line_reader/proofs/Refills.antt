-- A read behind the tail of what was ahead.
use Rattle.std.proofs.Common.{◌≡◌, ℕ, ◌+◌, ◌-◌, ◌^◌, ◌<◌, ◌≤◌, ◌≢◌, get_or, nat_lt, List, [], ◌∷◌, ◌++◌, length, take, drop, set, refl, sym, ap, ◌∙◌, arith, append_assoc, length-drop, length-append, append-nil, zero, suc, Bool, true, false, ◌⊎◌, inl, inr}
use Rattle.std.proofs.lemmas.Bool.{true≢false, false≢true}
use Rattle.std.proofs.lemmas.Bool.Decides.{nat_tests}
use Rattle.std.proofs.lemmas.List.{length-take, length-take-le, take-append-le, take_all, take-set, get_or-set_same}
use Rattle.std.proofs.lemmas.List.Edits.{take-paste, get_or-between}
use Rattle.std.proofs.lemmas.List.Elements.{All-take}
use Rattle.std.proofs.lemmas.Slice.{between_from_start}
use Rattle.std.proofs.Math.Seq.{take-append-add}
use Rattle.std.specs.List.{slice_range, copy_within}
use Rattle.io_streams.specs.Source.{SourceState, ReadsSome}
use Rattle.io_streams.specs.declared.source.ReadAnswer.{ReadAnswer}
use Rattle.io_streams.specs.declared.source.ReadAnswer.TheVariants.{Got, End, Failed}
use Rattle.io_line_reader.specs.Reading.{IsPlain, IsBegun}
use Rattle.io_line_reader.specs.Buffers.{IsSound, read_len}
use Rattle.io_line_reader.proofs.Pieces.{range-none, length-range, short-range, take-within, later-plain, plain-more}

-- whether a line is too long, where so many bytes more are of it
abbrev pub Grows : Bool → ℕ → Bool → Type 0
Grows was len long = ((was ≡ true) × (long ≡ true)) ⊎ ((was ≡ false) × (long ≡ nat_lt 1024 len))

-- whether what was ahead is dropped, or is the tail that is moved to the front
abbrev pub Drops : Bool → ℕ → ℕ → Type 0
Drops long len tail = ((long ≡ true) × (tail ≡ 0)) ⊎ ((long ≡ false) × (tail ≡ len))

-- what is kept of what was ahead, and what is skipped
pub record Kept (long : Bool) (skipped rest : List ℕ) (tail : ℕ) : Type 0 where
  pub begun : List ℕ
  pub whole : skipped ++ rest ≡ begun ++ take tail rest
  pub held : IsBegun long [] begun
  pub plain : IsPlain begun
  pub within : tail ≤ length rest
  pub short : tail ≤ 1024

kept-none : (long : Bool) (skipped rest : List ℕ) (tail : ℕ) → long ≡ true → tail ≡ 0 → IsPlain (skipped ++ rest) → 1024 < length (skipped ++ rest) → Kept long skipped rest tail
kept-none long skipped rest tail e z plain far = rw (e, z) record {
  begun = skipped ++ rest;
  whole = sym (append-nil (skipped ++ rest));
  held = far;
  plain = plain;
  within = omega arith;
  short = omega arith;
}

kept-all : (long : Bool) (skipped rest : List ℕ) (tail : ℕ) → long ≡ false → tail ≡ length rest → [] ≡ skipped → length rest ≤ 1024 → Kept long skipped rest tail
kept-all long skipped rest tail e z none few = rw (e, z) record {
  begun = [];
  whole = ap (λ l. l ++ rest) (sym none) ∙ sym (take_all (length rest) rest (omega arith));
  held = refl;
  plain = λ k d lt. absurd (omega (arith, lt));
  within = omega arith;
  short = few;
}

lt-true : (n : ℕ) → nat_lt 1024 n ≡ true → 1024 < n
lt-true n e = grind (arith, nat_tests, e)

lt-false : (n : ℕ) → nat_lt 1024 n ≡ false → n ≤ 1024
lt-false n e = grind (arith, nat_tests, e)

kept : (was long : Bool) (skipped rest : List ℕ) (len tail : ℕ) → len ≡ length rest → IsBegun was [] skipped → IsPlain (skipped ++ rest) → Grows was len long → Drops long len tail → Kept long skipped rest tail
kept true long skipped rest len tail size held plain (inl grown) (inl none) = kept-none long skipped rest tail none.0 none.1 plain (omega (arith, held, length-append skipped rest))
kept true long skipped rest len tail size held plain (inl grown) (inr all) = absurd (true≢false (sym grown.1 ∙ all.0))
kept true long skipped rest len tail size held plain (inr fresh) by = absurd (true≢false fresh.0)
kept false long skipped rest len tail size held plain (inl grown) by = absurd (true≢false (sym grown.0))
kept false long skipped rest len tail size held plain (inr fresh) (inl none) =
    kept-none long skipped rest tail none.0 none.1 plain (omega (arith, size, lt-true len (sym fresh.1 ∙ none.0), length-append skipped rest))
kept false long skipped rest len tail size held plain (inr fresh) (inr all) =
    kept-all long skipped rest tail all.0 (all.1 ∙ size) held (omega (arith, size, lt-false len (sym fresh.1 ∙ all.0)))

-- what is held of a line that ends in the buffer
pub line-held : (was long : Bool) (skipped front : List ℕ) (len : ℕ) → len ≡ length front → IsBegun was [] skipped → Grows was len long → IsBegun long front (skipped ++ front) × (long ≡ false → length front ≤ 1024)
line-held true true skipped front len size held by = (omega (arith, held, length-append skipped front), λ e. absurd (true≢false e))
line-held true false skipped front len size held (inl grown) = absurd (true≢false (sym grown.1))
line-held true false skipped front len size held (inr fresh) = absurd (true≢false fresh.0)
line-held false long skipped front len size held (inl grown) = absurd (true≢false (sym grown.0))
line-held false true skipped front len size held (inr fresh) =
    (omega (arith, size, lt-true len (sym fresh.1), length-append skipped front), λ e. absurd (true≢false e))
line-held false false skipped front len size held (inr fresh) = (ap (λ l. l ++ front) held, λ _. omega (arith, size, lt-false len (sym fresh.1)))

-- the first LF stands behind a front that has none
pub feed-behind : (front rest : List ℕ) (k : ℕ) → IsPlain front → get_or (front ++ rest) k 0 ≡ 10 → length front ≤ k
feed-behind [] rest k plain e = omega arith
feed-behind (b ∷ front) rest zero plain e = absurd (plain 0 0 (omega arith) e)
feed-behind (b ∷ front) rest (suc k) plain e =
    let later = feed-behind front rest k (later-plain b front plain) e in
    omega (arith, later)

-- What a buffer holds after its tail was moved to the front, a piece was read behind it, and an LF was put behind that.
pub record Refilled (long : Bool) (skipped rest bytes buffer : List ℕ) (tail got len : ℕ) : Type 0 where
  pub kept : Kept long skipped rest tail
  pub inside : tail + got < len
  pub few : got ≤ 4096
  pub piece : length (take got buffer) ≡ got
  pub ahead : slice_range bytes 0 (tail + got) ≡ take tail rest ++ take got buffer
  pub none : got ≡ 0 → slice_range bytes tail (tail + got) ≡ []
  pub feed : get_or bytes (tail + got) 0 ≡ 10
  pub near : (k : ℕ) → k < tail + got → get_or bytes k 0 ≡ 10 → tail ≤ k

-- the front of a buffer after its tail was moved there
moved-front : (old : List ℕ) (at tail : ℕ) → at + tail ≤ length old → take tail (copy_within old at (at + tail) 0) ≡ take tail (drop at old)
moved-front old at tail inside =
    let same : at + tail - at ≡ tail = omega arith in
    let none : 0 + (at + tail - at) ≡ tail = omega arith in
    ap (λ k. take k (copy_within old at (at + tail) 0)) (sym none) ∙ take-paste old 0 (drop at old) (at + tail - at) (omega arith) (omega (arith, inside, length-drop at old)) ∙ ap (λ k. take k (drop at old)) same

-- the same with what was read behind it
read-front : (front buffer post more : List ℕ) (len tail got : ℕ) → length front ≡ tail → got ≤ length buffer → tail + got < len → take (tail + got) (take len ((front ++ (buffer ++ post)) ++ more)) ≡ front ++ take got buffer
read-front front buffer post more len tail got size few fits =
    take-within ((front ++ (buffer ++ post)) ++ more) (tail + got) len (omega (arith, fits))
    ∙ ap (take (tail + got)) (append_assoc front (buffer ++ post) more ∙ ap (λ l. front ++ l) (append_assoc buffer post more))
    ∙ ap (λ k. take (k + got) (front ++ (buffer ++ (post ++ more)))) (sym size)
    ∙ take-append-add front (buffer ++ (post ++ more)) got
    ∙ ap (λ l. front ++ l) (take-append-le got buffer (post ++ more) few)

pub refilled : (was long : Bool) (skipped old copy view buffer post : List ℕ) (at filled tail got len : ℕ) → IsBegun was [] skipped → IsPlain skipped → IsPlain (slice_range old at filled)
    → Grows was (filled - at) long → Drops long (filled - at) tail → at ≤ filled → filled < length old → copy ≡ copy_within old at (at + tail) 0 → view ≡ copy → len ≡ length copy → len ≡ 5121 → got ≤ length buffer → length buffer ≤ 4096
    → Refilled long skipped (slice_range old at filled) (set (take len ((take tail view ++ (buffer ++ post)) ++ drop (length (take tail view ++ (buffer ++ post))) copy)) (tail + got) 10) buffer tail got len
refilled was long skipped old copy view buffer post at filled tail got len held skipped-plain plain grows drops order within is shown size room few most =
    let rest = slice_range old at filled in
    let k = kept was long skipped rest (filled - at) tail (sym (length-range old at filled (omega (arith, within)))) held (plain-more skipped rest skipped-plain plain) grows drops in
    let ends : at + tail ≤ filled = omega (arith, order, k.within, short-range old at filled) in
    let front : take tail view ≡ take tail rest = ap (take tail) (shown ∙ is) ∙ moved-front old at tail (omega (arith, ends, within)) ∙ sym (take-within (drop at old) tail (filled - at) (omega (arith, ends))) in
    let all = take tail view ++ (buffer ++ post) in
    let held = take len (all ++ drop (length all) copy) in
    let fits : tail + got < len = omega (arith, few, most, k.short, room) in
    let count : length (take tail view) ≡ tail = length-take-le tail view (omega (arith, ap length shown, size, fits)) in
    let whole : tail + got < length held = omega (arith, fits, size, length-take len (all ++ drop (length all) copy), length-append all (drop (length all) copy), length-drop (length all) copy) in
    let ahead : slice_range (set held (tail + got) 10) 0 (tail + got) ≡ take tail rest ++ take got buffer =
    between_from_start (set held (tail + got) 10) (tail + got)
    ∙ take-set held (tail + got) 10
    ∙ read-front (take tail view) buffer post (drop (length all) copy) len tail got count few fits
    ∙ ap (λ l. l ++ take got buffer) front in
    record {
      kept = k;
      inside = fits;
      few = omega (arith, few, most);
      piece = length-take-le got buffer few;
      ahead = ahead;
      none = λ e. range-none (set held (tail + got) 10) tail (tail + got) (omega (arith, e));
      feed = get_or-set_same held (tail + got) 10 0 whole;
      near = λ k lt e.
          let zeroth : 0 + k ≡ k = omega arith in
          let there : get_or (slice_range (set held (tail + got) 10) 0 (tail + got)) k 0 ≡ 10 =
          get_or-between (set held (tail + got) 10) 0 (tail + got) k 0 (omega (arith, lt)) ∙ ap (λ j. get_or (set held (tail + got) 10) j 0) zeroth ∙ e in
          let behind = feed-behind (take tail rest) (take got buffer) k (All-take (λ b. b ≢ 10) tail rest plain) (ap (λ l. get_or l k 0) (sym ahead) ∙ there) in
          omega (arith, behind, ap length front, count);
    }

-- the buffer is sound then
pub refilled-sound : (long : Bool) (skipped rest bytes buffer : List ℕ) (tail got len at from to taken lines : ℕ) (ended failed : Bool) → Refilled long skipped rest bytes buffer tail got len → len ≡ 5121 → at ≤ tail + got → from ≤ to → to ≤ len → lines + (tail + got - at) ≤ taken
    → ended ≡ false → (failed ≡ true → (at ≡ tail + got) × (taken < 2 ^ 64 - 1)) → IsSound bytes len at (tail + got) from to taken lines ended failed
refilled-sound long skipped rest bytes buffer tail got len at from to taken lines ended failed r size order span within counted unended lost = record {
  whole = size;
  feed = r.feed;
  order = order;
  inside = r.inside;
  near = λ place low high feed. omega (arith, r.near place high feed, r.few);
  span = span;
  within = within;
  counted = counted;
  last = λ e. absurd (false≢true (sym unended ∙ e));
  lost = λ e. ((lost e).0, (lost e).1, unended);
}

-- a read gives no more than there is room for
pub gave : (result : ReadAnswer) (buffer : List ℕ) (got : ℕ) (before after : SourceState) → ReadsSome result buffer before after → got ≡ read_len result → got ≤ length buffer
gave (Got n) buffer got before after told e = omega (arith, e, told.1)
gave End buffer got before after told e = omega (arith, e)
gave Failed buffer got before after told e = omega (arith, e)
