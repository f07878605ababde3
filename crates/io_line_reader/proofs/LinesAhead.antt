-- Several lines that lie whole in what is ahead.
use Rattle.std.proofs.Common.{◌≡◌, ℕ, ◌+◌, ◌-◌, ◌<◌, ◌≤◌, List, length, take, drop, ap, sym, ◌∙◌, arith, length-drop}
use Rattle.std.proofs.lemmas.List.{drop-take, drop-drop}
use Rattle.std.specs.List.{slice_range}
use Rattle.io_line_reader.specs.Reading.{AreLinesAhead, none, more}
use Rattle.io_line_reader.proofs.Pieces.{short-range, take-within}

-- where lines ahead end
pub record Span (bytes : List ℕ) (count begin end : ℕ) : Type 0 where
  pub within : end ≤ length bytes
  pub few : count ≤ end
  pub some : 0 < count → begin < end

pub span : (bytes : List ℕ) (count begin end : ℕ) → AreLinesAhead bytes count begin end → Span bytes count begin end
span bytes count begin end (none c e) = record { within = omega (arith, e); few = omega (arith, c); some = λ s. absurd (omega (arith, s, c)) }
span bytes count begin end (more before start len h feed short c e) =
    let s = span bytes before start begin h in
    record {
      within = omega (arith, e, feed.0, length-drop begin bytes);
      few = omega (arith, e, c, s.few);
      some = λ _. omega (arith, e);
    }

-- the same in a buffer
pub in_buffer : (bytes ahead : List ℕ) (at filled count begin end : ℕ) → slice_range bytes at filled ≡ ahead → 0 < count → AreLinesAhead ahead count begin end → (end ≤ filled - at) × (count ≤ end) × (begin < end)
in_buffer bytes ahead at filled count begin end is some h =
    let s = span ahead count begin end h in
    (omega (arith, s.within, ap length is, short-range bytes at filled), s.few, s.some some)

-- what is ahead of a buffer from a place on
pub range-from : (bytes : List ℕ) (a f n : ℕ) → n ≤ f - a → slice_range bytes (a + n) f ≡ drop n (slice_range bytes a f)
range-from bytes a f n few =
    let m = f - (a + n) in
    let whole : f - a ≡ n + m = omega (arith, few) in
    sym (ap (λ k. drop n (take k (drop a bytes))) whole ∙ drop-take n m (drop a bytes) ∙ ap (take m) (drop-drop n a bytes))

-- a line in what is ahead of a buffer
pub range-within : (bytes : List ℕ) (a f begin end : ℕ) → begin ≤ end → end ≤ f - a → slice_range bytes (a + begin) (a + end) ≡ slice_range (slice_range bytes a f) begin end
range-within bytes a f begin end order few =
    let size : a + end - (a + begin) ≡ end - begin = omega arith in
    let later : slice_range bytes (a + begin) f ≡ drop begin (slice_range bytes a f) = range-from bytes a f begin (omega (arith, order, few)) in
    ap (λ k. take k (drop (a + begin) bytes)) size
    ∙ sym (take-within (drop (a + begin) bytes) (end - begin) (f - (a + begin)) (omega (arith, order, few)))
    ∙ ap (take (end - begin)) later
