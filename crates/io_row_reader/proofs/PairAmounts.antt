-- The amounts of two integers that stand behind zeros in the halves of a vector.
use Rattle.std.proofs.Common.{◌≡◌, ◌*◌, w8, [], ℕ, ◌+◌, ◌-◌, ◌<◌, ◌≤◌, List, ◌++◌, length, map, take, drop, replicate, get_or, ap, sym, ◌∙◌, subst, arith}
use Rattle.std.specs.Int.Digits.{AllBelowBase, number_from_digits}
use Rattle.std.specs.List.{prefix_len}
use Rattle.std.proofs.ByRecursion.{All-append}
use Rattle.std.proofs.lemmas.List.{drop-drop, length-drop, length-map, length-take, drop-map, drop-take, take-append-drop, take-take}
use Rattle.sql_text.specs.Value.{amount}
use Rattle.sql_text.specs.Word.{is_digit}
use Rattle.io_row_reader.specs.Short.{ArePair, IsShort}
use Rattle.io_row_reader.proofs.DigitLanes.{behind_zeros_is, few_small, minus, run_whole}
use Rattle.io_row_reader.proofs.PairEnds.{Ends}
use Rattle.io_row_reader.proofs.PairRows.{Halves, halves, short_before}
use Rattle.io_row_reader.specs.declared.orders.TheConstants.{ORDERS}
use Rattle.std.proofs.lemmas.Simd.{swz_l}
use lib.Lanes.{chunk}
use lib.Count.{count_trailing_zeros}

-- both halves of a vector
pub record Both (halves lanes : List ℕ) (first second : ℕ) : Type 0 where
  pub small : AllBelowBase 10 halves
  pub left : number_from_digits 10 (take 8 halves) ≡ amount (take first lanes)
  pub right : number_from_digits 10 (drop 8 halves) ≡ amount (take (second - (first + 1)) (drop (first + 1) lanes))

pub both : (lanes above halves : List ℕ) (first second : ℕ) → above ≡ map minus lanes → first ≤ prefix_len is_digit lanes → second ≤ first + 1 + prefix_len is_digit (drop (first + 1) lanes)
    → take 8 halves ≡ replicate (8 - first) 0 ++ take first above → drop 8 halves ≡ replicate (first + 9 - second) 0 ++ take (second - (first + 1)) (drop (first + 1) above) → Both halves lanes first second
both lanes above halves first second is one two left right =
    let rest = drop (first + 1) lanes in
    let front = behind_zeros_is (take 8 halves) lanes (8 - first) first one (left ∙ ap (λ (l : List ℕ). replicate (8 - first) 0 ++ take first l) is) in
    let back = behind_zeros_is (drop 8 halves) rest (first + 9 - second) (second - (first + 1)) (omega (arith, two))
    (right ∙ ap (λ (l : List ℕ). replicate (first + 9 - second) 0 ++ take (second - (first + 1)) l) (ap (drop (first + 1)) is ∙ drop-map minus (first + 1) lanes)) in
    record {
      small = subst (λ (l : List ℕ). AllBelowBase 10 l) (take-append-drop 8 halves) (All-append (λ d. d < 10) (take 8 halves) (drop 8 halves) front.small back.small);
      left = front.number;
      right = back.number;
    }

-- sixteen bytes of a text
pub sixteen : (text lanes : List ℕ) (start : ℕ) → start + 16 ≤ length text → lanes ≡ take 16 (drop start text) → length lanes ≡ 16
sixteen text lanes start room is = omega (arith, ap length is, length-take 16 (drop start text), length-drop start text, room)

-- Where both integers end, by the marks of sixteen bytes, and the order for these places does not end with 0.
pub record Placed (lanes : List ℕ) (first second : ℕ) : Type 0 where
  pub run : first ≡ prefix_len is_digit lanes
  pub more : second ≡ first + 1 + prefix_len is_digit (drop (first + 1) lanes)
  pub within : second < 16
  pub few : (0 < first) × (first ≤ 8) × (first + 1 < second) × (second ≤ first + 9)

pub placed : (lanes : List ℕ) (marks later : ℕ) → Ends lanes marks later → 0 < get_or (get_or ORDERS (16 * count_trailing_zeros 64 marks + count_trailing_zeros 64 later) []) 15 0
    → Placed lanes (count_trailing_zeros 64 marks) (count_trailing_zeros 64 later)
placed lanes marks later h other =
    let first = count_trailing_zeros 64 marks in
    let second = count_trailing_zeros 64 later in
    record {
      run = h.first;
      more = h.second;
      within = h.within;
      few = short_before first second (omega (arith, h.second, h.within)) h.within other;
    }

-- the order puts both into the halves of a vector
pub placed_halves : (lanes : List ℕ) (first second : ℕ) → length lanes ≡ 16 → Placed lanes first second → Halves [] lanes first second
placed_halves lanes first second long p = halves [] lanes first second long p.few.0 p.few.1 p.few.2 p.few.3 p.within

pub both_placed : (lanes above : List ℕ) (first second : ℕ) → length lanes ≡ 16 → above ≡ map minus lanes → Placed lanes first second → Both (swz_l w8 16 above 0 (chunk 0 16 (get_or ORDERS (16 * first + second) []))) lanes first second
both_placed lanes above first second long is p =
    let h = halves [] above first second (ap length is ∙ length-map lanes minus ∙ long) p.few.0 p.few.1 p.few.2 p.few.3 p.within in
    both lanes above _ first second is (omega (arith, p.run)) (omega (arith, p.more)) h.left h.right

-- Two integers at a place of a text, by those among its next bytes.

one_short : (text : List ℕ) (start n kept : ℕ) → n ≡ prefix_len is_digit (drop start text) → 0 < n → n ≤ 8 → start + n < length text → kept ≡ amount (take n (drop start text)) → IsShort text start n kept
one_short text start n kept run some few room is = record { run = run; some = some; few = few; within = room; writes = is; small = few_small (drop start text) n kept run (omega (arith, few)) is }

pub pair_at : (text lanes : List ℕ) (start first second a b : ℕ) → start + 16 ≤ length text → lanes ≡ take 16 (drop start text) → first ≡ prefix_len is_digit lanes → second ≡ first + 1 + prefix_len is_digit (drop (first + 1) lanes)
    → second < 16 → (0 < first) × (first ≤ 8) × (first + 1 < second) × (second ≤ first + 9) → get_or text (start + first) 0 ≡ 44 → a ≡ amount (take first lanes) → b ≡ amount (take (second - (first + 1)) (drop (first + 1) lanes))
    → ArePair text start first second a b
pair_at text lanes start first second a b room is run more inside few comma left right =
    let rest = drop start text in
    let seen : first ≡ prefix_len is_digit (take 16 rest) = run ∙ ap (prefix_len is_digit) is in
    let size : first + 1 + (15 - first) ≡ 16 = omega (arith, few.1) in
    let place : start + (first + 1) ≡ start + first + 1 = omega arith in
    let others : drop (first + 1) lanes ≡ take (15 - first) (drop (start + first + 1) text) =
    ap (drop (first + 1)) (is ∙ ap (λ n. take n rest) (sym size)) ∙ drop-take (first + 1) (15 - first) rest ∙ ap (take (15 - first)) (drop-drop (first + 1) start text ∙ ap (λ n. drop n text) place) in
    let m = second - (first + 1) in
    let there : m ≡ prefix_len is_digit (take (15 - first) (drop (start + first + 1) text)) = omega (arith, more, ap (prefix_len is_digit) others) in
    record {
      left = one_short text start first a (seen ∙ run_whole is_digit 16 rest (omega (arith, seen, few.1))) few.0 few.1 (omega (arith, room, few.1))
          (left ∙ ap (λ (l : List ℕ). amount (take first l)) is ∙ ap amount (take-take first 16 rest (omega (arith, few.1))));
      separated = comma;
      order = few.2;
      right = one_short text (start + first + 1) m b (there ∙ run_whole is_digit (15 - first) (drop (start + first + 1) text) (omega (arith, there, inside, few.2))) (omega (arith, few.2)) (omega (arith, few.3))
          (omega (arith, room, inside, few.2)) (right ∙ ap (λ (l : List ℕ). amount (take m l)) others ∙ ap amount (take-take m (15 - first) (drop (start + first + 1) text) (omega (arith, inside, few.2))));
    }
