-- How many words of marks tell of cells side by side.
use Rattle.std.proofs.Common.{◌≡◌, ◌⊎◌, inl, inr, ℕ, zero, suc, ◌+◌, ◌-◌, ◌/◌, ◌%◌, ◌<◌, ◌≤◌, Option, None, Some, sym, ap, ◌∙◌, subst, arith}
use Rattle.sem_query.specs.declared.cell.Cell.{Cell}
use Rattle.exec_pool.specs.declared.scan.Occupied.{Occupied}
use Rattle.exec_pool.specs.Strides.{NoneOccupied, Marked, words_over}

-- cells up to the end of a word and some of the next one
pub one_word : (first i k : ℕ) → (i ≡ 0) ⊎ ((first + i) % 64 ≡ 0) → (first + i) % 64 + k < 64 → words_over first (i + k + 1) ≡ words_over first i + 1
one_word first zero k begins within = (let e : zero + k + 1 ≡ suc k = omega arith in ap (words_over first) e ∙ (let w : (first % 64 + k) / 64 + 1 ≡ 0 + 1 = omega (arith, within) in w))
one_word first (suc i) k (inl h) within = absurd (omega (arith, h))
one_word first (suc i) k (inr h) within =
    (let e : suc i + k + 1 ≡ suc (suc i + k) = omega arith in
    ap (words_over first) e ∙ (let w : (first % 64 + (suc i + k)) / 64 + 1 ≡ (first % 64 + i) / 64 + 1 + 1 = omega (arith, h, within) in w))

-- a turn begins with a word
pub page_begins : (first i count : ℕ) → i < count → (i ≡ 0) ⊎ ((i ≡ count) ⊎ ((first + i) % 64 ≡ 0)) → (i ≡ 0) ⊎ ((first + i) % 64 ≡ 0)
page_begins first i count more (inl h) = inl h
page_begins first i count more (inr (inl h)) = absurd (omega (arith, more, h))
page_begins first i count more (inr (inr h)) = inr h

-- and ends with it, or is the last
pub page_ends : (first i count n : ℕ) → i < count → (n ≡ count - i) ⊎ ((first + i) % 64 + n ≡ 64) → (i + n ≡ 0) ⊎ ((i + n ≡ count) ⊎ ((first + (i + n)) % 64 ≡ 0))
page_ends first i count n more (inl h) = inr (inl (omega (arith, more, h)))
page_ends first i count n more (inr h) = inr (inr (omega (arith, h)))

-- all words were looked at
pub all_words : (at : ℕ → Cell) (first i count before after : ℕ) → i ≤ count → count ≤ i → NoneOccupied at 0 i → after ≡ before + words_over first i → NoneOccupied at 0 count × (after ≡ before + words_over first count)
all_words at first i count before after within done empty reads =
    let e : i ≡ count = omega (arith, within, done) in
    (subst (λ n. NoneOccupied at 0 n) e empty, subst (λ n. after ≡ before + words_over first n) e reads)

-- cells that agree are found alike
pub marked_same : (at at' : ℕ → Cell) (first count before : ℕ) (found : Option Occupied) (after : ℕ)
    → ((i : ℕ) → i < count → at i ≡ at' i)
    → Marked at first count before found after
    → Marked at' first count before found after
marked_same at at' first count before None after same s = (λ i a b. sym (same i b) ∙ s.0 i a b, s.1)
marked_same at at' first count before (Some occupied) after same s = (
  record {
    after = s.0.after;
    below = s.0.below;
    before = λ i a b. sym (same i (omega (arith, b, s.0.below))) ∙ s.0.before i a b;
    cell = sym (same occupied.next s.0.below) ∙ s.0.cell;
    some = s.0.some;
  },
  s.1,
)

-- a word tells of some cell at least
pub words-few : (first count : ℕ) → words_over first count ≤ count
words-few first zero = omega arith
words-few first (suc more) = omega arith

-- so a look over so many cells is no more reads than that
pub marked-few : (at : ℕ → Cell) (first count before : ℕ) (found : Option Occupied) (after : ℕ) → Marked at first count before found after → after ≤ before + count
marked-few at first count before None after s = (let r = s.1 in let w = words-few first count in omega (arith, r, w))
marked-few at first count before (Some occupied) after s = (let r = s.1 in let b = s.0.below in let w = words-few first (occupied.next + 1) in omega (arith, r, b, w))
