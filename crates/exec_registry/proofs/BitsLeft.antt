-- The bits of a word that are left where those below a place were cleared.
use Rattle.std.proofs.Common.{◌≡◌, ◌≢◌, ℕ, ◌+◌, ◌/◌, ◌%◌, ◌^◌, ◌<◌, ◌≤◌, inl, inr, refl, sym, ap, ◌∙◌, subst, arith}
use Rattle.std.specs.Int.{bit_at}
use Rattle.std.proofs.lemmas.Bool.{cases_eq, cases_lt}
use Rattle.std.proofs.lemmas.Nat.Bits.{bit_at-zero}
use Rattle.std.proofs.Math.Nat.{div-eq_of_lt, pow-le-pow_right}

-- what is left of a word from a place on
pub record AreLeft (word left next : ℕ) : Type 0 where
  pub from : (k : ℕ) → k < next → k < 64 → bit_at left k ≡ 0
  pub same : (k : ℕ) → next ≤ k → k < 64 → bit_at left k ≡ bit_at word k

-- the word has a bit at the place, and no other
pub record IsOnlyBit (word place : ℕ) : Type 0 where
  pub own : bit_at word place ≡ 1
  pub others : (k : ℕ) → k ≢ place → bit_at word k ≡ 0

pub left_all : (word : ℕ) → AreLeft word word 0
left_all word = record { from = λ k a b. absurd (omega (arith, a)); same = λ k a b. refl }

bit_is : (n k : ℕ) → bit_at n k ≡ 1 → bit_at n k ≡ 0 → ⊥
bit_is n k on off = omega (arith, on, off)

-- the lowest bit that is left is not before the place
pub left_next : (word left next place : ℕ) → AreLeft word left next → place < 64 → bit_at left place ≡ 1 → (next ≤ place) × (bit_at word place ≡ 1)
left_next word left next place are few on = elim (cases_lt place next) [
  | inl h ↦ absurd (bit_is left place on (are.from place h few))
  | inr h ↦ (h, sym (are.same place h few) ∙ on)
]

-- those before it are no bits of the word
pub left_between : (word left next place : ℕ) → AreLeft word left next → place < 64 → ((i : ℕ) → i < place → bit_at left i ≡ 0)
    → (k : ℕ) → next ≤ k → k < place → bit_at word k ≡ 0
left_between word left next place are few below k a b = sym (are.same k a (omega (arith, b, few))) ∙ below k b

-- it is cleared
pub left_more : (word left next place new : ℕ) → AreLeft word left next → place < 64 → bit_at left place ≡ 1 → ((i : ℕ) → i < place → bit_at left i ≡ 0)
    → bit_at new place ≡ 0 → ((i : ℕ) → i < 64 → i ≢ place → bit_at new i ≡ bit_at left i) → AreLeft word new (place + 1)
left_more word left next place new are few on below own others = record {
  from = λ k a b. elim (cases_eq k place) [
    | inl e ↦ ap (bit_at new) e ∙ own
    | inr ne ↦ others k b ne ∙ below k (omega (arith, a, ne))
  ];
  same = λ k a b.
      (let at = (left_next word left next place are few on).0 in
      others k b (λ e. omega (arith, e, a)) ∙ are.same k (omega (arith, at, a)) b);
}

-- where nothing is left, there are no bits of the word from the place on
pub left_none : (word next : ℕ) → AreLeft word 0 next → (k : ℕ) → next ≤ k → k < 64 → bit_at word k ≡ 0
left_none word next are k a b = sym (are.same k a b) ∙ bit_at-zero k

-- a word of 64 bits has none behind them
high : (word k : ℕ) → word < 2 ^ 64 → 64 ≤ k → bit_at word k ≡ 0
high word k few le =
    (let none : word / 2 ^ k ≡ 0 = div-eq_of_lt (omega (arith, few, more k le)) in ap (λ n. n % 2) none)
  where
    more : (k : ℕ) → 64 ≤ k → 2 ^ 64 ≤ 2 ^ k
    more k h = pow-le-pow_right {n = 2} (omega arith) h

-- so it is of all from the place on, where nothing is left of a word of 64 bits
pub none_after : (word left next : ℕ) → word < 2 ^ 64 → AreLeft word left next → left ≡ 0 → (k : ℕ) → next ≤ k → bit_at word k ≡ 0
none_after word left next few are none k a = elim (cases_lt k 64) [
  | inl h ↦ left_none word next (subst (λ (n : ℕ). AreLeft word n next) none are) k a h
  | inr h ↦ high word k few h
]
