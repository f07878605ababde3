-- Texts that are written one behind another.
use Rattle.std.proofs.Common.{◌≡◌, ℕ, ◌+◌, ◌-◌, ◌<◌, ◌≤◌, List, [], ◌∷◌, ◌++◌, length, take, drop, get_or, Option, sym, ap, ◌∙◌, subst, arith}
use Rattle.std.specs.List.{flat_map, range_with_len}
use Rattle.std.proofs.lemmas.List.{take_rest}
use Rattle.std.proofs.lemmas.List.FromFn.{get_or-range_with_len, length-range_with_len}
use Rattle.io_streams.specs.Sink.{SinkState, Wrote, BrokeOff}
use Rattle.io_streams.proofs.Writing.{BrokeOff-at}
use Rattle.sql_explain.proofs.Writers.{item_wrote, all_wrote}
use Rattle.adv_key_decision.specs.declared.judging.Judgement.{Judgement}
use Rattle.adv_key_ranges.specs.declared.ranges.Ranges.{Ranges}
use Rattle.cmd_advise_split.specs.Text.{one_query_text, queries_text}

module _ (f : ℕ → List ℕ) (n : ℕ) (a b c : SinkState) where
  at-number : (i : ℕ) → i < n → get_or (range_with_len 0 n) i 0 ≡ i
  at-number i l = let e : 0 + i ≡ i = omega arith in get_or-range_with_len 0 n i 0 l ∙ e

  in-range : (i : ℕ) → i < n → i < length (range_with_len 0 n)
  in-range i l = let e : length (range_with_len 0 n) ≡ n = length-range_with_len 0 n in omega (arith, l, e)

  -- the texts of the first numbers were written, and then that of the next one
  pub number-wrote : (i : ℕ) → i < n → Wrote a b (flat_map f (take i (range_with_len 0 n))) → Wrote b c (f i) → Wrote a c (flat_map f (take (i + 1) (range_with_len 0 n)))
  number-wrote i l p q = item_wrote f (range_with_len 0 n) i 0 a b c (in-range i l) p (subst (λ (m : ℕ). Wrote b c (f m)) (sym (at-number i l)) q)

  pub number-broke : (i : ℕ) → i < n → Wrote a b (flat_map f (take i (range_with_len 0 n))) → BrokeOff b c (f i) → BrokeOff a c (flat_map f (range_with_len 0 n))
  number-broke i l p q = BrokeOff-at f (range_with_len 0 n) i 0 a b c (in-range i l) p (subst (λ (m : ℕ). BrokeOff b c (f m)) (sym (at-number i l)) q)

pub numbers-wrote : (f : ℕ → List ℕ) (n i : ℕ) (a b : SinkState) → n ≤ i → Wrote a b (flat_map f (take i (range_with_len 0 n))) → Wrote a b (flat_map f (range_with_len 0 n))
numbers-wrote f n i a b l p = all_wrote f (range_with_len 0 n) i a b (let e : length (range_with_len 0 n) ≡ n = length-range_with_len 0 n in omega (arith, l, e)) p

-- the text of the first query, and then those of the others
pub queries-first : (names : List (List ℕ)) (hows : List Judgement) (ranges : List (Option Ranges)) (b name : List ℕ) (d : Judgement) (r : Option Ranges) → 1 ≤ length names → b ≡ name → name ≡ get_or names 0 name
    → 1 ≤ length hows → 1 ≤ length ranges
    → queries_text names hows ranges
    ≡ one_query_text b (get_or hows 0 d) (get_or ranges 0 r) ++ queries_text (take (length names - 1) (drop 1 names)) (take (length hows - 1) (drop 1 hows)) (take (length ranges - 1) (drop 1 ranges))
queries-first [] hows ranges b name d r l e f m n = absurd (omega (arith, l))
queries-first (x ∷ xs) [] ranges b name d r l e f m n = absurd (omega (arith, m))
queries-first (x ∷ xs) (h ∷ hs) [] b name d r l e f m n = absurd (omega (arith, n))
queries-first (x ∷ xs) (h ∷ hs) (g ∷ gs) b name d r l e f m n =
    ap (λ (z : List ℕ). one_query_text z h g ++ queries_text xs hs gs) (sym (e ∙ f)) ∙ ap (λ (zs : List (List ℕ)). one_query_text b h g ++ queries_text zs hs gs) (sym (take_rest (x ∷ xs) 1))
    ∙ ap (λ (zs : List Judgement). one_query_text b h g ++ queries_text (take (length (x ∷ xs) - 1) (drop 1 (x ∷ xs))) zs gs) (sym (take_rest (h ∷ hs) 1))
    ∙ ap (λ (zs : List (Option Ranges)). one_query_text b h g ++ queries_text (take (length (x ∷ xs) - 1) (drop 1 (x ∷ xs))) (take (length (h ∷ hs) - 1) (drop 1 (h ∷ hs))) zs) (sym (take_rest (g ∷ gs) 1))
