-- How many choices the first streams have.
use Rattle.std.proofs.Common.{◌≡◌, ℕ, zero, suc, ◌+◌, ◌*◌, ◌<◌, ◌≤◌, List, [], ◌∷◌, ◌++◌, length, take, drop, get_or, sym, ap, ◌∙◌, arith}
use Rattle.std.proofs.Math.Nat.{mul_assoc}
use Rattle.std.proofs.lemmas.List.{take_more, take_all, take-append-drop}
use Rattle.adv_key_choices.specs.Counting.{choice_count, HasManyChoices}

at-least : (n m : ℕ) → 1 ≤ m → n ≤ n * m
at-least zero m l = omega arith
at-least (suc n) m l = let r = at-least n m l in omega (arith, r, l)

-- at least one
some-choice : (ws : List ℕ) → 1 ≤ choice_count ws
some-choice [] = omega arith
some-choice (w ∷ ws) = let r = at-least (w + 1) (choice_count ws) (some-choice ws) in omega (arith, r)

-- those of the first streams, times those of the others
counts-both : (xs ys : List ℕ) → choice_count (xs ++ ys) ≡ choice_count xs * choice_count ys
counts-both [] ys = omega arith
counts-both (x ∷ xs) ys = ap (λ (n : ℕ). (x + 1) * n) (counts-both xs ys) ∙ sym (mul_assoc (x + 1) (choice_count xs) (choice_count ys))

times-one : (n w : ℕ) → n * ((w + 1) * 1) ≡ n * (w + 1)
times-one n w = let e : (w + 1) * 1 ≡ w + 1 = omega arith in ap (λ (z : ℕ). n * z) e

pub counted-more : (ws : List ℕ) (i d n : ℕ) → i < length ws → n ≡ choice_count (take i ws) → n * (get_or ws i d + 1) ≡ choice_count (take (i + 1) ws)
counted-more ws i d n l e =
    ap (λ (z : ℕ). z * (get_or ws i d + 1)) e ∙ sym (times-one (choice_count (take i ws)) (get_or ws i d)) ∙ sym (counts-both (take i ws) (get_or ws i d ∷ [])) ∙ sym (ap choice_count (take_more ws i d l))

pub many-counted : (ws : List ℕ) (i n : ℕ) → n ≡ choice_count (take i ws) → 1048576 < n → HasManyChoices ws
many-counted ws i n e l =
    let p : choice_count ws ≡ choice_count (take i ws) * choice_count (drop i ws) = ap choice_count (sym (take-append-drop i ws)) ∙ counts-both (take i ws) (drop i ws) in
    let r = at-least (choice_count (take i ws)) (choice_count (drop i ws)) (some-choice (drop i ws)) in
    omega (arith, e, l, p, r)

pub all-counted : (ws : List ℕ) (i n : ℕ) → n ≡ choice_count (take i ws) → n ≤ 1048576 → length ws ≤ i → ¬ HasManyChoices ws
all-counted ws i n e l m h = let p : choice_count (take i ws) ≡ choice_count ws = ap choice_count (take_all i ws m) in omega (arith, e, l, p, h)
