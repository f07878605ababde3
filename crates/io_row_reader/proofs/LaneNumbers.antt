-- The numbers that the digits of a vector write.
use Rattle.std.proofs.Common.{◌≡◌, ℕ, zero, suc, ◌+◌, ◌*◌, ◌/◌, ◌%◌, ◌^◌, ◌<◌, bit_and, div-add-mod', div-lt_iff_lt-mul, pow-suc, List, [], ◌∷◌, length, map, take, drop, get_or, ap, sym, ◌∙◌, subst, arith}
use Rattle.std.specs.List.{range_with_len}
use Rattle.std.proofs.lemmas.List.{ext_get_or}
use Rattle.std.proofs.lemmas.List.FromFn.{length-map-range_with_len, get_or-map-range_with_len}
use Rattle.std.specs.Int.Digits.{AllBelowBase, number_from_digits}
use Rattle.std.proofs.lemmas.Int.Digits.{number_lt}
use Rattle.std.proofs.lemmas.Nat.{and_mask}
use lib.Lanes.{digits_l, number_l}

number_of_digits : (p n x : ℕ) → 0 < p → x < p ^ n → number_l p (digits_l p n x) ≡ x
number_of_digits p zero x P h = omega (arith, native.Mathlib.Nat.pow-zero p)
number_of_digits p (suc n) x P h =
    let less : x / p < p ^ n = (div-lt_iff_lt-mul P).1 (rw (← pow-suc p n) h) in
    rw (number_of_digits p n (x / p) P less) (omega (arith, div-add-mod' x p))

two_bytes : (n a b rest : ℕ) → a < 256 → b < 256 → digits_l 65536 (suc n) (a + 256 * (b + 256 * rest)) ≡ (a + 256 * b) ∷ digits_l 65536 n rest
two_bytes n a b rest ha hb =
    let low : (a + 256 * (b + 256 * rest)) % 65536 ≡ a + 256 * b = omega (arith, ha, hb) in
    let high : (a + 256 * (b + 256 * rest)) / 65536 ≡ rest = omega (arith, ha, hb) in
    λ i. low i ∷ digits_l 65536 n (high i)

two_words : (n a b rest : ℕ) → a < 65536 → b < 65536 → digits_l 4294967296 (suc n) (a + 65536 * (b + 65536 * rest)) ≡ (a + 65536 * b) ∷ digits_l 4294967296 n rest
two_words n a b rest ha hb =
    let low : (a + 65536 * (b + 65536 * rest)) % 4294967296 ≡ a + 65536 * b = omega (arith, ha, hb) in
    let high : (a + 65536 * (b + 65536 * rest)) / 4294967296 ≡ rest = omega (arith, ha, hb) in
    λ i. low i ∷ digits_l 4294967296 n (high i)

two_longs : (n a b rest : ℕ) → a < 4294967296 → b < 4294967296 → digits_l 18446744073709551616 (suc n) (a + 4294967296 * (b + 4294967296 * rest)) ≡ (a + 4294967296 * b) ∷ digits_l 18446744073709551616 n rest
two_longs n a b rest ha hb =
    let low : (a + 4294967296 * (b + 4294967296 * rest)) % 18446744073709551616 ≡ a + 4294967296 * b = omega (arith, ha, hb) in
    let high : (a + 4294967296 * (b + 4294967296 * rest)) / 18446744073709551616 ≡ rest = omega (arith, ha, hb) in
    λ i. low i ∷ digits_l 18446744073709551616 n (high i)

-- a lane of 16 bits with two digits, as the number of these
two_is : (a b : ℕ) → a < 10 → b < 10 → (a + 256 * b) * 2561 % 65536 / 256 ≡ a * 10 + b
two_is a b ha hb = omega (arith, ha, hb)

four_is : (a b : ℕ) → a < 100 → b < 100 → (a + 65536 * b) * 6553601 % 4294967296 / 65536 ≡ a * 100 + b
four_is a b ha hb = omega (arith, ha, hb)

eight_is : (a b : ℕ) → a < 10000 → b < 10000 → (bit_and (a + 4294967296 * b) 4294967295 * 10000 % 18446744073709551616 + (a + 4294967296 * b) / 4294967296) % 18446744073709551616 ≡ a * 10000 + b
eight_is a b ha hb = omega (arith, ha, hb, and_mask (a + 4294967296 * b) 32)

-- sixteen bytes as eight lanes
from_digits : (a b c d e f g h i j k l m n o p : ℕ) → a < 10 → b < 10 → c < 10 → d < 10 → e < 10 → f < 10 → g < 10 → h < 10 → i < 10 → j < 10 → k < 10 → l < 10 → m < 10 → n < 10 → o < 10 → p < 10
    → digits_l 65536 8 (number_l 256 (a ∷ b ∷ c ∷ d ∷ e ∷ f ∷ g ∷ h ∷ i ∷ j ∷ k ∷ l ∷ m ∷ n ∷ o ∷ p ∷ [])) ≡ (a + 256 * b) ∷ (c + 256 * d) ∷ (e + 256 * f) ∷ (g + 256 * h) ∷ (i + 256 * j) ∷ (k + 256 * l) ∷ (m + 256 * n) ∷ (o + 256 * p) ∷ []
from_digits a b c d e f g h i j k l m n o p ha hb hc hd he hf hg hh hi hj hk hl hm hn ho hp =
    two_bytes 7 a b (c + 256 * (d + 256 * (e + 256 * (f + 256 * (g + 256 * (h + 256 * (i + 256 * (j + 256 * (k + 256 * (l + 256 * (m + 256 * (n + 256 * (o + 256 * (p + 256 * 0)))))))))))))) (omega (arith, ha)) (omega (arith, hb))
    ∙ ap (λ more. (a + 256 * b) ∷ more) (two_bytes 6 c d (e + 256 * (f + 256 * (g + 256 * (h + 256 * (i + 256 * (j + 256 * (k + 256 * (l + 256 * (m + 256 * (n + 256 * (o + 256 * (p + 256 * 0)))))))))))) (omega (arith, hc)) (omega (arith, hd)))
    ∙ ap (λ more. (a + 256 * b) ∷ (c + 256 * d) ∷ more) (two_bytes 5 e f (g + 256 * (h + 256 * (i + 256 * (j + 256 * (k + 256 * (l + 256 * (m + 256 * (n + 256 * (o + 256 * (p + 256 * 0)))))))))) (omega (arith, he)) (omega (arith, hf)))
    ∙ ap (λ more. (a + 256 * b) ∷ (c + 256 * d) ∷ (e + 256 * f) ∷ more) (two_bytes 4 g h (i + 256 * (j + 256 * (k + 256 * (l + 256 * (m + 256 * (n + 256 * (o + 256 * (p + 256 * 0)))))))) (omega (arith, hg)) (omega (arith, hh)))
    ∙ ap (λ more. (a + 256 * b) ∷ (c + 256 * d) ∷ (e + 256 * f) ∷ (g + 256 * h) ∷ more) (two_bytes 3 i j (k + 256 * (l + 256 * (m + 256 * (n + 256 * (o + 256 * (p + 256 * 0)))))) (omega (arith, hi)) (omega (arith, hj)))
    ∙ ap (λ more. (a + 256 * b) ∷ (c + 256 * d) ∷ (e + 256 * f) ∷ (g + 256 * h) ∷ (i + 256 * j) ∷ more) (two_bytes 2 k l (m + 256 * (n + 256 * (o + 256 * (p + 256 * 0)))) (omega (arith, hk)) (omega (arith, hl)))
    ∙ ap (λ more. (a + 256 * b) ∷ (c + 256 * d) ∷ (e + 256 * f) ∷ (g + 256 * h) ∷ (i + 256 * j) ∷ (k + 256 * l) ∷ more) (two_bytes 1 m n (o + 256 * (p + 256 * 0)) (omega (arith, hm)) (omega (arith, hn)))
    ∙ ap (λ more. (a + 256 * b) ∷ (c + 256 * d) ∷ (e + 256 * f) ∷ (g + 256 * h) ∷ (i + 256 * j) ∷ (k + 256 * l) ∷ (m + 256 * n) ∷ more) (two_bytes 0 o p 0 (omega (arith, ho)) (omega (arith, hp)))

-- eight lanes of 16 bits, each with two digits, as four lanes
from_twos : (t0 t1 t2 t3 t4 t5 t6 t7 : ℕ) → t0 < 100 → t1 < 100 → t2 < 100 → t3 < 100 → t4 < 100 → t5 < 100 → t6 < 100 → t7 < 100
    → digits_l 4294967296 4 (number_l 256 (digits_l 256 16 (number_l 65536 (t0 ∷ t1 ∷ t2 ∷ t3 ∷ t4 ∷ t5 ∷ t6 ∷ t7 ∷ [])))) ≡ (t0 + 65536 * t1) ∷ (t2 + 65536 * t3) ∷ (t4 + 65536 * t5) ∷ (t6 + 65536 * t7) ∷ []
from_twos t0 t1 t2 t3 t4 t5 t6 t7 ht0 ht1 ht2 ht3 ht4 ht5 ht6 ht7 =
    let r7 : (t7 + 65536 * 0) < 65536 = omega (arith, ht7) in
    let r6 : (t6 + 65536 * (t7 + 65536 * 0)) < 4294967296 = omega (arith, ht6, r7) in
    let r5 : (t5 + 65536 * (t6 + 65536 * (t7 + 65536 * 0))) < 281474976710656 = omega (arith, ht5, r6) in
    let r4 : (t4 + 65536 * (t5 + 65536 * (t6 + 65536 * (t7 + 65536 * 0)))) < 18446744073709551616 = omega (arith, ht4, r5) in
    let r3 : (t3 + 65536 * (t4 + 65536 * (t5 + 65536 * (t6 + 65536 * (t7 + 65536 * 0))))) < 1208925819614629174706176 = omega (arith, ht3, r4) in
    let r2 : (t2 + 65536 * (t3 + 65536 * (t4 + 65536 * (t5 + 65536 * (t6 + 65536 * (t7 + 65536 * 0)))))) < 79228162514264337593543950336 = omega (arith, ht2, r3) in
    let r1 : (t1 + 65536 * (t2 + 65536 * (t3 + 65536 * (t4 + 65536 * (t5 + 65536 * (t6 + 65536 * (t7 + 65536 * 0))))))) < 5192296858534827628530496329220096 = omega (arith, ht1, r2) in
    let r0 : (t0 + 65536 * (t1 + 65536 * (t2 + 65536 * (t3 + 65536 * (t4 + 65536 * (t5 + 65536 * (t6 + 65536 * (t7 + 65536 * 0)))))))) < 340282366920938463463374607431768211456 = omega (arith, ht0, r1) in
    ap (digits_l 4294967296 4) (number_of_digits 256 16 (t0 + 65536 * (t1 + 65536 * (t2 + 65536 * (t3 + 65536 * (t4 + 65536 * (t5 + 65536 * (t6 + 65536 * (t7 + 65536 * 0)))))))) (omega arith) r0)
    ∙ two_words 3 t0 t1 (t2 + 65536 * (t3 + 65536 * (t4 + 65536 * (t5 + 65536 * (t6 + 65536 * (t7 + 65536 * 0)))))) (omega (arith, ht0)) (omega (arith, ht1))
    ∙ ap (λ more. (t0 + 65536 * t1) ∷ more) (two_words 2 t2 t3 (t4 + 65536 * (t5 + 65536 * (t6 + 65536 * (t7 + 65536 * 0)))) (omega (arith, ht2)) (omega (arith, ht3)))
    ∙ ap (λ more. (t0 + 65536 * t1) ∷ (t2 + 65536 * t3) ∷ more) (two_words 1 t4 t5 (t6 + 65536 * (t7 + 65536 * 0)) (omega (arith, ht4)) (omega (arith, ht5)))
    ∙ ap (λ more. (t0 + 65536 * t1) ∷ (t2 + 65536 * t3) ∷ (t4 + 65536 * t5) ∷ more) (two_words 0 t6 t7 0 (omega (arith, ht6)) (omega (arith, ht7)))

-- four lanes of 32 bits, each with four digits, as two lanes
from_fours : (f0 f1 f2 f3 : ℕ) → f0 < 10000 → f1 < 10000 → f2 < 10000 → f3 < 10000
    → digits_l 18446744073709551616 2 (number_l 256 (digits_l 256 16 (number_l 4294967296 (f0 ∷ f1 ∷ f2 ∷ f3 ∷ [])))) ≡ (f0 + 4294967296 * f1) ∷ (f2 + 4294967296 * f3) ∷ []
from_fours f0 f1 f2 f3 hf0 hf1 hf2 hf3 =
    let r3 : (f3 + 4294967296 * 0) < 4294967296 = omega (arith, hf3) in
    let r2 : (f2 + 4294967296 * (f3 + 4294967296 * 0)) < 18446744073709551616 = omega (arith, hf2, r3) in
    let r1 : (f1 + 4294967296 * (f2 + 4294967296 * (f3 + 4294967296 * 0))) < 79228162514264337593543950336 = omega (arith, hf1, r2) in
    let r0 : (f0 + 4294967296 * (f1 + 4294967296 * (f2 + 4294967296 * (f3 + 4294967296 * 0)))) < 340282366920938463463374607431768211456 = omega (arith, hf0, r1) in
    ap (digits_l 18446744073709551616 2) (number_of_digits 256 16 (f0 + 4294967296 * (f1 + 4294967296 * (f2 + 4294967296 * (f3 + 4294967296 * 0)))) (omega arith) r0)
    ∙ two_longs 1 f0 f1 (f2 + 4294967296 * (f3 + 4294967296 * 0)) (omega (arith, hf0)) (omega (arith, hf1))
    ∙ ap (λ more. (f0 + 4294967296 * f1) ∷ more) (two_longs 0 f2 f3 0 (omega (arith, hf2)) (omega (arith, hf3)))

-- what is computed of the lanes, step by step
abbrev pub twos : List ℕ → List ℕ
twos xs = map (λ a. a * 2561 % 65536 / 256) (digits_l 65536 8 (number_l 256 xs))

abbrev pub fours : List ℕ → List ℕ
fours ts = map (λ a. a * 6553601 % 4294967296 / 65536) (digits_l 4294967296 4 (number_l 256 (digits_l 256 16 (number_l 65536 ts))))

abbrev pub words : List ℕ → List ℕ
words fs = digits_l 18446744073709551616 2 (number_l 256 (digits_l 256 16 (number_l 4294967296 fs)))

abbrev pub half : ℕ → ℕ
half d = (bit_and d 4294967295 * 10000 % 18446744073709551616 + d / 4294967296) % 18446744073709551616

pub record Halves (xs : List ℕ) : Type 0 where
  pub first : half (get_or (words (fours (twos xs))) 0 0) ≡ number_from_digits 10 (take 8 xs)
  pub second : half (get_or (words (fours (twos xs))) 1 0) ≡ number_from_digits 10 (drop 8 xs)

twos_are : (a b c d e f g h i j k l m n o p : ℕ) → a < 10 → b < 10 → c < 10 → d < 10 → e < 10 → f < 10 → g < 10 → h < 10 → i < 10 → j < 10 → k < 10 → l < 10 → m < 10 → n < 10 → o < 10 → p < 10 → twos (a ∷ b ∷ c ∷ d ∷ e ∷ f ∷ g ∷ h ∷ i ∷ j ∷ k ∷ l ∷ m ∷ n ∷ o ∷ p ∷ []) ≡ (a * 10 + b) ∷ (c * 10 + d) ∷ (e * 10 + f) ∷ (g * 10 + h) ∷ (i * 10 + j) ∷ (k * 10 + l) ∷ (m * 10 + n) ∷ (o * 10 + p) ∷ []
twos_are a b c d e f g h i j k l m n o p ha hb hc hd he hf hg hh hi hj hk hl hm hn ho hp =
    ap (map (λ x. x * 2561 % 65536 / 256)) (from_digits a b c d e f g h i j k l m n o p ha hb hc hd he hf hg hh hi hj hk hl hm hn ho hp)
    ∙ (λ t. two_is a b ha hb t ∷ two_is c d hc hd t ∷ two_is e f he hf t ∷ two_is g h hg hh t ∷ two_is i j hi hj t ∷ two_is k l hk hl t ∷ two_is m n hm hn t ∷ two_is o p ho hp t ∷ [])

fours_are : (t0 t1 t2 t3 t4 t5 t6 t7 : ℕ) → t0 < 100 → t1 < 100 → t2 < 100 → t3 < 100 → t4 < 100 → t5 < 100 → t6 < 100 → t7 < 100 → fours (t0 ∷ t1 ∷ t2 ∷ t3 ∷ t4 ∷ t5 ∷ t6 ∷ t7 ∷ []) ≡ (t0 * 100 + t1) ∷ (t2 * 100 + t3) ∷ (t4 * 100 + t5) ∷ (t6 * 100 + t7) ∷ []
fours_are t0 t1 t2 t3 t4 t5 t6 t7 ht0 ht1 ht2 ht3 ht4 ht5 ht6 ht7 =
    ap (map (λ x. x * 6553601 % 4294967296 / 65536)) (from_twos t0 t1 t2 t3 t4 t5 t6 t7 ht0 ht1 ht2 ht3 ht4 ht5 ht6 ht7)
    ∙ (λ t. four_is t0 t1 ht0 ht1 t ∷ four_is t2 t3 ht2 ht3 t ∷ four_is t4 t5 ht4 ht5 t ∷ four_is t6 t7 ht6 ht7 t ∷ [])

halves : (a b c d e f g h i j k l m n o p : ℕ) → a < 10 → b < 10 → c < 10 → d < 10 → e < 10 → f < 10 → g < 10 → h < 10 → i < 10 → j < 10 → k < 10 → l < 10 → m < 10 → n < 10 → o < 10 → p < 10 → Halves (a ∷ b ∷ c ∷ d ∷ e ∷ f ∷ g ∷ h ∷ i ∷ j ∷ k ∷ l ∷ m ∷ n ∷ o ∷ p ∷ [])
halves a b c d e f g h i j k l m n o p ha hb hc hd he hf hg hh hi hj hk hl hm hn ho hp =
    let fs : fours (twos (a ∷ b ∷ c ∷ d ∷ e ∷ f ∷ g ∷ h ∷ i ∷ j ∷ k ∷ l ∷ m ∷ n ∷ o ∷ p ∷ [])) ≡ ((a * 10 + b) * 100 + (c * 10 + d)) ∷ ((e * 10 + f) * 100 + (g * 10 + h)) ∷ ((i * 10 + j) * 100 + (k * 10 + l)) ∷ ((m * 10 + n) * 100 + (o * 10 + p)) ∷ [] = ap fours (twos_are a b c d e f g h i j k l m n o p ha hb hc hd he hf hg hh hi hj hk hl hm hn ho hp) ∙ fours_are (a * 10 + b) (c * 10 + d) (e * 10 + f) (g * 10 + h) (i * 10 + j) (k * 10 + l) (m * 10 + n) (o * 10 + p) (omega (arith, ha, hb)) (omega (arith, hc, hd)) (omega (arith, he, hf)) (omega (arith, hg, hh)) (omega (arith, hi, hj)) (omega (arith, hk, hl)) (omega (arith, hm, hn)) (omega (arith, ho, hp)) in
    let ws : words (fours (twos (a ∷ b ∷ c ∷ d ∷ e ∷ f ∷ g ∷ h ∷ i ∷ j ∷ k ∷ l ∷ m ∷ n ∷ o ∷ p ∷ []))) ≡ (((a * 10 + b) * 100 + (c * 10 + d)) + 4294967296 * ((e * 10 + f) * 100 + (g * 10 + h))) ∷ (((i * 10 + j) * 100 + (k * 10 + l)) + 4294967296 * ((m * 10 + n) * 100 + (o * 10 + p))) ∷ [] = ap words fs ∙ from_fours ((a * 10 + b) * 100 + (c * 10 + d)) ((e * 10 + f) * 100 + (g * 10 + h)) ((i * 10 + j) * 100 + (k * 10 + l)) ((m * 10 + n) * 100 + (o * 10 + p)) (omega (arith, ha, hb, hc, hd)) (omega (arith, he, hf, hg, hh)) (omega (arith, hi, hj, hk, hl)) (omega (arith, hm, hn, ho, hp)) in
    record {
      first = ap (λ l. half (get_or l 0 0)) ws ∙ eight_is ((a * 10 + b) * 100 + (c * 10 + d)) ((e * 10 + f) * 100 + (g * 10 + h)) (omega (arith, ha, hb, hc, hd)) (omega (arith, he, hf, hg, hh)) ∙ omega arith;
      second = ap (λ l. half (get_or l 1 0)) ws ∙ eight_is ((i * 10 + j) * 100 + (k * 10 + l)) ((m * 10 + n) * 100 + (o * 10 + p)) (omega (arith, hi, hj, hk, hl)) (omega (arith, hm, hn, ho, hp)) ∙ omega arith;
    }

-- a fact of each list of n numbers, from the same of n numbers written out
pub spelled : (P : List ℕ → Type 0) (n : ℕ) → ((f : ℕ → ℕ) → P (map f (range_with_len 0 n))) → (xs : List ℕ) → length xs ≡ n → P xs
spelled P n h xs long =
    let f = λ (k : ℕ). get_or xs k 0 in
    let many = length-map-range_with_len f 0 n in
    subst P (ext_get_or 0 _ xs (many ∙ sym long) (λ i l. get_or-map-range_with_len f 0 n i i 0 (omega arith) (omega arith))) (h f)

pub numbers : (xs : List ℕ) → length xs ≡ 16 → AllBelowBase 10 xs → Halves xs
numbers xs long small = spelled (λ xs. AllBelowBase 10 xs → Halves xs) 16 (λ f small. halves (f 0) (f 1) (f 2) (f 3) (f 4) (f 5) (f 6) (f 7) (f 8) (f 9) (f 10) (f 11) (f 12) (f 13) (f 14) (f 15) small.0 small.1.0 small.1.1.0 small.1.1.1.0 small.1.1.1.1.0 small.1.1.1.1.1.0 small.1.1.1.1.1.1.0 small.1.1.1.1.1.1.1.0 small.1.1.1.1.1.1.1.1.0 small.1.1.1.1.1.1.1.1.1.0 small.1.1.1.1.1.1.1.1.1.1.0 small.1.1.1.1.1.1.1.1.1.1.1.0 small.1.1.1.1.1.1.1.1.1.1.1.1.0 small.1.1.1.1.1.1.1.1.1.1.1.1.1.0 small.1.1.1.1.1.1.1.1.1.1.1.1.1.1.0 small.1.1.1.1.1.1.1.1.1.1.1.1.1.1.1.0) xs long small

-- The number of sixteen digits.

abbrev whole : List ℕ → ℕ
whole xs = number_from_digits 10 (take 8 xs) * 100000000 + number_from_digits 10 (drop 8 xs)

joined : (xs : List ℕ) → length xs ≡ 16 → whole xs ≡ number_from_digits 10 xs
joined xs long = spelled (λ xs. whole xs ≡ number_from_digits 10 xs) 16 (λ f. omega arith) xs long

pub number : (xs : List ℕ) (first second : ℕ) → length xs ≡ 16 → AllBelowBase 10 xs → first ≡ number_from_digits 10 (take 8 xs) → second ≡ number_from_digits 10 (drop 8 xs)
    → (first * 100000000 % 2 ^ 64 + second) % 2 ^ 64 ≡ number_from_digits 10 xs
number xs first second long small one two =
    let less : number_from_digits 10 xs < 10 ^ 16 = subst (λ n. number_from_digits 10 xs < 10 ^ n) long (number_lt 10 xs small) in
    omega (arith, one, two, joined xs long, less)
