-- The last byte of a text.
use Rattle.std.proofs.Common.{◌≡◌, ◌≢◌, ℕ, ◌<◌, Bool, false, cond, List, [], ◌∷◌, ◌++◌, length, refl, ap, ◌∙◌, arith, All, suc}
use Rattle.std.proofs.lemmas.Bool.Decides.{nat_tests}
use Rattle.cmd_each.specs.OneLine.{without_feed, ends_in_feed}

pub ends-append : (x : List ℕ) (b : ℕ) (rest : List ℕ) → ends_in_feed (x ++ b ∷ rest) ≡ ends_in_feed (b ∷ rest)
ends-append [] b rest = refl
ends-append (y ∷ []) b rest = refl
ends-append (y ∷ z ∷ x) b rest = ends-append (z ∷ x) b rest

pub ends-other : (x : List ℕ) (b : ℕ) → b ≢ 10 → ends_in_feed (x ++ b ∷ []) ≡ false
ends-other x b differ = ends-append x b [] ∙ grind (arith, nat_tests)

-- a text without an LF does not end in one
pub ends-plain : (x text : List ℕ) → 0 < length text → All (λ b. b ≢ 10) text → ends_in_feed (x ++ text) ≡ false
ends-plain x [] some plain = absurd (omega (arith, some))
ends-plain x (b ∷ []) some plain = ends-other x b (plain 0 b (omega arith))
ends-plain x (b ∷ c ∷ rest) some plain = ends-append x b (c ∷ rest) ∙ ends-plain [] (c ∷ rest) (omega arith) (λ k d lt. plain (suc k) d (omega (arith, lt)))

pub without-other : (text : List ℕ) → ends_in_feed text ≡ false → without_feed text ≡ text
without-other [] e = refl
without-other (b ∷ []) e = ap (λ (x : Bool). cond x [] (b ∷ [])) e
without-other (b ∷ c ∷ rest) e = ap (λ l. b ∷ l) (without-other (c ∷ rest) e)

pub without-append : (x : List ℕ) (b : ℕ) (rest : List ℕ) → without_feed (x ++ b ∷ rest) ≡ x ++ without_feed (b ∷ rest)
without-append [] b rest = refl
without-append (y ∷ []) b rest = refl
without-append (y ∷ z ∷ x) b rest = ap (λ l. y ∷ l) (without-append (z ∷ x) b rest)
