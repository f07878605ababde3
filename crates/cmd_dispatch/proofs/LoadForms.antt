-- Words of a load.
use Rattle.std.proofs.Common.{◌≡◌, ℕ, ◌<◌, ◌≤◌, List, [], ◌∷◌, length, get_or, sym, ◌∙◌, subst, Some, None, arith, codes, MatchOption, IfSome, String}
use Rattle.std.specs.declared.alloc.Global.{Global}
use Rattle.std.specs.declared.option.Option.{Option}
use Rattle.cmd_dispatch.specs.LoadWords.{IsLoadSize, AreLoadTexts, AreLoad}

pub two_words : {A : Type 0} (ws : List A) (v w : A) → 2 ≤ length ws → length ws < 3 → v ≡ get_or ws 0 v → w ≡ get_or ws 1 w → ws ≡ v ∷ w ∷ []
two_words [] v w a b e f = absurd (omega arith)
two_words (p ∷ []) v w a b e f = absurd (omega arith)
two_words (p ∷ q ∷ []) v w a b e f = cc
two_words (p ∷ q ∷ r ∷ ts) v w a b e f = absurd (omega arith)

-- the number of rows is that of the words
pub sized_words : (texts : List (List ℕ)) (number : List ℕ) (r : Option ℕ) → texts ≡ codes "load" ∷ number ∷ []
    → MatchOption r ((n : ℕ) → IsLoadSize number n → ⊥) (λ n. IsLoadSize number n) → MatchOption r ((n : ℕ) → AreLoadTexts texts n → ⊥) (λ n. AreLoadTexts texts n)
sized_words texts number None e none = λ n are. refuted n are
  where
    refuted : (n : ℕ) → AreLoadTexts texts n → ⊥
    refuted n are =
        let both : codes "load" ∷ number ∷ [] ≡ codes "load" ∷ are.number ∷ [] = sym e ∙ are.words in
        let same : are.number ≡ number = cc in
        none n (subst (λ t. IsLoadSize t n) same are.size)
sized_words texts number (Some n) e is = record { number = number; words = e; size = is }

-- the number of rows is one that a load may have
pub within_sizes : (words : List (String Global)) (r : Option ℕ) → MatchOption r ((n : ℕ) → AreLoad words n → ⊥) (λ n. AreLoad words n) → IfSome r (λ n. (0 < n) × (n ≤ 100000))
within_sizes words None h = tt
within_sizes words (Some n) h = (h.size.some, h.size.few)
