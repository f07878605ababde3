-- The first line of a family, grouped as its definition groups it.
use Rattle.std.proofs.Common.{◌≡◌, List, [], ◌∷◌, ◌++◌, ℕ, codes, append_assoc, sym, ap, ◌∙◌}
use Rattle.adv_templates.specs.Template.{filled}
use Rattle.cmd_lower.specs.Text.{head_text}
use Rattle.cmd_lower.specs.declared.lines.TheConstants.{HEAD}

head_of : (n p c column z : List ℕ) → codes "family " ++ (n ++ (codes " part " ++ (p ++ 32 ∷ (c ++ 32 ∷ (column ++ (codes " size " ++ (z ++ 10 ∷ []))))))) ≡ head_text n p c column z
head_of n p c column z = simp append_assoc

head_grouped : (n p c s d z : List ℕ) → codes "family " ++ (n ++ (codes " part " ++ (p ++ 32 ∷ (c ++ 32 ∷ (s ++ 46 ∷ (d ++ (codes " size " ++ (z ++ 10 ∷ [])))))))) ≡ head_text n p c (s ++ 46 ∷ d) z
head_grouped n p c s d z =
    ap (λ (t : List ℕ). codes "family " ++ (n ++ (codes " part " ++ (p ++ 32 ∷ (c ++ 32 ∷ t))))) (sym (append_assoc s (46 ∷ d) (codes " size " ++ (z ++ 10 ∷ []))))
    ∙ head_of n p c (s ++ 46 ∷ d) z

-- its template says that with its holes filled
pub head_filled : (n p c s d z : List ℕ) → filled HEAD.now (n ∷ p ∷ c ∷ s ∷ d ∷ z ∷ []) ≡ head_text n p c (s ++ 46 ∷ d) z
unfolding filled
head_filled n p c s d z = head_grouped n p c s d z
