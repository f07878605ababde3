-- Texts of several pieces, grouped as their definitions group them.
use Rattle.std.proofs.Common.{◌≡◌, ℕ, List, [], ◌∷◌, ◌++◌, codes, append_assoc}

pub bounded : (n p : List ℕ) → codes "certified " ++ (n ++ (codes " bounded parts " ++ (p ++ (10 ∷ [])))) ≡ codes "certified " ++ n ++ codes " bounded parts " ++ p ++ 10 ∷ []
bounded n p = simp append_assoc
