use Rattle.std.proofs.Common.{◌≡◌, ℕ, suc, ◌+◌, ◌-◌, ◌<◌, ◌≤◌, List, [], ◌∷◌, ◌++◌, length, take, get_or, refl, ap, sym, ◌∙◌, append_assoc, arith}
use Rattle.std.specs.Prelude.{slice_set, replicate}
use Rattle.std.proofs.lemmas.List.{take_more, length-take-le}

-- a byte put behind a front
set_behind : (xs ys : List ℕ) (y x : ℕ) → slice_set (xs ++ y ∷ ys) (length xs) x ≡ xs ++ x ∷ ys
set_behind [] ys y x = refl
set_behind (z ∷ xs) ys y x = ap (λ r. z ∷ r) (set_behind xs ys y x)

-- one byte more is copied
pub copied_more : (text bytes : List ℕ) (i : ℕ) → i < length text → length text ≤ 24 → bytes ≡ take i text ++ replicate (24 - i) 0 → slice_set bytes i (get_or text i 0) ≡ take (i + 1) text ++ replicate (24 - (i + 1)) 0
copied_more text bytes i low short e =
    let k = 24 - (i + 1) in
    let n : 24 - i ≡ suc k = omega arith in
    let len : length (take i text) ≡ i = length-take-le i text (omega arith) in
    ap (λ bs. slice_set bs i (get_or text i 0)) (e ∙ ap (λ m. take i text ++ replicate m 0) n)
    ∙ ap (λ m. slice_set (take i text ++ 0 ∷ replicate k 0) m (get_or text i 0)) (sym len)
    ∙ set_behind (take i text) (replicate k 0) 0 (get_or text i 0)
    ∙ sym (append_assoc (take i text) (get_or text i 0 ∷ []) (replicate k 0))
    ∙ ap (λ r. r ++ replicate k 0) (sym (take_more text i 0 low))
