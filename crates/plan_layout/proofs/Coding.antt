-- Boxes that are the same have the same code.
use Rattle.std.proofs.Common.{◌≡◌, ℕ, ◌≤◌, min, Bool, true, false, not, ◌||◌, cond, List, [], ◌∷◌, length, drop, refl, ap, ap₂, ◌∙◌, arith, length-drop}
use Rattle.std.specs.List.{flat_map}
use Rattle.sem_query.specs.declared.part.Pair.{Pair}
use Rattle.sem_query.specs.declared.part.Sign.{Sign}
use Rattle.sem_query.specs.Query.{QueryValue}
use Rattle.sem_query.specs.Parts.{pairs, is_within}
use Rattle.sem_query.specs.Plan.{stream_at, dims_at}
use Rattle.sem_query.specs.Admission.{sign_eq}
use Rattle.sem_query.specs.Sharing.{Box, same_signs, same_box}
use Rattle.sem_laws.proofs.Tests.{and-left, and-right, sign_eq-is}
use Rattle.sem_laws.proofs.SameBoxes.{are-same}
use Rattle.plan_layout.specs.Codes.{code_after, number_of, sign_numbers, dim_numbers, kind_numbers, code_of}

none_left : (place : ℕ) (ps : List Pair) (ss : List Sign) → min (length ps) (length ss) ≤ 0 → sign_numbers place ps ss ≡ []
none_left place [] ss l = refl
none_left place (p ∷ ps) [] l = refl
none_left place (p ∷ ps) (s ∷ ss) l = absurd (omega (arith, l))

-- after the last pair or sign there are no more numbers
pub signs_done : (place : ℕ) (ps : List Pair) (ss : List Sign) (i : ℕ) → min (length ps) (length ss) ≤ i → sign_numbers place (drop i ps) (drop i ss) ≡ []
signs_done place ps ss i l = none_left place (drop i ps) (drop i ss) (let e = length-drop i ps in let f = length-drop i ss in omega (arith, l, e, f))

numbers_same : (place : ℕ) (ps : List Pair) (ss ts : List Sign) → same_signs place ps ss ts ≡ true → sign_numbers place ps ss ≡ sign_numbers place ps ts
numbers_same place [] ss ts h = refl
numbers_same place (p ∷ ps) [] [] h = refl
numbers_same place (p ∷ ps) [] (t ∷ ts) h = absurd cc
numbers_same place (p ∷ ps) (s ∷ ss) [] h = absurd cc
numbers_same place (p ∷ ps) (s ∷ ss) (t ∷ ts) h =
    ap₂ (λ n ns. n ∷ ns)
    (here (is_within place p.left p.right) (and-left (not (is_within place p.left p.right) || sign_eq s t) _ h))
    (numbers_same place ps ss ts (and-right (not (is_within place p.left p.right) || sign_eq s t) _ h))
  where
    here : (b : Bool) → (not b || sign_eq s t) ≡ true → cond b (number_of s) 0 ≡ cond b (number_of t) 0
    here true e = ap number_of (sign_eq-is s t e)
    here false e = refl

pub code_same : (q : QueryValue) (b c : Box) → same_box q b c ≡ true → code_of q b ≡ code_of q c
code_same q b c h =
    let s = are-same q b c h in
    (λ i. code_after (code_after (code_after b.place (numbers_same b.place (pairs q) b.part.signs.items c.part.signs.items s.signs i)) (flat_map dim_numbers (dims_at b.part b.place))) (kind_numbers (stream_at b.part b.place).kind))
    ∙ (λ i. code_after (code_after (code_after (s.place i) (sign_numbers (s.place i) (pairs q) c.part.signs.items)) (flat_map dim_numbers (s.dims i))) (kind_numbers (s.kind i)))
