-- Columns, each once: one more of them.
use Rattle.std.proofs.Common.{◌≡◌, ℕ, ◌+◌, ◌<◌, ◌≤◌, Bool, true, false, not, ◌||◌, cond, List, [], ◌∷◌, ◌++◌, filter, length, take, get_or, slice_index_or, refl, sym, ap, ◌∙◌, subst, arith}
use Rattle.std.specs.List.{list_any}
use Rattle.std.proofs.lemmas.List.{take_more, length-take-le}
use Rattle.std.proofs.lemmas.List.Elements.{filter-append}
use Rattle.sem_query.specs.declared.atom.Attr.{Attr}
use Rattle.sem_query.specs.Query.{attr_eq}
use Rattle.sem_query.specs.Ranges.{different}
use Rattle.sem_laws.proofs.Tests.{not_both, attr_eq-is, append-nothing}

fewer : {X : Type 0} (p : X → Bool) (xs : List X) → length (filter p xs) ≤ length xs
fewer p [] = omega arith
fewer p (x ∷ xs) = by (p x) (fewer p xs)
  where
    by : (b : Bool) → length (filter p xs) ≤ length xs → length (cond b (x ∷ filter p xs) (filter p xs)) ≤ length (x ∷ xs)
    by true h = omega (arith, h)
    by false h = omega (arith, h)

few : (xs : List Attr) → length (different xs) ≤ length xs
few [] = omega arith
few (x ∷ xs) = let a = fewer (λ b. not (attr_eq x b)) (different xs) in let b = few xs in omega (arith, a, b)

-- a test that those which are left out do not pass
any_left : (a x : Attr) (xs : List Attr) → attr_eq x a ≡ false → list_any (λ b. attr_eq b a) (filter (λ b. not (attr_eq x b)) xs) ≡ list_any (λ b. attr_eq b a) xs
any_left a x [] n = refl
any_left a x (y ∷ xs) n = by (attr_eq x y) refl (any_left a x xs n)
  where
    F : List Attr
    F = filter (λ b. not (attr_eq x b)) xs

    out : attr_eq x y ≡ true → attr_eq y a ≡ true → ⊥
    out e f = not_both (attr_eq x a) (subst (λ z. attr_eq x z ≡ true) (attr_eq-is y a f) e) n

    none_there : (b : Bool) → (b ≡ true → ⊥) → list_any (λ b. attr_eq b a) F ≡ list_any (λ b. attr_eq b a) xs → list_any (λ b. attr_eq b a) F ≡ (b || list_any (λ b. attr_eq b a) xs)
    none_there true f h = absurd (f refl)
    none_there false f h = h

    by : (b : Bool) → attr_eq x y ≡ b → list_any (λ b. attr_eq b a) F ≡ list_any (λ b. attr_eq b a) xs
        → list_any (λ b. attr_eq b a) (cond (not b) (y ∷ F) F) ≡ (attr_eq y a || list_any (λ b. attr_eq b a) xs)
    by true e h = none_there (attr_eq y a) (out e) h
    by false e h = ap (λ t. attr_eq y a || t) h

-- the columns with one more, where it is not among them
abbrev with_one : List Attr → Attr → List Attr
with_one xs a = cond (list_any (λ b. attr_eq b a) xs) xs (xs ++ a ∷ [])

-- the rest without one column
without : Attr → List Attr → List Attr
without x xs = filter (λ b. not (attr_eq x b)) xs

different-push : (xs : List Attr) (a : Attr) → different (xs ++ a ∷ []) ≡ with_one (different xs) a
unfolding without
different-push [] a = refl
different-push (x ∷ xs) a = ap (λ l. x ∷ without x l) (different-push xs a) ∙ step x (different xs) a
  where
    more : (x : Attr) (D : List Attr) (a : Attr) (b : Bool) → attr_eq x a ≡ b → without x (D ++ a ∷ []) ≡ without x D ++ cond (not b) (a ∷ []) []
    more x D a b e = filter-append (λ b. not (attr_eq x b)) D (a ∷ []) ∙ ap (λ t. without x D ++ cond (not t) (a ∷ []) []) e

    by : (x : Attr) (D : List Attr) (a : Attr) (b : Bool) → attr_eq x a ≡ b → (t : Bool) → list_any (λ b. attr_eq b a) D ≡ t
        → x ∷ without x (cond t D (D ++ a ∷ [])) ≡ cond (b || list_any (λ b. attr_eq b a) (without x D)) (x ∷ without x D) (x ∷ without x D ++ a ∷ [])
    by x D a true e true f = refl
    by x D a true e false f = ap (λ l. x ∷ l) (more x D a true e ∙ append-nothing (without x D))
    by x D a false e true f = ap (λ t. cond t (x ∷ without x D) (x ∷ without x D ++ a ∷ [])) (sym (any_left a x D e ∙ f))
    by x D a false e false f =
        ap (λ l. x ∷ l) (more x D a false e)
        ∙ ap (λ t. cond t (x ∷ without x D) (x ∷ without x D ++ a ∷ [])) (sym (any_left a x D e ∙ f))

    step : (x : Attr) (D : List Attr) (a : Attr) → x ∷ without x (with_one D a) ≡ with_one (x ∷ without x D) a
    step x D a = by x D a (attr_eq x a) refl (list_any (λ b. attr_eq b a) D) refl

pub room_next : (xs ys : List Attr) (i : ℕ) → length xs ≤ 8 → i < length xs → ys ≡ different (take i xs) → length ys < 8
room_next xs ys i h l e =
    let a : length (different (take i xs)) ≤ length (take i xs) = few (take i xs) in
    let b : length (take i xs) ≡ i = length-take-le i xs (omega (arith, l)) in
    let c : length ys ≡ length (different (take i xs)) = ap length e in
    omega (arith, a, b, c, h, l)

pub different_next : (xs ys zs : List Attr) (i : ℕ) (d : Attr) → i < length xs → ys ≡ different (take i xs) → zs ≡ with_one ys (slice_index_or xs i d) → zs ≡ different (take (i + 1) xs)
different_next xs ys zs i d l e f =
    f ∙ ap (λ w. with_one w (slice_index_or xs i d)) e ∙ sym (ap different (take_more xs i d l) ∙ different-push (take i xs) (get_or xs i d))
