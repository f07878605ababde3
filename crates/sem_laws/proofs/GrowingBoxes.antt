-- Different boxes, one more at a time: how a plan with shared cells is laid out part by part.
use Rattle.std.proofs.Common.{inl, inr, ◌≡◌, ℕ, ◌+◌, List, [], ◌∷◌, ◌++◌, filter, cond, Bool, true, false, not, ◌||◌, refl, sym, ap, ◌∙◌}
use Rattle.std.specs.List.{list_any}
use Rattle.sem_query.specs.Query.{QueryValue}
use Rattle.sem_query.specs.Sharing.{Box, size_in, same_box, different_boxes, sizes_in, start_in}
use Rattle.sem_query.proofs.Has.{Has-filter, Has-filter_from}
use Rattle.sem_laws.proofs.Tests.{true_or_false, not_both, same_bool, any_from, any_if, or-false}
use Rattle.sem_laws.specs.Sharing.{BoxesGrowByOne}
use Rattle.sem_laws.proofs.SameBoxes.{same-itself, same-then, sizes-cons}

-- a box that is the same stands in the list
abbrev pub has_same : QueryValue → List Box → Box → Bool
has_same q xs b = list_any (λ c. same_box q c b) xs

filter-last : (p : Box → Bool) (xs : List Box) (b : Box) → filter p (xs ++ b ∷ []) ≡ cond (p b) (filter p xs ++ b ∷ []) (filter p xs)
filter-last p [] b = refl
filter-last p (x ∷ xs) b = ap (λ ys. cond (p x) (x ∷ ys) ys) (filter-last p xs b) ∙ by (p x) (p b)
  where
    by : (s t : Bool) → cond s (x ∷ cond t (filter p xs ++ b ∷ []) (filter p xs)) (cond t (filter p xs ++ b ∷ []) (filter p xs))
        ≡ cond t (cond s (x ∷ filter p xs) (filter p xs) ++ b ∷ []) (cond s (x ∷ filter p xs) (filter p xs))
    by true true = refl
    by true false = refl
    by false true = refl
    by false false = refl

-- one box more is a new one, or one that is there
pub different-more : (q : QueryValue) (xs : List Box) (b : Box)
    → different_boxes q (xs ++ b ∷ []) ≡ cond (has_same q (different_boxes q xs) b) (different_boxes q xs) (different_boxes q xs ++ b ∷ [])
different-more q [] b = refl
different-more q (x ∷ xs) b = ap (λ ys. x ∷ filter p ys) (different-more q xs b) ∙ by (same_box q x b) refl (has_same q D b) refl
  where
    p : Box → Bool
    p c = not (same_box q x c)

    D : List Box
    D = different_boxes q xs

    kept : same_box q x b ≡ false → has_same q (filter p D) b ≡ has_same q D b
    kept e = same_bool (has_same q (filter p D) b) (has_same q D b)
        (λ h. let m = any_from (λ c. same_box q c b) (filter p D) h in any_if (λ c. same_box q c b) D m.0 (Has-filter_from p D m.0 m.1) m.2)
        (λ h.
        let m = any_from (λ c. same_box q c b) D h in
        let o : same_box q x m.0 ≡ false = elim (true_or_false (same_box q x m.0)) [
          | inr k ↦ k
          | inl k ↦ absurd (not_both (same_box q x b) (same-then q x m.0 b k m.2) e)
        ] in
        any_if (λ c. same_box q c b) (filter p D) m.0 (Has-filter p (ap not o) m.1) m.2)

    by : (s : Bool) → same_box q x b ≡ s → (t : Bool) → has_same q D b ≡ t
        → x ∷ filter p (cond (has_same q D b) D (D ++ b ∷ [])) ≡ cond (same_box q x b || has_same q (filter p D) b) (x ∷ filter p D) (x ∷ filter p D ++ b ∷ [])
    by true e true g =
        ap (λ u. x ∷ filter p (cond u D (D ++ b ∷ []))) g
        ∙ sym (ap (λ u. cond (u || has_same q (filter p D) b) (x ∷ filter p D) (x ∷ filter p D ++ b ∷ [])) e)
    by true e false g =
        ap (λ u. x ∷ filter p (cond u D (D ++ b ∷ []))) g
        ∙ ap (λ ys. x ∷ ys) (filter-last p D b ∙ ap (λ u. cond (not u) (filter p D ++ b ∷ []) (filter p D)) e)
        ∙ sym (ap (λ u. cond (u || has_same q (filter p D) b) (x ∷ filter p D) (x ∷ filter p D ++ b ∷ [])) e)
    by false e true g =
        ap (λ u. x ∷ filter p (cond u D (D ++ b ∷ []))) g
        ∙ sym (ap (λ u. cond (u || has_same q (filter p D) b) (x ∷ filter p D) (x ∷ filter p D ++ b ∷ [])) e
        ∙ ap (λ u. cond u (x ∷ filter p D) (x ∷ filter p D ++ b ∷ [])) (kept e ∙ g))
    by false e false g =
        ap (λ u. x ∷ filter p (cond u D (D ++ b ∷ []))) g
        ∙ ap (λ ys. x ∷ ys) (filter-last p D b ∙ ap (λ u. cond (not u) (filter p D ++ b ∷ []) (filter p D)) e)
        ∙ sym (ap (λ u. cond (u || has_same q (filter p D) b) (x ∷ filter p D) (x ∷ filter p D ++ b ∷ [])) e
        ∙ ap (λ u. cond u (x ∷ filter p D) (x ∷ filter p D ++ b ∷ [])) (kept e ∙ g))

-- boxes behind do not move the start of one that is there
pub start-stays : (q : QueryValue) (xs ys : List Box) (b : Box) → has_same q xs b ≡ true → start_in q (xs ++ ys) b ≡ start_in q xs b
start-stays q [] ys b h = absurd cc
start-stays q (x ∷ xs) ys b h = by (same_box q x b) refl (λ k. start-stays q xs ys b k)
  where
    by : (t : Bool) → same_box q x b ≡ t → (has_same q xs b ≡ true → start_in q (xs ++ ys) b ≡ start_in q xs b)
        → cond t 0 (size_in x + start_in q (xs ++ ys) b) ≡ cond t 0 (size_in x + start_in q xs b)
    by true e f = refl
    by false e f = ap (λ (n : ℕ). size_in x + n) (f (ap (λ t. t || has_same q xs b) (sym e) ∙ h))

-- and a new one begins behind all
pub start-new : (q : QueryValue) (xs : List Box) (b : Box) → has_same q xs b ≡ false → start_in q (xs ++ b ∷ []) b ≡ sizes_in xs
start-new q [] b h = ap (λ t. cond t 0 (size_in b + 0)) (same-itself q b)
start-new q (x ∷ xs) b h =
    let o = or-false (same_box q x b) (has_same q xs b) h in
    ap (λ t. cond t 0 (size_in x + start_in q (xs ++ b ∷ []) b)) o.0
    ∙ ap (λ (n : ℕ). size_in x + n) (start-new q xs b o.1) ∙ sym (sizes-cons x xs)

pub boxes-grow-by-one : BoxesGrowByOne
boxes-grow-by-one q list b = record { boxes = different-more q list b; begins = start-new q list b; stays = λ more c h. start-stays q list more c h }
