-- One pair and its sign.
use Rattle.std.proofs.Common.{◌≡◌, ℕ, ◌+◌, ◌<◌, ◌≤◌, true, false, not, List, [], ◌∷◌, length, drop, get_or, refl, ap, ◌∙◌, ◌&&◌, ◌||◌}
use Rattle.std.proofs.lemmas.List.{drop_more, drop_all}
use Rattle.sem_query.specs.declared.atom.Attr.{Attr}
use Rattle.sem_query.specs.declared.part.Pair.{Pair}
use Rattle.sem_query.specs.declared.part.Sign.{Sign}
use Rattle.sem_query.specs.Assignment.{Assignment}
use Rattle.sem_query.specs.Parts.{sign_at, is_within}
use Rattle.sem_query.specs.Admission.{sign_eq, keeps_signs}
use Rattle.sem_query.specs.Combinations.{ties, any_ties}

pub tied_past : (ps : List Pair) (ss : List Sign) (i : ℕ) (a b : Attr) → length ss ≤ i → any_ties a b (drop i ps) (drop i ss) ≡ false
tied_past ps ss i a b l = ap (λ xs. any_ties a b (drop i ps) xs) (drop_all i ss l) ∙ none (drop i ps)
  where
    none : (xs : List Pair) → any_ties a b xs [] ≡ false
    none [] = refl
    none (x ∷ xs) = refl

pub tied_all : (ps : List Pair) (ss : List Sign) (i : ℕ) (a b : Attr) → length ps ≤ i → any_ties a b (drop i ps) (drop i ss) ≡ false
tied_all ps ss i a b l = ap (λ xs. any_ties a b xs (drop i ss)) (drop_all i ps l)

pub tied_step : (ps : List Pair) (ss : List Sign) (i : ℕ) (a b : Attr) (p : Pair) (s : Sign) → i < length ps → i < length ss
    → any_ties a b (drop i ps) (drop i ss) ≡ (ties a b (get_or ps i p) (get_or ss i s) || any_ties a b (drop (i + 1) ps) (drop (i + 1) ss))
tied_step ps ss i a b p s l m = (λ k. any_ties a b (drop_more ps i p l k) (drop_more ss i s m k))

pub kept_past : (place : ℕ) (v : Assignment) (ps : List Pair) (ss : List Sign) (i : ℕ) → length ss ≤ i → keeps_signs place v (drop i ps) (drop i ss) ≡ true
kept_past place v ps ss i l = ap (λ xs. keeps_signs place v (drop i ps) xs) (drop_all i ss l) ∙ none (drop i ps)
  where
    none : (xs : List Pair) → keeps_signs place v xs [] ≡ true
    none [] = refl
    none (x ∷ xs) = refl

pub kept_all : (place : ℕ) (v : Assignment) (ps : List Pair) (ss : List Sign) (i : ℕ) → length ps ≤ i → keeps_signs place v (drop i ps) (drop i ss) ≡ true
kept_all place v ps ss i l = ap (λ xs. keeps_signs place v xs (drop i ss)) (drop_all i ps l)

pub kept_step : (place : ℕ) (v : Assignment) (ps : List Pair) (ss : List Sign) (i : ℕ) (p : Pair) (s : Sign) → i < length ps → i < length ss
    → keeps_signs place v (drop i ps) (drop i ss)
    ≡ ((not (is_within place (get_or ps i p).left (get_or ps i p).right) || sign_eq (sign_at v (get_or ps i p)) (get_or ss i s)) && keeps_signs place v (drop (i + 1) ps) (drop (i + 1) ss))
kept_step place v ps ss i p s l m = (λ k. keeps_signs place v (drop_more ps i p l k) (drop_more ss i s m k))
