-- Going through the places of a box is going through its combinations of values.
use Rattle.std.proofs.Common.{◌≡◌, ℕ, zero, suc, ◌<◌, List, [], ◌∷◌, ◌++◌, cond, refl, sym, ap, ◌∙◌, subst, arith, ℤ}
use Rattle.std.specs.List.{flat_map}
use Rattle.sem_query.specs.declared.plan.Dim.{Dim}
use Rattle.sem_query.specs.Meaning.{by_column}
use Rattle.sem_query.specs.Boxes.{box, box_size, place_of, values_at}
use Rattle.sem_query.specs.Plan.{stream_at, dims_at}
use Rattle.sem_query.specs.Admission.{admits}
use Rattle.sem_query.specs.Cells.{upto}
use Rattle.sem_query.specs.Combinations.{Choice, choice, choice_of, cell_choice}
use Rattle.sem_query.proofs.BoxLaws as Boxes
use Rattle.sem_laws.specs.Probing.{ChoicesGoByValues}
use Rattle.sem_laws.proofs.LaidOut.{length-upto, get-upto}
use Rattle.sem_laws.proofs.Numbering.{same-lists}

flat-append : {X Y : Type 0} (f : X → List Y) (xs ys : List X) → flat_map f (xs ++ ys) ≡ flat_map f xs ++ flat_map f ys
flat-append f [] ys = refl
flat-append f (x ∷ xs) ys = ap (λ l. f x ++ l) (flat-append f xs ys) ∙ regroup (f x) (flat_map f xs) (flat_map f ys)
  where
    regroup : {Y : Type 0} (ks ls ms : List Y) → ks ++ (ls ++ ms) ≡ (ks ++ ls) ++ ms
    regroup [] ls ms = refl
    regroup (k ∷ ks) ls ms = ap (λ l. k ∷ l) (regroup ks ls ms)

-- the same lists at each place below the size
flat-upto : {X Y : Type 0} (f : ℕ → List Y) (h : X → List Y) (g : ℕ → X) (n : ℕ) → ((i : ℕ) → i < n → f i ≡ h (g i))
    → flat_map f (upto (λ i. i) n) ≡ flat_map h (upto g n)
flat-upto f h g zero e = refl
flat-upto f h g (suc n) e =
    flat-append f (upto (λ i. i) n) (n ∷ [])
    ∙ (λ k. flat-upto f h g n (λ i l. e i (omega (arith, l))) k ++ (e n (omega arith) k ++ []))
    ∙ sym (flat-append h (upto g n) (g n ∷ []))

-- the box is the list of the combinations at its places
pub box-upto : (dims : List Dim) → box dims ≡ upto (values_at dims) (box_size dims)
box-upto dims =
    same-lists (box dims) (upto (values_at dims) (box_size dims)) [] (Boxes.length-box dims ∙ sym (length-upto (values_at dims) (box_size dims)))
    (λ n l.
    let b : n < box_size dims = subst (λ m. n < m) (Boxes.length-box dims) l in
    Boxes.at-box dims n b ∙ sym (get-upto (values_at dims) (box_size dims) n [] b))

pub choices-go-by-values : ChoicesGoByValues
choices-go-by-values q part read r place stream off size =
    ap (λ b. cond b (cond (admits q part place (by_column r.values)) (choice (by_column r.values) 1) []) (flat_map (λ i. cell_choice q part place i (read part place i)) (upto (λ i. i) (stream_at part place).size))) off
    ∙ ap (λ n. flat_map (λ i. cell_choice q part place i (read part place i)) (upto (λ i. i) n)) size
    ∙ flat-upto (λ i. cell_choice q part place i (read part place i)) of_values (values_at dims) (box_size dims)
    (λ i l. ap (λ n. choice_of q part place (values_at dims i) (read part place n)) (sym (Boxes.place-values dims i l)))
    ∙ ap (flat_map of_values) (sym (box-upto dims))
  where
    dims : List Dim
    dims = dims_at part place

    of_values : List ℤ → List Choice
    of_values xs = choice_of q part place xs (read part place (place_of dims xs))
