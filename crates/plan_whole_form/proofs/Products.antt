-- The number of combinations of values of one list of dims after another.
use Rattle.std.proofs.Common.{◌≡◌, ℕ, ◌+◌, ◌-◌, ◌*◌, ◌^◌, ◌<◌, ◌≤◌, min, List, [], ◌∷◌, ◌++◌, length, take, get_or, slice_index_or, sym, ap, ◌∙◌, arith}
use Rattle.std.proofs.lemmas.List.{take_more, take_all}
use Rattle.sem_query.specs.declared.plan.Dim.{Dim}
use Rattle.sem_query.specs.Boxes.{dim_size, box_size}
use Rattle.plan_whole_form.specs.Numbers.{capped}
use Rattle.plan_whole_form.proofs.Capping.{capped-times}

times-apart : (a b c : ℕ) → a * (b * c) ≡ a * b * c
times-apart a b c = omega arith

pub size-append : (xs ys : List Dim) → box_size (xs ++ ys) ≡ box_size xs * box_size ys
size-append [] ys = omega arith
size-append (d ∷ xs) ys = ap (λ n. dim_size d * n) (size-append xs ys) ∙ times-apart (dim_size d) (box_size xs) (box_size ys)

-- one more dim
pub size-push : (xs : List Dim) (d : Dim) → box_size (xs ++ d ∷ []) ≡ box_size xs * dim_size d
size-push xs d = size-append xs (d ∷ []) ∙ by (box_size xs) (dim_size d)
  where
    by : (a b : ℕ) → a * (b * 1) ≡ a * b
    by a b = omega arith

-- a product that is kept, and one more factor that is
pub one_more : (size more n m : ℕ) → size ≡ capped n → more ≡ capped m → min (size * more) (2 ^ 64 - 1) ≡ capped (n * m)
one_more size more n m e f = ap (λ x. capped (x * more)) e ∙ ap (λ x. capped (capped n * x)) f ∙ capped-times n m

pub dims_next : (dims : List Dim) (i : ℕ) (d : Dim) (size more : ℕ) → i < length dims → size ≡ capped (box_size (take i dims)) → more ≡ capped (dim_size (slice_index_or dims i d)) → min (size * more) (2 ^ 64 - 1) ≡ capped (box_size (take (i + 1) dims))
dims_next dims i d size more l e f =
    one_more size more (box_size (take i dims)) (dim_size (get_or dims i d)) e f
    ∙ ap capped (sym (ap box_size (take_more dims i d l) ∙ size-push (take i dims) (get_or dims i d)))

pub dims_end : (dims : List Dim) (i size : ℕ) → length dims ≤ i → size ≡ capped (box_size (take i dims)) → size ≡ capped (box_size dims)
dims_end dims i size l e = e ∙ ap (λ xs. capped (box_size xs)) (take_all i dims l)
