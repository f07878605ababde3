-- A filter answers a row by that row alone.
use Rattle.std.proofs.Common.{◌≡◌, ℕ, Bool, true, false, not, cond, ◌&&◌, ◌==◌, List, [], ◌∷◌, ◌++◌, map, filter, length, nat_eq, ℤ, Some, None, refl, ap, ◌∙◌, arith}
use Rattle.std.proofs.lemmas.List.{map-append}
use Rattle.std.proofs.lemmas.List.Elements.{filter-append}
use Rattle.std.proofs.lemmas.Bool.Decides.{Decides-int_eq}
use Rattle.std.specs.List.{slice_index_or}
use Rattle.std.specs.Option.{option_to_list}
use Rattle.sem_query.specs.Query.{QueryValue}
use Rattle.sem_query.specs.Assignment.{holds, projected}
use Rattle.sem_query.specs.Tuples.{is_same, bag_minus, sorted, new_tuples}
use Rattle.sem_query.specs.Meaning.{Arrival, rows, product, assignment_of, answers, new_answers}
use Rattle.sem_query.specs.Filter.{FiltersAlone}

-- the answers of one combination
abbrev answer_of : QueryValue → List (List ℤ) → List (List ℤ)
answer_of q c = cond (holds q (assignment_of c)) (projected q (assignment_of c) ∷ []) []

is_same-refl : (t : List ℤ) → is_same t t ≡ true
is_same-refl [] = refl
is_same-refl (x ∷ t) = rw ((Decides-int_eq x x).1 refl) (is_same-refl t)

minus-front : (xs ys : List (List ℤ)) → bag_minus (xs ++ ys) xs ≡ ys
minus-front [] ys = refl
minus-front (x ∷ xs) ys = rw (is_same-refl x) (minus-front xs ys)

-- the product of one list
product-one : (xs : List (List ℤ)) → product (xs ∷ []) ≡ map (λ x. x ∷ []) xs
product-one [] = refl
product-one (x ∷ xs) = ap (λ l. (x ∷ []) ∷ l) (product-one xs)

rows-append : (h : List Arrival) (r : Arrival) (stream : ℕ) → rows (h ++ r ∷ []) stream ≡ rows h stream ++ rows (r ∷ []) stream
rows-append h r stream = ap (map (λ t. t.values)) (filter-append _ h (r ∷ [])) ∙ map-append _ _ _

-- the answers over the rows of one stream
over_rows : QueryValue → List (List ℤ) → List (List ℤ)
over_rows q xs = map (λ c. projected q (assignment_of c)) (filter (λ c. holds q (assignment_of c)) (map (λ x. x ∷ []) xs))

over_rows-append : (q : QueryValue) (xs ys : List (List ℤ)) → over_rows q (xs ++ ys) ≡ over_rows q xs ++ over_rows q ys
unfolding over_rows
over_rows-append q xs ys = simp (map-append, filter-append)

-- one stream in FROM
single : {X : Type 0} (xs : List X) (d : X) → nat_eq (length xs) 1 ≡ true → xs ≡ slice_index_or xs 0 d ∷ []
single [] d e = absurd cc
single (x ∷ []) d e = refl
single (x ∷ y ∷ ys) d e = absurd (grind (arith))

answers-is : (q : QueryValue) (stream : ℕ) (h : List Arrival) → q.from ≡ stream ∷ [] → answers q h ≡ over_rows q (rows h stream)
unfolding over_rows
answers-is q stream h one =
    ap (λ l. map (λ c. projected q (assignment_of c)) (filter (λ c. holds q (assignment_of c)) (product (map (rows h) l)))) one
    ∙ ap (λ l. map (λ c. projected q (assignment_of c)) (filter (λ c. holds q (assignment_of c)) l)) (product-one (rows h stream))

-- the answers of one row
one_row : (q : QueryValue) (stream : ℕ) (r : Arrival) → over_rows q (rows (r ∷ []) stream) ≡ cond (r.stream == stream) (answer_of q (r.values ∷ [])) []
unfolding over_rows
one_row q stream r = of_stream (r.stream == stream) where
  if_it_holds : (d : Bool) → map (λ c. projected q (assignment_of c)) (cond {A = List (List (List ℤ))} d ((r.values ∷ []) ∷ []) []) ≡ cond d (projected q (assignment_of (r.values ∷ [])) ∷ []) []
  if_it_holds true = refl
  if_it_holds false = refl

  of_stream : (b : Bool) → map (λ c. projected q (assignment_of c)) (filter (λ c. holds q (assignment_of c)) (map (λ x. x ∷ []) (map (λ t. t.values) (cond b (r ∷ []) [])))) ≡ cond b (answer_of q (r.values ∷ [])) []
  of_stream true = if_it_holds (holds q (assignment_of (r.values ∷ [])))
  of_stream false = refl

-- a list of at most one tuple is in order
ascending-one : (a b : Bool) (t : List ℤ) → sorted (cond a (cond b (t ∷ []) []) []) ≡ option_to_list (cond (a && b) (Some t) None)
ascending-one true true t = refl
ascending-one true false t = refl
ascending-one false b t = refl

both : (a b : Bool) → (not a && b) ≡ true → (a ≡ false) × (b ≡ true)
both true b e = absurd cc
both false b e = (refl, e)

new-plain : (q : QueryValue) (h : List Arrival) (r : Arrival) → q.distinct ≡ false → new_answers q h r ≡ sorted (bag_minus (answers q (h ++ r ∷ [])) (answers q h))
unfolding new_answers
new-plain q h r plain = ap (λ b. cond b (sorted (new_tuples (answers q h) (answers q (h ++ r ∷ [])))) (sorted (bag_minus (answers q (h ++ r ∷ [])) (answers q h)))) plain

pub filters_alone : FiltersAlone
filters_alone q h r is =
    let plain = both q.distinct (nat_eq (length q.from) 1) is in
    let stream = slice_index_or q.from 0 0 in
    let one : q.from ≡ stream ∷ [] = single q.from 0 plain.1 in
    let before = answers-is q stream h one in
    let grown : answers q (h ++ r ∷ []) ≡ over_rows q (rows h stream) ++ cond (r.stream == stream) (answer_of q (r.values ∷ [])) [] =
    answers-is q stream (h ++ r ∷ []) one ∙ ap (over_rows q) (rows-append h r stream) ∙ over_rows-append q _ _ ∙ ap (λ l. over_rows q (rows h stream) ++ l) (one_row q stream r) in
    let left = λ (now : List (List ℤ)) (old : List (List ℤ)). sorted (bag_minus now old) in
    new-plain q h r plain.0 ∙ ap (λ l. left l (answers q h)) grown ∙ ap (left (over_rows q (rows h stream) ++ cond (r.stream == stream) (answer_of q (r.values ∷ [])) [])) before
    ∙ ap sorted (minus-front (over_rows q (rows h stream)) _)
    ∙ ascending-one (r.stream == stream) (holds q (assignment_of (r.values ∷ []))) (projected q (assignment_of (r.values ∷ [])))
