-- A walk by places of FROM finds what the cells answer.
use Rattle.std.proofs.Common.{◌≡◌, ℕ, suc, ◌+◌, ◌<◌, ◌==◌, ◌⊎◌, inl, inr, List, [], ◌∷◌, map, filter, length, cond, nat_eq, Bool, true, false, refl, sym, ap, ◌∙◌, subst, arith, slice_index_or}
use Rattle.std.specs.List.{flat_map, range_with_len}
use Rattle.sem_query.specs.declared.plan.PartPlan.{PartPlan}
use Rattle.sem_query.specs.Query.{QueryValue, IsWithinLimits}
use Rattle.sem_query.specs.Meaning.{Arrival, by_column, product}
use Rattle.sem_query.specs.Boxes.{box, box_size, place_of}
use Rattle.sem_query.specs.Plan.{stream_at, dims_at}
use Rattle.sem_query.specs.Serving.{KeepsStreams}
use Rattle.sem_query.specs.Admission.{admits}
use Rattle.sem_query.specs.Combinations.{Reading, Choice, choice, choice_of, cell_choice, choices_at, choices, chosen_values, linked, Found, found, found_in}
use Rattle.sem_query.specs.Cells.{upto}
use Rattle.sem_query.specs.Numbers.{places}
use Rattle.sem_query.specs.Probing.{choices_beside, found_beside}
use Rattle.sem_query.proofs.Has.{Has, first, later, Has-map, same_map}
use Rattle.sem_laws.specs.Probing.{WalksFindAll}
use Rattle.sem_laws.proofs.Tests.{true_or_false, false_if}
use Rattle.sem_laws.proofs.CountsGrow.{IsTail}
use Rattle.sem_laws.proofs.ByValues.{choices-go-by-values}
use Rattle.sem_laws.proofs.Walking.{has-range}

-- where one list is empty there is no combination
none-of-empty : {X : Type 0} (lists : List (List X)) → Has lists [] → product lists ≡ []
none-of-empty [] h = elim h [ ]
none-of-empty (xs ∷ lists) h = by xs h (none-of-empty lists)
  where
    none : {X : Type 0} (xs : List X) → flat_map (λ x. map (λ others. x ∷ others) []) xs ≡ []
    none [] = refl
    none (x ∷ xs) = none xs

    by : {X : Type 0} {lists : List (List X)} (xs : List X) → Has (xs ∷ lists) [] → (Has lists [] → product lists ≡ [])
        → flat_map (λ x. map (λ others. x ∷ others) (product lists)) xs ≡ []
    by xs first f = refl
    by xs (later h) f = ap (λ p. flat_map (λ x. map (λ others. x ∷ others) p) xs) (f h) ∙ none xs

module _ (q : QueryValue) (part : PartPlan) (within : IsWithinLimits q) (keeps : KeepsStreams q part) (read : Reading) (r : Arrival)
    (arriving : ℕ) (there : arriving < length q.from) (stream_is : slice_index_or q.from arriving 0 ≡ r.stream) where
  -- the arriving row, where the part admits it
  abbrev own : ℕ → List Choice
  own place = cond (admits q part place (by_column r.values)) (choice (by_column r.values) 1) []

  -- the cells of a place, by the values of the dims
  abbrev cells : ℕ → List Choice
  cells place =
      flat_map (λ xs. choice_of q part place xs (read part place (place_of (dims_at part place) xs))) (box (dims_at part place))

  -- the choices at a place, by its number
  abbrev at : ℕ → List Choice
  at place = cond (place == arriving) (own place) (cells place)

  other-stream : (place : ℕ) → place < length q.from → (place ≡ arriving → ⊥) → slice_index_or q.from place 0 ≡ r.stream → ⊥
  other-stream place l n e = elim (before place arriving n) [
    | inl b ↦ within.different place arriving 0 b there (e ∙ sym stream_is)
    | inr b ↦ within.different arriving place 0 b l (stream_is ∙ sym e)
  ]
    where
      before : (a b : ℕ) → (a ≡ b → ⊥) → (a < b) ⊎ (b < a)
      before a b n = elim (three a b) [ inl h ↦ inl h | inr h ↦ elim h [ inl e ↦ absurd (n e) | inr k ↦ inr k ] ]
        where
          three : (a b : ℕ) → (a < b) ⊎ ((a ≡ b) ⊎ (b < a))
          three a b = grind arith

  choices-is : (place stream : ℕ) → place < length q.from → slice_index_or q.from place 0 ≡ stream
      → choices_at q part read r place stream ≡ at place
  choices-is place stream l e = elim (true_or_false (place == arriving)) [
    | inl h ↦ (
        let same : place ≡ arriving = grind (arith, h) in
        let s : r.stream ≡ stream = sym stream_is ∙ ap (λ n. slice_index_or q.from n 0) (sym same) ∙ e in
        let t : (r.stream == stream) ≡ true = grind (arith, s) in
        ap (λ b. cond b (own place) (flat_map (λ i. cell_choice q part place i (read part place i)) (upto (λ i. i) (stream_at part place).size))) t
        ∙ sym (ap (λ b. cond b (own place) (cells place)) h))
    | inr h ↦ (
        let n : place ≡ arriving → ⊥ = λ same. absurd (grind (arith, h, same)) in
        let off : (r.stream == stream) ≡ false
        = false_if (r.stream == stream) (λ t. let s : stream ≡ r.stream = grind (arith, t) in other-stream place l n (e ∙ s)) in
        let long : nat_eq (length q.from) 1 ≡ false = grind (arith, l, there, n) in
        let size : (stream_at part place).size ≡ box_size (dims_at part place)
        = keeps.size place l ∙ ap (λ b. cond b 0 (box_size (dims_at part place))) long in
        choices-go-by-values q part read r place stream off size ∙ sym (ap (λ b. cond b (own place) (cells place)) h))
  ]

  choices-are : (n : ℕ) (from : List ℕ) → IsTail q.from n from
      → choices q part read r n from ≡ map at (range_with_len n (length from))
  choices-are n [] t = refl
  choices-are n (stream ∷ from) t =
      let here = t 0 n (omega arith) (omega arith) in
      let rest : choices q part read r (suc n) from ≡ map at (range_with_len (suc n) (length from))
      = choices-are (suc n) from (λ i m l e. t (suc i) m (omega (arith, l)) (omega (arith, e))) in
      let next : suc n ≡ n + 1 = omega arith in
      (λ k. choices-is n stream here.0 here.1 k ∷ (rest ∙ ap (λ m. map at (range_with_len m (length from))) next) k)

  all-choices : choices q part read r 0 q.from ≡ map at (places part)
  all-choices =
      choices-are 0 q.from (λ i m l e. let f : i ≡ m = omega (arith, e) in subst (λ k. (k < length q.from) × (slice_index_or q.from k 0 ≡ slice_index_or q.from i 0)) f (l, refl))
      ∙ ap (λ n. map at (range_with_len 0 n)) (sym keeps.count)

  found-of : List (List Choice) → List Found
  found-of lists = map (found q) (filter (λ chosen. linked part (chosen_values chosen)) (product lists))

  admitted : admits q part arriving (by_column r.values) ≡ true
      → map at (places part) ≡ map (choices_beside q part read arriving (by_column r.values)) (places part)
  admitted h =
      same_map at (choices_beside q part read arriving (by_column r.values)) (places part) (λ place k. by place (place == arriving) refl)
    where
      by : (place : ℕ) (b : Bool) → (place == arriving) ≡ b
          → cond b (own place) (cells place) ≡ cond b (choice (by_column r.values) 1) (cells place)
      by place true e =
          let same : place ≡ arriving = grind (arith, e) in
          ap (λ n. cond (admits q part n (by_column r.values)) (choice (by_column r.values) 1) []) same
          ∙ ap (λ b. cond b (choice (by_column r.values) 1) []) h
      by place false e = refl

  refused : admits q part arriving (by_column r.values) ≡ false → product (map at (places part)) ≡ []
  refused h =
      let k : Has (places part) arriving
      = has-range 0 (length part.streams.items) arriving (omega arith) (omega (arith, there, keeps.count)) in
      let e : (arriving == arriving) ≡ true = grind arith in
      let none : at arriving ≡ []
      = ap (λ b. cond b (own arriving) (cells arriving)) e ∙ ap (λ b. cond b (choice (by_column r.values) 1) []) h in
      none-of-empty (map at (places part)) (subst (λ xs. Has (map at (places part)) xs) none (Has-map at k))

  walks-find : found_in q part read r ≡ cond (admits q part arriving (by_column r.values)) (found_beside q part read arriving (by_column r.values)) []
  unfolding found_in found_beside found-of
  walks-find = ap found-of all-choices ∙ by (admits q part arriving (by_column r.values)) refl
    where
      by : (b : Bool) → admits q part arriving (by_column r.values) ≡ b
          → found-of (map at (places part)) ≡ cond b (found-of (map (choices_beside q part read arriving (by_column r.values)) (places part))) []
      by true h = ap found-of (admitted h)
      by false h = ap (λ cs. map (found q) (filter (λ chosen. linked part (chosen_values chosen)) cs)) (refused h)

pub walks-find-all : WalksFindAll
walks-find-all q part within keeps read r arriving there stream_is = walks-find q part within keeps read r arriving there stream_is
