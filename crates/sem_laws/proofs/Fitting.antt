-- Cells are of their kinds.
use Rattle.std.proofs.Common.{◌≡◌, ℕ, suc, ◌≤◌, ◌^◌, List, [], ◌∷◌, filter, length, cond, Bool, true, false, ◌==◌, arith, ℤ}
use Rattle.std.specs.List.{slice_index_or}
use Rattle.std.proofs.lemmas.List.{length-map}
use Rattle.sem_query.specs.declared.plan.Kind.{Kind}
use Rattle.sem_query.specs.Meaning.{Arrival, rows}
use Rattle.sem_query.specs.Plan.{stream_at}
use Rattle.sem_query.specs.Cells.{content, rows_of_cell, FitsKind}
use Rattle.sem_laws.specs.Rooms.{CellsFit}

content-fits : (kind : Kind) (xs : List (List ℤ)) → length xs ≤ 2 ^ 40 → FitsKind kind (content kind xs)
content-fits Kind.Count [] l = tt
content-fits Kind.Count (x ∷ xs) l = (omega arith, l)
content-fits Kind.Present [] l = tt
content-fits Kind.Present (x ∷ xs) l = tt
content-fits (Kind.Least a) [] l = tt
content-fits (Kind.Least a) (x ∷ xs) l = tt
content-fits (Kind.Greatest a) [] l = tt
content-fits (Kind.Greatest a) (x ∷ xs) l = tt

fewer : {X : Type 0} (t : X → Bool) (xs : List X) → length (filter t xs) ≤ length xs
fewer t [] = omega arith
fewer t (x ∷ xs) = by (t x) (fewer t xs)
  where
    by : (b : Bool) → length (filter t xs) ≤ length xs → length (cond b (x ∷ filter t xs) (filter t xs)) ≤ suc (length xs)
    by true h = omega (arith, h)
    by false h = omega (arith, h)

pub cells-fit : CellsFit
cells-fit q part history place i l =
    let stream : ℕ = slice_index_or q.from place 0 in
    let some : List Arrival = filter (λ r. r.stream == stream) history in
    let a : length some ≤ length history = fewer (λ r. r.stream == stream) history in
    let b : length (rows history stream) ≡ length some = length-map some (λ r. r.values) in
    let c : length (rows_of_cell q part place i (rows history stream)) ≤ length (rows history stream)
    = fewer _ (rows history stream) in
    content-fits (stream_at part place).kind (rows_of_cell q part place i (rows history stream)) (omega (arith, a, b, c, l))
