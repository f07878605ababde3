-- What waits, as one list of tuples per combination.
use Rattle.std.proofs.Common.{◌≡◌, List, [], ◌∷◌, ◌++◌, map, filter, cond, Bool, true, false, refl, ap, ◌∙◌, ℤ}
use Rattle.std.specs.Prelude.{replicate}
use Rattle.std.specs.List.{flat_map}
use Rattle.sem_query.specs.declared.plan.PartPlan.{PartPlan}
use Rattle.sem_query.specs.Query.{QueryValue}
use Rattle.sem_query.specs.Assignment.{projected}
use Rattle.sem_query.specs.Meaning.{Arrival, product}
use Rattle.sem_query.specs.Combinations.{Reading, Choice, choices, chosen_values, linked, times_of, found, found_in}
use Rattle.sem_query.specs.Future.{spelled_out, waiting}

-- the tuple of chosen rows and cells that meet the links, as often as they stand for rows
abbrev pub tuples : QueryValue → PartPlan → List Choice → List (List ℤ)
tuples q part chosen =
    cond (linked part (chosen_values chosen)) (replicate (times_of chosen) (projected q (chosen_values chosen))) []

-- what is found, spelled out
found-tuples : (q : QueryValue) (part : PartPlan) (cs : List (List Choice)) →
    spelled_out (map (found q) (filter (λ chosen. linked part (chosen_values chosen)) cs)) ≡ flat_map (tuples q part) cs
found-tuples q part [] = refl
found-tuples q part (c ∷ cs) = by (linked part (chosen_values c)) (found-tuples q part cs)
  where
    by : (b : Bool)
        → spelled_out (map (found q) (filter (λ chosen. linked part (chosen_values chosen)) cs)) ≡ flat_map (tuples q part) cs →
        spelled_out (map (found q) (cond b (c ∷ filter (λ chosen. linked part (chosen_values chosen)) cs) (filter (λ chosen. linked part (chosen_values chosen)) cs)))
        ≡ cond b (replicate (times_of c) (projected q (chosen_values c))) [] ++ flat_map (tuples q part) cs
    by true e = ap (λ l. replicate (times_of c) (projected q (chosen_values c)) ++ l) e
    by false e = e

pub waiting-tuples : (q : QueryValue) (plan : List PartPlan) (read : Reading) (r : Arrival) →
    waiting q plan read r ≡ flat_map (λ part. flat_map (tuples q part) (product (choices q part read r 0 q.from))) plan
unfolding found_in
waiting-tuples q [] read r = refl
waiting-tuples q (p ∷ plan) read r =
    ap (λ l. l ++ waiting q plan read r) (found-tuples q p (product (choices q p read r 0 q.from)))
    ∙ ap (λ l. flat_map (tuples q p) (product (choices q p read r 0 q.from)) ++ l) (waiting-tuples q plan read r)
