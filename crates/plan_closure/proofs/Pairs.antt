-- What the pairs add, pair by pair.
use Rattle.std.proofs.Common.{◌≡◌, ℕ, ◌<◌, List, length, take, arith}
use Rattle.std.proofs.lemmas.List.{length-take-le}
use Rattle.std.specs.List.{AllZip}
use Rattle.sem_query.specs.declared.part.Pair.{Pair}
use Rattle.sem_query.specs.Query.{QueryValue}
use Rattle.plan_closure.specs.ChoiceValue.{ChoiceValue}
use Rattle.plan_closure.specs.Choices.{IsChoice}
use Rattle.plan_closure.proofs.Zips.{zip_length}

-- as many as the pairs so far
pub so_many : (q : QueryValue) (ps : List Pair) (cs : List ChoiceValue) (i : ℕ) → i < length ps → AllZip (IsChoice q) (take i ps) cs → length cs ≡ i
so_many q ps cs i l h =
    let a : length cs ≡ length (take i ps) = zip_length (IsChoice q) (take i ps) cs h in
    let b : length (take i ps) ≡ i = length-take-le i ps (omega (arith, l)) in
    omega (arith, a, b)
