-- The list of parts has each part once, so that no ascending list of parts is longer.
use Rattle.std.proofs.Common.{ℕ, ◌<◌, ◌≤◌, Bool, List, [], ◌∷◌, length, arith}
use Rattle.std.proofs.lemmas.List.Elements.{All-contains}
use Rattle.sem_query.specs.declared.part.Sign.{Sign}
use Rattle.sem_query.specs.Query.{QueryValue}
use Rattle.sem_query.specs.Parts.{signs_lt, IsPart, AreParts, HasMoreParts}
use Rattle.sem_query.proofs.Has.{Has-from_contains, Contains-from_has}
use Rattle.sem_query.proofs.Unique.{Ascends, more, IsStrict, ascends_from, signs_strict}
use Rattle.sem_laws.proofs.TableRoom.{Distinct, no_longer}
use Rattle.sem_laws.specs.Plans.{PartsAreCounted}

-- an ascending list has no member twice
ascends-distinct : {X : Type 0} (lt : X → X → Bool) → IsStrict lt → (xs : List X) → Ascends lt xs → Distinct xs
ascends-distinct lt o [] a = tt
ascends-distinct lt o (x ∷ xs) (more f a) = ((λ k. o.apart x x (f x k) (f x k)), ascends-distinct lt o xs a)

-- an ascending list of parts is no longer than the list of all parts
no_longer_than_all : (q : QueryValue) (parts : List (List Sign)) (n : ℕ) → AreParts q parts → HasMoreParts q n → n < length parts
no_longer_than_all q parts n a m =
    let d : Distinct m.some = ascends-distinct signs_lt signs_strict m.some (ascends_from signs_lt m.some m.ascending) in
    let k : length m.some ≤ length parts
    = no_longer m.some parts d (λ z h. Has-from_contains parts z (a.all z (All-contains (IsPart q) m.some z m.each (Contains-from_has m.some z h)))) in
    omega (arith, k, m.more)

pub parts_are_counted : PartsAreCounted
parts_are_counted q parts n a =
    (no_longer_than_all q parts n a, (λ l. record { some = parts; ascending = a.ascending; each = a.each; more = l }))
