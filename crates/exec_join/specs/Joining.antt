-- What one look-up tells of the answers to a row over two streams.
use Rattle.std.specs.Prelude.{◌≡◌, ℕ, ℤ, pos, Bool, true, false, List, [], ◌∷◌, map, Option, Some, None}
use Rattle.std.specs.List.{list_all}
use Rattle.sem_query.specs.declared.atom.Attr.{Attr}
use Rattle.sem_query.specs.Combinations.{Found}
use Rattle.sem_query.specs.Meaning.{by_column}
use Rattle.exec_synopsis.specs.declared.join_lookup.JoinLookup.{JoinLookup}
use Rattle.exec_synopsis.specs.Joining.{told_column}
use Rattle.exec_join.specs.declared.join.FirstLook.{FirstLook}
use Rattle.exec_join.specs.declared.join.FirstLook.TheVariants.{Nothing, One, Unknown}
use Rattle.exec_join.specs.Remaining.{as_found}

-- what is told, with the tuple that was put, is what is found
abbrev pub Tells : FirstLook → List ℤ → List Found → Type 0
Tells Nothing tuple finds = finds ≡ []
Tells (One count) tuple finds = finds ≡ as_found tuple count ∷ []
Tells Unknown tuple finds = Unit {0}

-- whether a column is told
abbrev pub is_some : Option ℕ → Bool
is_some None = false
is_some (Some column) = true

-- the value of a row at a column, where one is told
abbrev pub value_of : List ℤ → Option ℕ → ℤ
value_of row None = pos 0
value_of row (Some column) = by_column row column

-- for each of these columns one of the arriving row is told
abbrev pub are_told : JoinLookup → ℕ → List Attr → Bool
are_told listed arriving select = list_all (λ a. is_some (told_column listed.told.items listed.place arriving a)) select

-- the values of those
abbrev pub told_values : JoinLookup → ℕ → List ℤ → List Attr → List ℤ
told_values listed arriving row select = map (λ a. value_of row (told_column listed.told.items listed.place arriving a)) select
