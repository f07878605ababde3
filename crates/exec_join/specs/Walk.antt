-- The walk over the combinations: the places of FROM in order, at each only the values that the links leave.
use Rattle.std.specs.Prelude.{ℕ, zero, suc, ◌-◌, Bool, true, false, List, [], ◌∷◌, ◌++◌, flat_map, ℤ, if◌then◌else◌, length, drop}
use Rattle.sem_query.specs.Boxes.{box}
use Rattle.sem_query.specs.declared.cell.Cell.{Cell}
use Rattle.sem_query.specs.declared.cell.Cell.TheVariants.{Empty, Count, Present, Extreme}
use Rattle.sem_query.specs.Combinations.{Found}
use Rattle.exec_ranges.specs.declared.binding.Binding.{Binding}
use Rattle.exec_join.specs.Choosing.{Setting, cell_at, chosen, meets, found}
use Rattle.exec_ranges.specs.Narrowed.{narrowed_dims}

-- the combinations of values to try for the next stream
abbrev pub candidates : Setting → List Binding → List (List ℤ)
candidates w known = box (narrowed_dims w.pairs w.part w.arriving w.row known)

-- what a cell with these values gives, where it is not empty
abbrev pub entered : List ℤ → List Binding → (List Binding → List Found) → Cell → List Found
entered values known go Empty = []
entered values known go (Count n) = go (known ++ chosen values (Count n) ∷ [])
entered values known go Present = go (known ++ chosen values Present ∷ [])
entered values known go (Extreme v) = go (known ++ chosen values (Extreme v) ∷ [])

-- what one more stream gives
abbrev pub opened : Setting → List Binding → (List Binding → List Found) → List ℤ → List Found
opened w known go values = entered values known go (cell_at w (length known) values)

-- all that begins with these choices, where some streams are left
unfoldable pub walk : Setting → ℕ → List Binding → List Found
walk w zero known = if meets w known then found w known ∷ [] else []
walk w (suc more) known = flat_map (opened w known (walk w more)) (candidates w known)

-- the same from one candidate on
unfoldable pub walk_from : Setting → ℕ → List Binding → ℕ → List Found
walk_from w zero known next = walk w zero known
walk_from w (suc more) known next = flat_map (opened w known (walk w more)) (drop next (candidates w known))

-- what is left of the streams that were chosen, each from its next candidate on
unfoldable pub outer : Setting → ℕ → List Binding → List Binding → List ℕ → List Found
outer w more known [] ns = []
outer w more known (c ∷ cs) [] = []
outer w zero known (c ∷ cs) (n ∷ ns) = []
outer w (suc more) known (c ∷ cs) (n ∷ ns) = outer w more (known ++ c ∷ []) cs ns ++ walk_from w (suc more) known n

-- what is still to be given
unfoldable pub left : Setting → List Binding → List ℕ → ℕ → Bool → List Found
left w cs ns next true = []
left w cs ns next false = walk_from w (length w.part.streams.items - length cs) cs next ++ outer w (length w.part.streams.items) [] cs ns
