-- What a probe has still to do.
use Rattle.sem_query.specs.Parts.{pairs}
use Rattle.std.specs.Prelude.{◌≡◌, ℕ, ◌+◌, ◌<◌, ◌≤◌, ◌++◌, ◌==◌, ◌^◌, if◌then◌else◌, List, [], ◌∷◌, length, take, true, false, ℤ}
use Rattle.sem_query.specs.declared.atom.Attr.{Attr}
use Rattle.sem_query.specs.declared.cell.Cell.{Cell}
use Rattle.sem_query.specs.declared.part.Pair.{Pair}
use Rattle.sem_query.specs.declared.plan.Dim.{Dim}
use Rattle.sem_query.specs.declared.plan.PartPlan.{PartPlan}
use Rattle.sem_query.specs.Boxes.{box_size}
use Rattle.sem_query.specs.Combinations.{Reading, Found}
use Rattle.exec_ranges.specs.declared.binding.Binding.{Binding}
use Rattle.exec_join.specs.declared.probe.Probe.{Probe}
use Rattle.exec_synopsis.specs.Preparing.{IsPrepared}
use Rattle.exec_ranges.specs.Values.{rows_in}
use Rattle.exec_join.specs.Choosing.{setting, chosen, start}
use Rattle.exec_join.specs.Walk.{left, outer}
use Rattle.exec_ranges.specs.Narrowed.{narrowed_dims}
use Rattle.exec_ranges.specs.Lined.{StandOn}
use Rattle.exec_join.specs.Costs.{cost_left, reads, turns}

-- what the probe has still to give
abbrev pub left_of : List Attr → PartPlan → Reading → Probe → List Found
left_of select part read p = left (setting (pairs p.q.now) select part p.arriving p.row.now.items read) p.room.now.chosen.items p.room.now.numbers.items p.next p.over

-- what the levels that were entered have still to give
abbrev pub outer_of : List Attr → PartPlan → Reading → Probe → List Found
outer_of select part read p = outer (setting (pairs p.q.now) select part p.arriving p.row.now.items read) (length part.streams.items) [] p.room.now.chosen.items p.room.now.numbers.items

-- the cells that it has still to read, at most
abbrev pub reads_left : PartPlan → Probe → ℕ
reads_left part p = cost_left (reads part p.arriving) (length part.streams.items) p.room.now.numbers.items p.next p.over

-- the turns that it has still to take, at most
abbrev pub turns_left : PartPlan → Probe → ℕ
turns_left part p = cost_left (turns part p.arriving) (length part.streams.items) p.room.now.numbers.items p.next p.over

-- the most that the cell chosen at a place counts; the arriving row is one
abbrev pub limit : ℕ → ℕ → ℕ
limit arriving place = if place == arriving then 1 else 2 ^ 40

-- no chosen cell counts more than that
abbrev pub AreLight : ℕ → ℕ → List Binding → Type 0
AreLight arriving place [] = Unit {0}
AreLight arriving place (c ∷ cs) = (rows_in c.cell ≤ limit arriving place) × AreLight arriving (place + 1) cs

-- a tuple with its count
abbrev pub as_found : List ℤ → ℕ → Found
as_found values n = record { tuple = values; count = n }

-- the number of combinations of values to try at each level that was entered
abbrev pub AreSizes : List Pair → PartPlan → ℕ → List ℤ → List Binding → List Binding → List ℕ → Type 0
AreSizes ps part arriving row known [] [] = Unit {0}
AreSizes ps part arriving row known [] (n ∷ ns) = ⊥
AreSizes ps part arriving row known (c ∷ cs) [] = ⊥
AreSizes ps part arriving row known (c ∷ cs) (n ∷ ns) = (n ≡ box_size (narrowed_dims ps part arriving row known)) × AreSizes ps part arriving row (known ++ c ∷ []) cs ns

-- the values to try at the level where a probe stands
abbrev pub dims_now : PartPlan → Probe → List Dim
dims_now part p = narrowed_dims (pairs p.q.now) part p.arriving p.row.now.items p.room.now.chosen.items

-- what the room tells after these choices: the dims to try, and the line of their cells
abbrev pub TellsOf : PartPlan → Probe → List Binding → Type 0
TellsOf part p known =
    (p.room.now.dims.items ≡ narrowed_dims (pairs p.q.now) part p.arriving p.row.now.items known)
    × StandOn part p.arriving (length known) (narrowed_dims (pairs p.q.now) part p.arriving p.row.now.items known) p.room.now.line

-- where a probe stands, whatever it knows of its level
pub record IsPlaced (part : PartPlan) (p : Probe) : Type 0 where
  pub here : p.arriving < length part.streams.items
  pub same : length p.room.now.chosen.items ≡ length p.room.now.numbers.items
  pub few : length p.room.now.chosen.items ≤ length part.streams.items
  pub light : AreLight p.arriving 0 p.room.now.chosen.items
  pub prepared : IsPrepared (pairs p.q.now) part p.prepared.now
  pub sizes : AreSizes (pairs p.q.now) part p.arriving p.row.now.items [] p.room.now.chosen.items p.room.now.sizes.items
  pub seen : p.level ≤ length p.room.now.chosen.items → TellsOf part p (take p.level p.room.now.chosen.items)

-- a probe of these pairs, this place of FROM and this row, that has chosen nothing but the row itself
pub record IsAtStart (ps : List Pair) (place : ℕ) (columns : List ℤ) (p : Probe) : Type 0 where
  pub list : pairs p.q.now ≡ ps
  pub arriving : p.arriving ≡ place
  pub row : p.row.now.items ≡ columns
  pub chosen : p.room.now.chosen.items ≡ start place
  pub next : p.next ≡ 0
  pub over : p.over ≡ false

-- a probe in the middle of a walk: it knows how many combinations of values there are at its level, and the dims and the line of its cells where some are left
pub record IsUnderway (part : PartPlan) (p : Probe) : Type 0 where
  pub placed : IsPlaced part p
  pub size : p.over ≡ false → length p.room.now.chosen.items < length part.streams.items → p.size ≡ box_size (dims_now part p)
  pub dims : p.over ≡ false → length p.room.now.chosen.items < length part.streams.items → p.next < p.size → p.room.now.dims.items ≡ dims_now part p
  pub line : p.over ≡ false → length p.room.now.chosen.items < length part.streams.items → p.next < p.size → StandOn part p.arriving (length p.room.now.chosen.items) (dims_now part p) p.room.now.line
  pub level : p.over ≡ false → length p.room.now.chosen.items < length part.streams.items → p.next < p.size → p.level ≡ length p.room.now.chosen.items

-- the room of the probe tells the same
pub record IsSameSight (p r : Probe) : Type 0 where
  pub dims : r.room.now.dims.items ≡ p.room.now.dims.items
  pub line : r.room.now.line ≡ p.room.now.line
  pub level : r.level ≡ p.level

-- the probe is of the same walk
pub record IsSameWalk (p r : Probe) : Type 0 where
  pub arriving : r.arriving ≡ p.arriving
  pub row : r.row ≡ p.row
  pub query : r.q ≡ p.q
  pub prepared : r.prepared ≡ p.prepared

-- one level less, or the end; where it went back, the size of the level is that which was kept
pub data WentBack : Probe → Probe → Type 0 where
  ended : {p r : Probe} → p.room.now.chosen.items ≡ [] → p.room.now.numbers.items ≡ [] → r.room.now.chosen.items ≡ [] → r.room.now.numbers.items ≡ [] → r.over ≡ true → r.arriving ≡ p.arriving → r.row ≡ p.row → r.q ≡ p.q → r.prepared ≡ p.prepared → r.room.now.sizes.items ≡ [] → IsSameSight p r → WentBack p r
  popped : {p r : Probe} (c : Binding) (n z : ℕ) → p.room.now.chosen.items ≡ r.room.now.chosen.items ++ c ∷ [] → p.room.now.numbers.items ≡ r.room.now.numbers.items ++ n ∷ [] → r.next ≡ n → r.over ≡ p.over → r.arriving ≡ p.arriving → r.row ≡ p.row → r.q ≡ p.q → r.prepared ≡ p.prepared → p.room.now.sizes.items ≡ r.room.now.sizes.items ++ z ∷ [] → r.size ≡ z → IsSameSight p r → WentBack p r

-- the same walk, which sees the values to try at its level
pub record HasOpened (part : PartPlan) (p r : Probe) : Type 0 where
  pub dims : r.room.now.dims.items ≡ dims_now part p
  pub size : r.size ≡ box_size (dims_now part p)
  pub line : StandOn part p.arriving (length p.room.now.chosen.items) (dims_now part p) r.room.now.line
  pub level : r.level ≡ length p.room.now.chosen.items
  pub chosen : r.room.now.chosen.items ≡ p.room.now.chosen.items
  pub numbers : r.room.now.numbers.items ≡ p.room.now.numbers.items
  pub sizes : r.room.now.sizes.items ≡ p.room.now.sizes.items
  pub next : r.next ≡ p.next
  pub over : r.over ≡ p.over
  pub arriving : r.arriving ≡ p.arriving
  pub row : r.row ≡ p.row
  pub query : r.q ≡ p.q
  pub prepared : r.prepared ≡ p.prepared

-- the walk goes on in this cell, at the next level
pub record HasEntered (values : List ℤ) (cell : Cell) (p r : Probe) : Type 0 where
  pub chosen : r.room.now.chosen.items ≡ p.room.now.chosen.items ++ chosen values cell ∷ []
  pub numbers : r.room.now.numbers.items ≡ p.room.now.numbers.items ++ (p.next + 1) ∷ []
  pub next : r.next ≡ 0
  pub level : r.level ≡ p.level
  pub over : r.over ≡ p.over
  pub arriving : r.arriving ≡ p.arriving
  pub row : r.row ≡ p.row
  pub query : r.q ≡ p.q
  pub prepared : r.prepared ≡ p.prepared
