-- Values of a solution that move away from the constants of a query, number by number.
use Rattle.std.specs.Prelude.{◌≡◌, ℕ, ◌+◌, ◌-◌, ◌*◌, ◌<◌, ◌≤◌, ◌&&◌, not, Bool, true, false, if◌then◌else◌, List, [], ◌∷◌, ◌++◌, filter, length, map, ℤ, pos, int_lt, ◌+ℤ◌, ◌-ℤ◌, ◌≤ℤ◌, ◌<ℤ◌, ◌⊎◌, All, Contains, ⊤, Result, Ok, Err}
use Rattle.std.specs.List.{slice_index_or}
use Rattle.arrayvec.specs.ArrayVec.{ArrayVec as Items}
use Rattle.sem_query.specs.declared.part.Sign.{Sign}
use Rattle.sem_query.specs.Query.{QueryValue, attrs_of, consts_of, IsWithinLimits}
use Rattle.sem_query.specs.Parts.{IsPart}
use Rattle.plan_constraints.specs.Solutions.{Solves}
use Rattle.plan_constraints.specs.PartConstraints.{of_prefix}
use Rattle.plan_closure.specs.Answers.{at_nodes}
use Rattle.sem_query.specs.Meaning.{Arrival}
use Rattle.fam_fooling_sets.specs.declared.error.LowerError.{LowerError}
use Rattle.fam_fooling_sets.specs.declared.error.LowerError.TheVariants as why
use Rattle.fam_fooling_sets.specs.declared.ground.Ground.{Ground}
use Rattle.fam_fooling_sets.specs.declared.motion.Motion.{Motion}
use Rattle.fam_fooling_sets.specs.declared.motion.ConstantEnds.{ConstantEnds}
use Rattle.fam_fooling_sets.specs.Shown.{arrivals}
use Rattle.fam_fooling_sets.specs.Members.{row_for, blank_at, asked_for}

-- how many of the values lie above an end, and not above z
abbrev pub rank_above : List ℤ → ℤ → ℤ → ℕ
rank_above values end z = length (filter (λ v. int_lt end v && not (int_lt z v)) values)

-- how many lie below an end, and not below z
abbrev pub rank_below : List ℤ → ℤ → ℤ → ℕ
rank_below values end z = length (filter (λ v. int_lt v end && not (int_lt v z)) values)

-- how far is moved for number i of n: out in equal steps, or from twice as far back again
abbrev pub reach : Bool → ℕ → ℕ → ℕ
reach false n i = 16 * i
reach true n i = 16 * (n + n - i)

-- What a value is moved to for a number: one above the upper end, or below the lower one, to its rank from there and as much farther as is moved; what
-- lies between the ends stays. What lies beyond a cut moves back.
abbrev pub moved : Motion → ℕ → ℤ → ℤ
moved m i z =
    if int_lt m.high z then m.high +ℤ pos (rank_above m.values.items m.high z + reach (int_lt m.upper_cut z) m.n i)
    else (if int_lt z m.low then m.low -ℤ pos (rank_below m.values.items m.low z + reach (int_lt z m.lower_cut) m.n i) else z)

-- a value of a solution
pub record IsNearby (v : ℤ) : Type 0 where
  pub low : (pos 0 -ℤ pos 250000000000000000) ≤ℤ v
  pub high : v ≤ℤ pos 250000000000000000

-- at most 12 values, all far within 64 bits, and so are the ends
pub record IsMotion (m : Motion) : Type 0 where
  pub size : m.n ≤ 65535
  pub few : length m.values.items ≤ 12
  pub far : All IsNearby m.values.items
  pub low : (pos 0 -ℤ pos 300000000000000000) ≤ℤ m.low
  pub ends : m.low ≤ℤ m.high
  pub high : m.high ≤ℤ pos 300000000000000000

-- the values are those of a solution of the constraints of a part of the query, a value for each attribute, and all constants lie between the ends
pub record IsMotionOf (q : QueryValue) (s : List Sign) (m : Motion) : Type 0 where
  pub within : IsWithinLimits q
  pub part : IsPart q s
  pub motion : IsMotion m
  pub many : length m.values.items ≡ length (attrs_of q.atoms)
  pub solves : Solves (at_nodes m.values.items) (of_prefix q s)
  pub between : (k : ℤ) → Contains (consts_of q.atoms) k → (m.low ≤ℤ k) × (k ≤ℤ m.high)

-- the ends lie as they do for a motion, and the constants between them
pub record AreEnds (consts : List ℤ) (ends : ConstantEnds) : Type 0 where
  pub low : (pos 0 -ℤ pos 300000000000000000) ≤ℤ ends.low
  pub order : ends.low ≤ℤ ends.high
  pub high : ends.high ≤ℤ pos 300000000000000000
  pub between : All (λ k. (ends.low ≤ℤ k) × (k ≤ℤ ends.high)) consts

-- the ends were widened, where it was needed, to reach as far as an integer
pub record Widens (ends : ConstantEnds) (k : ℤ) (more : ConstantEnds) : Type 0 where
  pub low : more.low ≤ℤ ends.low
  pub below : more.low ≤ℤ k
  pub high : ends.high ≤ℤ more.high
  pub above : k ≤ℤ more.high
  pub low_is : (more.low ≡ ends.low) ⊎ (more.low ≡ k)
  pub high_is : (more.high ≡ ends.high) ⊎ (more.high ≡ k)

-- these lie between the ends, which are two of all
pub record Spans (all some : List ℤ) (ends : ConstantEnds) : Type 0 where
  pub order : ends.low ≤ℤ ends.high
  pub between : All (λ k. (ends.low ≤ℤ k) × (k ≤ℤ ends.high)) some
  pub low_is : Contains all ends.low
  pub high_is : Contains all ends.high

-- the ends are constants, or all values lie above both
pub data ReachNoFarther (consts values : List ℤ) (ends : ConstantEnds) : Type 0 where
  constants : Contains consts ends.low → Contains consts ends.high → ReachNoFarther consts values ends
  all_above : All (λ v. ends.high <ℤ v) values → ReachNoFarther consts values ends

-- of two values of a motion the first is for later numbers no less than the second for earlier ones
abbrev pub Rises : Motion → ℤ → ℤ → Type 0
Rises m x y = (i j : ℕ) → i < j → j < m.n → moved m i y ≤ℤ moved m j x

-- and for earlier numbers no less than the second for later ones
abbrev pub Falls : Motion → ℤ → ℤ → Type 0
Falls m x y = (i j : ℕ) → i < j → j < m.n → moved m j y ≤ℤ moved m i x

-- a value of the motion for each attribute, of which the column of the ground is one, and a row of which nothing is asked for each of at most four
-- places of FROM, of which this is one
pub record IsMotionFor (g : Ground) (own : ℕ) (m : Motion) : Type 0 where
  pub motion : IsMotion m
  pub attrs : length m.values.items ≡ length g.attrs.now
  pub node : 0 < g.node
  pub within : g.node ≤ length g.attrs.now
  pub many : length g.from.now ≡ length g.blanks.now
  pub few : length g.from.now ≤ 4
  pub there : own < length g.from.now

-- the value of the column of a ground for a number
abbrev pub value_at : Ground → Motion → ℕ → ℤ
value_at g m i = slice_index_or (map (moved m i) m.values.items) (g.node - 1) (pos 0)

-- the row at a place of FROM for a number
abbrev pub moved_row : Ground → Motion → ℕ → ℕ → List ℤ
moved_row g m i place = row_for g.attrs.now (map (moved m i) m.values.items) g.named (value_at g m i) place (blank_at g.blanks.now place)

-- the row of a number at its own place of FROM, and what asks for it
pub record IsMovedMember (g : Ground) (m : Motion) (own i : ℕ) (row : List ℤ) (asked : List Arrival) : Type 0 where
  pub row_is : row ≡ moved_row g m i own
  pub asked_is : asked ≡ asked_for (moved_row g m i) g.from.now own

-- so many rows were made, and what asks for each
pub record AreMovedMembers (g : Ground) (m : Motion) (own n : ℕ) (rows : List (List ℤ)) (asking : List (List Arrival)) : Type 0 where
  pub many : length rows ≡ n
  pub asked : length asking ≡ n
  pub each : (k : ℕ) → k < n → IsMovedMember g m own k (slice_index_or rows k []) (slice_index_or asking k [])

-- behind these rows the row of a number was added, and what asks for it
pub record AddsMovedRow (g : Ground) (m : Motion) (own i : ℕ) (rows : List (Items ℤ)) (asking : List (Items (ℕ × Items ℤ))) (more_rows : List (Items ℤ)) (more_asking : List (Items (ℕ × Items ℤ))) : Type 0 where
  pub row : Items ℤ
  pub asked : Items (ℕ × Items ℤ)
  pub rows_are : more_rows ≡ rows ++ row ∷ []
  pub asking_is : more_asking ≡ asking ++ asked ∷ []
  pub made : IsMovedMember g m own i row.items (arrivals asked.items)

-- the row of a number was added, and what asks for it; or there was no memory
abbrev pub AddsMoved : Result Unit LowerError → Ground → Motion → ℕ → ℕ → List (Items ℤ) → List (Items (ℕ × Items ℤ)) → List (Items ℤ) → List (Items (ℕ × Items ℤ)) → Type 0
AddsMoved (Ok done) g m own i rows asking more_rows more_asking = AddsMovedRow g m own i rows asking more_rows more_asking
AddsMoved (Err why.Memory) g m own i rows asking more_rows more_asking = ⊤
AddsMoved (Err why.Bounded) g m own i rows asking more_rows more_asking = ⊥
AddsMoved (Err why.C2) g m own i rows asking more_rows more_asking = ⊥
AddsMoved (Err why.C3) g m own i rows asking more_rows more_asking = ⊥

-- so many rows were made, and what asks for each; or there was no memory
abbrev pub FillsMoved : Result Unit LowerError → Ground → Motion → ℕ → ℕ → List (List ℤ) → List (List Arrival) → Type 0
FillsMoved (Ok done) g m own n rows asking = AreMovedMembers g m own n rows asking
FillsMoved (Err why.Memory) g m own n rows asking = ⊤
FillsMoved (Err why.Bounded) g m own n rows asking = ⊥
FillsMoved (Err why.C2) g m own n rows asking = ⊥
FillsMoved (Err why.C3) g m own n rows asking = ⊥
