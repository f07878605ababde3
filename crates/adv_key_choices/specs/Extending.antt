-- Exact choices, stream by stream.
use Rattle.std.specs.Prelude.{◌≡◌, ℕ, ◌<◌, ◌⊎◌, List, Contains, replicate, slice_set}
use Rattle.std.specs.declared.option.Option.{Option}
use Rattle.std.specs.declared.option.Option.TheVariants.{None, Some}
use Rattle.adv_key_choices.specs.declared.choice.Choice.{Choice}
use Rattle.adv_key_choices.specs.declared.choice.KeyedQuery.{KeyedQuery}
use Rattle.adv_key_choices.specs.Choices.{keys_in, IsChoice, IsExact}

-- every stream is broadcast
abbrev pub none_chosen : Choice
none_chosen = record { keys = replicate 16 None }

abbrev pub with_key : Choice → ℕ → Option ℕ → Choice
with_key c stream key = record { keys = slice_set c.keys stream key }

-- a list has one choice more, where it is exact
pub record AddsExact (queries : List KeyedQuery) (choice : Choice) (old new : List Choice) : Type 0 where
  pub kept : (c : Choice) → Contains old c → Contains new c
  pub each : (c : Choice) → Contains new c → Contains old c ⊎ ((c ≡ choice) × IsExact queries choice)
  pub added : IsExact queries choice → Contains new choice

-- a list has the choices with these keys of a stream more, where they are exact
pub record AddsEach (queries : List KeyedQuery) (choice : Choice) (stream : ℕ) (IsOne : Option ℕ → Type 0) (old new : List Choice) : Type 0 where
  pub kept : (c : Choice) → Contains old c → Contains new c
  pub each : (c : Choice) → Contains new c → Contains old c ⊎ ((key : Option ℕ) × IsOne key × (c ≡ with_key choice stream key) × IsExact queries c)
  pub added : (key : Option ℕ) → IsOne key → IsExact queries (with_key choice stream key) → Contains new (with_key choice stream key)

-- a key column, of so many
abbrev pub IsColumnOf : ℕ → Option ℕ → Type 0
IsColumnOf width None = ⊥
IsColumnOf width (Some column) = column < width

-- a key column, of so many, or none
abbrev pub IsKeyOf : ℕ → Option ℕ → Type 0
IsKeyOf width None = Unit {0}
IsKeyOf width (Some column) = column < width

abbrev pub AddsKeys : List KeyedQuery → Choice → ℕ → ℕ → List Choice → List Choice → Type 0
AddsKeys queries choice stream width old new = AddsEach queries choice stream (IsColumnOf width) old new

abbrev pub AddsExtensions : List KeyedQuery → Choice → ℕ → ℕ → List Choice → List Choice → Type 0
AddsExtensions queries choice stream width old new = AddsEach queries choice stream (IsKeyOf width) old new

-- an exact choice that broadcasts all but the first n streams
pub record IsExactUpTo (queries : List KeyedQuery) (widths : List ℕ) (n : ℕ) (c : Choice) : Type 0 where
  pub choice : IsChoice widths c
  pub later : (s column : ℕ) → keys_in c s ≡ Some column → s < n
  pub exact : IsExact queries c

-- they are all of these
pub record AreExactUpTo (queries : List KeyedQuery) (widths : List ℕ) (n : ℕ) (list : List Choice) : Type 0 where
  pub each : (c : Choice) → Contains list c → IsExactUpTo queries widths n c
  pub all : (c : Choice) → IsExactUpTo queries widths n c → Contains list c
