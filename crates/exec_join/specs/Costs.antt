-- What is still to be paid in a walk: a price for each candidate, and one for each level.
use Rattle.std.specs.Prelude.{ℕ, zero, suc, ◌+◌, ◌*◌, ◌-◌, ◌==◌, Bool, true, false, List, [], ◌∷◌, length, if◌then◌else◌}
use Rattle.sem_query.specs.Boxes.{box_size}
use Rattle.sem_query.specs.declared.plan.PartPlan.{PartPlan}
use Rattle.sem_query.specs.Probing.{tried_dims}

-- by place: how many candidates there are, and what each costs; and what a level costs
pub record Rates : Type 0 where
  pub size : ℕ → ℕ
  pub each : ℕ → ℕ
  pub level : ℕ

-- what so many levels from a place on cost
abbrev pub below : Rates → ℕ → ℕ → ℕ
below r zero place = r.level
below r (suc more) place = r.size place * (r.each place + below r more (place + 1)) + r.level

-- the same, where the candidates before one are done
abbrev pub below_from : Rates → ℕ → ℕ → ℕ → ℕ
below_from r zero place next = r.level
below_from r (suc more) place next = (r.size place - next) * (r.each place + below r more (place + 1)) + r.level

-- what is left to pay at the levels that were entered
abbrev pub above : Rates → ℕ → ℕ → List ℕ → ℕ
above r more place [] = 0
above r zero place (n ∷ ns) = 0
above r (suc more) place (n ∷ ns) = above r more (place + 1) ns + below_from r (suc more) place n

-- what is left to pay, with the next candidate of each level
unfoldable pub cost_left : Rates → ℕ → List ℕ → ℕ → Bool → ℕ
cost_left r streams ns next true = 0
cost_left r streams ns next false = below_from r (streams - length ns) (length ns) next + above r streams 0 ns

-- how many combinations of values a walk tries at a place
unfoldable pub tried_size : PartPlan → ℕ → ℕ → ℕ
tried_size part arriving place = box_size (tried_dims part arriving place)

-- how many cells are read for one of them
abbrev pub read_at : ℕ → ℕ → ℕ
read_at arriving place = if place == arriving then 0 else 1

-- reads of cells
abbrev pub reads : PartPlan → ℕ → Rates
reads part arriving = record { size = tried_size part arriving; each = read_at arriving; level = 0 }

-- how many cells a whole walk reads at most: at each place it comes to, one for each combination of values that it tries there and before
unfoldable pub walk_reads : PartPlan → ℕ → ℕ
walk_reads part arriving = cost_left (reads part arriving) (length part.streams.items) [] 0 false

-- turns of the walk
abbrev pub turns : PartPlan → ℕ → Rates
turns part arriving = record { size = tried_size part arriving; each = λ place. 1; level = 1 }
