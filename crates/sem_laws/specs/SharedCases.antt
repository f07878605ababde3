-- Worked queries with shared cells.
use Rattle.std.specs.Prelude.{◌≡◌, true, IsFalse, List, [], ◌∷◌, pos}
use Rattle.std.specs.declared.option.Option.TheVariants.{None}
use Rattle.sem_query.specs.declared.cell.Cell.{Cell}
use Rattle.sem_query.specs.declared.part.Sign.{Sign}
use Rattle.sem_query.specs.declared.plan.Kind.{Kind}
use Rattle.sem_query.specs.declared.plan.PartPlan.{PartPlan}
use Rattle.sem_query.specs.Query.{IsWithinLimits, is_filter}
use Rattle.sem_query.specs.Meaning.{Arrival, new_answers}
use Rattle.sem_query.specs.Violation.{IsViolation}
use Rattle.sem_query.specs.Plan.{link}
use Rattle.sem_query.specs.Cells.{printed}
use Rattle.sem_query.specs.Combinations.{read_from}
use Rattle.sem_query.specs.Future.{future}
use Rattle.sem_query.specs.Sharing.{shared_synopsis, shared_numbers, IsSharedPlan}
use Rattle.sem_query.specs.Verdict.{IsVerdict, accepted, pool}
use Rattle.sem_laws.specs.Cases.{col, arrival, dim, one_cell, two_ways, two_ways_plan, way, met_before}
use Rattle.sem_laws.specs.Sharing.{moved_together}

-- the parts of SELECT DISTINCT S.a FROM S, T WHERE S.b < T.c AND S.a > 10 AND S.a < 12, where a box that an earlier part has begins with that one
abbrev pub two_ways_shared_plan : List PartPlan
two_ways_shared_plan =
    way (Sign.Lt ∷ Sign.Gt ∷ Sign.Eq ∷ []) (Sign.Gt ∷ Sign.Gt ∷ []) (one_cell (dim (col 0 0) (pos 11) ∷ []) Kind.Present 0) (one_cell [] Kind.Present 1) [] []
    ∷ way (Sign.Lt ∷ Sign.Gt ∷ Sign.Gt ∷ []) (Sign.Gt ∷ Sign.Gt ∷ []) (one_cell (dim (col 0 0) (pos 11) ∷ []) (Kind.Least (col 0 1)) 2) (one_cell [] (Kind.Greatest (col 1 0)) 3) [] (link (col 0 1) (col 1 0) ∷ [])
    ∷ way (Sign.Eq ∷ Sign.Gt ∷ Sign.Lt ∷ []) (Sign.Gt ∷ Sign.Eq ∷ []) (one_cell (dim (col 0 0) (pos 11) ∷ []) Kind.Present 4) (one_cell [] Kind.Present 5) [] []
    ∷ way (Sign.Eq ∷ Sign.Gt ∷ Sign.Lt ∷ []) (Sign.Gt ∷ Sign.Gt ∷ []) (one_cell (dim (col 0 0) (pos 11) ∷ []) Kind.Present 4) (one_cell [] Kind.Present 1) [] []
    ∷ way (Sign.Gt ∷ Sign.Lt ∷ Sign.Lt ∷ []) (Sign.Lt ∷ Sign.Lt ∷ []) (one_cell (dim (col 0 0) (pos 11) ∷ []) (Kind.Least (col 0 1)) 6) (one_cell [] (Kind.Greatest (col 1 0)) 7) [] (link (col 0 1) (col 1 0) ∷ [])
    ∷ way (Sign.Gt ∷ Sign.Lt ∷ Sign.Lt ∷ []) (Sign.Eq ∷ Sign.Lt ∷ []) (one_cell (dim (col 0 0) (pos 11) ∷ []) Kind.Present 8) (one_cell [] Kind.Present 9) [] []
    ∷ way (Sign.Gt ∷ Sign.Lt ∷ Sign.Lt ∷ []) (Sign.Gt ∷ Sign.Lt ∷ []) (one_cell (dim (col 0 0) (pos 11) ∷ []) Kind.Present 8) (one_cell (dim (col 1 0) (pos 11) ∷ []) Kind.Present 10) (link (col 0 0) (col 1 0) ∷ []) []
    ∷ way (Sign.Gt ∷ Sign.Lt ∷ Sign.Lt ∷ []) (Sign.Gt ∷ Sign.Eq ∷ []) (one_cell (dim (col 0 0) (pos 11) ∷ []) Kind.Present 8) (one_cell [] Kind.Present 5) [] []
    ∷ way (Sign.Gt ∷ Sign.Lt ∷ Sign.Lt ∷ []) (Sign.Gt ∷ Sign.Gt ∷ []) (one_cell (dim (col 0 0) (pos 11) ∷ []) Kind.Present 8) (one_cell [] Kind.Present 1) [] []
    ∷ way (Sign.Gt ∷ Sign.Eq ∷ Sign.Lt ∷ []) (Sign.Gt ∷ Sign.Lt ∷ []) (one_cell (dim (col 0 0) (pos 11) ∷ []) Kind.Present 11) (one_cell (dim (col 1 0) (pos 11) ∷ []) Kind.Present 10) (link (col 0 0) (col 1 0) ∷ []) []
    ∷ way (Sign.Gt ∷ Sign.Eq ∷ Sign.Lt ∷ []) (Sign.Gt ∷ Sign.Eq ∷ []) (one_cell (dim (col 0 0) (pos 11) ∷ []) Kind.Present 11) (one_cell [] Kind.Present 5) [] []
    ∷ way (Sign.Gt ∷ Sign.Eq ∷ Sign.Lt ∷ []) (Sign.Gt ∷ Sign.Gt ∷ []) (one_cell (dim (col 0 0) (pos 11) ∷ []) Kind.Present 11) (one_cell [] Kind.Present 1) [] []
    ∷ []

-- these are the places to which the boxes are moved
abbrev pub BoxesAreMovedTogether : Type 0
BoxesAreMovedTogether = moved_together two_ways two_ways_plan ≡ two_ways_shared_plan

-- a row of S and a row of T above 12
abbrev pub above_all : List Arrival
above_all = arrival 0 (pos 11 ∷ pos 100 ∷ []) ∷ arrival 1 (pos 100 ∷ []) ∷ []

-- the query with shared cells: all holds that the laws ask, and it is answered as without them
pub record CellsAreShared : Type 0 where
  pub within : IsWithinLimits two_ways
  pub no_filter : IsFalse (is_filter two_ways)
  pub plan : IsSharedPlan two_ways two_ways_shared_plan
  pub violation : IsViolation two_ways None
  pub numbers : shared_numbers two_ways two_ways_shared_plan ≡ record { parts = 12; cells = 12; answers = 12; work = 12 }
  pub verdict : IsVerdict true two_ways 1 (accepted (shared_numbers two_ways two_ways_shared_plan))
  pub full : IsVerdict true two_ways 0 pool
  pub cells : shared_synopsis two_ways two_ways_shared_plan met_before ≡ Cell.Empty ∷ Cell.Empty ∷ Cell.Empty ∷ Cell.Empty ∷ Cell.Present ∷ Cell.Empty ∷ Cell.Extreme (pos 5) ∷ Cell.Extreme (pos 7) ∷ Cell.Present ∷ Cell.Empty ∷ Cell.Empty ∷ Cell.Empty ∷ []
  pub without : future two_ways two_ways_shared_plan (read_from (shared_synopsis two_ways two_ways_shared_plan met_before)) [] (arrival 1 (pos 12 ∷ [])) ≡ (pos 11 ∷ []) ∷ []
  pub answers : future two_ways two_ways_shared_plan (read_from (shared_synopsis two_ways two_ways_shared_plan met_before)) (printed two_ways met_before) (arrival 1 (pos 12 ∷ [])) ≡ []
  pub above : future two_ways two_ways_shared_plan (read_from (shared_synopsis two_ways two_ways_shared_plan above_all)) (printed two_ways above_all) (arrival 1 (pos 101 ∷ [])) ≡ (pos 11 ∷ []) ∷ []
  pub meant_above : new_answers two_ways above_all (arrival 1 (pos 101 ∷ [])) ≡ (pos 11 ∷ []) ∷ []
