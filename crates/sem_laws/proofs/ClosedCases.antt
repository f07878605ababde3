-- A worked base that is not closed, computed.
use Rattle.std.proofs.Common.{zero, suc, ◌<◌, [], ◌∷◌, refl, arith, pos, slice_index_or, Contains}
use Rattle.sem_query.specs.Parts.{pairs}
use Rattle.sem_query.specs.Cells.{synopsis}
use Rattle.sem_query.specs.Combinations.{read_from, found_in}
use Rattle.sem_query.specs.Future.{future}
use Rattle.sem_query.specs.Merge.{merge}
use Rattle.sem_query.specs.declared.plan.PartPlan.{PartPlan}
use Rattle.sem_laws.specs.Cases.{hot_room, hot_room_plan}
use Rattle.sem_laws.specs.Closed.{IsDistinctPlan, IsClosed, AreOfKinds}
use Rattle.sem_laws.specs.ClosedCases.{loaded, higher, LoadedCellsAreWalked}
use Rattle.sem_laws.proofs.Examples.{extremes-decide}
use Rattle.sem_laws.proofs.PlainServes.{plain_plans_serve}
use Rattle.sem_laws.proofs.Sufficiency.{part-plans}
use Rattle.sem_laws.proofs.Saturated.{saturated-cells-answer-nothing-new}

premises : IsDistinctPlan hot_room hot_room_plan
premises = record {
  limits = extremes-decide.within;
  several = extremes-decide.no_filter;
  serving = plain_plans_serve hot_room hot_room_plan extremes-decide.within extremes-decide.no_filter (part-plans hot_room hot_room_plan extremes-decide.plan) extremes-decide.violation;
  distinct = refl;
}

-- the one part
abbrev part : PartPlan
part = slice_index_or hot_room_plan 0 record { signs = record { items = [] }; streams = record { items = [] }; equal = record { items = [] }; less = record { items = [] }; local = []; soft = record { items = [] } }

known : Contains hot_room_plan part
known = (0, omega arith, refl)

kinds : AreOfKinds part (read_from loaded)
kinds zero zero l b = tt
kinds zero (suc i) l b = absurd (let c : suc i < 1 = b in omega (arith, c))
kinds (suc zero) zero l b = tt
kinds (suc zero) (suc i) l b = absurd (let c : suc i < 1 = b in omega (arith, c))
kinds (suc (suc place)) i l b = absurd (let c : suc (suc place) < 2 = l in omega (arith, c))

lacking : ¬ IsClosed hot_room hot_room_plan (read_from loaded) []
unfolding pairs found_in
lacking closed =
    let there : 1 < 2 = omega arith in
    let inside : 0 < 1 = omega arith in
    let none = saturated-cells-answer-nothing-new hot_room hot_room_plan premises part known (read_from loaded) kinds [] higher 1 there refl inside refl (closed part known 1 0 there inside) record { tuple = pos 2 ∷ []; count = 1 } (0, omega arith, refl) in
    absurd (let l : none.0 < 0 = none.1 in omega (arith, l))

pub loaded-cells-are-walked : LoadedCellsAreWalked
unfolding pairs synopsis merge found_in future
loaded-cells-are-walked = record { premises = premises; stays = refl; owed = refl; lacking = lacking; printed = refl }
