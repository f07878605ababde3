use Rattle.std.proofs.Common.{◌^◌, ◌≡◌, ◌+◌, ◌-◌, ◌*◌, ◌≤◌, ◌∙◌, ℕ, List, length, subst, arith, inr, refl, Contains}
use Rattle.exec_answer_table.specs.Entries.{tuples_of}
use Rattle.sem_laws.specs.Closed.{IsSaturated}
use Rattle.sem_laws.proofs.Tests.{not_both}
use Rattle.sem_query.specs.declared.plan.PartPlan.{PartPlan}
use Rattle.sem_query.specs.Combinations.{read_from}
use Rattle.sem_query.specs.Numbers.{share}
use Rattle.sem_query.specs.Query.{QueryValue}
use Rattle.exec_pool.specs.declared.pool.Extent.{Extent}
use Rattle.exec_pool.specs.Extents.{PoolValue, cells_of}
use Rattle.exec_part_index.specs.declared.prepared.PreparedPlan.{PreparedPlan}
use Rattle.exec_synopsis.proofs.PlanLaws.{laid-from}
use Rattle.exec_saturation.specs.Looking.{CanLook, look_cost, work_of}
use Rattle.exec_saturation.proofs.LookCost.{cost-within}
use Rattle.exec_saturation.proofs.KnownCells.{part-is, part-among, got-there, box-within, cells-on, none-closed}
use Rattle.exec_saturation.proofs.cursor.go_on.Goals as goal

pub returns-in-On-clause-stepped : goal.returns-in-On-clause-stepped
returns-in-On-clause-stepped g c =
    (let some = c.if-from-eq0.false in omega (arith, some), c.in-On.ensures.ahead.0, c.in-On.ensures.ahead.1 (tuples_of c.args.table.now.entries))

pub cost_in-cost-requires : goal.cost_in-cost-requires
cost_in-cost-requires g c =
    let there = got-there c.args.parts.now c.args.from.at.part c.get-plan.result.now c.requires.inside (c.get-plan.ensures c.get-plan.result.now) in
    (c.requires.look.ready c.get-plan.result.now (part-among c.args.parts.now c.args.from.at.part c.get-plan.result.now there)).held.walked.plan.count ∙ c.requires.look.two

pub row_of_cell-row-requires-clause-laid : goal.row_of_cell-row-requires-clause-laid
row_of_cell-row-requires-clause-laid g c =
    let part = c.get-plan.result.now in
    let there = got-there c.args.parts.now c.args.from.at.part part c.requires.inside (c.get-plan.ensures part) in
    let walked = (c.requires.look.ready part (part-among c.args.parts.now c.args.from.at.part part there)).held.walked in
    let two = c.requires.look.two in
    laid-from c.args.planned.now.query part walked (2 ^ 32) (let few = walked.few in omega (arith, few)) (omega (arith, two)) c.args.from.at.place c.in-At.ensures.ahead.0.place

pub row_of_cell-row-requires-clause-inside : goal.row_of_cell-row-requires-clause-inside
row_of_cell-row-requires-clause-inside g c =
    c.in-At.ensures.ahead.0.cell c.get-plan.result.now (got-there c.args.parts.now c.args.from.at.part c.get-plan.result.now c.requires.inside (c.get-plan.ensures c.get-plan.result.now))

pub row_of_cell-row-requires-clause-prepared : goal.row_of_cell-row-requires-clause-prepared
row_of_cell-row-requires-clause-prepared g c =
    c.part-prepared.ensures c.get-plan.result.now (got-there c.args.parts.now c.args.from.at.part c.get-plan.result.now c.requires.inside (c.get-plan.ensures c.get-plan.result.now))

pub is_saturated-requires-clause-inside : goal.is_saturated-requires-clause-inside
is_saturated-requires-clause-inside g c =
    c.in-At.ensures.ahead.0.cell c.get-plan.result.now (got-there c.args.parts.now c.args.from.at.part c.get-plan.result.now c.requires.inside (c.get-plan.ensures c.get-plan.result.now))

pub is_saturated-requires-clause-held : goal.is_saturated-requires-clause-held
is_saturated-requires-clause-held g c =
    c.in-At.ensures.ahead.1 c.get-plan.result.now (got-there c.args.parts.now c.args.from.at.part c.get-plan.result.now c.requires.inside (c.get-plan.ensures c.get-plan.result.now))

pub is_saturated-requires-clause-ready : goal.is_saturated-requires-clause-ready
is_saturated-requires-clause-ready g c =
    let there = got-there c.args.parts.now c.args.from.at.part c.get-plan.result.now c.requires.inside (c.get-plan.ensures c.get-plan.result.now) in
    c.requires.look.ready c.get-plan.result.now (part-among c.args.parts.now c.args.from.at.part c.get-plan.result.now there)

pub is_saturated-requires-clause-prepared : goal.is_saturated-requires-clause-prepared
is_saturated-requires-clause-prepared g c =
    c.part-prepared.ensures c.get-plan.result.now (got-there c.args.parts.now c.args.from.at.part c.get-plan.result.now c.requires.inside (c.get-plan.ensures c.get-plan.result.now))

pub returns-then-not-is_saturated-clause-stepped : goal.returns-then-not-is_saturated-clause-stepped
returns-then-not-is_saturated-clause-stepped g c =
    let part = c.get-plan.result.now in
    let at = c.in-At.ensures.ahead.0 in
    let there = got-there c.args.parts.now c.args.from.at.part part c.requires.inside (c.get-plan.ensures part) in
    none-closed c.args.planned.now.query c.args.parts.now (read_from (cells_of c.args.pool.now c.args.planned.now.extent)) (tuples_of c.args.table.now.entries)
    part c.args.from.at.place c.args.from.at.cell (part-among c.args.parts.now c.args.from.at.part part there) at.place (at.cell part there)
    (λ is. not_both c.is_saturated.result (c.is_saturated.ensures.value.1 is) c.if-not-is_saturated.true)

pub overflow_add-at : goal.overflow_add-at
overflow_add-at g c =
    let part = c.get-plan.result.now in
    let at = c.in-At.ensures.ahead.0 in
    let there = got-there c.args.parts.now c.args.from.at.part part c.requires.inside (c.get-plan.ensures part) in
    let box = (box-within c.args.planned.now.query part c.args.pool.now c.args.planned.now.extent (c.requires.look.ready part (part-among c.args.parts.now c.args.from.at.part part there)) c.args.from.at.place at.place).1 in
    let inside = at.cell part there in omega (arith, box, inside)

pub returns-else-not-is_saturated-clause-stepped : goal.returns-else-not-is_saturated-clause-stepped
returns-else-not-is_saturated-clause-stepped g c =
    let got = c.get-plan.result.now in
    let n = c.args.from.at.part in
    let there = got-there c.args.parts.now n got c.requires.inside (c.get-plan.ensures got) in
    let read = read_from (cells_of c.args.pool.now c.args.planned.now.extent) in
    let table = tuples_of c.args.table.now.entries in
    let i = c.args.from.at.cell in
    let cost = c.cost_in-cost.ensures in
    let left = c.if-from-cost.false in (
      omega (arith, cost, left),
      inr (refl, inr (refl, omega arith)),
      cells-on c.args.planned.now.query c.args.parts.now read table n c.args.from.at.place i (i + 1)
          (λ part at_part j low high inside. subst (λ (o : ℕ). IsSaturated c.args.planned.now.query part read table c.args.from.at.place o) (let e : i ≡ j = omega (arith, low, high) in e)
          (subst (λ (p : PartPlan). IsSaturated c.args.planned.now.query p read table c.args.from.at.place i) (part-is c.args.parts.now n got part there at_part)
          (c.is_saturated.ensures.value.0 c.if-not-is_saturated.false))),
    )

-- what the look read at most
cost-paid : (q : QueryValue) (parts : List PartPlan) (asked : PreparedPlan) (pool : PoolValue) (e : Extent) (wide most : ℕ) → CanLook q parts asked pool e wide most
    → (part : PartPlan) → Contains parts part → (before after cost : ℕ) → after ≤ before + (length part.streams.items - 1) * share part → cost ≡ look_cost part most
    → after + 1 ≤ before + cost
cost-paid q parts asked pool e wide most look part k before after cost few is =
    let ready = look.ready part k in
    let two : length part.streams.items ≡ 2 = ready.held.walked.plan.count ∙ look.two in
    let one = subst (λ (n : ℕ). after ≤ before + (n - 1) * share part) two few in
    let own : 1 + share part ≤ look_cost part most = cost-within q part ready.held.walked.plan look.two (λ place l. (ready.held.walked.places place l).full) most (look.shares part k) in
    omega (arith, one, is, own)

pub returns-then-not-is_saturated-clause-reads : goal.returns-then-not-is_saturated-clause-reads
returns-then-not-is_saturated-clause-reads g c =
    let part = c.get-plan.result.now in
    let there = got-there c.args.parts.now c.args.from.at.part part c.requires.inside (c.get-plan.ensures part) in
    let paid = cost-paid c.args.planned.now.query c.args.parts.now c.args.planned.now.prepared c.args.pool.now c.args.planned.now.extent c.args.table.now.width (work_of c.args.planned.now.plan)
    c.requires.look part (part-among c.args.parts.now c.args.from.at.part part there) _ _ _ c.is_saturated.ensures.reads c.cost_in-cost.ensures in
    let left = c.if-from-cost.false in let seen = c.in-At.ensures.reads in omega (arith, paid, left, seen)

pub returns-else-not-is_saturated-clause-reads : goal.returns-else-not-is_saturated-clause-reads
returns-else-not-is_saturated-clause-reads g c =
    let part = c.get-plan.result.now in
    let there = got-there c.args.parts.now c.args.from.at.part part c.requires.inside (c.get-plan.ensures part) in
    let paid = cost-paid c.args.planned.now.query c.args.parts.now c.args.planned.now.prepared c.args.pool.now c.args.planned.now.extent c.args.table.now.width (work_of c.args.planned.now.plan)
    c.requires.look part (part-among c.args.parts.now c.args.from.at.part part there) _ _ _ c.is_saturated.ensures.reads c.cost_in-cost.ensures in
    let left = c.if-from-cost.false in let seen = c.in-At.ensures.reads in omega (arith, paid, left, seen)
