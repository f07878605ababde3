-- The shared cells are those of the synopsis, and so they suffice.
use Rattle.std.proofs.Common.{◌≡◌, ◌+◌, List, sym, ◌∙◌, subst, arith, true}
use Rattle.std.proofs.lemmas.List.Elements.{All-contains}
use Rattle.sem_query.specs.declared.cell.Cell.{Cell}
use Rattle.sem_query.specs.Plan.{stream_at, IsPartPlan}
use Rattle.sem_query.specs.Cells.{cell_of}
use Rattle.sem_query.specs.Combinations.{read_from}
use Rattle.sem_query.specs.Sharing.{Box, box_at, size_in, boxes_in, boxes, start_in, synopsis_in, shared_synopsis}
use Rattle.sem_query.proofs.Has.{Has, first, Has-append_right, Has-from_contains}
use Rattle.sem_laws.specs.Sufficiency.{anywhere}
use Rattle.sem_laws.specs.Sharing.{Begins, SharedCellsAgree, SharedSynopsisSuffices}
use Rattle.sem_laws.proofs.Sufficiency.{readings-suffice, synopsis-is-read}
use Rattle.sem_laws.proofs.SameBoxes.{stands-for, is-among, same-size, same-cells, begins-at_start}
use Rattle.sem_laws.proofs.SharedCells.{spread-lies, Lies}
use Rattle.sem_laws.proofs.BoxReadings.{boxes-are-read}
use Rattle.sem_laws.proofs.Walking.{plan-keeps, all-keep}
use Rattle.sem_laws.proofs.PlainServes.{plain_plans_serve}
use Rattle.sem_laws.proofs.PlanBoxes.{has-box, alone-of, plans-have-boxes}

pub shared-cells-agree : SharedCellsAgree
unfolding synopsis_in
shared-cells-agree q plan is h part known place i l inside =
    let p : IsPartPlan q part = All-contains (IsPartPlan q) plan part is.plans known in
    let b : Box = box_at part place in
    let s = stands-for q (boxes_in plan) b (has-box plan part (Has-from_contains plan part known) place (let c = p.count in omega (arith, c, l))) in
    let g : Begins q (boxes q plan) b (start_in q (boxes q plan) b) = begins-at_start q (boxes q plan) b s.0 s.1 s.2 in
    let k : Has (boxes q plan) g.same = subst (λ (xs : List Box). Has xs g.same) (sym g.whole) (Has-append_right g.before first) in
    let a = alone-of plan g.same (is-among q (boxes_in plan) g.same k) in
    let r : IsPartPlan q g.same.part = All-contains (IsPartPlan q) plan g.same.part is.plans a.0 in
    let z : size_in g.same ≡ (stream_at part place).size = same-size q g.same b g.is (plan-keeps q g.same.part r) (plan-keeps q part p) (let c = r.count in let m = a.1 in omega (arith, c, m)) l in
    let at : Lies (boxes q plan) (start_in q (boxes q plan) b + i)
    = record { before = g.before; box = g.same; after = g.after; i = i; whole = g.whole; inside = omega (arith, z, inside); there = (let t = g.there in omega (arith, t)) } in
    spread-lies (cell_of q h) (boxes q plan) (start_in q (boxes q plan) b + i) Cell.Empty at
    ∙ same-cells q g.same b g.is h i
    ∙ sym (synopsis-is-read q plan is h part known place i l inside)

pub shared-synopsis-suffices : SharedSynopsisSuffices
shared-synopsis-suffices q plan within n is violation h r keep_h keep_r =
    readings-suffice q plan within (anywhere n (plain_plans_serve q plan within n record { parts = is.parts; plans = is.plans } violation)) h keep_h (read_from (shared_synopsis q plan h))
    (boxes-are-read q plan (all-keep q plan is.plans) (boxes q plan) (plans-have-boxes true q plan is.bases) h) r keep_r
