use Rattle.std.proofs.Common.{◌≡◌, ◌∙◌, ◌*◌, ◌<◌, length, ap, sym, refl, true, arith, slice_get, Some}
use Rattle.std.proofs.lemmas.Option.{slice_get-get_or}
use Rattle.sem_query.specs.declared.cell.Cell.TheVariants.{Empty}
use Rattle.sem_query.specs.declared.plan.PartPlan.{PartPlan}
use Rattle.sem_query.specs.Combinations.{read_from, found_in}
use Rattle.exec_pool.specs.Extents.{cells_of}
use Rattle.exec_join.proofs.StartLaws.{share-some}
use Rattle.exec_query.proofs.RowReads.{most-some}
use Rattle.exec_query.specs.CellSteps.{arrives}
use Rattle.exec_query.specs.TwoCells.{told_by}
use Rattle.exec_query.proofs.DirectLaws.{direct-short, direct-refused, direct-above, direct-admitted, direct-own, direct-few, other-few, other-below, direct-found}
use Rattle.exec_query.proofs.InPart.{own_room}
use Rattle.exec_query.proofs.Inserting.{part_plan}
use Rattle.exec_query.proofs.OnlyPart.{only-ready, only-counts, only-found, only-work, only-taken, only-refused, only-none}
use Rattle.exec_query.proofs.OwnCells.{put-there}
use Rattle.exec_query.proofs.two_cells.meet_cells.Goals as goal

pub offset_in-requires : goal.offset_in-requires
offset_in-requires g c =
    let at_0 : slice_get c.args.parts.now 0 ≡ Some c.get-plan.result.now
    = slice_get-get_or c.args.parts.now 0 c.get-plan.result.now (let o = c.requires.direct.one in omega (arith, o)) ∙ ap (λ (p : PartPlan). Some p) (sym (c.get-plan.ensures c.get-plan.result.now)) in
    direct-short c.args.q.now c.get-plan.result.now c.args.direct.now (c.requires.direct.only c.get-plan.result.now at_0)

pub returns-in_default-clause-answers : goal.returns-in_default-clause-answers
returns-in_default-clause-answers g c =
    let at_0 : slice_get c.args.parts.now 0 ≡ Some c.get-plan.result.now
    = slice_get-get_or c.args.parts.now 0 c.get-plan.result.now (let o = c.requires.direct.one in omega (arith, o)) ∙ ap (λ (p : PartPlan). Some p) (sym (c.get-plan.ensures c.get-plan.result.now)) in
    only-none c.args.q.now c.args.parts.now c.args.extent.now c.args.direct.now.pos c.requires.direct.here c.args.row.now.items c.args.pool.now c.requires.ready c.requires.direct.one c.get-plan.result.now at_0 (read_from (cells_of c.args.pool.now c.args.extent.now)) (direct-refused c.args.q.now c.args.parts.now c.args.direct.now c.requires.direct c.get-plan.result.now at_0 c.args.row.now.items c.as_slice-values.result.now c.as_slice-values.ensures.value c.in_default.ensures)

pub returns-in_default-clause-pool : goal.returns-in_default-clause-pool
returns-in_default-clause-pool g c =
    let at_0 : slice_get c.args.parts.now 0 ≡ Some c.get-plan.result.now
    = slice_get-get_or c.args.parts.now 0 c.get-plan.result.now (let o = c.requires.direct.one in omega (arith, o)) ∙ ap (λ (p : PartPlan). Some p) (sym (c.get-plan.ensures c.get-plan.result.now)) in
    let several : 1 < length c.args.q.now.from
    = (let n = (part_plan c.args.q.now c.args.parts.now c.requires.ready.limits c.requires.ready.plan 0 c.get-plan.result.now at_0).count in let s = (c.requires.direct.only c.get-plan.result.now at_0).own_layout.several in omega (arith, n, s)) in
    only-refused c.args.q.now c.args.parts.now c.args.extent.now c.args.direct.now.pos c.requires.direct.here c.args.row.now.items c.args.pool.now c.requires.ready c.requires.direct.one c.get-plan.result.now at_0 several (direct-refused c.args.q.now c.args.parts.now c.args.direct.now c.requires.direct c.get-plan.result.now at_0 c.args.row.now.items c.as_slice-values.result.now c.as_slice-values.ensures.value c.in_default.ensures)

pub overflow_add-placement : goal.overflow_add-placement
overflow_add-placement g c =
    let at_0 : slice_get c.args.parts.now 0 ≡ Some c.get-plan.result.now
    = slice_get-get_or c.args.parts.now 0 c.get-plan.result.now (let o = c.requires.direct.one in omega (arith, o)) ∙ ap (λ (p : PartPlan). Some p) (sym (c.get-plan.ensures c.get-plan.result.now)) in
    (let f = direct-few c.args.q.now c.get-plan.result.now c.args.direct.now (c.requires.direct.only c.get-plan.result.now at_0) c.args.row.now.items c.in-Some.offset (direct-above c.args.q.now c.args.parts.now c.args.direct.now c.requires.direct c.get-plan.result.now at_0 c.args.row.now.items c.as_slice-values.result.now c.as_slice-values.ensures.value c.in-Some.offset c.in-Some.ensures) in omega (arith, f))

pub own_cell-own-requires-clause-here : goal.own_cell-own-requires-clause-here
own_cell-own-requires-clause-here g c =
    c.requires.direct.here

pub own_cell-own-requires-clause-several : goal.own_cell-own-requires-clause-several
own_cell-own-requires-clause-several g c =
    let at_0 : slice_get c.args.parts.now 0 ≡ Some c.get-plan.result.now
    = slice_get-get_or c.args.parts.now 0 c.get-plan.result.now (let o = c.requires.direct.one in omega (arith, o)) ∙ ap (λ (p : PartPlan). Some p) (sym (c.get-plan.ensures c.get-plan.result.now)) in
    let several : 1 < length c.args.q.now.from
    = (let n = (part_plan c.args.q.now c.args.parts.now c.requires.ready.limits c.requires.ready.plan 0 c.get-plan.result.now at_0).count in let s = (c.requires.direct.only c.get-plan.result.now at_0).own_layout.several in omega (arith, n, s)) in
    several

pub own_cell-own-requires-clause-held : goal.own_cell-own-requires-clause-held
own_cell-own-requires-clause-held g c =
    let at_0 : slice_get c.args.parts.now 0 ≡ Some c.get-plan.result.now
    = slice_get-get_or c.args.parts.now 0 c.get-plan.result.now (let o = c.requires.direct.one in omega (arith, o)) ∙ ap (λ (p : PartPlan). Some p) (sym (c.get-plan.ensures c.get-plan.result.now)) in
    let ready = only-ready c.args.q.now c.args.parts.now c.args.extent.now c.args.direct.now.pos c.requires.direct.here c.args.row.now.items c.args.pool.now c.requires.ready c.requires.direct.one c.get-plan.result.now at_0 in
    ready.held

pub own_cell-own-requires-clause-admitted : goal.own_cell-own-requires-clause-admitted
own_cell-own-requires-clause-admitted g c =
    let at_0 : slice_get c.args.parts.now 0 ≡ Some c.get-plan.result.now
    = slice_get-get_or c.args.parts.now 0 c.get-plan.result.now (let o = c.requires.direct.one in omega (arith, o)) ∙ ap (λ (p : PartPlan). Some p) (sym (c.get-plan.ensures c.get-plan.result.now)) in
    direct-admitted c.args.q.now c.args.parts.now c.args.direct.now c.requires.direct c.get-plan.result.now at_0 c.args.row.now.items c.as_slice-values.result.now c.as_slice-values.ensures.value c.in-Some.offset c.in-Some.ensures

pub own_cell-own-requires-clause-placement : goal.own_cell-own-requires-clause-placement
own_cell-own-requires-clause-placement g c =
    let at_0 : slice_get c.args.parts.now 0 ≡ Some c.get-plan.result.now
    = slice_get-get_or c.args.parts.now 0 c.get-plan.result.now (let o = c.requires.direct.one in omega (arith, o)) ∙ ap (λ (p : PartPlan). Some p) (sym (c.get-plan.ensures c.get-plan.result.now)) in
    direct-own c.args.q.now c.get-plan.result.now c.args.direct.now (c.requires.direct.only c.get-plan.result.now at_0) c.args.row.now.items c.in-Some.offset (direct-above c.args.q.now c.args.parts.now c.args.direct.now c.requires.direct c.get-plan.result.now at_0 c.args.row.now.items c.as_slice-values.result.now c.as_slice-values.ensures.value c.in-Some.offset c.in-Some.ensures)

pub own_cell-own-requires-clause-room : goal.own_cell-own-requires-clause-room
own_cell-own-requires-clause-room g c =
    let at_0 : slice_get c.args.parts.now 0 ≡ Some c.get-plan.result.now
    = slice_get-get_or c.args.parts.now 0 c.get-plan.result.now (let o = c.requires.direct.one in omega (arith, o)) ∙ ap (λ (p : PartPlan). Some p) (sym (c.get-plan.ensures c.get-plan.result.now)) in
    let several : 1 < length c.args.q.now.from
    = (let n = (part_plan c.args.q.now c.args.parts.now c.requires.ready.limits c.requires.ready.plan 0 c.get-plan.result.now at_0).count in let s = (c.requires.direct.only c.get-plan.result.now at_0).own_layout.several in omega (arith, n, s)) in
    let ready = only-ready c.args.q.now c.args.parts.now c.args.extent.now c.args.direct.now.pos c.requires.direct.here c.args.row.now.items c.args.pool.now c.requires.ready c.requires.direct.one c.get-plan.result.now at_0 in
    own_room c.args.q.now c.get-plan.result.now c.requires.ready.limits ready.held.walked.plan c.args.direct.now.pos c.requires.direct.here c.args.row.now.items (cells_of c.args.pool.now c.args.extent.now) (only-counts c.args.q.now c.args.parts.now c.args.extent.now c.args.direct.now.pos c.requires.direct.here c.args.row.now.items c.args.pool.now c.requires.ready c.requires.direct.one c.get-plan.result.now at_0) several (direct-admitted c.args.q.now c.args.parts.now c.args.direct.now c.requires.direct c.get-plan.result.now at_0 c.args.row.now.items c.as_slice-values.result.now c.as_slice-values.ensures.value c.in-Some.offset c.in-Some.ensures)

pub overflow_add-direct : goal.overflow_add-direct
overflow_add-direct g c =
    let at_0 : slice_get c.args.parts.now 0 ≡ Some c.get-plan.result.now
    = slice_get-get_or c.args.parts.now 0 c.get-plan.result.now (let o = c.requires.direct.one in omega (arith, o)) ∙ ap (λ (p : PartPlan). Some p) (sym (c.get-plan.ensures c.get-plan.result.now)) in
    (let f = other-few c.args.q.now c.get-plan.result.now c.args.direct.now (c.requires.direct.only c.get-plan.result.now at_0) c.args.row.now.items c.in-Some.offset (direct-above c.args.q.now c.args.parts.now c.args.direct.now c.requires.direct c.get-plan.result.now at_0 c.args.row.now.items c.as_slice-values.result.now c.as_slice-values.ensures.value c.in-Some.offset c.in-Some.ensures) in omega (arith, f))

pub read-there-requires-clause-within : goal.read-there-requires-clause-within
read-there-requires-clause-within g c =
    let at_0 : slice_get c.args.parts.now 0 ≡ Some c.get-plan.result.now
    = slice_get-get_or c.args.parts.now 0 c.get-plan.result.now (let o = c.requires.direct.one in omega (arith, o)) ∙ ap (λ (p : PartPlan). Some p) (sym (c.get-plan.ensures c.get-plan.result.now)) in
    let ready = only-ready c.args.q.now c.args.parts.now c.args.extent.now c.args.direct.now.pos c.requires.direct.here c.args.row.now.items c.args.pool.now c.requires.ready c.requires.direct.one c.get-plan.result.now at_0 in
    other-below c.args.q.now c.get-plan.result.now c.args.direct.now (c.requires.direct.only c.get-plan.result.now at_0) c.args.row.now.items c.in-Some.offset (direct-above c.args.q.now c.args.parts.now c.args.direct.now c.requires.direct c.get-plan.result.now at_0 c.args.row.now.items c.as_slice-values.result.now c.as_slice-values.ensures.value c.in-Some.offset c.in-Some.ensures) ready.held.walked (64 * c.args.extent.now.pages) ready.held.within

pub returns-clause-answers : goal.returns-clause-answers
returns-clause-answers g c =
    let at_0 : slice_get c.args.parts.now 0 ≡ Some c.get-plan.result.now
    = slice_get-get_or c.args.parts.now 0 c.get-plan.result.now (let o = c.requires.direct.one in omega (arith, o)) ∙ ap (λ (p : PartPlan). Some p) (sym (c.get-plan.ensures c.get-plan.result.now)) in
    let ready = only-ready c.args.q.now c.args.parts.now c.args.extent.now c.args.direct.now.pos c.requires.direct.here c.args.row.now.items c.args.pool.now c.requires.ready c.requires.direct.one c.get-plan.result.now at_0 in
    let found : found_in c.args.q.now c.get-plan.result.now (read_from (cells_of c.args.pool.now c.args.extent.now)) (arrives c.args.q.now c.args.direct.now.pos c.args.row.now.items) ≡ told_by c.args.direct.now c.args.row.now.items c.read-there.result
    = direct-found c.args.q.now c.args.parts.now c.args.direct.now c.requires.direct c.get-plan.result.now at_0 c.args.row.now.items c.as_slice-values.result.now c.as_slice-values.ensures.value c.in-Some.offset c.in-Some.ensures c.requires.ready.limits ready.held.walked (cells_of c.args.pool.now c.args.extent.now)
    ∙ ap (told_by c.args.direct.now c.args.row.now.items) (sym (c.read-there.ensures.cell Empty)) in
    only-found c.args.q.now c.args.parts.now c.args.extent.now c.args.direct.now.pos c.requires.direct.here c.args.row.now.items c.args.pool.now c.requires.ready c.requires.direct.one c.get-plan.result.now at_0 (read_from (cells_of c.args.pool.now c.args.extent.now)) ∙ found

pub returns-clause-pool : goal.returns-clause-pool
returns-clause-pool g c =
    let at_0 : slice_get c.args.parts.now 0 ≡ Some c.get-plan.result.now
    = slice_get-get_or c.args.parts.now 0 c.get-plan.result.now (let o = c.requires.direct.one in omega (arith, o)) ∙ ap (λ (p : PartPlan). Some p) (sym (c.get-plan.ensures c.get-plan.result.now)) in
    let several : 1 < length c.args.q.now.from
    = (let n = (part_plan c.args.q.now c.args.parts.now c.requires.ready.limits c.requires.ready.plan 0 c.get-plan.result.now at_0).count in let s = (c.requires.direct.only c.get-plan.result.now at_0).own_layout.several in omega (arith, n, s)) in
    only-taken c.args.q.now c.args.parts.now c.args.extent.now c.args.direct.now.pos c.requires.direct.here c.args.row.now.items c.args.pool.now c.requires.ready c.requires.direct.one c.get-plan.result.now at_0 several c.put_own.new.pool (put-there c.args.q.now c.get-plan.result.now c.args.direct.now.pos c.args.row.now.items c.args.extent.now c.args.pool.now true c.put_own.new.pool refl (direct-admitted c.args.q.now c.args.parts.now c.args.direct.now c.requires.direct c.get-plan.result.now at_0 c.args.row.now.items c.as_slice-values.result.now c.as_slice-values.ensures.value c.in-Some.offset c.in-Some.ensures) c.put_own.ensures.cell)

pub returns-clause-reads : goal.returns-clause-reads
returns-clause-reads g c =
    let at_0 : slice_get c.args.parts.now 0 ≡ Some c.get-plan.result.now
    = slice_get-get_or c.args.parts.now 0 c.get-plan.result.now (let o = c.requires.direct.one in omega (arith, o)) ∙ ap (λ (p : PartPlan). Some p) (sym (c.get-plan.ensures c.get-plan.result.now)) in
    let ready = only-ready c.args.q.now c.args.parts.now c.args.extent.now c.args.direct.now.pos c.requires.direct.here c.args.row.now.items c.args.pool.now c.requires.ready c.requires.direct.one c.get-plan.result.now at_0 in
    let w = only-work c.args.q.now c.args.parts.now c.args.extent.now c.args.direct.now.pos c.requires.direct.here c.args.row.now.items c.args.pool.now c.requires.ready c.requires.direct.one c.get-plan.result.now at_0 in
    let here : c.args.direct.now.pos < length c.get-plan.result.now.streams.items = (let h = c.requires.direct.here in let n = ready.held.walked.plan.count in omega (arith, h, n)) in
    let some = most-some c.get-plan.result.now (share-some c.args.q.now c.get-plan.result.now c.args.direct.now.pos ready.held.walked here) in
    let o = c.own_cell-own.ensures.reads in
    let r = c.read-there.ensures.reads in
    let p = c.put_own.ensures.reads in
    omega (arith, w, some, o, r, p)
