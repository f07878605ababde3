use Rattle.std.proofs.Common.{◌≡◌, ◌∙◌, ◌+◌, ◌≤◌, List, length, true, false, ap, refl, sym, subst, arith}
use Rattle.sem_query.specs.declared.plan.Plan.{Plan}
use Rattle.sem_query.specs.Combinations.{Found, read_from}
use Rattle.sem_query.specs.Domains.{RowKeeps}
use Rattle.sem_query.specs.Meaning.{Arrival}
use Rattle.sem_query.specs.Numbers.{parts_of}
use Rattle.exec_pool.specs.Extents.{cells_of}
use Rattle.exec_answer_table.specs.Entries.{TableValue, with_entries}
use Rattle.exec_point_lookup.specs.Direct.{IsDirect}
use Rattle.exec_query.specs.Executor.{ExecutorValue, arrival, IsSound, cleared, parts_in, spelled}
use Rattle.exec_query.specs.Standing.{IsReady}
use Rattle.exec_query.specs.CellSteps.{answered_by, HasTaken, IsPlanReady}
use Rattle.exec_query.specs.FoundTable.{with_all, HaveRoom}
use Rattle.exec_query.specs.Reads.{row_reads}
use Rattle.exec_query.specs.Row.{KeepsToWork, TakesRow}
use Rattle.exec_query.specs.TwoCells.{told_by}
use Rattle.exec_query.proofs.ClearedNone.{spelled-cleared}
use Rattle.exec_query.proofs.DirectLaws.{direct-parts, direct-arrives, direct-named, direct-answers, told-empty}
use Rattle.exec_query.proofs.InPart.{none_added}
use Rattle.exec_query.proofs.TakenRow.{filter-plan, row-taken}
use Rattle.exec_query.proofs.Rows.{ready_row, room_clear, table_later, sound_later}
use Rattle.exec_query.proofs.RowReads.{rows-upto}
use Rattle.exec_query.proofs.PlanFacts.{serving_in}
use Rattle.exec_query.proofs.AccessPaths.{lookup-direct}
use Rattle.exec_query.proofs.executor.Executor.apply_by_cells.Goals as goal

pub meet_cells-there-requires-clause-direct : goal.meet_cells-there-requires-clause-direct
meet_cells-there-requires-clause-direct g c =
    let e : ExecutorValue = record { query = c.self.inside.planned.query; shared = c.self.inside.shared; plan = c.self.inside.planned.plan; extent = c.self.inside.planned.extent; given = c.self.inside.given; table = c.self.inside.table; saturation = c.self.inside.saturation } in
    let r = arrival c.args.stream c.args.row.now.items in
    let d = c.in-Some.direct.now in
    let is_direct : IsDirect e.query (parts_of e.plan) d
    = lookup-direct e.query e.plan c.self.inside.prefilter c.self.inside.access c.in-PointLookup-Parts.lookups d c.in-PointLookup-Parts.is-0 c.self.invariant.3 c.in-Some.ensures.0 (let s = c.in-Some.ensures.1 in let f = c.ranges.stream in omega (arith, s, f)) in
    subst (λ (p : Plan). IsDirect e.query (parts_of p) d) c.in-PointLookup-Parts.is-1 is_direct

pub meet_cells-there-requires-clause-ready : goal.meet_cells-there-requires-clause-ready
meet_cells-there-requires-clause-ready g c =
    let e : ExecutorValue = record { query = c.self.inside.planned.query; shared = c.self.inside.shared; plan = c.self.inside.planned.plan; extent = c.self.inside.planned.extent; given = c.self.inside.given; table = c.self.inside.table; saturation = c.self.inside.saturation } in
    let r = arrival c.args.stream c.args.row.now.items in
    let ready : IsReady e c.args.pool.now = subst (λ (x : ExecutorValue). IsReady x c.args.pool.now) (sym c.self.view_is) c.requires.ready in
    subst (λ (p : Plan). IsPlanReady e.query p c.args.pool.now e.extent) c.in-PointLookup-Parts.is-1 (ready_row e c.self.invariant.0 c.args.pool.now ready r c.self.invariant.0.ascends)

pub take_up_anew-requires-clause-room : goal.take_up_anew-requires-clause-room
take_up_anew-requires-clause-room g c =
    let e : ExecutorValue = record { query = c.self.inside.planned.query; shared = c.self.inside.shared; plan = c.self.inside.planned.plan; extent = c.self.inside.planned.extent; given = c.self.inside.given; table = c.self.inside.table; saturation = c.self.inside.saturation } in
    let r = arrival c.args.stream c.args.row.now.items in
    let d = c.in-Some.direct.now in
    let is_direct : IsDirect e.query (parts_of e.plan) d
    = lookup-direct e.query e.plan c.self.inside.prefilter c.self.inside.access c.in-PointLookup-Parts.lookups d c.in-PointLookup-Parts.is-0 c.self.invariant.3 c.in-Some.ensures.0 (let s = c.in-Some.ensures.1 in let f = c.ranges.stream in omega (arith, s, f)) in
    let ready : IsReady e c.args.pool.now = subst (λ (x : ExecutorValue). IsReady x c.args.pool.now) (sym c.self.view_is) c.requires.ready in
    let answers : answered_by e.query e.plan (read_from (cells_of c.args.pool.now e.extent)) r ≡ told_by d c.args.row.now.items c.meet_cells-there.result
    = direct-answers e.query e.plan c.in-PointLookup-Parts.parts _ d is_direct c.args.stream c.in-Some.ensures.1 c.in-PointLookup-Parts.is-1 (read_from (cells_of c.args.pool.now e.extent)) c.args.row.now.items ∙ c.meet_cells-there.ensures.answers in
    let left : TableValue = with_entries e.table (cleared e.query.distinct e.table.entries) in
    subst (λ (fs : List Found). HaveRoom e.query.distinct fs left) answers (room_clear e c.self.invariant.0 c.args.pool.now ready r c.self.invariant.0.ascends e.query.distinct refl left refl)

pub invariant_of-self : goal.invariant_of-self
invariant_of-self g c =
    let e : ExecutorValue = record { query = c.self.inside.planned.query; shared = c.self.inside.shared; plan = c.self.inside.planned.plan; extent = c.self.inside.planned.extent; given = c.self.inside.given; table = c.self.inside.table; saturation = c.self.inside.saturation } in
    let r = arrival c.args.stream c.args.row.now.items in
    let d = c.in-Some.direct.now in
    let is_direct : IsDirect e.query (parts_of e.plan) d
    = lookup-direct e.query e.plan c.self.inside.prefilter c.self.inside.access c.in-PointLookup-Parts.lookups d c.in-PointLookup-Parts.is-0 c.self.invariant.3 c.in-Some.ensures.0 (let s = c.in-Some.ensures.1 in let f = c.ranges.stream in omega (arith, s, f)) in
    let ready : IsReady e c.args.pool.now = subst (λ (x : ExecutorValue). IsReady x c.args.pool.now) (sym c.self.view_is) c.requires.ready in
    let answers : answered_by e.query e.plan (read_from (cells_of c.args.pool.now e.extent)) r ≡ told_by d c.args.row.now.items c.meet_cells-there.result
    = direct-answers e.query e.plan c.in-PointLookup-Parts.parts _ d is_direct c.args.stream c.in-Some.ensures.1 c.in-PointLookup-Parts.is-1 (read_from (cells_of c.args.pool.now e.extent)) c.args.row.now.items ∙ c.meet_cells-there.ensures.answers in
    let left : TableValue = with_entries e.table (cleared e.query.distinct e.table.entries) in
    let clear : c.clear.new.table ≡ left = c.clear.ensures ∙ ap (λ b. with_entries e.table (cleared b e.table.entries)) c.distinct.ensures in
    let is : c.clear.new.table ≡ with_entries e.table (with_all e.query.distinct (answered_by e.query e.plan (read_from (cells_of c.args.pool.now e.extent)) r) (cleared e.query.distinct e.table.entries))
    = clear ∙ none_added e.query.distinct (told_by d c.args.row.now.items c.meet_cells-there.result) left (told-empty d c.args.row.now.items c.meet_cells-there.result (c.is_empty.ensures.yes c.if-is_empty.true))
    ∙ ap (λ (fs : List Found). with_entries e.table (with_all e.query.distinct fs (cleared e.query.distinct e.table.entries))) (sym answers) in
    let table = table_later e c.self.invariant.0 c.args.pool.now ready r c.self.invariant.0.ascends e.query.distinct refl left c.clear.new.table refl is in
    (subst (λ (t : TableValue). IsSound (let o : ExecutorValue = record { query = c.self.inside.planned.query; shared = c.self.inside.shared; plan = c.self.inside.planned.plan; extent = c.self.inside.planned.extent; given = c.self.inside.given + 1; table = t; saturation = c.self.inside.saturation } in o)) (sym table) (sound_later e c.self.invariant.0 c.args.pool.now ready r c.self.invariant.0.ascends), c.self.invariant.1, c.self.invariant.2, c.self.invariant.3)

pub invariant_of-self-2 : goal.invariant_of-self-2
invariant_of-self-2 g c =
    let e : ExecutorValue = record { query = c.self.inside.planned.query; shared = c.self.inside.shared; plan = c.self.inside.planned.plan; extent = c.self.inside.planned.extent; given = c.self.inside.given; table = c.self.inside.table; saturation = c.self.inside.saturation } in
    let r = arrival c.args.stream c.args.row.now.items in
    let d = c.in-Some.direct.now in
    let is_direct : IsDirect e.query (parts_of e.plan) d
    = lookup-direct e.query e.plan c.self.inside.prefilter c.self.inside.access c.in-PointLookup-Parts.lookups d c.in-PointLookup-Parts.is-0 c.self.invariant.3 c.in-Some.ensures.0 (let s = c.in-Some.ensures.1 in let f = c.ranges.stream in omega (arith, s, f)) in
    let ready : IsReady e c.args.pool.now = subst (λ (x : ExecutorValue). IsReady x c.args.pool.now) (sym c.self.view_is) c.requires.ready in
    let answers : answered_by e.query e.plan (read_from (cells_of c.args.pool.now e.extent)) r ≡ told_by d c.args.row.now.items c.meet_cells-there.result
    = direct-answers e.query e.plan c.in-PointLookup-Parts.parts _ d is_direct c.args.stream c.in-Some.ensures.1 c.in-PointLookup-Parts.is-1 (read_from (cells_of c.args.pool.now e.extent)) c.args.row.now.items ∙ c.meet_cells-there.ensures.answers in
    let left : TableValue = with_entries e.table (cleared e.query.distinct e.table.entries) in
    let is : c.take_up_anew.new.table ≡ with_entries e.table (with_all e.query.distinct (answered_by e.query e.plan (read_from (cells_of c.args.pool.now e.extent)) r) (cleared e.query.distinct e.table.entries))
    = c.take_up_anew.ensures ∙ ap (λ (fs : List Found). with_entries e.table (with_all e.query.distinct fs (cleared e.query.distinct e.table.entries))) (sym answers) in
    let table = table_later e c.self.invariant.0 c.args.pool.now ready r c.self.invariant.0.ascends e.query.distinct refl left c.take_up_anew.new.table refl is in
    (subst (λ (t : TableValue). IsSound (let o : ExecutorValue = record { query = c.self.inside.planned.query; shared = c.self.inside.shared; plan = c.self.inside.planned.plan; extent = c.self.inside.planned.extent; given = c.self.inside.given + 1; table = t; saturation = c.self.inside.saturation } in o)) (sym table) (sound_later e c.self.invariant.0 c.args.pool.now ready r c.self.invariant.0.ascends), c.self.invariant.1, c.self.invariant.2, c.self.invariant.3)

pub returns-then-is_empty-clause-took : goal.returns-then-is_empty-clause-took
returns-then-is_empty-clause-took g c =
    let e : ExecutorValue = record { query = c.self.inside.planned.query; shared = c.self.inside.shared; plan = c.self.inside.planned.plan; extent = c.self.inside.planned.extent; given = c.self.inside.given; table = c.self.inside.table; saturation = c.self.inside.saturation } in
    let r = arrival c.args.stream c.args.row.now.items in
    let d = c.in-Some.direct.now in
    let is_direct : IsDirect e.query (parts_of e.plan) d
    = lookup-direct e.query e.plan c.self.inside.prefilter c.self.inside.access c.in-PointLookup-Parts.lookups d c.in-PointLookup-Parts.is-0 c.self.invariant.3 c.in-Some.ensures.0 (let s = c.in-Some.ensures.1 in let f = c.ranges.stream in omega (arith, s, f)) in
    let ready : IsReady e c.args.pool.now = subst (λ (x : ExecutorValue). IsReady x c.args.pool.now) (sym c.self.view_is) c.requires.ready in
    let answers : answered_by e.query e.plan (read_from (cells_of c.args.pool.now e.extent)) r ≡ told_by d c.args.row.now.items c.meet_cells-there.result
    = direct-answers e.query e.plan c.in-PointLookup-Parts.parts _ d is_direct c.args.stream c.in-Some.ensures.1 c.in-PointLookup-Parts.is-1 (read_from (cells_of c.args.pool.now e.extent)) c.args.row.now.items ∙ c.meet_cells-there.ensures.answers in
    let left : TableValue = with_entries e.table (cleared e.query.distinct e.table.entries) in
    let clear : c.clear.new.table ≡ left = c.clear.ensures ∙ ap (λ b. with_entries e.table (cleared b e.table.entries)) c.distinct.ensures in
    let is : c.clear.new.table ≡ with_entries e.table (with_all e.query.distinct (answered_by e.query e.plan (read_from (cells_of c.args.pool.now e.extent)) r) (cleared e.query.distinct e.table.entries))
    = clear ∙ none_added e.query.distinct (told_by d c.args.row.now.items c.meet_cells-there.result) left (told-empty d c.args.row.now.items c.meet_cells-there.result (c.is_empty.ensures.yes c.if-is_empty.true))
    ∙ ap (λ (fs : List Found). with_entries e.table (with_all e.query.distinct fs (cleared e.query.distinct e.table.entries))) (sym answers) in
    let table = table_later e c.self.invariant.0 c.args.pool.now ready r c.self.invariant.0.ascends e.query.distinct refl left c.clear.new.table refl is in
    let keeps : RowKeeps e.query r = subst (λ (x : ExecutorValue). RowKeeps x.query r) (sym c.self.view_is) c.requires.keeps in
    let pool : HasTaken e.query (parts_of e.plan) e.extent r (length (parts_of e.plan)) c.args.pool.now c.meet_cells-there.new.pool
    = subst (λ (p : Plan). HasTaken e.query (parts_of p) e.extent r (length (parts_of p)) c.args.pool.now c.meet_cells-there.new.pool) (sym c.in-PointLookup-Parts.is-1)
    (subst (λ (x : Arrival). HasTaken e.query c.in-PointLookup-Parts.parts e.extent x (length c.in-PointLookup-Parts.parts) c.args.pool.now c.meet_cells-there.new.pool)
    (sym (direct-arrives e.query (parts_of e.plan) d is_direct c.args.stream c.in-Some.ensures.1 c.args.row.now.items)) c.meet_cells-there.ensures.pool) in
    subst (λ (x : ExecutorValue). TakesRow x c.args.pool.now r (let o : ExecutorValue = record { query = c.self.inside.planned.query; shared = c.self.inside.shared; plan = c.self.inside.planned.plan; extent = c.self.inside.planned.extent; given = c.self.inside.given + 1; table = c.clear.new.table; saturation = c.self.inside.saturation } in o) c.meet_cells-there.new.pool) c.self.view_is
    (subst (λ (t : TableValue). TakesRow e c.args.pool.now r (let o : ExecutorValue = record { query = c.self.inside.planned.query; shared = c.self.inside.shared; plan = c.self.inside.planned.plan; extent = c.self.inside.planned.extent; given = c.self.inside.given + 1; table = t; saturation = c.self.inside.saturation } in o) c.meet_cells-there.new.pool) (sym table) (row-taken e c.self.invariant.0 c.args.pool.now ready r keeps c.meet_cells-there.new.pool pool))

pub returns-then-is_empty-clause-none : goal.returns-then-is_empty-clause-none
returns-then-is_empty-clause-none g c =
    λ no. ap (λ (t : TableValue). spelled t.entries) c.clear.ensures ∙ spelled-cleared c.distinct.result c.self.inside.table.entries

pub returns-then-is_empty-clause-steps : goal.returns-then-is_empty-clause-steps
returns-then-is_empty-clause-steps g c =
    let e : ExecutorValue = record { query = c.self.inside.planned.query; shared = c.self.inside.shared; plan = c.self.inside.planned.plan; extent = c.self.inside.planned.extent; given = c.self.inside.given; table = c.self.inside.table; saturation = c.self.inside.saturation } in
    let r = arrival c.args.stream c.args.row.now.items in
    let d = c.in-Some.direct.now in
    let is_direct : IsDirect e.query (parts_of e.plan) d
    = lookup-direct e.query e.plan c.self.inside.prefilter c.self.inside.access c.in-PointLookup-Parts.lookups d c.in-PointLookup-Parts.is-0 c.self.invariant.3 c.in-Some.ensures.0 (let s = c.in-Some.ensures.1 in let f = c.ranges.stream in omega (arith, s, f)) in
    let reads : c.meet_cells-there.new.steps.reads ≤ c.args.steps.now.reads + row_reads (parts_of e.plan) + length (parts_of e.plan)
    = subst (λ (p : Plan). c.meet_cells-there.new.steps.reads ≤ c.args.steps.now.reads + row_reads (parts_of p) + length (parts_of p)) (sym c.in-PointLookup-Parts.is-1) c.meet_cells-there.ensures.reads in
    let own : KeepsToWork e r c.args.steps.now c.meet_cells-there.new.steps
    = record {
      reads = (let few = rows-upto (parts_in e) in omega (arith, few, reads));
      writes = subst (λ (p : Plan). c.meet_cells-there.new.steps.writes ≤ c.args.steps.now.writes + length (parts_of p)) (sym c.in-PointLookup-Parts.is-1) c.meet_cells-there.ensures.writes;
      alone = λ filter. absurd (direct-parts e.query e.plan d is_direct (filter-plan e.shared e.query e.plan (serving_in e c.self.invariant.0) filter));
      outside = λ none. absurd (let named = direct-named e.query (parts_of e.plan) d is_direct c.args.stream c.in-Some.ensures.1 in let no : true ≡ false = sym named ∙ none in cc);
    } in
    subst (λ (x : ExecutorValue). KeepsToWork x r c.args.steps.now c.meet_cells-there.new.steps) c.self.view_is own

pub returns-clause-took : goal.returns-clause-took
returns-clause-took g c =
    let e : ExecutorValue = record { query = c.self.inside.planned.query; shared = c.self.inside.shared; plan = c.self.inside.planned.plan; extent = c.self.inside.planned.extent; given = c.self.inside.given; table = c.self.inside.table; saturation = c.self.inside.saturation } in
    let r = arrival c.args.stream c.args.row.now.items in
    let d = c.in-Some.direct.now in
    let is_direct : IsDirect e.query (parts_of e.plan) d
    = lookup-direct e.query e.plan c.self.inside.prefilter c.self.inside.access c.in-PointLookup-Parts.lookups d c.in-PointLookup-Parts.is-0 c.self.invariant.3 c.in-Some.ensures.0 (let s = c.in-Some.ensures.1 in let f = c.ranges.stream in omega (arith, s, f)) in
    let ready : IsReady e c.args.pool.now = subst (λ (x : ExecutorValue). IsReady x c.args.pool.now) (sym c.self.view_is) c.requires.ready in
    let answers : answered_by e.query e.plan (read_from (cells_of c.args.pool.now e.extent)) r ≡ told_by d c.args.row.now.items c.meet_cells-there.result
    = direct-answers e.query e.plan c.in-PointLookup-Parts.parts _ d is_direct c.args.stream c.in-Some.ensures.1 c.in-PointLookup-Parts.is-1 (read_from (cells_of c.args.pool.now e.extent)) c.args.row.now.items ∙ c.meet_cells-there.ensures.answers in
    let left : TableValue = with_entries e.table (cleared e.query.distinct e.table.entries) in
    let is : c.take_up_anew.new.table ≡ with_entries e.table (with_all e.query.distinct (answered_by e.query e.plan (read_from (cells_of c.args.pool.now e.extent)) r) (cleared e.query.distinct e.table.entries))
    = c.take_up_anew.ensures ∙ ap (λ (fs : List Found). with_entries e.table (with_all e.query.distinct fs (cleared e.query.distinct e.table.entries))) (sym answers) in
    let table = table_later e c.self.invariant.0 c.args.pool.now ready r c.self.invariant.0.ascends e.query.distinct refl left c.take_up_anew.new.table refl is in
    let keeps : RowKeeps e.query r = subst (λ (x : ExecutorValue). RowKeeps x.query r) (sym c.self.view_is) c.requires.keeps in
    let pool : HasTaken e.query (parts_of e.plan) e.extent r (length (parts_of e.plan)) c.args.pool.now c.meet_cells-there.new.pool
    = subst (λ (p : Plan). HasTaken e.query (parts_of p) e.extent r (length (parts_of p)) c.args.pool.now c.meet_cells-there.new.pool) (sym c.in-PointLookup-Parts.is-1)
    (subst (λ (x : Arrival). HasTaken e.query c.in-PointLookup-Parts.parts e.extent x (length c.in-PointLookup-Parts.parts) c.args.pool.now c.meet_cells-there.new.pool)
    (sym (direct-arrives e.query (parts_of e.plan) d is_direct c.args.stream c.in-Some.ensures.1 c.args.row.now.items)) c.meet_cells-there.ensures.pool) in
    subst (λ (x : ExecutorValue). TakesRow x c.args.pool.now r (let o : ExecutorValue = record { query = c.self.inside.planned.query; shared = c.self.inside.shared; plan = c.self.inside.planned.plan; extent = c.self.inside.planned.extent; given = c.self.inside.given + 1; table = c.take_up_anew.new.table; saturation = c.self.inside.saturation } in o) c.meet_cells-there.new.pool) c.self.view_is
    (subst (λ (t : TableValue). TakesRow e c.args.pool.now r (let o : ExecutorValue = record { query = c.self.inside.planned.query; shared = c.self.inside.shared; plan = c.self.inside.planned.plan; extent = c.self.inside.planned.extent; given = c.self.inside.given + 1; table = t; saturation = c.self.inside.saturation } in o) c.meet_cells-there.new.pool) (sym table) (row-taken e c.self.invariant.0 c.args.pool.now ready r keeps c.meet_cells-there.new.pool pool))

pub returns-clause-steps : goal.returns-clause-steps
returns-clause-steps g c =
    let e : ExecutorValue = record { query = c.self.inside.planned.query; shared = c.self.inside.shared; plan = c.self.inside.planned.plan; extent = c.self.inside.planned.extent; given = c.self.inside.given; table = c.self.inside.table; saturation = c.self.inside.saturation } in
    let r = arrival c.args.stream c.args.row.now.items in
    let d = c.in-Some.direct.now in
    let is_direct : IsDirect e.query (parts_of e.plan) d
    = lookup-direct e.query e.plan c.self.inside.prefilter c.self.inside.access c.in-PointLookup-Parts.lookups d c.in-PointLookup-Parts.is-0 c.self.invariant.3 c.in-Some.ensures.0 (let s = c.in-Some.ensures.1 in let f = c.ranges.stream in omega (arith, s, f)) in
    let reads : c.meet_cells-there.new.steps.reads ≤ c.args.steps.now.reads + row_reads (parts_of e.plan) + length (parts_of e.plan)
    = subst (λ (p : Plan). c.meet_cells-there.new.steps.reads ≤ c.args.steps.now.reads + row_reads (parts_of p) + length (parts_of p)) (sym c.in-PointLookup-Parts.is-1) c.meet_cells-there.ensures.reads in
    let own : KeepsToWork e r c.args.steps.now c.meet_cells-there.new.steps
    = record {
      reads = (let few = rows-upto (parts_in e) in omega (arith, few, reads));
      writes = subst (λ (p : Plan). c.meet_cells-there.new.steps.writes ≤ c.args.steps.now.writes + length (parts_of p)) (sym c.in-PointLookup-Parts.is-1) c.meet_cells-there.ensures.writes;
      alone = λ filter. absurd (direct-parts e.query e.plan d is_direct (filter-plan e.shared e.query e.plan (serving_in e c.self.invariant.0) filter));
      outside = λ none. absurd (let named = direct-named e.query (parts_of e.plan) d is_direct c.args.stream c.in-Some.ensures.1 in let no : true ≡ false = sym named ∙ none in cc);
    } in
    subst (λ (x : ExecutorValue). KeepsToWork x r c.args.steps.now c.meet_cells-there.new.steps) c.self.view_is own
