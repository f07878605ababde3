use Rattle.std.proofs.Common.{◌≡◌, ◌∙◌, ◌==◌, ℕ, List, [], true, false, ap, sym, subst, slice_index_or}
use Rattle.std.specs.List.{list_any}
use Rattle.sem_query.specs.declared.plan.Plan.{Plan}
use Rattle.sem_query.specs.Combinations.{Found, read_from}
use Rattle.sem_query.specs.Numbers.{parts_of}
use Rattle.exec_pool.specs.Extents.{cells_of}
use Rattle.exec_answer_table.specs.Entries.{TableValue, waiting_entries}
use Rattle.exec_filter.specs.Prefilter.{IsRefused}
use Rattle.exec_query.specs.CellSteps.{AnswersNothingNew, IsPlanReady}
use Rattle.exec_query.specs.FoundTable.{HaveRoom}
use Rattle.exec_query.specs.Executor.{ExecutorValue, arrival, cleared}
use Rattle.exec_query.specs.Standing.{IsReady}
use Rattle.exec_query.specs.Row.{HasLooked}
use Rattle.exec_query.proofs.ByPlan.{none-long, none-counted, named-answers, did-filter, did-none, did-parts, is-ready, did-sound, did-take, did-work}
use Rattle.exec_query.proofs.LookedRows.{none-looked}
use Rattle.exec_query.proofs.TakenRow.{row-refused}
use Rattle.exec_query.proofs.Rows.{nothing-new, ready_row, room_clear}
use Rattle.exec_query.proofs.Refused.{refused_took_as, quiet-spelled}
use Rattle.exec_query.proofs.executor.Executor.apply_by_plan.Goals as goal
use Rattle.exec_query.proofs.executor.Executor.apply_by_plan.Goals.{in-Before, in_default, in-Filter, in-Parts+in-Some, in-Parts+in-None}

pub returns-then-waiting_len-eq0-clause-took : goal.returns-then-waiting_len-eq0-clause-took
returns-then-waiting_len-eq0-clause-took g c =
    let e : ExecutorValue = record { query = c.self.inside.planned.query; shared = c.self.inside.shared; plan = c.self.inside.planned.plan; extent = c.self.inside.planned.extent; given = c.self.inside.given; table = c.self.inside.table; saturation = c.self.inside.saturation } in
    let r = arrival c.args.stream c.args.row.now.items in
    let none : waiting_entries e.table.entries ≡ [] = none-long c.waiting_len.result (waiting_entries e.table.entries) c.waiting_len.ensures c.if-waiting_len-eq0.true in
    let refused : IsRefused e.query e.plan r = c.self.invariant.2 r (sym c.passes.ensures ∙ c.if-not-passes.true) in
    row-refused e c.args.self.now c.self.view_is c.self.invariant.0 c.args.pool.now r c.requires.keeps
    (refused_took_as e c.args.self.now c.self.view_is c.self.invariant.0 c.args.pool.now c.requires.ready r c.requires.keeps
    (subst (λ (y : ExecutorValue). waiting_entries y.table.entries ≡ []) c.self.view_is none) (subst (λ (y : ExecutorValue). IsRefused y.query y.plan r) c.self.view_is refused))

pub returns-then-waiting_len-eq0-clause-none : goal.returns-then-waiting_len-eq0-clause-none
returns-then-waiting_len-eq0-clause-none g c = λ told.
    let e : ExecutorValue = record { query = c.self.inside.planned.query; shared = c.self.inside.shared; plan = c.self.inside.planned.plan; extent = c.self.inside.planned.extent; given = c.self.inside.given; table = c.self.inside.table; saturation = c.self.inside.saturation } in
    let r = arrival c.args.stream c.args.row.now.items in
    let none : waiting_entries e.table.entries ≡ [] = none-long c.waiting_len.result (waiting_entries e.table.entries) c.waiting_len.ensures c.if-waiting_len-eq0.true in
    quiet-spelled e.table.entries none

pub apply_along-requires-clause-ready : goal.apply_along-requires-clause-ready
apply_along-requires-clause-ready g c =
    let e : ExecutorValue = record { query = c.self-2.inside.planned.query; shared = c.self-2.inside.shared; plan = c.self-2.inside.planned.plan; extent = c.self-2.inside.planned.extent; given = c.self-2.inside.given; table = c.self-2.inside.table; saturation = c.self-2.inside.saturation } in
    let r = arrival c.args.stream c.args.row.now.items in
    let looked : HasLooked c.args.self.now c.args.pool.now c.args.stream c.match-self.self c.args.steps.now c.match-self.steps
    = elim c.match-self.branch [
      | in-Before w ↦ rw (w.self-is, w.steps-is) w.look_on.ensures
      | in_default w ↦ rw (w.self-is, w.steps-is) (none-looked c.args.self.now c.args.pool.now c.args.stream c.args.steps.now c.requires.ready)
    ] in
    let ready : IsReady e c.args.pool.now = is-ready c.args.self.now c.args.pool.now c.args.stream c.args.row.now.items c.args.steps.now c.match-self.self c.match-self.steps looked c.requires.ready e c.self-2.view_is c.self-2.invariant.0 in
    let is_ready : IsPlanReady e.query e.plan c.args.pool.now e.extent = ready_row e c.self-2.invariant.0 c.args.pool.now ready r c.self-2.invariant.0.ascends in
    subst (λ (p : Plan). IsPlanReady e.query p c.args.pool.now e.extent) c.in-Parts.is is_ready

pub apply_along-requires-clause-known : goal.apply_along-requires-clause-known
apply_along-requires-clause-known g c = λ known.
    let e : ExecutorValue = record { query = c.self-2.inside.planned.query; shared = c.self-2.inside.shared; plan = c.self-2.inside.planned.plan; extent = c.self-2.inside.planned.extent; given = c.self-2.inside.given; table = c.self-2.inside.table; saturation = c.self-2.inside.saturation } in
    let r = arrival c.args.stream c.args.row.now.items in
    let looked : HasLooked c.args.self.now c.args.pool.now c.args.stream c.match-self.self c.args.steps.now c.match-self.steps
    = elim c.match-self.branch [
      | in-Before w ↦ rw (w.self-is, w.steps-is) w.look_on.ensures
      | in_default w ↦ rw (w.self-is, w.steps-is) (none-looked c.args.self.now c.args.pool.now c.args.stream c.args.steps.now c.requires.ready)
    ] in
    let ready : IsReady e c.args.pool.now = is-ready c.args.self.now c.args.pool.now c.args.stream c.args.row.now.items c.args.steps.now c.match-self.self c.match-self.steps looked c.requires.ready e c.self-2.view_is c.self-2.invariant.0 in
    let is_ready : IsPlanReady e.query e.plan c.args.pool.now e.extent = ready_row e c.self-2.invariant.0 c.args.pool.now ready r c.self-2.invariant.0.ascends in
    subst (λ (p : Plan). AnswersNothingNew e.query (parts_of p) (read_from (cells_of c.args.pool.now e.extent)) c.clear.new.table.entries) c.in-Parts.is
    (nothing-new e c.self-2.invariant.0 c.args.pool.now ready r c.self-2.invariant.0.ascends c.spares.result c.spares.ensures.all c.spares.ensures.distinct c.spares.ensures.several
    c.clear.new.table.entries (ap (λ (t : TableValue). t.entries) c.clear.ensures ∙ ap (λ b. cleared b e.table.entries) c.distinct.ensures) known)

pub apply_along-requires-clause-room : goal.apply_along-requires-clause-room
apply_along-requires-clause-room g c =
    let e : ExecutorValue = record { query = c.self-2.inside.planned.query; shared = c.self-2.inside.shared; plan = c.self-2.inside.planned.plan; extent = c.self-2.inside.planned.extent; given = c.self-2.inside.given; table = c.self-2.inside.table; saturation = c.self-2.inside.saturation } in
    let r = arrival c.args.stream c.args.row.now.items in
    let looked : HasLooked c.args.self.now c.args.pool.now c.args.stream c.match-self.self c.args.steps.now c.match-self.steps
    = elim c.match-self.branch [
      | in-Before w ↦ rw (w.self-is, w.steps-is) w.look_on.ensures
      | in_default w ↦ rw (w.self-is, w.steps-is) (none-looked c.args.self.now c.args.pool.now c.args.stream c.args.steps.now c.requires.ready)
    ] in
    let ready : IsReady e c.args.pool.now = is-ready c.args.self.now c.args.pool.now c.args.stream c.args.row.now.items c.args.steps.now c.match-self.self c.match-self.steps looked c.requires.ready e c.self-2.view_is c.self-2.invariant.0 in
    let is_ready : IsPlanReady e.query e.plan c.args.pool.now e.extent = ready_row e c.self-2.invariant.0 c.args.pool.now ready r c.self-2.invariant.0.ascends in
    let at : slice_index_or e.query.from c.in-Some.pos 0 ≡ c.args.stream = subst (λ (xs : List ℕ). slice_index_or xs c.in-Some.pos 0 ≡ c.args.stream) c.from.ensures.value c.in-Some.ensures.1 in
    let named : list_any (λ s. c.args.stream == s) e.query.from ≡ true = subst (λ (xs : List ℕ). list_any (λ s. c.args.stream == s) xs ≡ true) c.from.ensures.value c.in-Some.ensures.2 in
    subst (λ (fs : List Found). HaveRoom e.query.distinct fs c.clear.new.table)
    (named-answers e.query e.plan c.in-Parts.parts c.in-Parts.numbers c.in-Parts.is r c.in-Some.pos (ap (λ s. arrival s c.args.row.now.items) at) named (read_from (cells_of c.args.pool.now e.extent)))
    (room_clear e c.self-2.invariant.0 c.args.pool.now ready r c.self-2.invariant.0.ascends c.distinct.result c.distinct.ensures c.clear.new.table c.clear.ensures)

pub invariant_of-self-2 : goal.invariant_of-self-2
invariant_of-self-2 g c =
    let e : ExecutorValue = record { query = c.self-2.inside.planned.query; shared = c.self-2.inside.shared; plan = c.self-2.inside.planned.plan; extent = c.self-2.inside.planned.extent; given = c.self-2.inside.given; table = c.self-2.inside.table; saturation = c.self-2.inside.saturation } in
    let r = arrival c.args.stream c.args.row.now.items in
    let looked : HasLooked c.args.self.now c.args.pool.now c.args.stream c.match-self.self c.args.steps.now c.match-self.steps
    = elim c.match-self.branch [
      | in-Before w ↦ rw (w.self-is, w.steps-is) w.look_on.ensures
      | in_default w ↦ rw (w.self-is, w.steps-is) (none-looked c.args.self.now c.args.pool.now c.args.stream c.args.steps.now c.requires.ready)
    ] in
    let ready : IsReady e c.args.pool.now = is-ready c.args.self.now c.args.pool.now c.args.stream c.args.row.now.items c.args.steps.now c.match-self.self c.match-self.steps looked c.requires.ready e c.self-2.view_is c.self-2.invariant.0 in
    let is_ready : IsPlanReady e.query e.plan c.args.pool.now e.extent = ready_row e c.self-2.invariant.0 c.args.pool.now ready r c.self-2.invariant.0.ascends in
    elim c.match-self-2.branch [
      | in-Filter w ↦ rw w.self-inside-is ((did-sound c.args.self.now c.args.pool.now c.args.stream c.args.row.now.items c.args.steps.now c.match-self.self c.match-self.steps looked c.requires.ready e c.self-2.view_is c.self-2.invariant.0 c.distinct.result c.distinct.ensures c.clear.new.table c.clear.ensures c.args.pool.now w.filter_row.new.table c.match-self.steps (did-filter e.query e.plan e.extent r c.args.pool.now is_ready c.clear.new.table c.match-self.steps w.filter_row.new.table w.in-Filter.is w.filter_row.ensures)), c.self-2.invariant.1, c.self-2.invariant.2, c.self-2.invariant.3)
      | in-Parts+in-Some w ↦ (
          let at : slice_index_or e.query.from w.in-Some.pos 0 ≡ c.args.stream = subst (λ (xs : List ℕ). slice_index_or xs w.in-Some.pos 0 ≡ c.args.stream) w.from.ensures.value w.in-Some.ensures.1 in
          let named : list_any (λ s. c.args.stream == s) e.query.from ≡ true = subst (λ (xs : List ℕ). list_any (λ s. c.args.stream == s) xs ≡ true) w.from.ensures.value w.in-Some.ensures.2 in
          rw w.self-inside-is ((did-sound c.args.self.now c.args.pool.now c.args.stream c.args.row.now.items c.args.steps.now c.match-self.self c.match-self.steps looked c.requires.ready e c.self-2.view_is c.self-2.invariant.0 c.distinct.result c.distinct.ensures c.clear.new.table c.clear.ensures w.apply_along.new.pool w.apply_along.new.table w.apply_along.new.steps (did-parts e.query e.plan e.extent r c.args.pool.now is_ready c.clear.new.table c.match-self.steps w.in-Parts.parts w.in-Parts.numbers w.in-Parts.is w.in-Some.pos (ap (λ s. arrival s c.args.row.now.items) at) named w.apply_along.new.pool w.apply_along.new.table w.apply_along.new.steps w.apply_along.ensures.table w.apply_along.ensures.pool w.apply_along.ensures.reads w.apply_along.ensures.writes)), c.self-2.invariant.1, c.self-2.invariant.2, c.self-2.invariant.3))
      | in-Parts+in-None w ↦ (
          let outside : list_any (λ s. c.args.stream == s) e.query.from ≡ false = subst (λ (xs : List ℕ). list_any (λ s. c.args.stream == s) xs ≡ false) w.from.ensures.value w.in-None.ensures in
          rw w.self-inside-is ((did-sound c.args.self.now c.args.pool.now c.args.stream c.args.row.now.items c.args.steps.now c.match-self.self c.match-self.steps looked c.requires.ready e c.self-2.view_is c.self-2.invariant.0 c.distinct.result c.distinct.ensures c.clear.new.table c.clear.ensures c.args.pool.now c.clear.new.table c.match-self.steps (did-none e.query e.plan e.extent r c.args.pool.now is_ready c.clear.new.table c.match-self.steps w.in-Parts.parts w.in-Parts.numbers w.in-Parts.is outside)), c.self-2.invariant.1, c.self-2.invariant.2, c.self-2.invariant.3))
    ]

pub returns-clause-took : goal.returns-clause-took
returns-clause-took g c =
    let e : ExecutorValue = record { query = c.self-2.inside.planned.query; shared = c.self-2.inside.shared; plan = c.self-2.inside.planned.plan; extent = c.self-2.inside.planned.extent; given = c.self-2.inside.given; table = c.self-2.inside.table; saturation = c.self-2.inside.saturation } in
    let r = arrival c.args.stream c.args.row.now.items in
    let looked : HasLooked c.args.self.now c.args.pool.now c.args.stream c.match-self.self c.args.steps.now c.match-self.steps
    = elim c.match-self.branch [
      | in-Before w ↦ rw (w.self-is, w.steps-is) w.look_on.ensures
      | in_default w ↦ rw (w.self-is, w.steps-is) (none-looked c.args.self.now c.args.pool.now c.args.stream c.args.steps.now c.requires.ready)
    ] in
    let ready : IsReady e c.args.pool.now = is-ready c.args.self.now c.args.pool.now c.args.stream c.args.row.now.items c.args.steps.now c.match-self.self c.match-self.steps looked c.requires.ready e c.self-2.view_is c.self-2.invariant.0 in
    let is_ready : IsPlanReady e.query e.plan c.args.pool.now e.extent = ready_row e c.self-2.invariant.0 c.args.pool.now ready r c.self-2.invariant.0.ascends in
    elim c.match-self-2.branch [
      | in-Filter w ↦ rw (w.self-inside-is, w.pool-is) (did-take c.args.self.now c.args.pool.now c.args.stream c.args.row.now.items c.args.steps.now c.match-self.self c.match-self.steps looked c.requires.ready e c.self-2.view_is c.self-2.invariant.0 c.distinct.result c.distinct.ensures c.clear.new.table c.clear.ensures c.args.pool.now w.filter_row.new.table c.match-self.steps (did-filter e.query e.plan e.extent r c.args.pool.now is_ready c.clear.new.table c.match-self.steps w.filter_row.new.table w.in-Filter.is w.filter_row.ensures) c.requires.keeps)
      | in-Parts+in-Some w ↦ (
          let at : slice_index_or e.query.from w.in-Some.pos 0 ≡ c.args.stream = subst (λ (xs : List ℕ). slice_index_or xs w.in-Some.pos 0 ≡ c.args.stream) w.from.ensures.value w.in-Some.ensures.1 in
          let named : list_any (λ s. c.args.stream == s) e.query.from ≡ true = subst (λ (xs : List ℕ). list_any (λ s. c.args.stream == s) xs ≡ true) w.from.ensures.value w.in-Some.ensures.2 in
          rw (w.self-inside-is, w.pool-is) (did-take c.args.self.now c.args.pool.now c.args.stream c.args.row.now.items c.args.steps.now c.match-self.self c.match-self.steps looked c.requires.ready e c.self-2.view_is c.self-2.invariant.0 c.distinct.result c.distinct.ensures c.clear.new.table c.clear.ensures w.apply_along.new.pool w.apply_along.new.table w.apply_along.new.steps (did-parts e.query e.plan e.extent r c.args.pool.now is_ready c.clear.new.table c.match-self.steps w.in-Parts.parts w.in-Parts.numbers w.in-Parts.is w.in-Some.pos (ap (λ s. arrival s c.args.row.now.items) at) named w.apply_along.new.pool w.apply_along.new.table w.apply_along.new.steps w.apply_along.ensures.table w.apply_along.ensures.pool w.apply_along.ensures.reads w.apply_along.ensures.writes) c.requires.keeps))
      | in-Parts+in-None w ↦ (
          let outside : list_any (λ s. c.args.stream == s) e.query.from ≡ false = subst (λ (xs : List ℕ). list_any (λ s. c.args.stream == s) xs ≡ false) w.from.ensures.value w.in-None.ensures in
          rw (w.self-inside-is, w.pool-is) (did-take c.args.self.now c.args.pool.now c.args.stream c.args.row.now.items c.args.steps.now c.match-self.self c.match-self.steps looked c.requires.ready e c.self-2.view_is c.self-2.invariant.0 c.distinct.result c.distinct.ensures c.clear.new.table c.clear.ensures c.args.pool.now c.clear.new.table c.match-self.steps (did-none e.query e.plan e.extent r c.args.pool.now is_ready c.clear.new.table c.match-self.steps w.in-Parts.parts w.in-Parts.numbers w.in-Parts.is outside) c.requires.keeps))
    ]

pub returns-clause-none : goal.returns-clause-none
returns-clause-none g c = λ told.
    quiet-spelled c.match-self-2.self-inside.table.entries (none-counted c.waiting_len-2.result (waiting_entries c.match-self-2.self-inside.table.entries) c.waiting_len-2.ensures told)

pub returns-clause-steps : goal.returns-clause-steps
returns-clause-steps g c =
    let e : ExecutorValue = record { query = c.self-2.inside.planned.query; shared = c.self-2.inside.shared; plan = c.self-2.inside.planned.plan; extent = c.self-2.inside.planned.extent; given = c.self-2.inside.given; table = c.self-2.inside.table; saturation = c.self-2.inside.saturation } in
    let r = arrival c.args.stream c.args.row.now.items in
    let looked : HasLooked c.args.self.now c.args.pool.now c.args.stream c.match-self.self c.args.steps.now c.match-self.steps
    = elim c.match-self.branch [
      | in-Before w ↦ rw (w.self-is, w.steps-is) w.look_on.ensures
      | in_default w ↦ rw (w.self-is, w.steps-is) (none-looked c.args.self.now c.args.pool.now c.args.stream c.args.steps.now c.requires.ready)
    ] in
    let ready : IsReady e c.args.pool.now = is-ready c.args.self.now c.args.pool.now c.args.stream c.args.row.now.items c.args.steps.now c.match-self.self c.match-self.steps looked c.requires.ready e c.self-2.view_is c.self-2.invariant.0 in
    let is_ready : IsPlanReady e.query e.plan c.args.pool.now e.extent = ready_row e c.self-2.invariant.0 c.args.pool.now ready r c.self-2.invariant.0.ascends in
    elim c.match-self-2.branch [
      | in-Filter w ↦ rw w.steps-is (did-work c.args.self.now c.args.pool.now c.args.stream c.args.row.now.items c.args.steps.now c.match-self.self c.match-self.steps looked c.requires.ready e c.self-2.view_is c.self-2.invariant.0 c.distinct.result c.distinct.ensures c.clear.new.table c.clear.ensures c.args.pool.now w.filter_row.new.table c.match-self.steps (did-filter e.query e.plan e.extent r c.args.pool.now is_ready c.clear.new.table c.match-self.steps w.filter_row.new.table w.in-Filter.is w.filter_row.ensures))
      | in-Parts+in-Some w ↦ (
          let at : slice_index_or e.query.from w.in-Some.pos 0 ≡ c.args.stream = subst (λ (xs : List ℕ). slice_index_or xs w.in-Some.pos 0 ≡ c.args.stream) w.from.ensures.value w.in-Some.ensures.1 in
          let named : list_any (λ s. c.args.stream == s) e.query.from ≡ true = subst (λ (xs : List ℕ). list_any (λ s. c.args.stream == s) xs ≡ true) w.from.ensures.value w.in-Some.ensures.2 in
          rw w.steps-is (did-work c.args.self.now c.args.pool.now c.args.stream c.args.row.now.items c.args.steps.now c.match-self.self c.match-self.steps looked c.requires.ready e c.self-2.view_is c.self-2.invariant.0 c.distinct.result c.distinct.ensures c.clear.new.table c.clear.ensures w.apply_along.new.pool w.apply_along.new.table w.apply_along.new.steps (did-parts e.query e.plan e.extent r c.args.pool.now is_ready c.clear.new.table c.match-self.steps w.in-Parts.parts w.in-Parts.numbers w.in-Parts.is w.in-Some.pos (ap (λ s. arrival s c.args.row.now.items) at) named w.apply_along.new.pool w.apply_along.new.table w.apply_along.new.steps w.apply_along.ensures.table w.apply_along.ensures.pool w.apply_along.ensures.reads w.apply_along.ensures.writes)))
      | in-Parts+in-None w ↦ (
          let outside : list_any (λ s. c.args.stream == s) e.query.from ≡ false = subst (λ (xs : List ℕ). list_any (λ s. c.args.stream == s) xs ≡ false) w.from.ensures.value w.in-None.ensures in
          rw w.steps-is (did-work c.args.self.now c.args.pool.now c.args.stream c.args.row.now.items c.args.steps.now c.match-self.self c.match-self.steps looked c.requires.ready e c.self-2.view_is c.self-2.invariant.0 c.distinct.result c.distinct.ensures c.clear.new.table c.clear.ensures c.args.pool.now c.clear.new.table c.match-self.steps (did-none e.query e.plan e.extent r c.args.pool.now is_ready c.clear.new.table c.match-self.steps w.in-Parts.parts w.in-Parts.numbers w.in-Parts.is outside)))
    ]
