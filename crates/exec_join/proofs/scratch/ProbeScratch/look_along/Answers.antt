use Rattle.std.proofs.Common.{refl, ◌≢◌, ◌<◌, ◌*◌, ◌^◌, ◌∙◌, List, Some, None, length, sym, ap, subst, arith}
use Rattle.sem_query.specs.Combinations.{read_from}
use Rattle.sem_query.specs.Plan.{stream_at}
use Rattle.sem_query.specs.Parts.{pairs}
use Rattle.exec_ranges.specs.declared.binding.Binding.{Binding}
use Rattle.exec_pool.specs.Extents.{cells_of}
use Rattle.exec_pool.specs.Strides.{at_stride}
use Rattle.exec_pool.specs.declared.scan.StridedCells.{StridedCells}
use Rattle.exec_synopsis.proofs.PlanLaws.{laid-beside}
use Rattle.exec_synopsis.specs.Premises.{IsLaidOut}
use Rattle.exec_join.specs.Along.{SeenAlong, tried_cell, tried_count}
use Rattle.exec_join.specs.declared.along.Along.TheVariants as along
use Rattle.exec_join.specs.Choosing.{start}
use Rattle.exec_join.proofs.AlongLaws.{scanned-alike}
use Rattle.exec_join.proofs.BegunLaws.{seen-same, nothing-seen, nothing-few, found-candidate}
use Rattle.exec_join.proofs.NothingLaws.{start-beside}
use Rattle.exec_join.proofs.StepLaws.{line-within, line-cell}
use Rattle.exec_join.proofs.UnderwayLaws.{laid-here}
use Rattle.exec_join.proofs.scratch.ProbeScratch.look_along.Goals as goal

pub line_ahead-requires-clause-here : goal.line_ahead-requires-clause-here
line_ahead-requires-clause-here g c =
    let l = c.len.ensures.value in
    let f = c.if-len-as_slice.false in
    let s = ap length c.as_slice.ensures.value in
    let k = ap length c.as_slice-2.ensures.value in
    omega (arith, l, f, s, k)

pub line_ahead-requires-clause-other : goal.line_ahead-requires-clause-other
line_ahead-requires-clause-other g c e = start-beside c.args.at.now.arriving (sym (ap length (c.as_slice-2.ensures.value ∙ c.begin.ensures)) ∙ e)

pub line_ahead-requires-clause-laid : goal.line_ahead-requires-clause-laid
line_ahead-requires-clause-laid g c =
    let pos = c.args.at.now.arriving in
    let part = c.args.at.now.part.now in
    let held = c.requires.ready.held in
    let here : pos < length part.streams.items = omega (arith, c.requires.here, held.walked.plan.count) in
    let there : length (start pos) < length part.streams.items =
    (let l = c.len.ensures.value in let f = c.if-len-as_slice.false in let s = ap length c.as_slice.ensures.value in let k = ap length c.begin.ensures in omega (arith, l, f, s, k)) in
    let known = c.as_slice-2.ensures.value ∙ c.begin.ensures in
    subst (λ (ks : List Binding). IsLaidOut (stream_at part (length ks)) (2 ^ 32)) (sym known) (laid-here c.args.at.now.q.now part held.walked pos (length (start pos)) here there (start-beside pos))

pub first_occupied-requires-clause-within : goal.first_occupied-requires-clause-within
first_occupied-requires-clause-within g c i l =
    let pos = c.args.at.now.arriving in
    let part = c.args.at.now.part.now in
    let held = c.requires.ready.held in
    let here : pos < length part.streams.items = omega (arith, c.requires.here, held.walked.plan.count) in
    let there : length (start pos) < length part.streams.items =
    (let l = c.len.ensures.value in let f = c.if-len-as_slice.false in let s = ap length c.as_slice.ensures.value in let k = ap length c.begin.ensures in omega (arith, l, f, s, k)) in
    let known = c.as_slice-2.ensures.value ∙ c.begin.ensures in
    let other : length c.as_slice-2.result.now ≢ pos = λ e. start-beside pos (sym (ap length known) ∙ e) in
    let laid : IsLaidOut (stream_at part (length c.as_slice-2.result.now)) (64 * c.args.e.now.pages)
    = subst (λ (ks : List Binding). IsLaidOut (stream_at part (length ks)) (64 * c.args.e.now.pages)) (sym known)
    (laid-beside c.args.at.now.q.now part held.walked (64 * c.args.e.now.pages) held.within pos (length (start pos)) here there (start-beside pos)) in
    let line : StridedCells = record { first = c.in-Some.line.first; stride = c.in-Some.line.stride } in
    let w = line-within (pairs c.args.at.now.q.now) part pos c.args.at.now.row.now.items (64 * c.args.e.now.pages) c.as_slice-2.result.now (λ n. laid) other line c.in-Some.ensures.line i (omega (arith, l, c.in-Some.ensures.count)) in
    let r = laid.room in
    omega (arith, w, r)

pub returns-in-Some-first_occupied-clause-seen : goal.returns-in-Some-first_occupied-clause-seen
returns-in-Some-first_occupied-clause-seen g c =
    let pos = c.args.at.now.arriving in
    let part = c.args.at.now.part.now in
    let held = c.requires.ready.held in
    let here : pos < length part.streams.items = omega (arith, c.requires.here, held.walked.plan.count) in
    let there : length (start pos) < length part.streams.items =
    (let l = c.len.ensures.value in let f = c.if-len-as_slice.false in let s = ap length c.as_slice.ensures.value in let k = ap length c.begin.ensures in omega (arith, l, f, s, k)) in
    let known = c.as_slice-2.ensures.value ∙ c.begin.ensures in
    let other : length c.as_slice-2.result.now ≢ pos = λ e. start-beside pos (sym (ap length known) ∙ e) in
    let laid : IsLaidOut (stream_at part (length c.as_slice-2.result.now)) (64 * c.args.e.now.pages)
    = subst (λ (ks : List Binding). IsLaidOut (stream_at part (length ks)) (64 * c.args.e.now.pages)) (sym known)
    (laid-beside c.args.at.now.q.now part held.walked (64 * c.args.e.now.pages) held.within pos (length (start pos)) here there (start-beside pos)) in
    let line : StridedCells = record { first = c.in-Some.line.first; stride = c.in-Some.line.stride } in
    let contents = cells_of c.args.pool.now c.args.e.now in
    let cell = line-cell (pairs c.args.at.now.q.now) part pos c.args.at.now.row.now.items (64 * c.args.e.now.pages) c.as_slice-2.result.now (λ n. laid) other line c.in-Some.ensures.line contents in
    let more : length c.as_slice-2.result.now < length part.streams.items = (let k = ap length known in omega (arith, k, there)) in
    let seen : SeenAlong (pairs c.args.at.now.q.now) part (read_from contents) pos c.args.at.now.row.now.items (start pos) c.args.steps.now.reads (along.Found c.in-Some-first_occupied.filled) c.first_occupied.new.steps.reads
    = seen-same (pairs c.args.at.now.q.now) (pairs c.args.at.now.q.now) part (read_from contents) pos c.args.at.now.row.now.items c.args.at.now.row.now.items c.as_slice-2.result.now c.args.steps.now.reads (along.Found c.in-Some-first_occupied.filled) c.first_occupied.new.steps.reads
    refl refl known (
      more,
      scanned-alike (at_stride contents line) (tried_cell (pairs c.args.at.now.q.now) part (read_from contents) pos c.args.at.now.row.now.items c.as_slice-2.result.now)
          c.in-Some.line.count (tried_count (pairs c.args.at.now.q.now) part pos c.args.at.now.row.now.items c.as_slice-2.result.now) c.args.steps.now.reads (Some c.in-Some-first_occupied.filled) c.first_occupied.new.steps.reads c.in-Some.ensures.count
          (λ i l. sym (cell i l)) c.in-Some-first_occupied.ensures.reads,
    ) in
    seen

pub returns-in-None-clause-seen : goal.returns-in-None-clause-seen
returns-in-None-clause-seen g c =
    let pos = c.args.at.now.arriving in
    let part = c.args.at.now.part.now in
    let held = c.requires.ready.held in
    let here : pos < length part.streams.items = omega (arith, c.requires.here, held.walked.plan.count) in
    let there : length (start pos) < length part.streams.items =
    (let l = c.len.ensures.value in let f = c.if-len-as_slice.false in let s = ap length c.as_slice.ensures.value in let k = ap length c.begin.ensures in omega (arith, l, f, s, k)) in
    let known = c.as_slice-2.ensures.value ∙ c.begin.ensures in
    let other : length c.as_slice-2.result.now ≢ pos = λ e. start-beside pos (sym (ap length known) ∙ e) in
    let laid : IsLaidOut (stream_at part (length c.as_slice-2.result.now)) (64 * c.args.e.now.pages)
    = subst (λ (ks : List Binding). IsLaidOut (stream_at part (length ks)) (64 * c.args.e.now.pages)) (sym known)
    (laid-beside c.args.at.now.q.now part held.walked (64 * c.args.e.now.pages) held.within pos (length (start pos)) here there (start-beside pos)) in
    let line : StridedCells = record { first = c.in-Some.line.first; stride = c.in-Some.line.stride } in
    let contents = cells_of c.args.pool.now c.args.e.now in
    let cell = line-cell (pairs c.args.at.now.q.now) part pos c.args.at.now.row.now.items (64 * c.args.e.now.pages) c.as_slice-2.result.now (λ n. laid) other line c.in-Some.ensures.line contents in
    let more : length c.as_slice-2.result.now < length part.streams.items = (let k = ap length known in omega (arith, k, there)) in
    let seen : SeenAlong (pairs c.args.at.now.q.now) part (read_from contents) pos c.args.at.now.row.now.items (start pos) c.args.steps.now.reads (along.Nothing) c.first_occupied.new.steps.reads
    = seen-same (pairs c.args.at.now.q.now) (pairs c.args.at.now.q.now) part (read_from contents) pos c.args.at.now.row.now.items c.args.at.now.row.now.items c.as_slice-2.result.now c.args.steps.now.reads (along.Nothing) c.first_occupied.new.steps.reads
    refl refl known (
      more,
      scanned-alike (at_stride contents line) (tried_cell (pairs c.args.at.now.q.now) part (read_from contents) pos c.args.at.now.row.now.items c.as_slice-2.result.now)
          c.in-Some.line.count (tried_count (pairs c.args.at.now.q.now) part pos c.args.at.now.row.now.items c.as_slice-2.result.now) c.args.steps.now.reads None c.first_occupied.new.steps.reads c.in-Some.ensures.count
          (λ i l. sym (cell i l)) c.in-None.ensures.reads,
    ) in
    seen

pub returns-in-Some-first_occupied-clause-found : goal.returns-in-Some-first_occupied-clause-found
returns-in-Some-first_occupied-clause-found g c =
    let pos = c.args.at.now.arriving in
    let part = c.args.at.now.part.now in
    let held = c.requires.ready.held in
    let here : pos < length part.streams.items = omega (arith, c.requires.here, held.walked.plan.count) in
    let there : length (start pos) < length part.streams.items =
    (let l = c.len.ensures.value in let f = c.if-len-as_slice.false in let s = ap length c.as_slice.ensures.value in let k = ap length c.begin.ensures in omega (arith, l, f, s, k)) in
    let known = c.as_slice-2.ensures.value ∙ c.begin.ensures in
    let other : length c.as_slice-2.result.now ≢ pos = λ e. start-beside pos (sym (ap length known) ∙ e) in
    let laid : IsLaidOut (stream_at part (length c.as_slice-2.result.now)) (64 * c.args.e.now.pages)
    = subst (λ (ks : List Binding). IsLaidOut (stream_at part (length ks)) (64 * c.args.e.now.pages)) (sym known)
    (laid-beside c.args.at.now.q.now part held.walked (64 * c.args.e.now.pages) held.within pos (length (start pos)) here there (start-beside pos)) in
    let line : StridedCells = record { first = c.in-Some.line.first; stride = c.in-Some.line.stride } in
    let contents = cells_of c.args.pool.now c.args.e.now in
    let cell = line-cell (pairs c.args.at.now.q.now) part pos c.args.at.now.row.now.items (64 * c.args.e.now.pages) c.as_slice-2.result.now (λ n. laid) other line c.in-Some.ensures.line contents in
    let more : length c.as_slice-2.result.now < length part.streams.items = (let k = ap length known in omega (arith, k, there)) in
    let seen : SeenAlong (pairs c.args.at.now.q.now) part (read_from contents) pos c.args.at.now.row.now.items (start pos) c.args.steps.now.reads (along.Found c.in-Some-first_occupied.filled) c.first_occupied.new.steps.reads
    = seen-same (pairs c.args.at.now.q.now) (pairs c.args.at.now.q.now) part (read_from contents) pos c.args.at.now.row.now.items c.args.at.now.row.now.items c.as_slice-2.result.now c.args.steps.now.reads (along.Found c.in-Some-first_occupied.filled) c.first_occupied.new.steps.reads
    refl refl known (
      more,
      scanned-alike (at_stride contents line) (tried_cell (pairs c.args.at.now.q.now) part (read_from contents) pos c.args.at.now.row.now.items c.as_slice-2.result.now)
          c.in-Some.line.count (tried_count (pairs c.args.at.now.q.now) part pos c.args.at.now.row.now.items c.as_slice-2.result.now) c.args.steps.now.reads (Some c.in-Some-first_occupied.filled) c.first_occupied.new.steps.reads c.in-Some.ensures.count
          (λ i l. sym (cell i l)) c.in-Some-first_occupied.ensures.reads,
    ) in
    found-candidate c.args.at.now.q.now part pos c.args.at.now.row.now.items contents held.walked here c.requires.ready.fitting (64 * c.args.e.now.pages)
    (λ t n. laid-beside c.args.at.now.q.now part held.walked (64 * c.args.e.now.pages) held.within pos (length (start pos)) here t n) c.args.steps.now.reads c.first_occupied.new.steps.reads (along.Found c.in-Some-first_occupied.filled) seen

pub returns-in-None-clause-nothing : goal.returns-in-None-clause-nothing
returns-in-None-clause-nothing g c e =
    let pos = c.args.at.now.arriving in
    let part = c.args.at.now.part.now in
    let held = c.requires.ready.held in
    let here : pos < length part.streams.items = omega (arith, c.requires.here, held.walked.plan.count) in
    let there : length (start pos) < length part.streams.items =
    (let l = c.len.ensures.value in let f = c.if-len-as_slice.false in let s = ap length c.as_slice.ensures.value in let k = ap length c.begin.ensures in omega (arith, l, f, s, k)) in
    let known = c.as_slice-2.ensures.value ∙ c.begin.ensures in
    let other : length c.as_slice-2.result.now ≢ pos = λ e. start-beside pos (sym (ap length known) ∙ e) in
    let laid : IsLaidOut (stream_at part (length c.as_slice-2.result.now)) (64 * c.args.e.now.pages)
    = subst (λ (ks : List Binding). IsLaidOut (stream_at part (length ks)) (64 * c.args.e.now.pages)) (sym known)
    (laid-beside c.args.at.now.q.now part held.walked (64 * c.args.e.now.pages) held.within pos (length (start pos)) here there (start-beside pos)) in
    let line : StridedCells = record { first = c.in-Some.line.first; stride = c.in-Some.line.stride } in
    let contents = cells_of c.args.pool.now c.args.e.now in
    let cell = line-cell (pairs c.args.at.now.q.now) part pos c.args.at.now.row.now.items (64 * c.args.e.now.pages) c.as_slice-2.result.now (λ n. laid) other line c.in-Some.ensures.line contents in
    let more : length c.as_slice-2.result.now < length part.streams.items = (let k = ap length known in omega (arith, k, there)) in
    let seen : SeenAlong (pairs c.args.at.now.q.now) part (read_from contents) pos c.args.at.now.row.now.items (start pos) c.args.steps.now.reads (along.Nothing) c.first_occupied.new.steps.reads
    = seen-same (pairs c.args.at.now.q.now) (pairs c.args.at.now.q.now) part (read_from contents) pos c.args.at.now.row.now.items c.args.at.now.row.now.items c.as_slice-2.result.now c.args.steps.now.reads (along.Nothing) c.first_occupied.new.steps.reads
    refl refl known (
      more,
      scanned-alike (at_stride contents line) (tried_cell (pairs c.args.at.now.q.now) part (read_from contents) pos c.args.at.now.row.now.items c.as_slice-2.result.now)
          c.in-Some.line.count (tried_count (pairs c.args.at.now.q.now) part pos c.args.at.now.row.now.items c.as_slice-2.result.now) c.args.steps.now.reads None c.first_occupied.new.steps.reads c.in-Some.ensures.count
          (λ i l. sym (cell i l)) c.in-None.ensures.reads,
    ) in
    nothing-seen c.args.at.now.q.now part pos c.args.at.now.row.now.items (read_from contents) held.walked here c.args.steps.now.reads c.first_occupied.new.steps.reads along.Nothing seen e

pub returns-in-None-clause-few : goal.returns-in-None-clause-few
returns-in-None-clause-few g c e =
    let pos = c.args.at.now.arriving in
    let part = c.args.at.now.part.now in
    let held = c.requires.ready.held in
    let here : pos < length part.streams.items = omega (arith, c.requires.here, held.walked.plan.count) in
    let there : length (start pos) < length part.streams.items =
    (let l = c.len.ensures.value in let f = c.if-len-as_slice.false in let s = ap length c.as_slice.ensures.value in let k = ap length c.begin.ensures in omega (arith, l, f, s, k)) in
    let known = c.as_slice-2.ensures.value ∙ c.begin.ensures in
    let other : length c.as_slice-2.result.now ≢ pos = λ e. start-beside pos (sym (ap length known) ∙ e) in
    let laid : IsLaidOut (stream_at part (length c.as_slice-2.result.now)) (64 * c.args.e.now.pages)
    = subst (λ (ks : List Binding). IsLaidOut (stream_at part (length ks)) (64 * c.args.e.now.pages)) (sym known)
    (laid-beside c.args.at.now.q.now part held.walked (64 * c.args.e.now.pages) held.within pos (length (start pos)) here there (start-beside pos)) in
    let line : StridedCells = record { first = c.in-Some.line.first; stride = c.in-Some.line.stride } in
    let contents = cells_of c.args.pool.now c.args.e.now in
    let cell = line-cell (pairs c.args.at.now.q.now) part pos c.args.at.now.row.now.items (64 * c.args.e.now.pages) c.as_slice-2.result.now (λ n. laid) other line c.in-Some.ensures.line contents in
    let more : length c.as_slice-2.result.now < length part.streams.items = (let k = ap length known in omega (arith, k, there)) in
    let seen : SeenAlong (pairs c.args.at.now.q.now) part (read_from contents) pos c.args.at.now.row.now.items (start pos) c.args.steps.now.reads (along.Nothing) c.first_occupied.new.steps.reads
    = seen-same (pairs c.args.at.now.q.now) (pairs c.args.at.now.q.now) part (read_from contents) pos c.args.at.now.row.now.items c.args.at.now.row.now.items c.as_slice-2.result.now c.args.steps.now.reads (along.Nothing) c.first_occupied.new.steps.reads
    refl refl known (
      more,
      scanned-alike (at_stride contents line) (tried_cell (pairs c.args.at.now.q.now) part (read_from contents) pos c.args.at.now.row.now.items c.as_slice-2.result.now)
          c.in-Some.line.count (tried_count (pairs c.args.at.now.q.now) part pos c.args.at.now.row.now.items c.as_slice-2.result.now) c.args.steps.now.reads None c.first_occupied.new.steps.reads c.in-Some.ensures.count
          (λ i l. sym (cell i l)) c.in-None.ensures.reads,
    ) in
    nothing-few (pairs c.args.at.now.q.now) part pos c.args.at.now.row.now.items (read_from contents) c.args.steps.now.reads c.first_occupied.new.steps.reads along.Nothing seen e
