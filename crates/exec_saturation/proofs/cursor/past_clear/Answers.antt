use Rattle.std.proofs.Common.{◌≡◌, ◌+◌, ◌<◌, ◌≤◌, length, slice_index_or, ap, ◌∙◌, subst, arith, inl, inr, refl}
use Rattle.sem_query.specs.declared.cell.Cell.TheVariants.{Empty}
use Rattle.sem_query.specs.declared.plan.PartPlan.{PartPlan}
use Rattle.sem_query.specs.declared.plan.StreamPlan.{StreamPlan}
use Rattle.sem_query.specs.Plan.{stream_at}
use Rattle.sem_query.specs.Combinations.{read_from}
use Rattle.exec_pool.specs.Extents.{cells_of}
use Rattle.exec_saturation.proofs.KnownCells.{empty-saturated, part-is, part-among, got-there, box-within, cells-on, box-on, part-on}
use Rattle.exec_saturation.proofs.cursor.past_clear.Goals as goal

pub returns-then-from-as_slice-clause-ahead : goal.returns-then-from-as_slice-clause-ahead
returns-then-from-as_slice-clause-ahead g c = (
  inl (omega arith),
  λ table are.
      let part = c.get-plan.result.now in
      let there = got-there c.args.parts.now c.args.at.part part c.requires.inside (c.get-plan.ensures part) in
      let many = (c.requires.look.ready part (part-among c.args.parts.now c.args.at.part part there)).held.walked.plan.count in
      let past = c.if-from-as_slice.true in
      let place = c.from.ensures in
      let streams = ap length c.as_slice.ensures.value in
      part-on c.args.planned.now.query c.args.parts.now (read_from (cells_of c.args.pool.now c.args.planned.now.extent)) table c.args.at.part c.args.at.place c.args.at.cell
      (omega (arith, many, past, place, streams)) are,
)

pub returns-then-at-stream-clause-ahead : goal.returns-then-at-stream-clause-ahead
returns-then-at-stream-clause-ahead g c = (
  inr (refl, inl (omega arith)),
  λ table are.
      let part = c.get-plan.result.now in
      let there = got-there c.args.parts.now c.args.at.part part c.requires.inside (c.get-plan.ensures part) in
      let stream : c.stream_at-stream.result.now ≡ stream_at part c.args.at.place = c.stream_at-stream.ensures ∙ ap (stream_at part) c.from-2.ensures in
      let size = ap (λ (s : StreamPlan). s.size) stream in
      let past = c.if-at-stream.true in
      box-on c.args.planned.now.query c.args.parts.now (read_from (cells_of c.args.pool.now c.args.planned.now.extent)) table c.args.at.part c.args.at.place c.args.at.cell
      (λ other at_other. subst (λ (p : PartPlan). (stream_at p c.args.at.place).size ≤ c.args.at.cell) (part-is c.args.parts.now c.args.at.part part other there at_other) (omega (arith, size, past))) are,
)

pub clear_ahead-clear-requires-clause-live : goal.clear_ahead-clear-requires-clause-live
clear_ahead-clear-requires-clause-live g c =
    let part = c.get-plan.result.now in
    let there = got-there c.args.parts.now c.args.at.part part c.requires.inside (c.get-plan.ensures part) in
    (c.requires.look.ready part (part-among c.args.parts.now c.args.at.part part there)).held.live

pub clear_ahead-clear-requires-clause-within : goal.clear_ahead-clear-requires-clause-within
clear_ahead-clear-requires-clause-within g c =
    let part = c.get-plan.result.now in
    let there = got-there c.args.parts.now c.args.at.part part c.requires.inside (c.get-plan.ensures part) in
    let ready = c.requires.look.ready part (part-among c.args.parts.now c.args.at.part part there) in
    let many = ready.held.walked.plan.count in
    let inside = c.if-from-as_slice.false in
    let place = c.from.ensures in
    let streams = ap length c.as_slice.ensures.value in
    let stream : c.stream_at-stream.result.now ≡ stream_at part c.args.at.place = c.stream_at-stream.ensures ∙ ap (stream_at part) c.from-2.ensures in
    let size = ap (λ (s : StreamPlan). s.base + s.size) stream in
    let box = (box-within c.args.planned.now.query part c.args.pool.now c.args.planned.now.extent ready c.args.at.place (omega (arith, many, inside, place, streams))).0 in
    omega (arith, size, box)

pub clear_ahead-clear-requires-clause-few : goal.clear_ahead-clear-requires-clause-few
clear_ahead-clear-requires-clause-few g c =
    let part = c.get-plan.result.now in
    let there = got-there c.args.parts.now c.args.at.part part c.requires.inside (c.get-plan.ensures part) in
    let ready = c.requires.look.ready part (part-among c.args.parts.now c.args.at.part part there) in
    let many = ready.held.walked.plan.count in
    let inside = c.if-from-as_slice.false in
    let place = c.from.ensures in
    let streams = ap length c.as_slice.ensures.value in
    let stream : c.stream_at-stream.result.now ≡ stream_at part c.args.at.place = c.stream_at-stream.ensures ∙ ap (stream_at part) c.from-2.ensures in
    let size = ap (λ (s : StreamPlan). s.base + s.size) stream in
    let box = (box-within c.args.planned.now.query part c.args.pool.now c.args.planned.now.extent ready c.args.at.place (omega (arith, many, inside, place, streams))).1 in
    omega (arith, size, box)

pub returns-then-clear-eq0-clause-ahead : goal.returns-then-clear-eq0-clause-ahead
returns-then-clear-eq0-clause-ahead g c =
    let part = c.get-plan.result.now in
    let there = got-there c.args.parts.now c.args.at.part part c.requires.inside (c.get-plan.ensures part) in
    let ready = c.requires.look.ready part (part-among c.args.parts.now c.args.at.part part there) in
    let many = ready.held.walked.plan.count in
    let inside = c.if-from-as_slice.false in
    let place = c.from.ensures in
    let streams = ap length c.as_slice.ensures.value in
    let stream : c.stream_at-stream.result.now ≡ stream_at part c.args.at.place = c.stream_at-stream.ensures ∙ ap (stream_at part) c.from-2.ensures in
    let size = ap (λ (s : StreamPlan). s.size) stream in
    let below = c.if-at-stream.false in
    let cells = cells_of c.args.pool.now c.args.planned.now.extent in (
      record {
        part = c.requires.inside;
        place = omega (arith, many, inside, place, streams);
        cell = λ other at_other. subst (λ (p : PartPlan). c.args.at.cell < (stream_at p c.args.at.place).size) (part-is c.args.parts.now c.args.at.part part other there at_other) (omega (arith, size, below));
      },
      λ other at_other. c.clear_ahead-clear.ensures.held c.if-clear-eq0.true ∙ ap (λ (s : StreamPlan). slice_index_or cells (s.base + c.args.at.cell) Empty) stream
          ∙ ap (λ (p : PartPlan). read_from cells p c.args.at.place c.args.at.cell) (part-is c.args.parts.now c.args.at.part part other there at_other),
    )

pub returns-clause-ahead : goal.returns-clause-ahead
returns-clause-ahead g c = (
  inr (refl, inr (refl, (let some = c.if-clear-eq0.false in omega (arith, some)))),
  λ table are.
      let q = c.args.planned.now.query in
      let part = c.get-plan.result.now in
      let read = read_from (cells_of c.args.pool.now c.args.planned.now.extent) in
      let there = got-there c.args.parts.now c.args.at.part part c.requires.inside (c.get-plan.ensures part) in
      let stream : c.stream_at-stream.result.now ≡ stream_at part c.args.at.place = c.stream_at-stream.ensures ∙ ap (stream_at part) c.from-2.ensures in
      cells-on q c.args.parts.now read table c.args.at.part c.args.at.place c.args.at.cell (c.args.at.cell + c.clear_ahead-clear.result.count)
      (λ other at_other j low high inside. empty-saturated q other read table c.args.at.place j
      (subst (λ (p : PartPlan). read p c.args.at.place j ≡ Empty) (part-is c.args.parts.now c.args.at.part part other there at_other)
      (subst (λ (s : StreamPlan). slice_index_or (cells_of c.args.pool.now c.args.planned.now.extent) (s.base + j) Empty ≡ Empty) stream (c.clear_ahead-clear.ensures.clear j low high))))
      are,
)
