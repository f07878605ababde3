use Rattle.sem_query.specs.Parts.{pairs}
use Rattle.std.proofs.Common.{◌≡◌, ◌+◌, ◌<◌, ◌≤◌, length, refl, sym, ap, ◌∙◌, subst, arith, ◌*◌, List}
use Rattle.sem_query.specs.Boxes.{box_size, AreNumbered, AreInside, values_at}
use Rattle.sem_query.specs.declared.plan.Dim.{Dim}
use Rattle.sem_query.proofs.BoxLaws.{values-inside}
use Rattle.sem_query.specs.Combinations.{read_from}
use Rattle.exec_pool.specs.Extents.{cells_of}
use Rattle.exec_ranges.specs.Values.{rows_in}
use Rattle.exec_join.specs.Choosing.{setting, cell_in}
use Rattle.exec_ranges.specs.Narrowed.{dims_in}
use Rattle.exec_join.specs.Walk.{left}
use Rattle.exec_join.specs.Remaining.{limit, dims_now}
use Rattle.exec_join.specs.Costs.{reads, turns, tried_size, read_at}
use Rattle.exec_synopsis.proofs.PlanLaws.{laid-beside}
use Rattle.exec_join.proofs.WalkLaws.{left-empty}
use Rattle.exec_ranges.proofs.DimLaws.{inside-narrowed}
use Rattle.exec_join.proofs.StepLaws.{few-candidates, candidate, paid-exactly, paid-enough, entered-left, entered-long, entered-cost, cost-of-next, light-cell}
use Rattle.exec_join.proofs.UnderwayLaws.{numbered}
use Rattle.exec_join.proofs.probe.Probe.try_one.Goals as goal

pub values_of-values-requires-clause-sound : goal.values_of-values-requires-clause-sound
values_of-values-requires-clause-sound g c =
    let dims = c.requires.underway.dims c.requires.going c.requires.more c.requires.below in
    subst AreNumbered (sym (c.as_slice.ensures.value ∙ dims)) (numbered c.args.q.now c.args.part.now c.requires.ready.held.walked (pairs c.args.self.now.q.now) c.args.self.now.arriving c.args.self.now.row.now.items c.args.self.now.room.now.chosen.items c.requires.underway.placed.here c.requires.more)

pub values_of-values-requires-clause-size : goal.values_of-values-requires-clause-size
values_of-values-requires-clause-size g c =
    let size = c.requires.underway.size c.requires.going c.requires.more in
    let dims = c.requires.underway.dims c.requires.going c.requires.more c.requires.below in
    size ∙ ap box_size (sym (c.as_slice.ensures.value ∙ dims))

pub content-cell-requires-clause-laid : goal.content-cell-requires-clause-laid
content-cell-requires-clause-laid g c =
    λ n. laid-beside c.args.q.now c.args.part.now c.requires.ready.held.walked (64 * c.args.e.now.pages) c.requires.ready.held.within c.args.self.now.arriving c.len.result c.requires.underway.placed.here (let l = c.len.ensures.value in omega (arith, l, c.requires.more)) n

pub content-cell-requires-clause-inside : goal.content-cell-requires-clause-inside
content-cell-requires-clause-inside g c =
    let size = c.requires.underway.size c.requires.going c.requires.more in
    let below : c.args.self.now.next < box_size (dims_now c.args.part.now c.args.self.now) = omega (arith, size, c.requires.below) in
    let dims = c.requires.underway.dims c.requires.going c.requires.more c.requires.below in
    let values : c.values_of-values.result.items ≡ values_at (dims_now c.args.part.now c.args.self.now) c.args.self.now.next = c.values_of-values.ensures ∙ ap (λ (ds : List Dim). values_at ds c.args.self.now.next) (c.as_slice.ensures.value ∙ dims) in
    let inside = inside-narrowed (pairs c.args.self.now.q.now) c.args.part.now c.args.self.now.arriving c.args.self.now.row.now.items (64 * c.args.e.now.pages) c.args.self.now.room.now.chosen.items (λ n. laid-beside c.args.q.now c.args.part.now c.requires.ready.held.walked (64 * c.args.e.now.pages) c.requires.ready.held.within c.args.self.now.arriving (length c.args.self.now.room.now.chosen.items) c.requires.underway.placed.here c.requires.more n) (values_at (dims_now c.args.part.now c.args.self.now) c.args.self.now.next) (values-inside (dims_now c.args.part.now c.args.self.now) c.args.self.now.next below) in
    subst (λ vs. AreInside (dims_in c.args.part.now c.args.self.now.arriving c.len.result) vs) (sym (c.as_slice-2.ensures.value ∙ values))
    (subst (λ n. AreInside (dims_in c.args.part.now c.args.self.now.arriving n) (values_at (dims_now c.args.part.now c.args.self.now) c.args.self.now.next)) (sym c.len.ensures.value) inside)

pub returns-then-is_empty-clause-left : goal.returns-then-is_empty-clause-left
returns-then-is_empty-clause-left g c =
    let size = c.requires.underway.size c.requires.going c.requires.more in
    let below : c.args.self.now.next < box_size (dims_now c.args.part.now c.args.self.now) = omega (arith, size, c.requires.below) in
    let dims = c.requires.underway.dims c.requires.going c.requires.more c.requires.below in
    let values : c.values_of-values.result.items ≡ values_at (dims_now c.args.part.now c.args.self.now) c.args.self.now.next = c.values_of-values.ensures ∙ ap (λ (ds : List Dim). values_at ds c.args.self.now.next) (c.as_slice.ensures.value ∙ dims) in
    let cand = candidate c.args.part.now c.args.self.now c.values_of-values.result.items below values in
    let cell : cell_in c.args.part.now (read_from (cells_of c.args.pool.now c.args.e.now)) c.args.self.now.arriving (length c.args.self.now.room.now.chosen.items) c.values_of-values.result.items ≡ c.content-cell.result = sym (c.content-cell.ensures.cell ∙ (λ k. cell_in c.args.part.now (read_from (cells_of c.args.pool.now c.args.e.now)) c.args.self.now.arriving (c.len.ensures.value k) (c.as_slice-2.ensures.value k))) in
    (λ k. left (setting (pairs c.args.self.now.q.now) c.args.q.now.select c.args.part.now c.args.self.now.arriving c.args.self.now.row.now.items (read_from (cells_of c.args.pool.now c.args.e.now))) c.args.self.now.room.now.chosen.items c.args.self.now.room.now.numbers.items (c.args.self.now.next + 1) (c.requires.going k))
    ∙ sym (left-empty (setting (pairs c.args.self.now.q.now) c.args.q.now.select c.args.part.now c.args.self.now.arriving c.args.self.now.row.now.items (read_from (cells_of c.args.pool.now c.args.e.now))) c.args.self.now.room.now.chosen.items c.args.self.now.room.now.numbers.items c.args.self.now.next c.values_of-values.result.items c.requires.more cand (cell ∙ c.is_empty.ensures.yes c.if-is_empty.true))
    ∙ (λ k. left (setting (pairs c.args.self.now.q.now) c.args.q.now.select c.args.part.now c.args.self.now.arriving c.args.self.now.row.now.items (read_from (cells_of c.args.pool.now c.args.e.now))) c.args.self.now.room.now.chosen.items c.args.self.now.room.now.numbers.items c.args.self.now.next (sym c.requires.going k))

pub returns-then-is_empty-clause-reads : goal.returns-then-is_empty-clause-reads
returns-then-is_empty-clause-reads g c =
    let size = c.requires.underway.size c.requires.going c.requires.more in
    let few = few-candidates (pairs c.args.self.now.q.now) c.args.part.now c.args.self.now.arriving c.args.self.now.row.now.items c.args.self.now.room.now.chosen.items in
    let same = ap (tried_size c.args.part.now c.args.self.now.arriving) c.requires.underway.placed.same in
    let untried : c.args.self.now.next < tried_size c.args.part.now c.args.self.now.arriving (length c.args.self.now.room.now.numbers.items) = omega (arith, size, c.requires.below, few, same) in
    let more : length c.args.self.now.room.now.numbers.items < length c.args.part.now.streams.items = omega (arith, c.requires.underway.placed.same, c.requires.more) in
    paid-enough _ _ _ _ _ _ c.content-cell.ensures.reads (ap (read_at c.args.self.now.arriving) (c.len.ensures.value ∙ c.requires.underway.placed.same)) (cost-of-next (reads c.args.part.now c.args.self.now.arriving) (length c.args.part.now.streams.items) c.args.self.now more untried c.requires.going)

pub returns-then-is_empty-clause-turns : goal.returns-then-is_empty-clause-turns
returns-then-is_empty-clause-turns g c =
    let size = c.requires.underway.size c.requires.going c.requires.more in
    let few = few-candidates (pairs c.args.self.now.q.now) c.args.part.now c.args.self.now.arriving c.args.self.now.row.now.items c.args.self.now.room.now.chosen.items in
    let same = ap (tried_size c.args.part.now c.args.self.now.arriving) c.requires.underway.placed.same in
    let untried : c.args.self.now.next < tried_size c.args.part.now c.args.self.now.arriving (length c.args.self.now.room.now.numbers.items) = omega (arith, size, c.requires.below, few, same) in
    let more : length c.args.self.now.room.now.numbers.items < length c.args.part.now.streams.items = omega (arith, c.requires.underway.placed.same, c.requires.more) in
    let h = cost-of-next (turns c.args.part.now c.args.self.now.arriving) (length c.args.part.now.streams.items) c.args.self.now more untried c.requires.going in
    omega (arith, h)

pub enter-requires-clause-light : goal.enter-requires-clause-light
enter-requires-clause-light g c =
    let size = c.requires.underway.size c.requires.going c.requires.more in
    let below : c.args.self.now.next < box_size (dims_now c.args.part.now c.args.self.now) = omega (arith, size, c.requires.below) in
    let dims = c.requires.underway.dims c.requires.going c.requires.more c.requires.below in
    let values : c.values_of-values.result.items ≡ values_at (dims_now c.args.part.now c.args.self.now) c.args.self.now.next = c.values_of-values.ensures ∙ ap (λ (ds : List Dim). values_at ds c.args.self.now.next) (c.as_slice.ensures.value ∙ dims) in
    let inside = inside-narrowed (pairs c.args.self.now.q.now) c.args.part.now c.args.self.now.arriving c.args.self.now.row.now.items (64 * c.args.e.now.pages) c.args.self.now.room.now.chosen.items (λ n. laid-beside c.args.q.now c.args.part.now c.requires.ready.held.walked (64 * c.args.e.now.pages) c.requires.ready.held.within c.args.self.now.arriving (length c.args.self.now.room.now.chosen.items) c.requires.underway.placed.here c.requires.more n) (values_at (dims_now c.args.part.now c.args.self.now) c.args.self.now.next) (values-inside (dims_now c.args.part.now c.args.self.now) c.args.self.now.next below) in
    let w = light-cell c.args.part.now c.args.self.now.arriving (read_from (cells_of c.args.pool.now c.args.e.now)) (length c.args.self.now.room.now.chosen.items) (values_at (dims_now c.args.part.now c.args.self.now) c.args.self.now.next) c.requires.ready.fitting c.requires.more (64 * c.args.e.now.pages) (λ n. laid-beside c.args.q.now c.args.part.now c.requires.ready.held.walked (64 * c.args.e.now.pages) c.requires.ready.held.within c.args.self.now.arriving (length c.args.self.now.room.now.chosen.items) c.requires.underway.placed.here c.requires.more n) inside in
    let cell : c.content-cell.result ≡ cell_in c.args.part.now (read_from (cells_of c.args.pool.now c.args.e.now)) c.args.self.now.arriving (length c.args.self.now.room.now.chosen.items) (values_at (dims_now c.args.part.now c.args.self.now) c.args.self.now.next) =
    c.content-cell.ensures.cell ∙ (λ k. cell_in c.args.part.now (read_from (cells_of c.args.pool.now c.args.e.now)) c.args.self.now.arriving (c.len.ensures.value k) ((c.as_slice-2.ensures.value ∙ values) k)) in
    subst (λ x. rows_in x ≤ limit c.args.self.now.arriving (length c.args.self.now.room.now.chosen.items)) (sym cell) w

pub enter-requires-clause-size : goal.enter-requires-clause-size
enter-requires-clause-size g c = c.requires.underway.size c.requires.going c.requires.more

pub open-requires-clause-start : goal.open-requires-clause-start
open-requires-clause-start g c = c.enter.ensures.entered.next

pub open-requires-clause-going : goal.open-requires-clause-going
open-requires-clause-going g c = c.enter.ensures.entered.over ∙ c.requires.going

pub returns-clause-left : goal.returns-clause-left
returns-clause-left g c =
    let p = c.args.self.now in
    let part = c.args.part.now in
    let read = read_from (cells_of c.args.pool.now c.args.e.now) in
    let size = c.requires.underway.size c.requires.going c.requires.more in
    let below : p.next < box_size (dims_now part p) = omega (arith, size, c.requires.below) in
    let dims = c.requires.underway.dims c.requires.going c.requires.more c.requires.below in
    let values : c.values_of-values.result.items ≡ values_at (dims_now part p) p.next = c.values_of-values.ensures ∙ ap (λ (ds : List Dim). values_at ds p.next) (c.as_slice.ensures.value ∙ dims) in
    let cell : cell_in part read p.arriving (length p.room.now.chosen.items) (values_at (dims_now part p) p.next) ≡ c.content-cell.result = sym (c.content-cell.ensures.cell ∙ (λ k. cell_in part read p.arriving (c.len.ensures.value k) ((c.as_slice-2.ensures.value ∙ values) k))) in
    c.open.ensures.left c.args.q.now.select read
    ∙ entered-left c.args.q.now.select part read p c.enter.new.self _ _ c.enter.ensures.entered c.requires.going c.requires.underway.placed.same c.requires.more below refl cell (c.is_empty.ensures.no c.if-is_empty.false)

pub returns-clause-reads : goal.returns-clause-reads
returns-clause-reads g c =
    let p = c.args.self.now in
    let size = c.requires.underway.size c.requires.going c.requires.more in
    let few = few-candidates (pairs p.q.now) c.args.part.now p.arriving p.row.now.items p.room.now.chosen.items in
    let same = ap (tried_size c.args.part.now p.arriving) c.requires.underway.placed.same in
    let untried : p.next < tried_size c.args.part.now p.arriving (length p.room.now.numbers.items) = omega (arith, size, c.requires.below, few, same) in
    let more : length p.room.now.numbers.items < length c.args.part.now.streams.items = omega (arith, c.requires.underway.placed.same, c.requires.more) in
    let h = paid-exactly _ _ _ _ _ _ c.content-cell.ensures.reads (ap (read_at p.arriving) (c.len.ensures.value ∙ c.requires.underway.placed.same)) (entered-cost (reads c.args.part.now) (length c.args.part.now.streams.items) p c.enter.new.self _ _ c.enter.ensures.entered c.requires.going more untried) in
    let m = c.open.ensures.reads in
    omega (arith, h, m)

pub returns-clause-turns : goal.returns-clause-turns
returns-clause-turns g c =
    let p = c.args.self.now in
    let size = c.requires.underway.size c.requires.going c.requires.more in
    let few = few-candidates (pairs p.q.now) c.args.part.now p.arriving p.row.now.items p.room.now.chosen.items in
    let same = ap (tried_size c.args.part.now p.arriving) c.requires.underway.placed.same in
    let untried : p.next < tried_size c.args.part.now p.arriving (length p.room.now.numbers.items) = omega (arith, size, c.requires.below, few, same) in
    let more : length p.room.now.numbers.items < length c.args.part.now.streams.items = omega (arith, c.requires.underway.placed.same, c.requires.more) in
    let h = entered-cost (turns c.args.part.now) (length c.args.part.now.streams.items) p c.enter.new.self _ _ c.enter.ensures.entered c.requires.going more untried in
    let m = c.open.ensures.turns in
    omega (arith, h, m)

pub open-requires-clause-apart : goal.open-requires-clause-apart
open-requires-clause-apart g c e =
    let level = c.requires.underway.level c.requires.going c.requires.more c.requires.below in
    let long = entered-long _ c.enter.new.self _ _ c.enter.ensures.entered in
    let same = c.enter.ensures.entered.level in
    omega (arith, level, long, same, e)

pub enter-requires-clause-apart : goal.enter-requires-clause-apart
enter-requires-clause-apart g c e =
    let level = c.requires.underway.level c.requires.going c.requires.more c.requires.below in
    omega (arith, level, e)

pub enter-requires-clause-sound : goal.enter-requires-clause-sound
enter-requires-clause-sound g c = numbered c.args.q.now c.args.part.now c.requires.ready.held.walked (pairs c.args.self.now.q.now) c.args.self.now.arriving c.args.self.now.row.now.items c.args.self.now.room.now.chosen.items c.requires.underway.placed.here c.requires.more
