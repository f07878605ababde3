use Rattle.sem_query.specs.Parts.{pairs}
use Rattle.std.proofs.Common.{◌≡◌, ◌≢◌, ◌-◌, ◌*◌, ◌<◌, ◌≤◌, List, Option, length, sym, ap, ◌∙◌, subst, arith, ◌^◌, ℕ, take}
use Rattle.sem_query.specs.Boxes.{box_size, values_at}
use Rattle.sem_query.specs.declared.plan.Dim.{Dim}
use Rattle.sem_query.specs.Plan.{stream_at}
use Rattle.sem_query.specs.Combinations.{read_from}
use Rattle.sem_query.proofs.BoxLaws.{values-inside}
use Rattle.exec_pool.specs.Extents.{cells_of}
use Rattle.exec_join.specs.declared.probe.Probe.{Probe}
use Rattle.exec_ranges.specs.Values.{rows_in}
use Rattle.exec_join.specs.Costs.{reads, turns, tried_size, read_at}
use Rattle.exec_synopsis.specs.Premises.{IsLaidOut}
use Rattle.exec_join.specs.Remaining.{limit, dims_now}
use Rattle.exec_synopsis.proofs.PlanLaws.{laid-beside}
use Rattle.exec_ranges.proofs.DimLaws.{inside-narrowed}
use Rattle.exec_join.proofs.StepLaws.{light-cell, line-within, line-cell, passed-left, passed-cost, past-outer, few-candidates, read-beside, left-over, light-product, finish-none, finish-some}
use Rattle.exec_pool.specs.declared.scan.StridedCells.{StridedCells}
use Rattle.exec_ranges.specs.Lined.{StandOn}
use Rattle.exec_join.specs.Choosing.{product_of, meets_links, tuple_of}
use Rattle.exec_join.proofs.probe.Probe.next.Goals as goal

pub returns-clause-left : goal.returns-clause-left
returns-clause-left g c =
    let over = left-over c.args.q.now.select c.args.part.now (read_from (cells_of c.args.pool.now c.args.e.now)) c.turns.self c.turns-test.false in
    (c.turns.invariant.left ∙ over, over)

pub product_of-count-requires : goal.product_of-count-requires
product_of-count-requires g c =
    let p = c.turns.self in
    let placed = c.turns.invariant.underway.placed in
    let few : length c.args.part.now.streams.items ≤ 4 = (let f = c.as_slice-streams.ensures.fits in let v = ap length c.as_slice-streams.ensures.value in omega (arith, f, v)) in
    subst (λ cs. (k : ℕ) → product_of (take k cs) ≤ 2 ^ 120) (sym c.as_slice-chosen.ensures.value)
    (λ k. light-product p.arriving k p.room.now.chosen.items (omega (arith, placed.here, few)) (omega (arith, placed.few, few)) placed.light)

pub returns-then-meets_links-clause-left : goal.returns-then-meets_links-clause-left
returns-then-meets_links-clause-left g c =
    let p = c.turns.self in
    let part = c.args.part.now in
    let whole : length p.room.now.chosen.items ≡ length part.streams.items =
    (let n = c.len.ensures.value in let v = ap length c.as_slice-streams.ensures.value in omega (arith, n, v, c.if-len-streams.true, c.turns.invariant.underway.placed.few)) in
    c.turns.invariant.left
    ∙ finish-some c.args.q.now.select part p c.retreat.new.self (c.retreat.ensures.left c.args.q.now.select) c.turns-test.true whole c.tuple_of.new.tuple.items c.product_of-count.result
    (ap (meets_links (pairs p.q.now) part p.arriving p.row.now.items) (sym c.as_slice-chosen.ensures.value) ∙ sym c.meets_links.ensures ∙ c.if-meets_links.true)
    (c.tuple_of.ensures ∙ (λ k. tuple_of (pairs p.q.now) (c.select.ensures.value k) part p.arriving p.row.now.items (c.as_slice-chosen.ensures.value k)))
    (c.product_of-count.ensures ∙ ap product_of c.as_slice-chosen.ensures.value) (read_from (cells_of c.args.pool.now c.args.e.now))

pub turns-preserved-then-len-streams : goal.turns-preserved-then-len-streams
turns-preserved-then-len-streams g c =
    let p = c.turns.self in
    let part = c.args.part.now in
    let whole : length p.room.now.chosen.items ≡ length part.streams.items =
    (let n = c.len.ensures.value in let v = ap length c.as_slice-streams.ensures.value in omega (arith, n, v, c.if-len-streams.true, c.turns.invariant.underway.placed.few)) in
    record {
      underway = c.retreat-then-len-streams.ensures.underway;
      left = c.turns.invariant.left
          ∙ finish-none c.args.q.now.select part p c.retreat-then-len-streams.new.self (c.retreat-then-len-streams.ensures.left c.args.q.now.select) c.turns-test.true whole
          (ap (meets_links (pairs p.q.now) part p.arriving p.row.now.items) (sym c.as_slice-chosen.ensures.value) ∙ sym c.meets_links.ensures ∙ c.if-meets_links.false) (read_from (cells_of c.args.pool.now c.args.e.now));
      reads = omega (arith, c.retreat-then-len-streams.ensures.reads, c.turns.invariant.reads);
      writes = c.turns.invariant.writes;
    }

pub turns-preserved-then-self : goal.turns-preserved-then-self
turns-preserved-then-self g c =
    let more : length c.turns.self.room.now.chosen.items < length c.args.part.now.streams.items =
    (let n = c.len.ensures.value in let v = ap length c.as_slice-streams.ensures.value in omega (arith, n, v, c.if-len-streams.false)) in
    let size = c.turns.invariant.underway.size c.turns-test.true more in
    let read = read_from (cells_of c.args.pool.now c.args.e.now) in
    record {
      underway = c.retreat-then-self.ensures.underway;
      left = c.turns.invariant.left ∙ past-outer c.args.q.now.select c.args.part.now read c.turns.self c.turns-test.true more (omega (arith, size, c.if-self.true))
          ∙ sym (c.retreat-then-self.ensures.left c.args.q.now.select read);
      reads = omega (arith, c.retreat-then-self.ensures.reads, c.turns.invariant.reads);
      writes = c.turns.invariant.writes;
    }

pub first_occupied-requires-clause-within : goal.first_occupied-requires-clause-within
first_occupied-requires-clause-within g c i l =
    let more : length c.turns.self.room.now.chosen.items < length c.args.part.now.streams.items =
    (let n = c.len.ensures.value in let v = ap length c.as_slice-streams.ensures.value in omega (arith, n, v, c.if-len-streams.false)) in
    let below : c.turns.self.next < c.turns.self.size = omega (arith, c.if-self.false) in
    let on = subst (λ (o : Option StridedCells). StandOn c.args.part.now c.turns.self.arriving (length c.turns.self.room.now.chosen.items) (dims_now c.args.part.now c.turns.self) o) c.in-Some.is (c.turns.invariant.underway.line c.turns-test.true more below) in
    let p = c.turns.self in
    let part = c.args.part.now in
    let known = p.room.now.chosen.items in
    let D : List Dim = dims_now part p in
    let size = c.turns.invariant.underway.size c.turns-test.true more in
    let laid : length known ≢ p.arriving → IsLaidOut (stream_at part (length known)) (64 * c.args.e.now.pages) = λ n. laid-beside c.args.q.now part c.requires.ready.held.walked (64 * c.args.e.now.pages) c.requires.ready.held.within p.arriving (length known) c.turns.invariant.underway.placed.here more n in
    let w = line-within (pairs p.q.now) part p.arriving p.row.now.items (64 * c.args.e.now.pages) known laid on.0 c.in-Some.line on.1 i (omega (arith, l, size)) in
    let r = (laid on.0).room in
    omega (arith, w, r)

pub go_into-requires-clause-light : goal.go_into-requires-clause-light
go_into-requires-clause-light g c =
    let more : length c.turns.self.room.now.chosen.items < length c.args.part.now.streams.items =
    (let n = c.len.ensures.value in let v = ap length c.as_slice-streams.ensures.value in omega (arith, n, v, c.if-len-streams.false)) in
    let below : c.turns.self.next < c.turns.self.size = omega (arith, c.if-self.false) in
    let on = subst (λ (o : Option StridedCells). StandOn c.args.part.now c.turns.self.arriving (length c.turns.self.room.now.chosen.items) (dims_now c.args.part.now c.turns.self) o) c.in-Some.is (c.turns.invariant.underway.line c.turns-test.true more below) in
    let p = c.turns.self in
    let part = c.args.part.now in
    let known = p.room.now.chosen.items in
    let D : List Dim = dims_now part p in
    let size = c.turns.invariant.underway.size c.turns-test.true more in
    let laid : length known ≢ p.arriving → IsLaidOut (stream_at part (length known)) (64 * c.args.e.now.pages) = λ n. laid-beside c.args.q.now part c.requires.ready.held.walked (64 * c.args.e.now.pages) c.requires.ready.held.within p.arriving (length known) c.turns.invariant.underway.placed.here more n in
    let contents = cells_of c.args.pool.now c.args.e.now in
    let at = line-cell (pairs p.q.now) part p.arriving p.row.now.items (64 * c.args.e.now.pages) known laid on.0 c.in-Some.line on.1 contents in
    let found = c.in-Some-first_occupied.ensures.reads.0 in
    let inside : c.in-Some-first_occupied.filled.next < box_size D = omega (arith, found.below, size) in
    let i = c.in-Some-first_occupied.filled.next in
    let w = light-cell part p.arriving (read_from contents) (length known) (values_at D i) c.requires.ready.fitting more (64 * c.args.e.now.pages) laid
    (inside-narrowed (pairs p.q.now) part p.arriving p.row.now.items (64 * c.args.e.now.pages) known laid (values_at D i) (values-inside D i inside)) in
    subst (λ x. rows_in x ≤ limit p.arriving (length known)) (at i inside ∙ found.cell) w

pub turns-preserved-in-Some-first_occupied : goal.turns-preserved-in-Some-first_occupied
turns-preserved-in-Some-first_occupied g c =
    let more : length c.turns.self.room.now.chosen.items < length c.args.part.now.streams.items =
    (let n = c.len.ensures.value in let v = ap length c.as_slice-streams.ensures.value in omega (arith, n, v, c.if-len-streams.false)) in
    let below : c.turns.self.next < c.turns.self.size = omega (arith, c.if-self.false) in
    let on = subst (λ (o : Option StridedCells). StandOn c.args.part.now c.turns.self.arriving (length c.turns.self.room.now.chosen.items) (dims_now c.args.part.now c.turns.self) o) c.in-Some.is (c.turns.invariant.underway.line c.turns-test.true more below) in
    let p = c.turns.self in
    let part = c.args.part.now in
    let known = p.room.now.chosen.items in
    let D : List Dim = dims_now part p in
    let size = c.turns.invariant.underway.size c.turns-test.true more in
    let laid : length known ≢ p.arriving → IsLaidOut (stream_at part (length known)) (64 * c.args.e.now.pages) = λ n. laid-beside c.args.q.now part c.requires.ready.held.walked (64 * c.args.e.now.pages) c.requires.ready.held.within p.arriving (length known) c.turns.invariant.underway.placed.here more n in
    let contents = cells_of c.args.pool.now c.args.e.now in
    let at = line-cell (pairs p.q.now) part p.arriving p.row.now.items (64 * c.args.e.now.pages) known laid on.0 c.in-Some.line on.1 contents in
    let found = c.in-Some-first_occupied.ensures.reads.0 in
    let inside : c.in-Some-first_occupied.filled.next < box_size D = omega (arith, found.below, size) in
    let past = c.go_into.ensures.left (read_from contents) (record {
      after = found.after;
      below = found.below;
      before = λ i a b. at i (omega (arith, b, inside)) ∙ found.before i a b;
      cell = at c.in-Some-first_occupied.filled.next inside ∙ found.cell;
      some = found.some;
    }) in
    record {
      underway = c.go_into.ensures.underway;
      left = c.turns.invariant.left ∙ sym past;
      reads = (let h = c.go_into.ensures.reads in let m = c.turns.invariant.reads in let s = c.in-Some-first_occupied.ensures.reads.1 in omega (arith, h, m, s, found.after));
      writes = c.in-Some-first_occupied.ensures.writes ∙ c.turns.invariant.writes;
    }

pub turns-preserved-in-None-first_occupied : goal.turns-preserved-in-None-first_occupied
turns-preserved-in-None-first_occupied g c =
    let more : length c.turns.self.room.now.chosen.items < length c.args.part.now.streams.items =
    (let n = c.len.ensures.value in let v = ap length c.as_slice-streams.ensures.value in omega (arith, n, v, c.if-len-streams.false)) in
    let below : c.turns.self.next < c.turns.self.size = omega (arith, c.if-self.false) in
    let on = subst (λ (o : Option StridedCells). StandOn c.args.part.now c.turns.self.arriving (length c.turns.self.room.now.chosen.items) (dims_now c.args.part.now c.turns.self) o) c.in-Some.is (c.turns.invariant.underway.line c.turns-test.true more below) in
    let p = c.turns.self in
    let part = c.args.part.now in
    let known = p.room.now.chosen.items in
    let D : List Dim = dims_now part p in
    let size = c.turns.invariant.underway.size c.turns-test.true more in
    let laid : length known ≢ p.arriving → IsLaidOut (stream_at part (length known)) (64 * c.args.e.now.pages) = λ n. laid-beside c.args.q.now part c.requires.ready.held.walked (64 * c.args.e.now.pages) c.requires.ready.held.within p.arriving (length known) c.turns.invariant.underway.placed.here more n in
    let contents = cells_of c.args.pool.now c.args.e.now in
    let at = line-cell (pairs p.q.now) part p.arriving p.row.now.items (64 * c.args.e.now.pages) known laid on.0 c.in-Some.line on.1 contents in
    let empty = c.in-None-first_occupied.ensures.reads.0 in
    let passed : Probe = record { arriving = p.arriving; row = p.row; q = p.q; prepared = p.prepared; room = p.room; level = p.level; next = p.size; size = p.size; over = p.over } in
    let place = c.turns.invariant.underway.placed.same in
    let few = few-candidates (pairs p.q.now) part p.arriving p.row.now.items known in
    let same = ap (tried_size part p.arriving) place in
    let entered : length p.room.now.numbers.items < length part.streams.items = omega (arith, place, more) in
    let one : read_at p.arriving (length p.room.now.numbers.items) ≡ 1 = read-beside p.arriving (length p.room.now.numbers.items) (λ h. on.0 (place ∙ h)) in
    let paid = passed-cost (reads part p.arriving) (length part.streams.items) p p.size c.turns-test.true entered (omega (arith, below)) (omega (arith, size, few, same)) in
    let each : (p.size - p.next) * read_at p.arriving (length p.room.now.numbers.items) ≡ p.size - p.next = ap (λ n. (p.size - p.next) * n) one ∙ (let e : (p.size - p.next) * 1 ≡ p.size - p.next = omega arith in e) in
    let past = c.retreat-in-None-first_occupied.ensures.left c.args.q.now.select (read_from contents)
    ∙ sym (past-outer c.args.q.now.select part (read_from contents) passed c.turns-test.true more (omega (arith, size)))
    ∙ passed-left c.args.q.now.select part (read_from contents) p p.size c.turns-test.true more (omega (arith, below)) (omega (arith, size))
    (λ i a b. at i (omega (arith, b, size)) ∙ empty i a b) in
    record {
      underway = c.retreat-in-None-first_occupied.ensures.underway;
      left = c.turns.invariant.left ∙ sym past;
      reads = (let h = c.retreat-in-None-first_occupied.ensures.reads in let m = c.turns.invariant.reads in let s = c.in-None-first_occupied.ensures.reads.1 in omega (arith, paid, each, h, m, s, below));
      writes = c.in-None-first_occupied.ensures.writes ∙ c.turns.invariant.writes;
    }

pub turns-smaller-in-None-first_occupied : goal.turns-smaller-in-None-first_occupied
turns-smaller-in-None-first_occupied g c =
    let more : length c.turns.self.room.now.chosen.items < length c.args.part.now.streams.items =
    (let n = c.len.ensures.value in let v = ap length c.as_slice-streams.ensures.value in omega (arith, n, v, c.if-len-streams.false)) in
    let below : c.turns.self.next < c.turns.self.size = omega (arith, c.if-self.false) in
    let on = subst (λ (o : Option StridedCells). StandOn c.args.part.now c.turns.self.arriving (length c.turns.self.room.now.chosen.items) (dims_now c.args.part.now c.turns.self) o) c.in-Some.is (c.turns.invariant.underway.line c.turns-test.true more below) in
    let p = c.turns.self in
    let part = c.args.part.now in
    let known = p.room.now.chosen.items in
    let D : List Dim = dims_now part p in
    let size = c.turns.invariant.underway.size c.turns-test.true more in
    let place = c.turns.invariant.underway.placed.same in
    let few = few-candidates (pairs p.q.now) part p.arriving p.row.now.items known in
    let same = ap (tried_size part p.arriving) place in
    let more : length p.room.now.numbers.items < length part.streams.items = omega (arith, place, more) in
    let one : read_at p.arriving (length p.room.now.numbers.items) ≡ 1 = read-beside p.arriving (length p.room.now.numbers.items) (λ h. on.0 (place ∙ h)) in
    let passed = passed-cost (turns part p.arriving) (length part.streams.items) p p.size c.turns-test.true more (omega (arith, below)) (omega (arith, size, few, same)) in
    let m = c.retreat-in-None-first_occupied.ensures.turns in
    omega (arith, passed, m)
