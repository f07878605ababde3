use Rattle.sem_query.specs.Parts.{pairs}
use Rattle.std.proofs.Common.{◌≡◌, ◌∙◌, ◌-◌, ◌*◌, ◌<◌, length, refl, ap, arith, List}
use Rattle.sem_query.specs.Boxes.{box_size}
use Rattle.sem_query.specs.declared.plan.Dim.{Dim}
use Rattle.exec_join.specs.Costs.{reads, turns, tried_size, read_at}
use Rattle.exec_join.specs.Remaining.{dims_now}
use Rattle.exec_join.proofs.StepLaws.{passed-left, passed-cost, entered-left, entered-long, entered-cost, few-candidates, read-beside}
use Rattle.exec_join.proofs.UnderwayLaws.{numbered}
use Rattle.exec_join.proofs.probe.Probe.go_into.Goals as goal

pub enter-requires-clause-sound : goal.enter-requires-clause-sound
enter-requires-clause-sound c = numbered c.args.q.now c.args.part.now c.requires.walked (pairs c.args.self.now.q.now) c.args.self.now.arriving c.args.self.now.row.now.items c.args.self.now.room.now.chosen.items c.requires.underway.placed.here c.requires.more

pub enter-requires-clause-size : goal.enter-requires-clause-size
enter-requires-clause-size c = c.requires.underway.size c.requires.going c.requires.more

pub enter-requires-clause-dims : goal.enter-requires-clause-dims
enter-requires-clause-dims c = c.requires.underway.dims c.requires.going c.requires.more (omega (arith, c.requires.after, c.requires.below))

pub enter-requires-clause-apart : goal.enter-requires-clause-apart
enter-requires-clause-apart c e =
    let level = c.requires.underway.level c.requires.going c.requires.more (omega (arith, c.requires.after, c.requires.below)) in
    omega (arith, level, e)

pub open-requires-clause-apart : goal.open-requires-clause-apart
open-requires-clause-apart c e =
    let level = c.requires.underway.level c.requires.going c.requires.more (omega (arith, c.requires.after, c.requires.below)) in
    let long = entered-long _ c.enter.new.self _ _ c.enter.ensures.entered in
    let same = c.enter.ensures.entered.level in
    omega (arith, level, long, same, e)

pub returns-clause-left : goal.returns-clause-left
returns-clause-left c read first =
    let p = c.args.self.now in
    let part = c.args.part.now in
    let D : List Dim = dims_now part p in
    let size = c.requires.underway.size c.requires.going c.requires.more in
    let inside : c.args.filled.next < box_size D = omega (arith, c.requires.below, size) in
    c.open.ensures.left c.args.q.now.select read
    ∙ entered-left c.args.q.now.select part read _ c.enter.new.self _ _ c.enter.ensures.entered c.requires.going c.requires.underway.placed.same c.requires.more inside refl first.cell first.some
    ∙ passed-left c.args.q.now.select part read p c.args.filled.next c.requires.going c.requires.more c.requires.after (omega (arith, inside)) first.before

pub returns-clause-reads : goal.returns-clause-reads
returns-clause-reads c =
    let p = c.args.self.now in
    let part = c.args.part.now in
    let known = p.room.now.chosen.items in
    let D : List Dim = dims_now part p in
    let size = c.requires.underway.size c.requires.going c.requires.more in
    let inside : c.args.filled.next < box_size D = omega (arith, c.requires.below, size) in
    let place = c.requires.underway.placed.same in
    let few = few-candidates (pairs p.q.now) part p.arriving p.row.now.items known in
    let same = ap (tried_size part p.arriving) place in
    let more : length p.room.now.numbers.items < length part.streams.items = omega (arith, place, c.requires.more) in
    let one : read_at p.arriving (length p.room.now.numbers.items) ≡ 1 = read-beside p.arriving (length p.room.now.numbers.items) (λ h. c.requires.beside (place ∙ h)) in
    let entered = entered-cost (reads part) (length part.streams.items) _ c.enter.new.self _ _ c.enter.ensures.entered c.requires.going more (omega (arith, inside, few, same)) in
    let passed = passed-cost (reads part p.arriving) (length part.streams.items) p c.args.filled.next c.requires.going more c.requires.after (omega (arith, inside, few, same)) in
    let each : (c.args.filled.next - p.next) * read_at p.arriving (length p.room.now.numbers.items) ≡ c.args.filled.next - p.next = ap (λ n. (c.args.filled.next - p.next) * n) one ∙ (let e : (c.args.filled.next - p.next) * 1 ≡ c.args.filled.next - p.next = omega arith in e) in
    let m = c.open.ensures.reads in
    omega (arith, entered, passed, each, one, m)

pub returns-clause-turns : goal.returns-clause-turns
returns-clause-turns c =
    let p = c.args.self.now in
    let part = c.args.part.now in
    let known = p.room.now.chosen.items in
    let D : List Dim = dims_now part p in
    let size = c.requires.underway.size c.requires.going c.requires.more in
    let inside : c.args.filled.next < box_size D = omega (arith, c.requires.below, size) in
    let place = c.requires.underway.placed.same in
    let few = few-candidates (pairs p.q.now) part p.arriving p.row.now.items known in
    let same = ap (tried_size part p.arriving) place in
    let more : length p.room.now.numbers.items < length part.streams.items = omega (arith, place, c.requires.more) in
    let entered = entered-cost (turns part) (length part.streams.items) _ c.enter.new.self _ _ c.enter.ensures.entered c.requires.going more (omega (arith, inside, few, same)) in
    let passed = passed-cost (turns part p.arriving) (length part.streams.items) p c.args.filled.next c.requires.going more c.requires.after (omega (arith, inside, few, same)) in
    let m = c.open.ensures.turns in
    omega (arith, entered, passed, m)
