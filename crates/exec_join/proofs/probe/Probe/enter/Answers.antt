use Rattle.sem_query.specs.Parts.{pairs}
use Rattle.std.proofs.Common.{◌+◌, ◌++◌, ◌∷◌, [], length, refl, ap, ◌∙◌, arith}
use Rattle.sem_query.specs.Boxes.{values_at}
use Rattle.exec_join.specs.Choosing.{chosen}
use Rattle.exec_join.proofs.UnderwayLaws.{sizes-length, enter-placed}
use Rattle.exec_join.proofs.probe.Probe.enter.Goals as goal

pub push-requires-2 : goal.push-requires-2
push-requires-2 c =
    let l = sizes-length (pairs c.args.self.now.q.now) c.args.part.now c.args.self.now.arriving c.args.self.now.row.now.items _ c.args.self.now.room.now.chosen.items c.args.self.now.room.now.sizes.items c.requires.placed.sizes in
    let e = ap (λ s. length s.items) c.choose.ensures.sizes in
    omega (arith, l, e, c.requires.more, c.requires.few)

pub returns-clause-placed : goal.returns-clause-placed
returns-clause-placed c =
    let p = c.args.self.now in
    let room = c.choose.ensures in
    enter-placed c.args.part.now p _ (chosen (values_at p.room.now.dims.items p.next) c.args.cell) (p.next + 1) p.size (record { arriving = refl; row = refl; query = refl; prepared = refl }) (record { dims = ap (λ d. d.items) room.dims; line = room.line; level = refl }) c.requires.apart c.requires.placed c.requires.size
    room.chosen (c.push.ensures.items ∙ ap (λ n. n.items ++ (p.next + 1) ∷ []) room.numbers) (c.push-2.ensures.items ∙ ap (λ n. n.items ++ p.size ∷ []) room.sizes) c.requires.more c.requires.light
