use Rattle.sem_query.specs.Parts.{pairs}
use Rattle.std.proofs.Common.{◌≡◌, ◌∙◌, ◌+◌, [], length, sym, ap, arith, refl}
use Rattle.exec_join.specs.Choosing.{chosen}
use Rattle.sem_query.specs.Boxes.{box_size, values_at}
use Rattle.sem_query.specs.declared.cell.Cell.TheVariants.{Empty, Present}
use Rattle.exec_join.specs.Costs.{reads, turns, tried_size}
use Rattle.exec_join.proofs.StepLaws.{own-light, entered-left, entered-cost, few-candidates, own-cell}
use Rattle.exec_join.proofs.UnderwayLaws.{own-dims, sizes-length, enter-placed}
use Rattle.exec_join.specs.declared.probe.Probe.{Probe}
use Rattle.exec_join.specs.Remaining.{HasEntered}
use Rattle.exec_join.proofs.probe.Probe.pass_own.Goals as goal

pub returns-then-len-self-clause-left : goal.returns-then-len-self-clause-left
returns-then-len-self-clause-left c select read =
    let p = c.args.self.now in
    let r : Probe = record { arriving = p.arriving; row = p.row; q = p.q; prepared = p.prepared; room = record { ref_ptr = p.room.ref_ptr; ghost_name = p.room.ghost_name; now = record { chosen = c.push_own.new.self; numbers = c.push.new.self; sizes = c.push-then-len-self.new.self; dims = p.room.now.dims; line = p.room.now.line } }; level = p.level; next = p.next; size = p.size; over = p.over } in
    let entered : HasEntered [] Present p r = record { chosen = c.push_own.ensures.items; numbers = c.push.ensures.items; next = c.requires.start; level = refl; over = refl; arriving = refl; row = refl; query = refl; prepared = refl } in
    let here : length p.room.now.chosen.items ≡ p.arriving = sym c.len.ensures.value ∙ c.if-len-self.true in
    let e = own-dims (pairs p.q.now) c.args.part.now p.arriving p.row.now.items p.room.now.chosen.items here in
    let one = ap box_size e in
    entered-left select c.args.part.now read p r [] Present entered c.requires.going c.requires.placed.same (omega (arith, here, c.requires.placed.here))
    (omega (arith, one, c.requires.start)) (sym (ap (λ ds. values_at ds p.next) e)) (own-cell c.args.part.now read p.arriving (length p.room.now.chosen.items) [] here) (λ (x : Present ≡ Empty). cc)

pub returns-then-len-self-clause-reads : goal.returns-then-len-self-clause-reads
returns-then-len-self-clause-reads c =
    let p = c.args.self.now in
    let r : Probe = record { arriving = p.arriving; row = p.row; q = p.q; prepared = p.prepared; room = record { ref_ptr = p.room.ref_ptr; ghost_name = p.room.ghost_name; now = record { chosen = c.push_own.new.self; numbers = c.push.new.self; sizes = c.push-then-len-self.new.self; dims = p.room.now.dims; line = p.room.now.line } }; level = p.level; next = p.next; size = p.size; over = p.over } in
    let entered : HasEntered [] Present p r = record { chosen = c.push_own.ensures.items; numbers = c.push.ensures.items; next = c.requires.start; level = refl; over = refl; arriving = refl; row = refl; query = refl; prepared = refl } in
    let here : length p.room.now.chosen.items ≡ p.arriving = sym c.len.ensures.value ∙ c.if-len-self.true in
    let one = ap box_size (own-dims (pairs p.q.now) c.args.part.now p.arriving p.row.now.items p.room.now.chosen.items here) in
    let few = few-candidates (pairs p.q.now) c.args.part.now p.arriving p.row.now.items p.room.now.chosen.items in
    let same = ap (tried_size c.args.part.now p.arriving) c.requires.placed.same in
    let h = entered-cost (reads c.args.part.now) (length c.args.part.now.streams.items) p r [] Present entered c.requires.going (omega (arith, here, c.requires.placed.here, c.requires.placed.same)) (omega (arith, one, few, same, c.requires.start)) in
    omega (arith, h)

pub returns-then-len-self-clause-turns : goal.returns-then-len-self-clause-turns
returns-then-len-self-clause-turns c =
    let p = c.args.self.now in
    let r : Probe = record { arriving = p.arriving; row = p.row; q = p.q; prepared = p.prepared; room = record { ref_ptr = p.room.ref_ptr; ghost_name = p.room.ghost_name; now = record { chosen = c.push_own.new.self; numbers = c.push.new.self; sizes = c.push-then-len-self.new.self; dims = p.room.now.dims; line = p.room.now.line } }; level = p.level; next = p.next; size = p.size; over = p.over } in
    let entered : HasEntered [] Present p r = record { chosen = c.push_own.ensures.items; numbers = c.push.ensures.items; next = c.requires.start; level = refl; over = refl; arriving = refl; row = refl; query = refl; prepared = refl } in
    let here : length p.room.now.chosen.items ≡ p.arriving = sym c.len.ensures.value ∙ c.if-len-self.true in
    let one = ap box_size (own-dims (pairs p.q.now) c.args.part.now p.arriving p.row.now.items p.room.now.chosen.items here) in
    let few = few-candidates (pairs p.q.now) c.args.part.now p.arriving p.row.now.items p.room.now.chosen.items in
    let same = ap (tried_size c.args.part.now p.arriving) c.requires.placed.same in
    let h = entered-cost (turns c.args.part.now) (length c.args.part.now.streams.items) p r [] Present entered c.requires.going (omega (arith, here, c.requires.placed.here, c.requires.placed.same)) (omega (arith, one, few, same, c.requires.start)) in
    omega (arith, h)

pub push-requires-then-len-self : goal.push-requires-then-len-self
push-requires-then-len-self c =
    let p = c.args.self.now in
    let here : length p.room.now.chosen.items ≡ p.arriving = sym c.len.ensures.value ∙ c.if-len-self.true in
    let l = sizes-length (pairs p.q.now) c.args.part.now p.arriving p.row.now.items _ p.room.now.chosen.items p.room.now.sizes.items c.requires.placed.sizes in
    omega (arith, l, here, c.requires.placed.here, c.requires.few)

pub returns-then-len-self-clause-placed : goal.returns-then-len-self-clause-placed
returns-then-len-self-clause-placed c =
    let p = c.args.self.now in
    let here : length p.room.now.chosen.items ≡ p.arriving = sym c.len.ensures.value ∙ c.if-len-self.true in
    let e = own-dims (pairs p.q.now) c.args.part.now p.arriving p.row.now.items p.room.now.chosen.items here in
    enter-placed c.args.part.now p _ (chosen [] Present) (p.next + 1) 1 (record { arriving = refl; row = refl; query = refl; prepared = refl }) (record { dims = refl; line = refl; level = refl }) c.requires.apart c.requires.placed (sym (ap box_size e))
    c.push_own.ensures.items c.push.ensures.items c.push-then-len-self.ensures.items (omega (arith, here, c.requires.placed.here)) (own-light p.arriving (length p.room.now.chosen.items) here)
