use Rattle.std.proofs.Common.{◌≡◌, ◌+◌, ◌*◌, ◌/◌, ℕ, get_or, set, arith, ap}
use Rattle.exec_answer_table.specs.Tiers.{place_of, number_at}
use Rattle.exec_answer_table.proofs.Tiers.{both, one_step, ended}
use Rattle.exec_answer_table.proofs.tiered.shift_block.Goals as goal

pub loop-place-preserved : goal.loop-place-preserved
loop-place-preserved c =
    let block : c.loop-place.place / 256 ≡ c.args.from / 256 = omega (arith, c.loop-place.auto.place, c.loop-place-test.true) in
    let head : get_or c.args.heads.now (c.loop-place.place / 256) 0 ≡ get_or c.args.heads.now (c.args.from / 256) 0 = ap (λ (b : ℕ). get_or c.args.heads.now b 0) block in
    let at : c.ring_place-at.result ≡ place_of c.args.heads.now c.loop-place.place = omega (arith, c.ring_place-at.ensures, head) in
    rw at
    (both
    (number_at c.args.numbers.now c.args.heads.now)
    (number_at c.loop-place.numbers c.args.heads.now)
    (number_at (set c.loop-place.numbers (place_of c.args.heads.now c.loop-place.place) c.loop-place.carried) c.args.heads.now)
    c.args.from c.loop-place.place (c.loop-place.place + 1) c.args.number c.loop-place.carried (number_at c.loop-place.numbers c.args.heads.now c.loop-place.place)
    c.loop-place.auto.place
    (omega arith)
    c.loop-place.invariant
    (one_step c.loop-place.numbers c.args.heads.now c.loop-place.place c.loop-place.carried (omega (arith, block, c.requires.inside, c.loop-place.auto.numbers))))

pub returns : goal.returns
returns c =
    ended (number_at c.args.numbers.now c.args.heads.now) (number_at c.loop-place.numbers c.args.heads.now) c.args.from c.loop-place.place ((c.args.from / 256 + 1) * 256) c.args.number c.loop-place.carried
    (omega (arith, c.loop-place-test.false, c.loop-place.auto.place-end))
    c.loop-place.invariant
