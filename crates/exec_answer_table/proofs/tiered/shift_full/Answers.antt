use Rattle.std.proofs.Common.{◌+◌, ◌*◌, ◌/◌, arith}
use Rattle.exec_answer_table.specs.Tiers.{number_at}
use Rattle.exec_answer_table.proofs.Tiers.{both}
use Rattle.exec_answer_table.proofs.tiered.shift_full.Goals as goal

pub returns-clause-shifted : goal.returns-clause-shifted
returns-clause-shifted c =
    both
    (number_at c.args.numbers.now c.args.heads.now)
    (number_at c.shift_block-carried.new.numbers c.args.heads.now)
    (number_at c.turn_blocks.new.numbers c.turn_blocks.new.heads)
    c.args.place ((c.args.place / 256 + 1) * 256) (c.args.full * 256) c.args.number c.shift_block-carried.result c.turn_blocks.result
    (omega arith)
    (omega (arith, c.requires.place))
    c.shift_block-carried.ensures
    c.turn_blocks.ensures.shifted
