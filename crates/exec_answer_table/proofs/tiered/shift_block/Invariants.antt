use Rattle.exec_answer_table.specs.Tiers.{number_at, Shifted}
use Rattle.exec_answer_table.proofs.tiered.shift_block.Given as goal

abbrev pub invariant-loop-place : goal.invariant-loop-place
invariant-loop-place l = Shifted (number_at l.fn.numbers l.heads) (number_at l.numbers l.heads) l.from l.place l.number l.carried
