use Rattle.std.proofs.Common.{◌≡◌, ◌+◌, ◌-◌, ◌*◌, ◌%◌, ℕ, get_or, set, arith, ap, inl, inr, ◌∙◌, get_or-set_same, get_or-set_other}
use Rattle.std.proofs.lemmas.Bool.{cases_eq}
use Rattle.exec_answer_table.specs.Tiers.{number_at}
use Rattle.exec_answer_table.proofs.Tiers.{both, one_turn, ended}
use Rattle.exec_answer_table.proofs.tiered.turn_blocks.Goals as goal

pub loop-block-preserved : goal.loop-block-preserved
loop-block-preserved c =
    let at : ℕ = c.loop-block.block * 256 + (get_or c.loop-block.heads c.loop-block.block 0 % 256 + 256 - 1) % 256 in
    let inside = c.requires.inside in
    let heads = c.requires.heads in
    record {
      own = λ block was.
          elim (cases_eq block c.loop-block.block) [
            | inl e ↦
                let here : get_or (set c.loop-block.heads c.loop-block.block at) block 0 ≡ at =
                ap (λ (b : ℕ). get_or (set c.loop-block.heads c.loop-block.block at) b 0) e
                ∙ get_or-set_same c.loop-block.heads c.loop-block.block at 0 (omega (arith, heads, c.loop-block.auto.heads, c.loop-block-test.true)) in
                omega (arith, here, e)
            | inr ne ↦
                let there = get_or-set_other c.loop-block.heads c.loop-block.block block at 0 ne in
                let kept = c.loop-block.invariant.own block was in
                omega (arith, there, kept)
          ];
      others = λ block h.
          get_or-set_other c.loop-block.heads c.loop-block.block block at 0 (λ e. omega (arith, e, h))
          ∙ c.loop-block.invariant.others block (omega (arith, h));
      shifted = both
          (number_at c.args.numbers.now c.args.heads.now)
          (number_at c.loop-block.numbers c.loop-block.heads)
          (number_at (set c.loop-block.numbers at c.loop-block.carried) (set c.loop-block.heads c.loop-block.block at))
          (c.args.from * 256) (c.loop-block.block * 256) ((c.loop-block.block + 1) * 256) c.args.number c.loop-block.carried (get_or c.loop-block.numbers at 0)
          (omega (arith, c.loop-block.auto.block))
          (omega arith)
          c.loop-block.invariant.shifted
          (one_turn c.loop-block.numbers c.loop-block.heads c.loop-block.block at c.loop-block.carried
          (omega arith)
          (omega (arith, heads, c.loop-block.auto.heads, c.loop-block-test.true))
          (omega (arith, inside, c.loop-block.auto.numbers, c.loop-block-test.true)));
    }

pub returns-clause-shifted : goal.returns-clause-shifted
returns-clause-shifted c =
    ended (number_at c.args.numbers.now c.args.heads.now) (number_at c.loop-block.numbers c.loop-block.heads) (c.args.from * 256) (c.loop-block.block * 256) (c.args.to * 256) c.args.number c.loop-block.carried
    (omega (arith, c.loop-block-test.false, c.loop-block.auto.block-end))
    c.loop-block.invariant.shifted
