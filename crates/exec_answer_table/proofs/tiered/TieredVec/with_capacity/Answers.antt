use Rattle.std.proofs.Common.{◌≡◌, ℕ, ◌+◌, ◌/◌, ◌%◌, get_or, refl, arith, inl, inr}
use Rattle.std.proofs.lemmas.Bool.{cases_lt}
use Rattle.std.proofs.lemmas.List.{get_or_past}
use Rattle.exec_answer_table.proofs.Tiers.{no_items}
use Rattle.exec_answer_table.proofs.tiered.TieredVec.with_capacity.Goals as goal

pub invariant_of-result : goal.invariant_of-result
invariant_of-result c =
    let len = c.in_ok-heads.ensures.length in
    let zero : (block : ℕ) → get_or c.in_ok-heads.heads.items block 0 % 256 ≡ 0 =
    λ block.
    elim (cases_lt block (c.args.room / 256 + 1)) [
      | inl below ↦ let first = c.in_ok-heads.ensures.first block below in omega (arith, first)
      | inr past ↦ let none = get_or_past c.in_ok-heads.heads.items block 0 (omega (arith, past, len)) in omega (arith, none)
    ] in
    rw c.in_ok-numbers.ensures.items (
      record {
        few = omega arith;
        blocks = omega (arith, len);
        own = λ block h. let first = c.in_ok-heads.ensures.first block (omega (arith, h, len)) in omega (arith, first);
        plain = λ block _. zero block;
      },
      c.in_ok-numbers.ensures.capacity,
      λ _ block. zero block,
    )

pub returns : goal.returns
returns c =
    rw (c.in_ok-numbers.ensures.items, no_items c.in_ok-heads.heads.items) refl
