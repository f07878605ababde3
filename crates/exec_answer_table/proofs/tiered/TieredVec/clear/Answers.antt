use Rattle.std.proofs.Common.{◌≡◌, ℕ, ◌/◌, ◌%◌, length, get_or, arith, inl, inr}
use Rattle.std.proofs.lemmas.List.{with_items_is}
use Rattle.std.proofs.lemmas.Bool.{cases_lt}
use Rattle.exec_answer_table.proofs.Tiers.{no_items}
use Rattle.exec_answer_table.proofs.tiered.TieredVec.clear.Goals as goal

pub clear_heads-requires : goal.clear_heads-requires
clear_heads-requires c =
    let few = c.self.invariant.0.few in
    let blocks = c.self.invariant.0.blocks in
    let n = c.self.inside.numbers.ok.0 in
    rw c.deref_mut.ensures.value (omega (arith, c.len.ensures))

pub invariant_of-self : goal.invariant_of-self
invariant_of-self c =
    let few = c.self.invariant.0.few in
    let blocks = c.self.invariant.0.blocks in
    let all = c.self.invariant.1 in
    let m = c.self.inside.numbers.ok.0 in
    let n = c.self.inside.heads.ok.0 in
    let len : length c.clear_heads.new.heads ≡ length c.self.inside.heads.items = omega (arith, c.clear_heads.auto.heads, c.deref_mut.ensures.len) in
    let whole = with_items_is c.self.inside.heads c.clear_heads.new.heads (omega arith) in
    let others = simp c.deref_mut.ensures.value at c.clear_heads.ensures.others in
    let cleared = simp c.deref_mut.ensures.value at c.clear_heads.ensures.cleared in
    let zero : (block : ℕ) → get_or c.clear_heads.new.heads block 0 % 256 ≡ 0 =
    λ block.
    elim (cases_lt block (c.len.result / 256)) [
      | inl below ↦ let first = cleared block below in omega (arith, first)
      | inr past ↦
          let same = others block past in
          let plain = c.self.invariant.0.plain block (omega (arith, past, c.len.ensures)) in
          omega (arith, same, plain)
    ] in
    let own : (block : ℕ) → get_or c.self.inside.heads.items block 0 / 256 ≡ block → get_or c.clear_heads.new.heads block 0 / 256 ≡ block =
    λ block was.
    elim (cases_lt block (c.len.result / 256)) [
      | inl below ↦ let first = cleared block below in omega (arith, first, was)
      | inr past ↦ let same = others block past in omega (arith, same, was)
    ] in
    rw (whole, c.clear.ensures.items) (
      record {
        few = omega arith;
        blocks = omega (arith, len);
        own = λ block h. own block (c.self.invariant.0.own block (omega (arith, h, len)));
        plain = λ block _. zero block;
      },
      omega (arith, c.clear.ensures.capacity),
      λ _. zero,
    )

pub returns-clause-items : goal.returns-clause-items
returns-clause-items c = rw c.clear.ensures.items (no_items _)
