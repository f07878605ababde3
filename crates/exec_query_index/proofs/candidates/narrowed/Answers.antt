use Rattle.std.proofs.Common.{◌≡◌, ◌∙◌, ◌+◌, ℕ, drop, sym, subst, arith, bit_and}
use Rattle.std.specs.Int.{bit_at}
use Rattle.std.proofs.lemmas.Grind.{common_steps}
use Rattle.exec_query_index.specs.Buckets.{narrowed}
use Rattle.exec_query_index.proofs.Marked.{held_more, none_left}
use Rattle.exec_query_index.proofs.candidates.narrowed.Goals as goal

pub loop-column-preserved : goal.loop-column-preserved
loop-column-preserved c = record {
  value = grind (arith, common_steps);
  held = λ k marks on. held_more c.args.row.now c.args.columns.now c.loop-column.left c.of-own.result.0 c.loop-column.column-index _ c.loop-column-test.true
      c.of-own.ensures.value c.of-own.ensures.machine k marks (c.loop-column.invariant.held k marks on);
}

pub returns-then-left-eq0-clause-value : goal.returns-then-left-eq0-clause-value
returns-then-left-eq0-clause-value c =
    let more : narrowed (bit_and c.loop-column.left c.of-own.result.0) c.args.row.now (drop (c.loop-column.column-index + 1) c.args.columns.now) ≡ narrowed c.args.word c.args.row.now c.args.columns.now
    = grind (arith, common_steps) in
    sym (none_left (drop (c.loop-column.column-index + 1) c.args.columns.now) c.args.row.now (bit_and c.loop-column.left c.of-own.result.0) c.if-left-eq0.true) ∙ more

pub returns-then-left-eq0-clause-held : goal.returns-then-left-eq0-clause-held
returns-then-left-eq0-clause-held c = λ k marks on.
    subst (λ (w : ℕ). bit_at w k ≡ 1) c.if-left-eq0.true
    (held_more c.args.row.now c.args.columns.now c.loop-column.left c.of-own.result.0 c.loop-column.column-index _ c.loop-column-test.true
    c.of-own.ensures.value c.of-own.ensures.machine k marks (c.loop-column.invariant.held k marks on))
