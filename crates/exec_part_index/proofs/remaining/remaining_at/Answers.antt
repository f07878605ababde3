use Rattle.std.proofs.Common.{◌≡◌, ◌∙◌, ◌+◌, ◌-◌, ℕ, length, subst, arith, length-set}
use Rattle.std.proofs.lemmas.List.Elements.{All-set}
use Rattle.exec_part_index.specs.Span.{IsSpan}
use Rattle.exec_part_index.specs.PartIndex.{code_after}
use Rattle.exec_part_index.specs.Showing.{shown_signs}
use Rattle.exec_part_index.proofs.RemainingLaws.{AreListed, spans_kept, listed_more}
use Rattle.exec_part_index.proofs.remaining.remaining_at.Goals as goal

pub parts-preserved : goal.parts-preserved
parts-preserved c =
    let code : ℕ → ℕ = λ k. code_after 0 (shown_signs c.args.tested.now k) in
    let next : c.parts.i ≡ c.parts.i - 1 + 1 = omega arith in
    let below = c.parts.invariant.below in
    record {
      below = omega (arith, below);
      many = length-set c.parts.spans.items (c.parts.i - 1) c.in_ok-span.span ∙ c.parts.invariant.many;
      within = All-set (IsSpan (length c.listed.new.list.items)) c.parts.spans.items (c.parts.i - 1) c.in_ok-span.span c.in_ok-span.ensures.span
          (spans_kept c.parts.conditions.items c.listed.new.list.items c.parts.spans.items c.in_ok-span.ensures.kept c.parts.invariant.within);
      listed =
          listed_more c.args.q.now c.args.parts.now c.args.place c.args.tested.now.pairs.items code (c.parts.i - 1) c.parts.conditions.items c.listed.new.list.items c.in_ok-own.own.items
          c.parts.spans.items c.in_ok-span.span (omega (arith, below)) c.parts.invariant.many c.parts.invariant.within c.in_ok-span.ensures.kept (c.in_ok-span.ensures.own ∙ c.as_slice-in-parts.ensures.value)
          c.in_ok-own.ensures
          (subst (λ n. AreListed c.args.q.now c.args.parts.now c.args.place c.args.tested.now.pairs.items code n c.parts.conditions.items c.parts.spans.items) next c.parts.invariant.listed);
    }
