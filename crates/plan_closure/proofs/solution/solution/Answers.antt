use Rattle.std.proofs.Common.{◌≡◌, pos, ◌+ℤ◌, nat_abs, ◌+◌, arith, ◌∙◌, ap, rules, to_z, of_z}
use Rattle.std.proofs.lemmas.Int.{to_z-of_z}
use mir.Syntax.{w128}
use Rattle.plan_closure.specs.Closure.{bound_at}
use Rattle.plan_constraints.specs.Reach.{reach}
use Rattle.plan_closure.specs.Pinned.{pinned}
use Rattle.plan_closure.proofs.Pin.{values_more}
use Rattle.plan_closure.proofs.solution.solution.Goals as goal

pub loop-k-preserved : goal.loop-k-preserved
loop-k-preserved c =
    let r : to_z w128 (of_z w128 c.value_of.result) ≡ c.value_of.result = to_z-of_z w128 c.value_of.result (search rules) in
    let l : to_z w128 (of_z w128 c.large_for-large.result) ≡ c.large_for-large.result = to_z-of_z w128 c.large_for-large.result (search rules) in (
      omega (arith, c.push.ensures.len, c.loop-k.invariant.0),
      values_more (λ y. reach (bound_at c.args.entries.now) (pinned c.args.i (to_z w128 (of_z w128 c.args.value)) (pos 100000000000000000 +ℤ pos (nat_abs (to_z w128 (of_z w128 c.args.value))))) (c.args.attrs + 1) y)
          c.loop-k.list.items c.push.new.self.items (to_z w128 (of_z w128 c.value_of.result)) c.loop-k.k c.loop-k.invariant.0 c.push.ensures.items (r ∙ c.value_of.ensures ∙ ap (λ z. reach (bound_at c.args.entries.now) (pinned c.args.i (to_z w128 (of_z w128 c.args.value)) z) (c.args.attrs + 1) (c.loop-k.k + 1)) (l ∙ c.large_for-large.ensures)) c.loop-k.invariant.1,
    )
