use Rattle.std.proofs.Common.{rules, ◌≡◌, ◌∙◌, ap, subst, to_z, of_z}
use Rattle.std.specs.Int.{w128}
use Rattle.std.proofs.lemmas.Int.{to_z-of_z}
use Rattle.plan_closure.specs.Answers.{IsOutside}
use Rattle.fam_fooling_sets.specs.Members.{value_for, target_for}
use Rattle.fam_fooling_sets.proofs.Values.{never-outside}
use Rattle.fam_fooling_sets.proofs.ground.solution.Goals as goal

pub unreachable-requires : goal.unreachable-requires
unreachable-requires c =
    let g = c.args.ground.now in
    let v : c.value_of.result ≡ value_for g.low g.high c.args.number = c.value_of.ensures.value in
    let x : to_z w128 (of_z w128 c.value_of.result) ≡ c.value_of.result = to_z-of_z w128 c.value_of.result (search rules) in
    let y : to_z w128 (of_z w128 c.target-value.result) ≡ c.target-value.result = to_z-of_z w128 c.target-value.result (search rules) in
    let e : c.target-value.result ≡ target_for g.node (value_for g.low g.high c.args.number) = c.target-value.ensures.value ∙ ap (target_for g.node) (x ∙ v) in
    never-outside g c.requires c.args.number (subst (IsOutside g.bounds.now.constraints g.node) (y ∙ e) c.in-None.ensures)
