use Rattle.std.proofs.Common.{rules, ◌≡◌, ◌∙◌, subst, to_z, of_z}
use Rattle.std.specs.Int.{w128}
use Rattle.std.proofs.lemmas.Int.{to_z-of_z}
use Rattle.plan_closure.specs.Answers.{IsOutside}
use Rattle.fam_fooling_sets.proofs.Values.{first-inside}
use Rattle.fam_fooling_sets.proofs.searching.first_solution.Goals as goal

pub unreachable-requires : goal.unreachable-requires
unreachable-requires c =
    let y : to_z w128 (of_z w128 c.value_of-value.result) ≡ c.value_of-value.result = to_z-of_z w128 c.value_of-value.result (search rules) in
    first-inside c.args.bounds.now.constraints c.args.node c.lo.result c.hi.result c.lo.ensures.answer c.hi.ensures.answer
    (subst (IsOutside c.args.bounds.now.constraints c.args.node) (y ∙ c.value_of-value.ensures.value) c.in-None.ensures)
