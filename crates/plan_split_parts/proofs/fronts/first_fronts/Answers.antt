use Rattle.std.proofs.Common.{[], ◌∷◌, ◌++◌, sym, ◌∙◌, ap, subst}
use Rattle.plan_split_parts.specs.declared.front.Front.{Front}
use Rattle.plan_split_parts.specs.Fronts.{AreFronts}
use Rattle.plan_split_parts.proofs.Listed.{first_none, denied_first, no_first, first_one}
use Rattle.plan_split_parts.proofs.fronts.first_fronts.Goals as goal

pub returns-then-has_denial : goal.returns-then-has_denial
returns-then-has_denial c = rw c.new-list.ensures.items (first_none c.args.q.now (denied_first c.args.q.now (rw c.has_denial.ensures at c.if-has_denial.true)))

pub returns-then-not-satisfiable : goal.returns-then-not-satisfiable
returns-then-not-satisfiable c =
    rw c.new-list.ensures.items (first_none c.args.q.now (no_first c.args.q.now c.distances_of-distances.ensures.limits (λ s. let y = (c.satisfiable.ensures _ _ c.distances_of-distances.ensures.distances).1 s in cc)))

pub returns-in-Ok : goal.returns-in-Ok
returns-in-Ok c =
    let g : Front = record { signs = c.new-signs.result; distances = c.distances_of-distances.result } in
    subst (AreFronts c.args.q.now 0) (sym (c.in-Ok.ensures.items ∙ ap (λ z. z ++ g ∷ []) c.new-list.ensures.items))
    (first_one c.args.q.now c.distances_of-distances.ensures.limits g c.new-signs.ensures c.distances_of-distances.ensures.distances
    ((c.satisfiable.ensures _ _ c.distances_of-distances.ensures.distances).0 c.if-not-satisfiable.false) (rw c.has_denial.ensures at c.if-has_denial.false))
