use Rattle.std.proofs.Common.{◌+◌, ◌∷◌, [], ◌++◌, length}
use Rattle.sem_query.specs.declared.part.Sign.{Sign}
use Rattle.plan_split_parts.specs.Fronts.{signs_behind, candidates}
use Rattle.plan_split_parts.proofs.Reached.{pushes_on}
use Rattle.plan_split_parts.proofs.fronts.push_fronts.Goals as goal

pub returns-in-Ok : goal.returns-in-Ok
returns-in-Ok c =
    let q = c.args.q.now in
    let pre = c.args.front.now.signs.items in
    let n = length pre in
    pushes_on c.push_others.result q (n + 1) ((pre ++ Sign.Lt ∷ []) ∷ []) (candidates (signs_behind q n) pre) c.args.list.now.items c.push_front.new.list.items c.push_others.new.list.items c.in-Ok.ensures c.push_others.ensures
