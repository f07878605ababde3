use Rattle.std.proofs.Common.{◌+◌, ◌∷◌, [], ◌++◌, length, OnOk, sym, subst, arith}
use Rattle.sem_query.specs.declared.part.Sign.{Sign}
use Rattle.plan_split_parts.specs.Fronts.{Pushes}
use Rattle.plan_split_parts.proofs.Reached.{pushes_on, behind_others}
use Rattle.plan_split_parts.proofs.fronts.push_others.Goals as goal

pub returns-in-Ok : goal.returns-in-Ok
returns-in-Ok c =
    let q = c.args.q.now in
    let pre = c.args.front.now.signs.items in
    let n = length pre in
    let before = c.args.list.now.items in
    let after = c.push_front-in-Ok.new.list.items in
    subst (λ z. OnOk c.push_front-in-Ok.result (Pushes q (n + 1) z before after)) (sym (behind_others q n c.args.unlikes pre c.requires.pairs.unlikes (omega (arith, c.if-len-unlikes.false, c.len.ensures.value))))
    (pushes_on c.push_front-in-Ok.result q (n + 1) ((pre ++ Sign.Eq ∷ []) ∷ []) ((pre ++ Sign.Gt ∷ []) ∷ []) before c.push_front-2.new.list.items after c.in-Ok.ensures c.push_front-in-Ok.ensures)
