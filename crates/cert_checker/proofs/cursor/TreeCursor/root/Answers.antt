use Rattle.std.proofs.Common.{◌≤◌, List, length, subst}
use Rattle.sem_query.specs.Query.{attrs_of}
use Rattle.plan_constraints.specs.declared.constraint.Constraint.{Constraint}
use Rattle.cert_checker.proofs.Standing.{stands_root, within_12}
use Rattle.cert_checker.proofs.cursor.TreeCursor.root.Goals as goal

pub returns-clause-stands : goal.returns-clause-stands
returns-clause-stands c =
    let r = c.root_constraints.ensures in
    let w = within_12 (length (attrs_of c.args.q.now.atoms)) c.root_constraints.result.items r.limits.few_attrs r.within in
    stands_root c.args.q.now c.args.shown record { signs = c.new.result; constraints = c.root_constraints.result } c.new.ensures r.constraints w c.requires.room (subst (λ (z : List Constraint). length z ≤ 72) r.constraints r.few) r.limits
