use Rattle.std.proofs.Common.{arith, ◌≤◌, ap, length, refl}
use Rattle.std.proofs.lemmas.Result.{err_from_is_err_and}
use Rattle.cert_maker.proofs.AtLeaf.{next_cycle}
use Rattle.cert_maker.proofs.Walks.{full, against, infeasible, whole_node, broke_less, broke_equal, last}
use Rattle.cert_maker.proofs.tree.+walk.Goals as goal

pub walk-add-requires : goal.walk-add-requires
walk-add-requires t c =
    let n = c.requires.node in
    let l : length c.args.bounds.now.constraints ≤ 300 = omega (arith, n.short, n.room, ap length n.constraints) in
    rw c.cycle_line.ensures.is (next_cycle c.args.bounds.now.constraints _ c.in-Some.numbers l c.cycle_line.ensures.few c.in-Some.ensures.0)

pub walk-returns-in-Some : goal.walk-returns-in-Some
walk-returns-in-Some t c = infeasible _ _ _ _ _ c.requires.node c.add.result c.in-Some.numbers _ _ _ c.in-Some.ensures.0 c.in-Some.ensures.1 c.requires.few (rw c.cycle_line.ensures.is at c.add.ensures)

pub walk-returns-in-None : goal.walk-returns-in-None
walk-returns-in-None t c = whole_node _ _ _ _ _ c.requires.node c.add_leaf.result _ _ _ _ _ c.if-signs-branches.true c.in-None.ensures (ap length c.attrs.ensures.value) c.add_leaf.ensures

pub split-returns-in_err-add : goal.split-returns-in_err-add
split-returns-in_err-add t c =
    let p = err_from_is_err_and c.from_residual.result c.from_residual.ensures.1 in
    rw (p.1, p.2) (full c.in_err-add.field-0.0 _ _ _ _ _ c.add.new.certificate _ _ _ c.in_err-add.ensures)

pub split-returns-in_err-subtree : goal.split-returns-in_err-subtree
split-returns-in_err-subtree t c =
    let p = err_from_is_err_and c.from_residual-in_err-subtree.result c.from_residual-in_err-subtree.ensures.1 in
    rw (p.1, p.2)
    (broke_less _ _ _ _ _ c.requires.node c.requires.room c.requires.satisfiable _ refl c.args.certificate.now c.add.new.certificate c.in_ok-add.ensures.1
    c.in_err-subtree.field-0.0 _ _ _ _ _ c.in_err-subtree.ensures)

pub split-returns-in_err-subtree-2 : goal.split-returns-in_err-subtree-2
split-returns-in_err-subtree-2 t c =
    let p = err_from_is_err_and c.from_residual-in_err-subtree-2.result c.from_residual-in_err-subtree-2.ensures.1 in
    rw (p.1, p.2)
    (broke_equal _ _ _ _ _ c.requires.node c.requires.room c.requires.satisfiable _ refl c.args.certificate.now c.add.new.certificate c.in_ok-add.ensures.1
    _ _ _ c.in_ok-subtree.ensures c.in_err-subtree-2.field-0.0 _ _ _ _ c.in_err-subtree-2.ensures)

pub split-returns : goal.split-returns
split-returns t c =
    last _ _ _ _ _ c.requires.node c.requires.room c.requires.satisfiable _ refl c.args.certificate.now c.add.new.certificate c.in_ok-add.ensures.1
    _ _ _ c.in_ok-subtree.ensures _ _ c.in_ok-subtree-2.ensures c.subtree-3.result _ _ c.subtree-3.ensures

pub subtree-returns-in-Some : goal.subtree-returns-in-Some
subtree-returns-in-Some t c = against _ _ _ c.add.result c.in-Some.number _ _ _ c.requires.node.limits c.in-Some.ensures c.requires.few c.add.ensures
