use Rattle.std.proofs.Common.{arith}
use Rattle.exec_pool.proofs.Apart.{lent_held, are_apart}
use Rattle.exec_pool.proofs.pool.Pool.free.Goals as goal

pub returns-clause-others : goal.returns-clause-others
returns-clause-others c =
    let lent = lent_held c.self.inside.page_table.items c.self.inside.slots.items in
    let counted = c.self.invariant.0.counted in
    rw (← c.self.view_is) (omega arith)

pub returns-clause-apart : goal.returns-clause-apart
returns-clause-apart c =
    rw (← c.self.view_is)
    (are_apart c.self.inside.cells.cells c.self.inside.page_table.items c.self.inside.spare.items c.self.inside.slots.items c.self.inside.free c.self.inside.pages c.self.invariant.0)
