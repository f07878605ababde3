use Rattle.std.proofs.Common.{◌∙◌}
use Rattle.exec_restore.proofs.CellKinds.{kind-none-told, kind-plan-told}
use Rattle.exec_restore.proofs.loading.kind_of.Goals as goal

pub returns-in-Filter : goal.returns-in-Filter
returns-in-Filter c = kind-none-told c.args.shared c.args.q.now c.args.plan.now c.args.i c.in-Filter.is

pub returns-in-Parts : goal.returns-in-Parts
returns-in-Parts c =
    c.kind_among.ensures ∙ kind-plan-told c.args.shared c.args.q.now c.args.plan.now c.in-Parts.parts c.in-Parts.numbers c.args.i c.in-Parts.is c.requires
