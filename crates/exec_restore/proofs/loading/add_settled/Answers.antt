use Rattle.std.proofs.Common.{not, sym, ap, ◌∙◌}
use Rattle.exec_answer_table.proofs.Tuples.{has_tuple}
use Rattle.exec_restore.proofs.loading.add_settled.Goals as goal

pub returns-then-fresh-clause-value : goal.returns-then-fresh-clause-value
returns-then-fresh-clause-value c = c.add_new-fresh.ensures.fresh ∙ ap not (sym (has_tuple c.args.t.now.items c.args.table.now.entries))

pub returns-else-fresh-clause-value : goal.returns-else-fresh-clause-value
returns-else-fresh-clause-value c = c.add_new-fresh.ensures.fresh ∙ ap not (sym (has_tuple c.args.t.now.items c.args.table.now.entries))
