use Rattle.cmd_dispatch.proofs.LoadForms.{within_sizes}
use Rattle.cmd_dispatch.proofs.load_words.load_rows.Goals as goal

pub returns-clause-within : goal.returns-clause-within
returns-clause-within c = within_sizes c.args.words.now c.rows_of.result c.rows_of.ensures
