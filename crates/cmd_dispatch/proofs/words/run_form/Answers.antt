use Rattle.cmd_dispatch.proofs.WordForms.{within_limits}
use Rattle.cmd_dispatch.proofs.words.run_form.Goals as goal

pub returns-clause-within : goal.returns-clause-within
returns-clause-within c = within_limits c.args.words.now c.form_of.result c.form_of.ensures
