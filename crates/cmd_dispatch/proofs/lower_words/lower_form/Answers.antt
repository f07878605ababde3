use Rattle.cmd_dispatch.proofs.LowerForms.{within_family_sizes}
use Rattle.cmd_dispatch.proofs.lower_words.lower_form.Goals as goal

pub returns-clause-within : goal.returns-clause-within
returns-clause-within c = within_family_sizes c.args.words.now c.form_of.result c.form_of.ensures
