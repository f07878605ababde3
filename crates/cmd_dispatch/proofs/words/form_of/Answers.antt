use Rattle.cmd_dispatch.proofs.WordForms.{run_words}
use Rattle.cmd_dispatch.proofs.words.form_of.Goals as goal

pub returns-in-Some : goal.returns-in-Some
returns-in-Some c = run_words _ _ c.options.result c.in-Some.ensures c.options.ensures
