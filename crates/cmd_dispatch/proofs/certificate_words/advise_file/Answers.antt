use Rattle.cmd_dispatch.proofs.ScriptForms.{advise_words}
use Rattle.cmd_dispatch.proofs.certificate_words.advise_file.Goals as goal

pub returns-in-Some : goal.returns-in-Some
returns-in-Some c = advise_words _ _ c.last_words.result c.in-Some.ensures c.last_words.ensures
