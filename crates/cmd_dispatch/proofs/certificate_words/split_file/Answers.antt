use Rattle.cmd_dispatch.proofs.ScriptForms.{advise_split_words}
use Rattle.cmd_dispatch.proofs.certificate_words.split_file.Goals as goal

pub returns-in-Some : goal.returns-in-Some
returns-in-Some c = advise_split_words _ _ c.file_behind_split.result c.in-Some.ensures c.file_behind_split.ensures
