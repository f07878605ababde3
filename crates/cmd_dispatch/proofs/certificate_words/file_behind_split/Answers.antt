use Rattle.cmd_dispatch.proofs.ScriptForms.{split_words}
use Rattle.cmd_dispatch.proofs.certificate_words.file_behind_split.Goals as goal

pub returns-in-Some : goal.returns-in-Some
returns-in-Some c = split_words _ _ c.last_words.result c.in-Some.ensures c.last_words.ensures
