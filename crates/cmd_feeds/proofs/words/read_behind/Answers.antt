use Rattle.cmd_feeds.proofs.WordForms.{read-behind}
use Rattle.cmd_feeds.proofs.words.read_behind.Goals as goal

pub returns-in-None : goal.returns-in-None
returns-in-None c = λ limit script names ask. c.in-None.ensures limit script names ask.options

pub returns-in-Some : goal.returns-in-Some
returns-in-Some c = read-behind _ c.in-Some.options c.names_behind.result c.in-Some.ensures c.names_behind.ensures
