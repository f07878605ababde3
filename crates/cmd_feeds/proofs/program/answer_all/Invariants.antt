use Rattle.cmd_feeds.proofs.program.answer_all.Given as goal

abbrev pub ghosts-gather : goal.ghosts-gather
ghosts-gather g a = record { name = a.blank.name; parts = a.blank.parts }
