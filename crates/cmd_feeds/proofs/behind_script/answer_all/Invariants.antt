use Rattle.cmd_feeds.proofs.behind_script.answer_all.Given as goal

abbrev pub ghosts-gather_behind : goal.ghosts-gather_behind
ghosts-gather_behind g a = record { name = a.blank.name; parts = a.blank.parts }
