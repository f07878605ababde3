use Rattle.cmd_dispatch.proofs.load.load.Given as goal

abbrev pub ghosts-answer_script : goal.ghosts-answer_script
ghosts-answer_script g a = record { name = a.blank.name; parts = a.blank.parts }
