use Rattle.cmd_dispatch.proofs.session.run_session.Given as goal

abbrev pub ghosts-gather : goal.ghosts-gather
ghosts-gather g a = record { name = a.blank.name; parts = a.blank.parts }
