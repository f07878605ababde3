use Rattle.exec_join.proofs.probe.Probe.new_behind.Goals as goal

pub returns-in-Nothing-clause-left : goal.returns-in-Nothing-clause-left
returns-in-Nothing-clause-left c read before after seen = absurd (c.requires.some c.in-Nothing.is)

pub returns-in-Nothing-clause-reads : goal.returns-in-Nothing-clause-reads
returns-in-Nothing-clause-reads c read before after seen = absurd (c.requires.some c.in-Nothing.is)
