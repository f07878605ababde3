use Rattle.lib_c_interface.proofs.feed.Goals as goal

pub returns-clause-fed : goal.returns-clause-fed
returns-clause-fed c = record { outcome = c.feed-fed.result.outcome; told = c.number_of.ensures; fed = c.feed-fed.ensures }
