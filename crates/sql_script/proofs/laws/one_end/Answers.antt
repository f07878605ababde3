use Rattle.sql_script.proofs.OneEnd as ends
use Rattle.sql_script.proofs.laws.one_end.Goals as goal

pub returns : goal.returns
returns c = ends.one_end
