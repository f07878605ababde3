use Rattle.law_each.proofs.ComingApart.{each_comes_apart}
use Rattle.law_each.proofs.laws.each_comes_apart.Goals as goal

pub returns : goal.returns
returns c = each_comes_apart
