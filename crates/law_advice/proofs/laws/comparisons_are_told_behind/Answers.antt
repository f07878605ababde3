use Rattle.law_advice.proofs.ToldChanges.{comparisons-are-told-behind}
use Rattle.law_advice.proofs.laws.comparisons_are_told_behind.Goals as goal

pub returns : goal.returns
returns c = comparisons-are-told-behind
