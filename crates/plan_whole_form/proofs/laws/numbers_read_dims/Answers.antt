use Rattle.plan_whole_form.proofs.Counting.{numbers_read_dims}
use Rattle.plan_whole_form.proofs.laws.numbers_read_dims.Goals as goal

pub returns : goal.returns
returns c = numbers_read_dims
