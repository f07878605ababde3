use Rattle.plan_whole.proofs.Streaming.{least_told, greatest_told}
use Rattle.plan_whole.proofs.streams.is_of_extreme.Goals as goal

pub returns-in-Least : goal.returns-in-Least
returns-in-Least c = least_told c.args.closed.now c.args.kind c.args.a c.in-Least.extreme c.are_one_class.result c.in-Least.is c.are_one_class.ensures

pub returns-in-Greatest : goal.returns-in-Greatest
returns-in-Greatest c = greatest_told c.args.closed.now c.args.kind c.args.a c.in-Greatest.extreme c.are_one_class-in-Greatest.result c.in-Greatest.is c.are_one_class-in-Greatest.ensures
