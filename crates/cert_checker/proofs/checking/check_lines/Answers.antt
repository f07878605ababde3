use Rattle.std.proofs.Common.{◌+◌, drop}
use Rattle.std.proofs.Math.ListN.{drop_of_length-le}
use Rattle.cert_checker.proofs.Lines.{ahead, rest_is}
use Rattle.cert_checker.proofs.Trees.{progress_more, progress_fault, few_nodes, few_read_leaves, ends_right}
use Rattle.cert_checker.proofs.checking.check_lines.Goals as goal

pub step-requires-clause-few_leaves : goal.step-requires-clause-few_leaves
step-requires-clause-few_leaves c = few_read_leaves c.args.q.now c.args.shown c.args.lines.now (drop c.loop-i.i c.args.lines.now) c.loop-i.walk c.requires.few c.loop-i.invariant

pub returns-in-Err : goal.returns-in-Err
returns-in-Err c = progress_fault c.args.q.now c.args.shown c.args.lines.now (drop c.loop-i.i c.args.lines.now) c.index-lines-i.result (drop (c.loop-i.i + 1) c.args.lines.now) c.loop-i.walk c.step.new.self c.in-Err.reason (ahead c.args.lines.now c.loop-i.i c.index-lines-i.result c.loop-i-test.true c.index-lines-i.is) c.loop-i.invariant (rw (rest_is c.args.lines.now (c.loop-i.i + 1)) at c.in-Err.ensures)

pub loop-i-preserved : goal.loop-i-preserved
loop-i-preserved c = progress_more c.args.q.now c.args.shown c.args.lines.now (drop c.loop-i.i c.args.lines.now) c.index-lines-i.result (drop (c.loop-i.i + 1) c.args.lines.now) c.loop-i.walk c.step.new.self tt (ahead c.args.lines.now c.loop-i.i c.index-lines-i.result c.loop-i-test.true c.index-lines-i.is) c.loop-i.invariant (rw (rest_is c.args.lines.now (c.loop-i.i + 1)) at c.in_default.ensures)

pub ended-requires : goal.ended-requires
ended-requires c = few_nodes c.args.q.now c.args.shown c.args.lines.now (drop c.loop-i.i c.args.lines.now) c.loop-i.walk c.requires.few c.loop-i.invariant

pub returns : goal.returns
returns c = ends_right c.args.q.now c.args.shown c.args.lines.now (drop c.loop-i.i c.args.lines.now) c.loop-i.walk c.ended.result (drop_of_length-le c.args.lines.now c.loop-i-test.false) c.loop-i.invariant c.ended.ensures
