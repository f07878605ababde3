use Rattle.std.proofs.Common.{arith}
use Rattle.sql_script.proofs.Printed.{wrote-more, broke-at}
use Rattle.sql_script.proofs.printing.print_streams.Goals as goal

pub returns-in-Err : goal.returns-in-Err
returns-in-Err g c = broke-at _ _ _ c.args.catalog.now c.loop-number.number (omega (arith, c.loop-number-test.true, c.len-number-end.ensures.len)) c.loop-number.invariant c.in-Err.ensures

pub loop-number-preserved : goal.loop-number-preserved
loop-number-preserved g c = wrote-more _ _ _ c.args.catalog.now c.loop-number.number (omega (arith, c.loop-number-test.true, c.len-number-end.ensures.len)) c.loop-number.invariant c.in-Ok.ensures
