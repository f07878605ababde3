use Rattle.std.proofs.Common.{◌++◌, codes}
use Rattle.std.specs.Fmt.{signed_decimal}
use Rattle.io_streams.proofs.Writing.{BrokeOff-at}
use Rattle.sql_printer.proofs.printing.put_each_value.Goals as goal

pub returns-in-Err : goal.returns-in-Err
returns-in-Err g c = BrokeOff-at (λ x. codes " " ++ signed_decimal x) c.args.values.now c.loop-value.value-index _ _ _ _ c.loop-value-test.true c.loop-value.invariant c.in-Err.ensures
