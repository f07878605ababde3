use Rattle.std.proofs.Common.{◌++◌, codes}
use Rattle.sql_printer.specs.PrintedParts.{name_text}
use Rattle.sql_printer.proofs.WritesBehind.{stops_at_item}
use Rattle.sql_printer.proofs.printing.put_more_names.Goals as goal

pub returns-in-Err : goal.returns-in-Err
returns-in-Err g c = stops_at_item (λ x. codes ", " ++ name_text x) c.args.names.now c.loop-name.name-index c.name-item.result _ _ _ c.name-item.is c.loop-name-test.true c.loop-name.invariant c.in-Err.ensures
