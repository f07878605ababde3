use Rattle.std.proofs.Common.{◌++◌, codes}
use Rattle.sql_printer.specs.PrintedParts.{coldef_text}
use Rattle.sql_printer.proofs.WritesBehind.{stops_at_item}
use Rattle.sql_printer.proofs.printing.put_more_coldefs.Goals as goal

pub returns-in-Err : goal.returns-in-Err
returns-in-Err g c = stops_at_item (λ x. codes ", " ++ coldef_text x) c.args.columns.now c.loop-column.column-index c.column-item.result _ _ _ c.column-item.is c.loop-column-test.true c.loop-column.invariant c.in-Err.ensures
