use Rattle.std.proofs.Common.{◌∙◌, ap, sym}
use Rattle.sql_printer.specs.PrintedParts.{select_text}
use Rattle.sql_parser.specs.Resolution.{named_select}
use Rattle.sql_printer.proofs.PrintedText.{select_printed}
use Rattle.sql_printer.proofs.WritesBehind.{writes_as}
use Rattle.sql_printer.proofs.naming.print_query.Goals as goal

pub returns : goal.returns
returns g c = writes_as c.put_select.result _ _ _ _ (sym (select_printed (named_select c.args.catalog.now c.args.query.now)) ∙ ap select_text (sym c.named_select-select.ensures)) c.put_select.ensures
