use Rattle.std.specs.List.{flat_map}
use Rattle.io_streams.proofs.Writing.{BrokeOff-stop}
use Rattle.fam_text.specs.Text.{own_text, asked_text}
use Rattle.sql_printer.proofs.WritesBehind.{writes_behind}
use Rattle.fam_text.proofs.printing.write_member.Goals as goal

pub returns-in-Ok : goal.returns-in-Ok
returns-in-Ok g c =
    writes_behind c.write_asked.result _ _ _ (own_text c.args.catalog.now c.args.stream c.args.number c.args.row.now.items)
    (flat_map (asked_text c.args.catalog.now c.args.number) c.args.asked.now) c.in-Ok.ensures c.write_asked.ensures

pub returns-in-Err : goal.returns-in-Err
returns-in-Err g c =
    BrokeOff-stop _ _ (own_text c.args.catalog.now c.args.stream c.args.number c.args.row.now.items)
    (flat_map (asked_text c.args.catalog.now c.args.number) c.args.asked.now) c.in-Err.ensures
