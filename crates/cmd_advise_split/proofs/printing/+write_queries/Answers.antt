use Rattle.sql_printer.proofs.WritesBehind.{writes_then, writes_stop}
use Rattle.cmd_advise_split.proofs.Texts.{queries-first}
use Rattle.cmd_advise_split.proofs.printing.+write_queries.Goals as goal

pub returns-in-Ok : goal.returns-in-Ok
returns-in-Ok g t c =
    writes_then c.write_queries.result _ _ _ _ _ _
    (queries-first c.args.names.now c.args.judgements.now c.args.ranges.now _ c.name-item.result _ _ c.in-len1-up.len_at_least c.bytes.ensures.bytes c.name-item.is c.in-len1-up-judgements.len_at_least
    c.in-len1-up-ranges.len_at_least)
    c.in-Ok.ensures c.write_queries.ensures

pub returns-in-Err : goal.returns-in-Err
returns-in-Err g t c =
    writes_stop _ _ _ _ _
    (queries-first c.args.names.now c.args.judgements.now c.args.ranges.now _ c.name-item.result _ _ c.in-len1-up.len_at_least c.bytes.ensures.bytes c.name-item.is c.in-len1-up-judgements.len_at_least
    c.in-len1-up-ranges.len_at_least)
    c.in-Err.ensures
