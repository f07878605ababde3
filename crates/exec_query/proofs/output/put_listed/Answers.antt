use Rattle.std.proofs.Common.{◌∙◌, arith}
use Rattle.exec_query.proofs.Lines.{lines_more, lines_broke, lines_all}
use Rattle.exec_query.proofs.output.put_listed.Goals as goal

pub returns-in-Err-clause-written : goal.returns-in-Err-clause-written
returns-in-Err-clause-written g c =
    lines_broke c.args.name.now c.args.table.now.entries _ c.entries.place c.waiting_entry-found.result.1 c.waiting_entry-found.result.0.now _ _ c.waiting_entry-found.ensures.entry c.entries.invariant.wrote c.in-Err.ensures.written

pub entries-preserved : goal.entries-preserved
entries-preserved g c = record {
  wrote = lines_more c.args.name.now c.args.table.now.entries _ c.entries.place c.waiting_entry-found.result.1 c.waiting_entry-found.result.0.now _ _ c.waiting_entry-found.ensures.entry c.entries.invariant.wrote c.in-Ok.ensures.written;
  same = c.in-Ok.ensures.same ∙ c.entries.invariant.same;
}

pub returns-clause-written : goal.returns-clause-written
returns-clause-written g c = lines_all c.args.name.now c.args.table.now.entries _ c.entries.place _ (omega arith) c.entries.invariant.wrote
