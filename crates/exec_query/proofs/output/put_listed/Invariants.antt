use Rattle.std.proofs.Common.{◌≡◌, take}
use Rattle.io_streams.specs.Sink.{Wrote}
use Rattle.exec_answer_table.specs.Entries.{waiting_entries}
use Rattle.exec_query.specs.Executor.{spelled}
use Rattle.exec_query.specs.Written.{answer_lines}
use Rattle.exec_query.proofs.output.put_listed.Given as goal

abbrev pub invariant-entries : goal.invariant-entries
invariant-entries g l = record {
  wrote : Wrote (g.O.Sink.seen l.fn.out) (g.O.Sink.seen l.out) (answer_lines l.name (spelled (take l.place (waiting_entries l.table.entries))));
  same : l.lines ≡ l.fn.lines;
}
