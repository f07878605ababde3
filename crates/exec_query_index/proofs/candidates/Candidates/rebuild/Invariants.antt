use Rattle.exec_query_index.specs.Buckets.{AreNamed, AreColumns}
use Rattle.exec_query_index.proofs.candidates.Candidates.rebuild.Given as goal

abbrev pub invariant-loop-column : goal.invariant-loop-column
invariant-loop-column l = record {
  named : AreNamed l.boxes l.self.named;
  columns : AreColumns l.boxes l.self.columns.items;
}
