use Rattle.std.specs.Prelude.{is_ok}
use Rattle.exec_query_index.proofs.Pushed.{pushed}
use Rattle.exec_query_index.proofs.candidates.put_last.Goals as goal

pub returns : goal.returns
returns c = λ boxes others is. pushed boxes (is_ok c.push.result) c.args.columns.now.items c.push.new.self.items c.args.own c.push.ensures.items others is
