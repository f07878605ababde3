use Rattle.std.specs.Prelude.{is_ok}
use Rattle.exec_query_index.proofs.Pushed.{put_before}
use Rattle.exec_query_index.proofs.candidates.put_first.Goals as goal

pub returns : goal.returns
returns c = λ boxes others is. put_before boxes (is_ok c.insert.result) c.args.columns.now.items c.insert.new.self.items c.args.own c.insert.ensures.items others is
