use Rattle.sql_explain.specs.Text.{stream_text}
use Rattle.sql_explain.proofs.Writers.{read_broke}
use Rattle.sql_explain.proofs.streams.write_streams.Goals as goal

pub returns-in_err-write_stream : goal.returns-in_err-write_stream
returns-in_err-write_stream g c = read_broke (stream_text c.args.catalog.now c.args.from.now) c.args.streams.now c.loop-stream.stream-index c.stream-item.result c.from_residual.result _ _ _ c.stream-item.is c.from_residual.ensures.0 c.loop-stream-test.true c.loop-stream.invariant c.in_err-write_stream.ensures
