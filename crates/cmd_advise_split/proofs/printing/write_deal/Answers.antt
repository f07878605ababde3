use Rattle.std.proofs.Common.{length, arith}
use Rattle.sql_explain.proofs.Writers.{broke}
use Rattle.cmd_advise_split.specs.Text.{stream_text}
use Rattle.cmd_advise_split.proofs.Texts.{number-wrote, number-broke, numbers-wrote}
use Rattle.cmd_advise_split.proofs.printing.write_deal.Goals as goal

pub returns-in_err-write_stream : goal.returns-in_err-write_stream
returns-in_err-write_stream g c =
    broke _ _ _ _ c.from_residual.ensures.0 (number-broke (stream_text c.args.catalog.now c.args.choice.now) (length c.args.catalog.now) _ _ _ c.loop-number.number (omega (arith, c.loop-number-test.true, c.len-number-end.ensures.len)) c.loop-number.invariant
    c.in_err-write_stream.ensures)

pub loop-number-preserved : goal.loop-number-preserved
loop-number-preserved g c =
    number-wrote (stream_text c.args.catalog.now c.args.choice.now) (length c.args.catalog.now) _ _ _ c.loop-number.number (omega (arith, c.loop-number-test.true, c.len-number-end.ensures.len)) c.loop-number.invariant
    c.in_ok-write_stream.ensures

pub returns : goal.returns
returns g c =
    numbers-wrote (stream_text c.args.catalog.now c.args.choice.now) (length c.args.catalog.now) c.loop-number.number _ _ (omega (arith, c.loop-number-test.false, c.len-number-end.ensures.len)) c.loop-number.invariant
