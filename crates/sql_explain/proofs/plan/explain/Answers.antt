use Rattle.io_streams.proofs.Writing.{Wrote-trans, BrokeOff-then, BrokeOff-stop}
use Rattle.sql_explain.proofs.Writers.{broke, writes_after}
use Rattle.sql_explain.proofs.plan.explain.Goals as goal

pub returns-in_err-write_name_line : goal.returns-in_err-write_name_line
returns-in_err-write_name_line g c =
    let name = rw (c.bytes.ensures.bytes) at c.in_err-write_name_line.ensures in
    broke _ _ _ _ c.from_residual.ensures.0 (BrokeOff-stop _ _ _ _ (BrokeOff-stop _ _ _ _ (BrokeOff-stop _ _ _ _ name)))

pub returns-in_err-write_query_line : goal.returns-in_err-write_query_line
returns-in_err-write_query_line g c =
    let name = rw (c.bytes.ensures.bytes) at c.in_ok-write_name_line.ensures in
    broke _ _ _ _ c.from_residual-in_err-write_query_line.ensures.0 (BrokeOff-stop _ _ _ _ (BrokeOff-stop _ _ _ _ (BrokeOff-then _ _ _ _ _ name c.in_err-write_query_line.ensures)))

pub returns-in_err-write_plan : goal.returns-in_err-write_plan
returns-in_err-write_plan g c =
    let name = rw (c.bytes.ensures.bytes) at c.in_ok-write_name_line.ensures in
    broke _ _ _ _ c.from_residual-in_err-write_plan.ensures.0
    (BrokeOff-stop _ _ _ _ (BrokeOff-then _ _ _ _ _ (Wrote-trans _ _ _ _ _ name c.in_ok-write_query_line.ensures) c.in_err-write_plan.ensures))

pub returns : goal.returns
returns g c =
    let name = rw (c.bytes.ensures.bytes) at c.in_ok-write_name_line.ensures in
    let again = rw (c.bytes-2.ensures.bytes) at c.write_name_line-2.ensures in
    writes_after _ _ _ _ _ _ (Wrote-trans _ _ _ _ _ (Wrote-trans _ _ _ _ _ name c.in_ok-write_query_line.ensures) c.in_ok-write_plan.ensures) again
