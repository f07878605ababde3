use Rattle.io_streams.proofs.Writing.{Wrote-trans, BrokeOff-then, BrokeOff-stop}
use Rattle.sql_explain.proofs.Writers.{broke, writes_after}
use Rattle.sql_explain.proofs.parts.write_part.Goals as goal

pub returns-in_err-write_part_line : goal.returns-in_err-write_part_line
returns-in_err-write_part_line g c = broke _ _ _ _ c.from_residual.ensures.0
    (BrokeOff-stop _ _ _ _ (BrokeOff-stop _ _ _ _ (BrokeOff-stop _ _ _ _ c.in_err-write_part_line.ensures)))

pub returns-in_err-write_signs : goal.returns-in_err-write_signs
returns-in_err-write_signs g c =
    let signs = rw (c.as_slice.ensures.value) at c.in_err-write_signs.ensures in
    broke _ _ _ _ c.from_residual-in_err-write_signs.ensures.0
    (BrokeOff-stop _ _ _ _ (BrokeOff-stop _ _ _ _ (BrokeOff-then _ _ _ _ _ c.in_ok-write_part_line.ensures signs)))

pub returns-in_err-write_links : goal.returns-in_err-write_links
returns-in_err-write_links g c =
    let signs = rw (c.as_slice.ensures.value) at c.in_ok-write_signs.ensures in
    let links = rw (c.from-from.ensures.value) at c.in_err-write_links.ensures in
    broke _ _ _ _ c.from_residual-in_err-write_links.ensures.0
    (BrokeOff-stop _ _ _ _ (BrokeOff-then _ _ _ _ _ (Wrote-trans _ _ _ _ _ c.in_ok-write_part_line.ensures signs) links))

pub returns : goal.returns
returns g c =
    let signs = rw (c.as_slice.ensures.value) at c.in_ok-write_signs.ensures in
    let links = rw (c.from-from.ensures.value) at c.in_ok-write_links.ensures in
    let streams = rw (c.from-from.ensures.value, c.as_slice-2.ensures.value) at c.write_streams.ensures in
    writes_after _ _ _ _ _ _ (Wrote-trans _ _ _ _ _ (Wrote-trans _ _ _ _ _ c.in_ok-write_part_line.ensures signs) links) streams
