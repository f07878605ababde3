use Rattle.std.proofs.Common.{◌<◌, ℕ, ℤ, length, sym, subst}
use Rattle.arrayvec.specs.ArrayVec.{ArrayVec as Items}
use Rattle.sql_printer.proofs.WritesBehind.{stops_at_item}
use Rattle.fam_text.specs.Text.{asked_text}
use Rattle.fam_text.proofs.printing.write_asked.Goals as goal

pub write_asked_row-requires : goal.write_asked_row-requires
write_asked_row-requires g c = subst (λ (r : ℕ × Items ℤ). r.0 < length c.args.catalog.now) (sym c.index-asked-i.is) (c.requires c.loop-i.i c.index-asked-i.result c.loop-i-test.true)

pub returns-in-Err : goal.returns-in-Err
returns-in-Err g c =
    stops_at_item (asked_text c.args.catalog.now c.args.number) c.args.asked.now c.loop-i.i c.index-asked-i.result _ _ _ c.index-asked-i.is c.loop-i-test.true c.loop-i.invariant c.in-Err.ensures
