use Rattle.std.proofs.Common.{List, ℕ, arith, length-drop, refl, subst}
use Rattle.io_row_reader.proofs.NamesAhead.{some_ended}
use Rattle.cmd_session.specs.Counted.{IsSparedRow, none, more}
use Rattle.cmd_session.proofs.counting.spared_rows.Goals as goal

pub counting-init : goal.counting-init
counting-init c = record { rows = none refl refl; within = some_ended c.args.text.now c.requires.ended; few = omega arith }

pub counting-preserved : goal.counting-preserved
counting-preserved c =
    let rows = c.counting.rows in
    let row = subst (λ (t : List ℕ). IsSparedRow c.args.streams.now.streams c.args.streams.now.opened c.args.registry.now.live t c.in-Some.len) c.split_at.ensures.back c.in-Some.ensures in
    record {
      rows = more rows.count rows.begin c.in-Some.len c.counting.invariant.rows row refl refl;
      within = omega (arith, row.row.row.before, length-drop rows.end c.args.text.now);
      few = omega (arith, c.counting-test.true);
    }
