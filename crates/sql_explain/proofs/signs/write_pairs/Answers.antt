use Rattle.sql_explain.specs.Text.{sign_line}
use Rattle.sql_explain.proofs.SideBySide.{pair_broke, pair_wrote, pairs_wrote}
use Rattle.sql_explain.proofs.signs.write_pairs.Goals as goal

pub returns-in_err-write_sign : goal.returns-in_err-write_sign
returns-in_err-write_sign g c = pair_broke (sign_line c.args.catalog.now c.args.from.now) c.args.pairs.now c.args.signs.now c.loop-i.i _ _ c.from_residual.result _ _ _ c.requires.lengths c.from_residual.ensures.0 c.loop-i-test.true c.loop-i.invariant c.in_err-write_sign.ensures

pub loop-i-preserved : goal.loop-i-preserved
loop-i-preserved g c = pair_wrote (sign_line c.args.catalog.now c.args.from.now) c.args.pairs.now c.args.signs.now c.loop-i.i _ _ _ _ _ c.requires.lengths c.loop-i-test.true c.loop-i.invariant c.in_ok-write_sign.ensures

pub returns : goal.returns
returns g c = pairs_wrote (sign_line c.args.catalog.now c.args.from.now) c.args.pairs.now c.args.signs.now c.loop-i.i _ _ c.requires.lengths c.loop-i-test.false c.loop-i.invariant
