use Rattle.std.proofs.Common.{codes, refl}
use Rattle.adv_lines.specs.Items.{range_item}
use Rattle.adv_lines.proofs.Texts.{headed_wrote, headed_broke, lead_more}
use Rattle.adv_lines.proofs.items.write_ranges.Goals as goal

pub returns-in_err-write_range : goal.returns-in_err-write_range
returns-in_err-write_range g c =
    headed_broke (range_item c.args.names.now.catalog.now c.args.names.now.from.now) (codes " by ") (codes ", ") c.from_residual.result _ c.args.dims.now c.loop-dim.dim-index _ _ _ _ c.from_residual.ensures.0 c.loop-dim-test.true
    c.loop-dim.invariant.lead c.loop-dim.invariant.wrote c.in_err-write_range.ensures

pub loop-dim-preserved : goal.loop-dim-preserved
loop-dim-preserved g c = record {
  wrote = headed_wrote (range_item c.args.names.now.catalog.now c.args.names.now.from.now) (codes " by ") (codes ", ") _ c.args.dims.now c.loop-dim.dim-index _ _ _ _ c.loop-dim-test.true c.loop-dim.invariant.lead c.loop-dim.invariant.wrote
      c.in_ok-write_range.ensures;
  lead = lead_more (range_item c.args.names.now.catalog.now c.args.names.now.from.now) (codes " by ") (codes ", ") _ c.args.dims.now c.loop-dim.dim-index c.loop-dim-test.true refl;
}
