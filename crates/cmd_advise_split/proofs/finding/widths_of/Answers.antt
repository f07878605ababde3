use Rattle.std.proofs.Common.{◌≡◌, length, ap, arith}
use Rattle.std.proofs.lemmas.List.{length-map}
use Rattle.sql_catalog.specs.Streams.{Shape}
use Rattle.cmd_advise_split.proofs.Widths.{widths-more, width-count, widths-all}
use Rattle.cmd_advise_split.proofs.finding.widths_of.Goals as goal

pub push-requires : goal.push-requires
push-requires c =
    let e : length c.loop-number.widths.items ≡ c.loop-number.number =
    width-count c.args.catalog.now c.loop-number.number _ (omega (arith, c.loop-number-test.true, c.len-number-end.ensures.len)) c.loop-number.invariant in
    (omega arith, omega (arith, e, c.loop-number-test.true, c.len-number-end.ensures.len, c.len-number-end.ensures.catalog.few))

pub loop-number-preserved : goal.loop-number-preserved
loop-number-preserved c =
    widths-more c.args.catalog.now c.loop-number.number _ _ _ (omega (arith, c.loop-number-test.true, c.len-number-end.ensures.len)) c.width.ensures.width c.loop-number.invariant c.push.ensures.items

pub returns-clause-widths : goal.returns-clause-widths
returns-clause-widths c = widths-all c.args.catalog.now c.loop-number.number _ (omega (arith, c.loop-number-test.false, c.len-number-end.ensures.len)) c.loop-number.invariant

pub returns-clause-few : goal.returns-clause-few
returns-clause-few c =
    let w = widths-all c.args.catalog.now c.loop-number.number c.loop-number.widths.items (omega (arith, c.loop-number-test.false, c.len-number-end.ensures.len)) c.loop-number.invariant in
    let n = length-map c.args.catalog.now (λ (s : Shape). length s.columns) in
    omega (arith, ap length w, n, c.len-number-end.ensures.catalog.few)
