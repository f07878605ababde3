use Rattle.std.proofs.Common.{◌∙◌, ap, subst, arith}
use Rattle.sem_query.specs.Ranges.{different}
use Rattle.plan_whole_form.specs.Part.{AreRangesOf}
use Rattle.plan_whole_form.proofs.Ranging.{ranges_room, ranges_more_at, ranges_all}
use Rattle.plan_whole_form.proofs.selected.selected_ranges.Goals as goal

pub push-requires : goal.push-requires
push-requires c = (omega arith, ranges_room c.args.closed.now c.different-columns.result.items c.as_slice.result.now c.columns.list.items c.columns.i c.as_slice.ensures.value c.as_slice.ensures.fits (let l = c.columns-test.true in let e = c.len-i-end.ensures.value in omega (arith, l, e)) c.columns.invariant)

pub columns-preserved : goal.columns-preserved
columns-preserved c = ranges_more_at c.args.closed.now c.different-columns.result.items c.as_slice.result.now c.columns.list.items _ c.columns.i _ c.range_of.result c.as_slice.ensures.value (let l = c.columns-test.true in let e = c.len-i-end.ensures.value in omega (arith, l, e)) c.range_of.ensures c.push.ensures.items c.columns.invariant

pub returns : goal.returns
returns c = subst (λ z. AreRangesOf c.args.closed.now z c.columns.list.items) (c.different-columns.ensures ∙ ap different (c.select.ensures.value ∙ c.query.ensures.select)) (ranges_all c.args.closed.now c.different-columns.result.items c.columns.list.items c.columns.i (let l = c.columns-test.false in let e = c.len-i-end.ensures.value in omega (arith, l, e)) c.columns.invariant)
