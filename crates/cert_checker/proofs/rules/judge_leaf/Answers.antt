use Rattle.std.proofs.Common.{length, ap}
use Rattle.cert_format.specs.Nodes.{grouped}
use Rattle.cert_checker.proofs.Judging.{leaf_above, leaf_paths, leaf_open, leaf_good, leaf_tells}
use Rattle.cert_checker.proofs.rules.judge_leaf.Goals as goal

pub returns-then-not-may_be_part : goal.returns-then-not-may_be_part
returns-then-not-may_be_part c = leaf_above c.args.q.now c.args.shown c.args.place.now (grouped c.args.behind.now).paths c.requires.stands c.as_slice.result.now c.as_slice.ensures.value (λ k. let t = c.may_be_part.ensures.1 k in cc)

pub returns-in_default : goal.returns-in_default
returns-in_default c = leaf_paths c.args.q.now c.args.shown c.args.place.now (grouped c.args.behind.now).paths c.requires.stands c.as_slice.result.now c.as_slice.ensures.value (length c.attrs.result.now) c.as_slice-cs.result.now (ap length c.attrs.ensures.value) c.as_slice-cs.ensures.value (c.may_be_part.ensures.0 c.if-not-may_be_part.false) c.in_default.ensures

pub returns-then-not-is_closed : goal.returns-then-not-is_closed
returns-then-not-is_closed c =
    leaf_open c.args.q.now c.args.shown c.args.place.now (grouped c.args.behind.now).paths c.requires.stands c.as_slice.result.now c.as_slice.ensures.value (length c.attrs.result.now) c.as_slice-cs.result.now (ap length c.attrs.ensures.value) c.as_slice-cs.ensures.value (c.may_be_part.ensures.0 c.if-not-may_be_part.false) c.in-Some.bounds c.in-Some.ensures (λ k. let t = c.is_closed.ensures.1 k in cc)

pub returns : goal.returns
returns c = (
  leaf_good c.args.q.now c.args.shown c.args.place.now (grouped c.args.behind.now).paths c.requires.stands c.as_slice.result.now c.as_slice.ensures.value (length c.attrs.result.now) c.as_slice-cs.result.now (ap length c.attrs.ensures.value) c.as_slice-cs.ensures.value (c.may_be_part.ensures.0 c.if-not-may_be_part.false) c.in-Some.bounds c.in-Some.ensures (c.is_closed.ensures.0 c.if-not-is_closed.false),
  leaf_tells c.args.q.now c.args.shown c.args.place.now (grouped c.args.behind.now).paths c.requires.stands c.as_slice.result.now c.as_slice.ensures.value (length c.attrs.result.now) c.as_slice-cs.result.now (ap length c.attrs.ensures.value) c.as_slice-cs.ensures.value (c.may_be_part.ensures.0 c.if-not-may_be_part.false) c.in-Some.bounds c.in-Some.ensures,
)
