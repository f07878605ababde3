use Rattle.std.proofs.Common.{◌≡◌, true, sym, ◌∙◌}
use Rattle.plan_conditions.proofs.Two.{mins_named, maxes_named}
use Rattle.plan_layout.proofs.Referring.{min_named, max_named, no_min, no_max}
use Rattle.plan_layout.proofs.kinds.kind_of.Goals as goal

pub returns-in-Some : goal.returns-in-Some
returns-in-Some c =
    let d : c.args.q.now.distinct ≡ true = sym c.distinct.ensures ∙ c.if-not-distinct.false in
    let n = min_named c.args.q.now c.args.p.now.signs.items c.args.refs.now c.requires c.args.place c.as_slice.result.now c.in-Some.attr c.as_slice.ensures.value c.in-Some.ensures in
    (d, n.0, n.1, n.2)

pub returns-in-Some-name_among : goal.returns-in-Some-name_among
returns-in-Some-name_among c =
    let d : c.args.q.now.distinct ≡ true = sym c.distinct.ensures ∙ c.if-not-distinct.false in
    let n = max_named c.args.q.now c.args.p.now.signs.items c.args.refs.now c.requires c.args.place c.as_slice-in-None.result.now c.in-Some-name_among.attr c.as_slice-in-None.ensures.value c.in-Some-name_among.ensures in
    (d, n.0, n.1, n.2)

pub returns-in-None-name_among : goal.returns-in-None-name_among
returns-in-None-name_among c =
    let d : c.args.q.now.distinct ≡ true = sym c.distinct.ensures ∙ c.if-not-distinct.false in (
      d,
      λ a h. (
        no_min c.args.q.now c.args.p.now.signs.items c.args.refs.now c.requires c.args.place c.as_slice.result.now c.as_slice.ensures.value c.in-None.ensures a h,
        no_max c.args.q.now c.args.p.now.signs.items c.args.refs.now c.requires c.args.place c.as_slice-in-None.result.now c.as_slice-in-None.ensures.value c.in-None-name_among.ensures a h,
      ),
    )

pub name_among-requires-clause-columns : goal.name_among-requires-clause-columns
name_among-requires-clause-columns c = mins_named c.args.q.now c.args.p.now.signs.items c.args.refs.now c.requires c.as_slice.result.now c.as_slice.ensures.value

pub name_among-requires-in-None-clause-columns : goal.name_among-requires-in-None-clause-columns
name_among-requires-in-None-clause-columns c = maxes_named c.args.q.now c.args.p.now.signs.items c.args.refs.now c.requires c.as_slice-in-None.result.now c.as_slice-in-None.ensures.value
