use Rattle.std.proofs.Common.{◌∙◌, map, sym}
use Rattle.plan_whole.specs.Columns.{atom_of}
use Rattle.plan_whole_form.proofs.Breaks.{counts, both_ways, by_earlier}
use Rattle.plan_whole_form.proofs.breaking.may_not_be_extreme.Goals as goal

pub returns-then-not-distinct : goal.returns-then-not-distinct
returns-then-not-distinct c = counts c.args.closed.now (map atom_of c.args.links.now) c.args.a (sym c.query.ensures.distinct ∙ sym c.distinct.ensures ∙ c.if-not-distinct.true)

pub returns-then-not-is_one_way : goal.returns-then-not-is_one_way
returns-then-not-is_one_way c = both_ways c.args.closed.now (map atom_of c.args.links.now) c.args.a c.is_one_way.result c.is_one_way.ensures c.if-not-is_one_way.true

pub returns : goal.returns
returns c = by_earlier c.args.closed.now (map atom_of c.args.links.now) c.args.a c.is_one_way.result c.has_earlier.result (sym c.query.ensures.distinct ∙ sym c.distinct.ensures ∙ c.if-not-distinct.false) c.is_one_way.ensures c.if-not-is_one_way.false c.has_earlier.ensures
