use Rattle.std.proofs.Common.{◌∙◌, map, sym, subst}
use Rattle.sem_laws.proofs.Tests.{not_both}
use Rattle.plan_whole.specs.Columns.{atom_of}
use Rattle.plan_whole.specs.Extremes.{IsBest}
use Rattle.plan_whole.proofs.Choosing.{present_is, least_is, greatest_is}
use Rattle.plan_whole.proofs.extreme.kind_of.Goals as goal

pub returns-in-None-clause-kind : goal.returns-in-None-clause-kind
returns-in-None-clause-kind c =
    present_is c.args.closed.now (map atom_of c.args.links.now) c.args.place c.requires c.query-query.ensures.formed (sym (c.distinct.ensures ∙ c.query-query.ensures.distinct) ∙ c.if-not-distinct.false)
    (subst (IsBest c.args.closed.now (map atom_of c.args.links.now) c.args.place 8) c.in-None.is c.extreme_of.ensures)

pub returns-then-is_left_alone-clause-kind : goal.returns-then-is_left_alone-clause-kind
returns-then-is_left_alone-clause-kind c =
    least_is c.args.closed.now (map atom_of c.args.links.now) c.args.place c.requires c.query-query.ensures.formed c.in-Some.best (sym (c.distinct.ensures ∙ c.query-query.ensures.distinct) ∙ c.if-not-distinct.false)
    (subst (IsBest c.args.closed.now (map atom_of c.args.links.now) c.args.place 8) c.in-Some.is c.extreme_of.ensures) (c.is_left_alone.ensures.0 c.if-is_left_alone.true)

pub returns-else-is_left_alone-clause-kind : goal.returns-else-is_left_alone-clause-kind
returns-else-is_left_alone-clause-kind c =
    greatest_is c.args.closed.now (map atom_of c.args.links.now) c.args.place c.requires c.query-query.ensures.formed c.in-Some.best (sym (c.distinct.ensures ∙ c.query-query.ensures.distinct) ∙ c.if-not-distinct.false)
    (subst (IsBest c.args.closed.now (map atom_of c.args.links.now) c.args.place 8) c.in-Some.is c.extreme_of.ensures) (λ l. not_both c.is_left_alone.result (c.is_left_alone.ensures.1 l) c.if-is_left_alone.false)
