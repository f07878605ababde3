use Rattle.std.proofs.Common.{◌∙◌, sym, ap, subst, w64}
use Rattle.std.proofs.lemmas.Int.{to_z-of_z}
use Rattle.sem_query.specs.declared.atom.Element.TheVariants as element
use Rattle.sem_query.specs.declared.atom.Op.{Op}
use Rattle.sem_laws.proofs.Tests.{not_both}
use Rattle.plan_whole_form.specs.Conditions.{condition, IsSaid}
use Rattle.plan_whole_form.proofs.conditions.unsaid.Goals as goal

pub returns-then-follows_by_ranges : goal.returns-then-follows_by_ranges
returns-then-follows_by_ranges c = subst (IsSaid c.args.closed.now c.args.a c.args.b) (to_z-of_z w64 c.args.by c.ranges.by) (c.follows_by_ranges.ensures.0 c.if-follows_by_ranges.true)

pub returns-else-follows_by_ranges : goal.returns-else-follows_by_ranges
returns-else-follows_by_ranges c = (
  λ f. not_both c.follows_by_ranges.result (c.follows_by_ranges.ensures.1 (subst (IsSaid c.args.closed.now c.args.a c.args.b) (sym (to_z-of_z w64 c.args.by c.ranges.by)) f)) c.if-follows_by_ranges.false,
  c.condition.ensures ∙ ap (condition c.args.a Op.Le (element.Attr c.args.b)) (to_z-of_z w64 c.args.by c.ranges.by),
)
