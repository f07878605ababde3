use Rattle.std.proofs.Common.{rules, pos, ◌∙◌, ap, subst, w64}
use Rattle.std.proofs.lemmas.Int.{to_z-of_z}
use Rattle.sem_query.specs.declared.atom.Element.TheVariants as element
use Rattle.sem_query.specs.declared.atom.Op.{Op}
use Rattle.sem_laws.proofs.Tests.{not_both}
use Rattle.sem_whole.specs.System.{system}
use Rattle.sem_whole.specs.Kept.{IsHighest}
use Rattle.plan_whole_form.specs.Conditions.{condition}
use Rattle.plan_whole_form.proofs.conditions.greatest_end.Goals as goal

pub returns-then-not-names_class : goal.returns-then-not-names_class
returns-then-not-names_class c = λ n. absurd (not_both c.names_class.result ((c.names_class.ensures c.args.closed.now c.requires.columns).1 n) c.if-not-names_class.true)

pub returns-in-Some : goal.returns-in-Some
returns-in-Some c = ((c.names_class.ensures c.args.closed.now c.requires.columns).0 c.if-not-names_class.false, c.in-Some.high, subst (IsHighest (system c.args.closed.now) c.args.a) c.in-Some.is c.ends-ends.ensures.ends.high, c.condition.ensures ∙ ap (λ z. condition c.args.a Op.Le (element.Const z) (pos 0)) (to_z-of_z w64 c.in-Some.high (search rules)))

pub returns-in-None : goal.returns-in-None
returns-in-None c = λ n. subst (IsHighest (system c.args.closed.now) c.args.a) c.in-None.is c.ends-ends.ensures.ends.high
