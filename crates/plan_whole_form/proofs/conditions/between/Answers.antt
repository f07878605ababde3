use Rattle.std.proofs.Common.{rules, subst, w64}
use Rattle.std.proofs.lemmas.Int.{to_z-of_z}
use Rattle.sem_query.specs.declared.atom.Element.TheVariants as element
use Rattle.sem_laws.proofs.Tests.{not_both}
use Rattle.sem_whole.specs.System.{system}
use Rattle.sem_whole.specs.Laws.{IsLeastBound}
use Rattle.plan_whole_form.specs.Conditions.{IsUnsaid}
use Rattle.plan_whole_form.proofs.Conditioned.{unsaid_between, no_between, said_by_ranges}
use Rattle.plan_whole_form.proofs.conditions.between.Goals as goal

pub returns-then-not-are_two_names : goal.returns-then-not-are_two_names
returns-then-not-are_two_names c = λ n u l. absurd (not_both c.are_two_names.result ((c.are_two_names.ensures c.args.closed.now c.requires.columns).1 n) c.if-not-are_two_names.true)

pub returns-then-not-are_compared : goal.returns-then-not-are_compared
returns-then-not-are_compared c = λ n u l.
    said_by_ranges c.args.closed.now c.query-query.ensures.formed c.query-query.ensures.solvable c.args.a c.args.b n.apart (c.are_compared.ensures c.if-not-are_compared.true c.args.closed.now c.requires.columns) u l

pub returns-in-Some : goal.returns-in-Some
returns-in-Some c =
    unsaid_between c.args.closed.now c.args.a c.args.b c.in-Some.by c.unsaid.result ((c.are_two_names.ensures c.args.closed.now c.requires.columns).0 c.if-not-are_two_names.false)
    (subst (IsLeastBound (system c.args.closed.now) (element.Attr c.args.a) (element.Attr c.args.b)) c.in-Some.is c.above.ensures.bound)
    (subst (λ k. IsUnsaid c.args.closed.now c.args.a c.args.b k c.unsaid.result) (to_z-of_z w64 c.in-Some.by (search rules)) c.unsaid.ensures)

pub returns-in-None : goal.returns-in-None
returns-in-None c = no_between c.args.closed.now c.args.a c.args.b (subst (IsLeastBound (system c.args.closed.now) (element.Attr c.args.a) (element.Attr c.args.b)) c.in-None.is c.above.ensures.bound)
