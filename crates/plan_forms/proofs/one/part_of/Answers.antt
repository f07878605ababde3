use Rattle.std.proofs.Common.{◌≡◌, subst, ◌∙◌, ap, Some}
use Rattle.sem_query.specs.Query.{QueryValue}
use Rattle.sem_forms.specs.Split.{part_query}
use Rattle.sem_forms.specs.SplitBreaks.{IsPartBreak}
use Rattle.sem_whole.specs.Signed.{with_signs}
use Rattle.plan_whole_form.specs.Part.{IsWhole}
use Rattle.plan_forms.proofs.Systems.{breaks_condition}
use Rattle.plan_forms.proofs.one.part_of.Goals as goal

pub unreachable-requires : goal.unreachable-requires
unreachable-requires c = (subst (IsWhole c.closed_front-closed.result) c.in-Contradiction.is c.in_ok-form.ensures) c.query-query.ensures.solvable.at c.query-query.ensures.solvable.solves

pub returns-in-Broken : goal.returns-in-Broken
returns-in-Broken c =
    let e : c.closed_front-closed.result ≡ part_query c.args.q.now c.args.front.now.signs.items = c.closed_front-closed.ensures ∙ ap (λ ps. with_signs ps c.args.front.now.signs.items c.args.q.now) c.requires.pairs in
    subst (λ (r : QueryValue). IsPartBreak r (Some c.in-Broken.found)) e (breaks_condition c.closed_front-closed.result c.in-Broken.found (subst (IsWhole c.closed_front-closed.result) c.in-Broken.is c.in_ok-form.ensures))
