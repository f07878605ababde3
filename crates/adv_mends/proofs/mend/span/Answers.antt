use Rattle.std.proofs.Common.{sym, subst, ◌≤ℤ◌, pos}
use Rattle.adv_mends.specs.declared.mend.Ends.{Ends}
use Rattle.adv_mends.specs.Ends.{reaching_domain, span}
use Rattle.adv_mends.proofs.Spans.{fold_whole, span-zero}
use Rattle.adv_mends.proofs.mend.span.Goals as goal

pub returns-clause-value : goal.returns-clause-value
unfolding span
returns-clause-value c = fold_whole reaching_domain _ _ _ _ c.domains.domain-index c.domains-test.false c.domains.invariant c.domains-domain-items.ensures.value

pub returns-clause-low : goal.returns-clause-low
returns-clause-low c = subst (λ (ends : Ends). ends.lo ≤ℤ pos 0) (sym (returns-clause-value c)) (span-zero c.args.query.now).low

pub returns-clause-high : goal.returns-clause-high
returns-clause-high c = subst (λ (ends : Ends). pos 0 ≤ℤ ends.hi) (sym (returns-clause-value c)) (span-zero c.args.query.now).high
