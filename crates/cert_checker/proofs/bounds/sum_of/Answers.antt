use Rattle.cert_checker.proofs.Paths.{not_along}
use Rattle.cert_checker.proofs.bounds.sum_of.Goals as goal

pub returns-then-not-leads-clause-sum : goal.returns-then-not-leads-clause-sum
returns-then-not-leads-clause-sum c = not_along c.args.attrs c.args.cs.now c.args.path.now c.in_ok-chain.chain (rw c.as_slice.ensures.value at c.in_ok-chain.ensures.chain) (λ h. let t = c.leads.ensures.1 h in cc)
