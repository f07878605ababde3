use Rattle.cert_checker.specs.Shown.{breaks_by}
use Rattle.cert_checker.proofs.Choosing.{takes_now, takes_none}
use Rattle.cert_checker.proofs.walk.Walk.decided.Goals as goal

pub returns-in-Bounded : goal.returns-in-Bounded
returns-in-Bounded c = takes_now (breaks_by c.args.shown c.args.q.now) c.args.self.now.place.signs.items c.args.self.now.leaves _ _ c.first_break_at.result c.in-Bounded.is (rw c.as_slice-signs.ensures.value at c.first_break_at.ensures) c.at.ensures

pub returns-in-Violation : goal.returns-in-Violation
returns-in-Violation c = takes_none (breaks_by c.args.shown c.args.q.now) c.args.self.now.place.signs.items c.args.self.now.leaves _ (λ e. let f = c.in-Violation.is in absurd cc)
