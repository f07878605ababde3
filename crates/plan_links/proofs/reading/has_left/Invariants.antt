use Rattle.std.proofs.Common.{◌≡◌, All, take}
use Rattle.sem_query.specs.declared.plan.Link.{Link}
use Rattle.plan_links.proofs.reading.has_left.Given as goal

abbrev pub invariant-loop-l : goal.invariant-loop-l
invariant-loop-l l = All (λ (m : Link). ¬ (m.left ≡ l.attr)) (take l.l-index l.links)
