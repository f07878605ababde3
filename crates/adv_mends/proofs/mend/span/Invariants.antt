use Rattle.std.proofs.Common.{◌≡◌, pos, take}
use Rattle.std.specs.List.{fold}
use Rattle.sem_query.specs.Query.{consts_of}
use Rattle.adv_mends.specs.Ends.{reaching, reaching_domain}
use Rattle.adv_mends.proofs.mend.span.Given as goal

abbrev pub invariant-consts : goal.invariant-consts
invariant-consts l = l.ends ≡ fold reaching (record { lo = pos 0; hi = pos 0 }) (take l.value-index l.value-items)

abbrev pub invariant-domains : goal.invariant-domains
invariant-domains l = l.ends ≡ fold reaching_domain (fold reaching (record { lo = pos 0; hi = pos 0 }) (consts_of l.query.atoms)) (take l.domain-index l.domain-items)
