use Rattle.std.proofs.Common.{subst, sym, ◌∙◌, arith, List, ◌<◌, ◌≤◌, length}
use Rattle.sem_query.specs.Violation.{Failure}
use Rattle.sem_laws.proofs.Tests.{not_both}
use Rattle.adv_mends.specs.Violating.{AreChainsFor, Shows}
use Rattle.adv_mends.proofs.Breaking.{number_within, failure_plain, chains-at, if_both}
use Rattle.adv_mends.proofs.advising.chains_for.Goals as goal

pub index-requires : goal.index-requires
index-requires c =
    let h = subst (Shows c.args.query.now) c.in-Violation.is c.requires in
    let f : Failure = record { part = c.in-Violation.part; condition = c.in-Violation.condition; attr = c.in-Violation.attr } in
    let n : (0 < c.in-Violation.part) × (c.in-Violation.part ≤ length c.in-Ok.parts.items) =
    number_within c.args.query.now c.in-Ok.parts.items f c.in-Ok.ensures.parts (failure_plain c.args.query.now f (sym c.compact.ensures ∙ c.if-compact.false) h.1) in
    omega (arith, n.0, n.1, c.in-Ok.parts.ok.0)

pub returns-in-Ok : goal.returns-in-Ok
returns-in-Ok c =
    let h = subst (Shows c.args.query.now) c.in-Violation.is c.requires in
    let f : Failure = record { part = c.in-Violation.part; condition = c.in-Violation.condition; attr = c.in-Violation.attr } in
    let plain = sym c.compact.ensures ∙ c.if-compact.false in
    let n = number_within c.args.query.now c.in-Ok.parts.items f c.in-Ok.ensures.parts (failure_plain c.args.query.now f plain h.1) in
    if_both c.chains_of.result
    (λ list is order. subst (λ j. AreChainsFor c.args.query.now j list.items) (sym c.in-Violation.is) record {
      plain = λ p. chains-at c.args.query.now c.in-Ok.parts.items c.in-Violation.part c.index.result.now list.items c.in-Ok.ensures.parts n.0 n.1 c.index.ensures is order;
      other = λ t. absurd (not_both c.args.query.now.compact t plain);
    })
    c.chains_of.ensures.is c.chains_of.ensures.order
