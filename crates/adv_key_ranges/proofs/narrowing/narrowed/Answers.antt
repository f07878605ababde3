use Rattle.adv_key_ranges.proofs.Domains.{domains-are, ascend}
use Rattle.adv_key_ranges.proofs.narrowing.narrowed.Goals as goal

pub with_domains-requires-clause-domains : goal.with_domains-requires-clause-domains
with_domains-requires-clause-domains c =
    rw (c.as_slice.ensures.value, c.domains_with-domains.ensures, c.domains.ensures.value)
    (domains-are c.args.query.now c.args.ends c.args.columns.now c.requires.ends c.requires.columns c.domains.ensures.limits.domains)

pub with_domains-requires-clause-ascending : goal.with_domains-requires-clause-ascending
with_domains-requires-clause-ascending c =
    rw (c.as_slice.ensures.value, c.domains_with-domains.ensures, c.domains.ensures.value) (ascend c.args.query.now c.args.ends c.args.columns.now c.domains.ensures.limits.ascending)
