use Rattle.adv_mends.proofs.Limits.{domains-are, domains-ascend}
use Rattle.adv_mends.proofs.writing.with_domains.Goals as goal

pub like-requires-clause-domains : goal.like-requires-clause-domains
like-requires-clause-domains c =
    rw (c.as_slice.ensures.value, c.domains_with-domains.ensures, c.domains.ensures.value)
    (domains-are c.args.query.now c.args.ends c.args.columns.now c.requires.ends c.requires.columns c.domains.ensures.limits.domains)

pub like-requires-clause-ascending : goal.like-requires-clause-ascending
like-requires-clause-ascending c =
    rw (c.as_slice.ensures.value, c.domains_with-domains.ensures, c.domains.ensures.value)
    (domains-ascend c.args.ends c.args.query.now.domains c.args.columns.now c.domains.ensures.limits.ascending)
