use Rattle.adv_mends.proofs.Limits.{limits-like}
use Rattle.adv_key_ranges.proofs.narrowing.with_domains.Goals as goal

pub new-requires : goal.new-requires
new-requires c =
    rw (c.distinct.ensures, c.from.ensures.value, c.select.ensures.value, c.atoms.ensures.value, c.compact.ensures)
    (limits-like c.args.query.now c.args.query.now.distinct c.args.query.now.compact c.args.domains.now c.from.ensures.limits c.requires.few c.requires.domains c.requires.ascending)
