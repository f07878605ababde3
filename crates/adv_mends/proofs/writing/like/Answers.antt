use Rattle.adv_mends.proofs.Limits.{limits-like}
use Rattle.adv_mends.proofs.writing.like.Goals as goal

pub new-requires : goal.new-requires
new-requires c =
    rw (c.from.ensures.value, c.select.ensures.value, c.atoms.ensures.value)
    (limits-like c.args.query.now c.args.distinct c.args.compact c.args.domains.now c.from.ensures.limits c.requires.few c.requires.domains c.requires.ascending)
