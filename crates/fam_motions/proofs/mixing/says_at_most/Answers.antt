use Rattle.fam_motions.proofs.Against.{said-by}
use Rattle.fam_motions.proofs.mixing.says_at_most.Goals as goal

pub returns-then-says : goal.returns-then-says
returns-then-says c t =
    said-by c.args.q.now c.args.x c.args.y _ c.loop-atom.atom-index _ c.atoms-atom-items.ensures.value c.loop-atom-test.true (λ v h. c.says.ensures c.if-says.true v h)
