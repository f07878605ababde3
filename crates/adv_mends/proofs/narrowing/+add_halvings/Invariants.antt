use Rattle.adv_mends.proofs.narrowing.+add_halvings.Given as goal

abbrev pub decreases-add_halvings : goal.decreases-add_halvings
decreases-add_halvings l = l.more
