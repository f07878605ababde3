use Rattle.adv_key_choices.specs.Choices.{keys_in}
use Rattle.adv_key_choices.proofs.Judgements.{torn-told}
use Rattle.adv_key_choices.proofs.exact.is_torn.Goals as goal

pub returns : goal.returns
returns c = rw c.says_torn.ensures (torn-told c.args.k.now.query (keys_in c.args.choice.now) c.judge.result c.judge.ensures)
