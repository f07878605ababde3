use Rattle.adv_key_choices.specs.Choices.{keys_in}
use Rattle.adv_key_choices.proofs.Judgements.{no-worse-told}
use Rattle.adv_key_choices.proofs.order.is_no_worse.Goals as goal

pub returns : goal.returns
returns c = rw c.no_worse.ensures (no-worse-told c.args.k.now.query (keys_in c.args.c.now) (keys_in c.args.d.now) c.judge-first.result c.judge-second.result c.judge-first.ensures c.judge-second.ensures)
