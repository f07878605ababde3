use Rattle.adv_key_decision.specs.Judged.{by_stream}
use Rattle.adv_key_ranges.proofs.Said.{no-limit}
use Rattle.adv_key_ranges.proofs.ranges.ranges_for.Goals as goal

pub returns-in-None : goal.returns-in-None
returns-in-None c = no-limit c.args.shared c.args.query.now (by_stream c.args.choice.now) c.args.limit c.requires c.in-None.is
