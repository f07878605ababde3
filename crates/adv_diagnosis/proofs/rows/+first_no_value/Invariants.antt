use Rattle.std.proofs.Common.{length, suc}
use Rattle.std.specs.Option.{option_map_or}
use Rattle.adv_diagnosis.proofs.rows.+first_no_value.Given as goal

abbrev pub decreases-first_no_value : goal.decreases-first_no_value
decreases-first_no_value l = option_map_or (λ r. suc (length r.now)) l.fields 0
