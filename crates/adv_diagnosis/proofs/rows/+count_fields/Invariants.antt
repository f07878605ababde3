use Rattle.std.proofs.Common.{length, suc}
use Rattle.std.specs.Option.{option_map_or}
use Rattle.adv_diagnosis.proofs.rows.+count_fields.Given as goal

abbrev pub decreases-count_fields : goal.decreases-count_fields
decreases-count_fields l = option_map_or (λ r. suc (length r.now)) l.fields 0
