use Rattle.sql_replies.proofs.Stripped.{stripped-short}
use Rattle.adv_diagnosis.proofs.diagnosis.diagnose_locked.Goals as goal

pub diagnose_row-requires : goal.diagnose_row-requires
diagnose_row-requires c = stripped-short c.args.line.now c.classify-kind.result.1.now c.classify-kind.ensures.stripped c.if-line-gt-MOST_BYTES.false

pub unlocks-requires : goal.unlocks-requires
unlocks-requires c = stripped-short c.args.line.now c.classify-kind.result.1.now c.classify-kind.ensures.stripped c.if-line-gt-MOST_BYTES.false
