use Rattle.std.proofs.Common.{sym, ◌∙◌}
use Rattle.sql_replies.proofs.Stripped.{stripped-short}
use Rattle.adv_diagnosis.proofs.Diagnoses.{found_row, found_text}
use Rattle.adv_diagnosis.proofs.diagnosis.diagnose.Goals as goal

pub diagnose_row-requires : goal.diagnose_row-requires
diagnose_row-requires c = stripped-short c.args.line.now c.classify-kind.result.1.now c.classify-kind.ensures.stripped c.if-line-gt-MOST_BYTES.false

pub diagnose_text-requires : goal.diagnose_text-requires
diagnose_text-requires c = stripped-short c.args.line.now c.classify-kind.result.1.now c.classify-kind.ensures.stripped c.if-line-gt-MOST_BYTES.false

pub returns-in-StatementLine-clause-found : goal.returns-in-StatementLine-clause-found
returns-in-StatementLine-clause-found c =
    found_text c.args.known.now.catalog.now c.args.known.now.live.now c.args.line.now c.classify-kind.result.1.now c.diagnose_text.result c.if-line-gt-MOST_BYTES.false
    (sym c.classify-kind.ensures.kind ∙ c.in-StatementLine.is) c.classify-kind.ensures.stripped c.diagnose_text.ensures.found

pub returns-in-RowLine-clause-found : goal.returns-in-RowLine-clause-found
returns-in-RowLine-clause-found c =
    found_row c.args.known.now.catalog.now c.args.known.now.live.now c.args.line.now c.classify-kind.result.1.now c.diagnose_row.result c.if-line-gt-MOST_BYTES.false
    (sym c.classify-kind.ensures.kind ∙ c.in-RowLine.is) c.classify-kind.ensures.stripped c.diagnose_row.ensures.found
