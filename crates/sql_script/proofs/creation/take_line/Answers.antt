use Rattle.std.proofs.Common.{sym, ◌∙◌}
use Rattle.sql_replies.proofs.Stripped.{stripped-short}
use Rattle.sql_script.proofs.LineKinds.{of_kind}
use Rattle.sql_script.proofs.creation.take_line.Goals as goal

pub take_text-requires : goal.take_text-requires
take_text-requires c = stripped-short c.args.line.now c.classify-kind.result.1.now c.classify-kind.ensures.stripped c.requires.short

pub returns-in-StatementLine : goal.returns-in-StatementLine
returns-in-StatementLine c =
    let t = c.take_text.ensures in
    record {
      line = t.line;
      is_line = of_kind c.args.catalog.now c.args.line.now _ _ t.line c.requires.short (sym c.classify-kind.ensures.kind ∙ c.in-StatementLine.is) (sym c.classify-kind.ensures.stripped) t.is_line;
      takes = t.takes;
    }
