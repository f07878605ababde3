use Rattle.std.proofs.Common.{◌≡◌, List, true, subst, ◌∙◌}
use Rattle.sql_text.specs.Lines.{parts_behind}
use Rattle.sql_catalog.specs.declared.column.ColumnDef.{ColumnDef}
use Rattle.sql_catalog.specs.Streams.{lie_within, shape_at}
use Rattle.sql_catalog.proofs.ColumnDomains.{each_within}
use Rattle.sql_catalog.proofs.RowRefusals.{named_row}
use Rattle.sql_catalog.proofs.catalog.Catalog.read_row.Goals as goal

pub returns-in-Ok-clause-row : goal.returns-in-Ok-clause-row
returns-in-Ok-clause-row c =
    c.in-Ok.ensures.row c.in-Some.stream
    ∙ named_row c.args.self.now c.args.line.now c.split_fields.result.0.now (parts_behind 44 c.split_fields.result.1) c.in-Some.stream c.columns.result.now
    c.split_fields.ensures.word c.split_fields.ensures.fields c.in-Some.ensures.number c.columns.ensures.columns c.in-Some.ensures.name

pub returns-in-Err-clause-row : goal.returns-in-Err-clause-row
returns-in-Err-clause-row c =
    c.in-Err.ensures.row c.in-Some.stream
    ∙ named_row c.args.self.now c.args.line.now c.split_fields.result.0.now (parts_behind 44 c.split_fields.result.1) c.in-Some.stream c.columns.result.now
    c.split_fields.ensures.word c.split_fields.ensures.fields c.in-Some.ensures.number c.columns.ensures.columns c.in-Some.ensures.name

pub returns-in-Ok-clause-domains : goal.returns-in-Ok-clause-domains
returns-in-Ok-clause-domains c = λ column.
    each_within (shape_at c.args.self.now c.in-Some.stream).columns _
    (subst (λ (cs : List ColumnDef). lie_within cs c.read_fields.new.row.items ≡ true) c.columns.ensures.columns c.in-Ok.ensures.domains) column
