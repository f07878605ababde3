use Rattle.std.proofs.Common.{not, ◌&&◌, ap, sym, ◌∙◌}
use Rattle.sql_catalog.specs.Streams.{all_differ, column_names}
use Rattle.sql_catalog.proofs.ColumnNames.{others, differ_first}
use Rattle.sql_catalog.proofs.columns.+columns_differ.Goals as goal

pub returns-then-not-is_column : goal.returns-then-not-is_column
returns-then-not-is_column t c =
    let columns = c.args.columns.now in
    c.columns_differ.ensures
    ∙ sym (differ_first columns c.first-item.result c.in-len1-up.len_at_least c.first-item.is
    ∙ ap (λ b. not b && all_differ (column_names (others columns))) (sym c.is_column.ensures ∙ c.if-not-is_column.true))

pub returns-else-not-is_column : goal.returns-else-not-is_column
returns-else-not-is_column t c =
    let columns = c.args.columns.now in
    ap not c.if-not-is_column.false
    ∙ sym (differ_first columns c.first-item.result c.in-len1-up.len_at_least c.first-item.is
    ∙ ap (λ b. not b && all_differ (column_names (others columns))) (sym c.is_column.ensures ∙ c.if-not-is_column.false))
