use Rattle.sql_text.specs.Lines.{parts_behind}
use Rattle.sql_catalog.proofs.Fields.{fields_behind, blanks_split}
use Rattle.sql_catalog.proofs.row_line.split_fields.Goals as goal

pub returns-clause-fields : goal.returns-clause-fields
returns-clause-fields c =
    fields_behind c.args.line.now c.split_word.result.1.now _ (parts_behind 44 c.cut_behind.result.1) c.split_word.ensures.behind
    (blanks_split c.split_word.result.1.now c.cut_behind.result.0.now (parts_behind 44 c.cut_behind.result.1) c.cut_behind.ensures.parts)
