use Rattle.std.proofs.Common.{◌∙◌, ap, sym}
use Rattle.sql_printer.specs.Printed.{printed_form}
use Rattle.sql_printer.specs.PrintedParts.{stream_text, tuple_text}
use Rattle.sql_printer.proofs.PrintedText.{stream_printed, query_printed, given_printed, cell_printed, tuple_printed}
use Rattle.sql_printer.proofs.WritesBehind.{writes_as}
use Rattle.sql_printer.proofs.printing.print.Goals as goal

pub returns-in-CreateStream : goal.returns-in-CreateStream
returns-in-CreateStream g c =
    writes_as c.put_stream.result _ _ _ _
    (ap printed_form c.in-CreateStream.is ∙ sym (stream_printed c.in-CreateStream.name c.in-CreateStream.columns.items) ∙ ap (stream_text c.in-CreateStream.name) (sym c.as_slice.ensures.value))
    c.put_stream.ensures

pub returns-in-CreateQuery : goal.returns-in-CreateQuery
returns-in-CreateQuery g c =
    writes_as c.put_query.result _ _ _ _
    (ap printed_form c.in-CreateQuery.is ∙ sym (query_printed c.in-CreateQuery.name c.in-CreateQuery.select c.in-CreateQuery.shared))
    c.put_query.ensures

pub returns-in-DropQuery : goal.returns-in-DropQuery
returns-in-DropQuery g c = writes_as c.put_name-in-DropQuery.result _ _ _ _ (ap printed_form c.in-DropQuery.is) c.put_name-in-DropQuery.ensures

pub returns-in-ResumeGiven : goal.returns-in-ResumeGiven
returns-in-ResumeGiven g c =
    writes_as c.put_given.result _ _ _ _
    (ap printed_form c.in-ResumeGiven.is ∙ sym (given_printed c.in-ResumeGiven.name c.in-ResumeGiven.rows))
    c.put_given.ensures

pub returns-in-ResumeCell : goal.returns-in-ResumeCell
returns-in-ResumeCell g c =
    writes_as c.put_cell.result _ _ _ _
    (ap printed_form c.in-ResumeCell.is ∙ sym (cell_printed c.in-ResumeCell.name c.in-ResumeCell.index c.in-ResumeCell.content))
    c.put_cell.ensures

pub returns-in-ResumeTuple : goal.returns-in-ResumeTuple
returns-in-ResumeTuple g c =
    writes_as c.put_tuple.result _ _ _ _
    (ap printed_form c.in-ResumeTuple.is ∙ sym (tuple_printed c.in-ResumeTuple.name c.in-ResumeTuple.values.items) ∙ ap (tuple_text c.in-ResumeTuple.name) (sym c.as_slice-in-ResumeTuple.ensures.value))
    c.put_tuple.ensures
