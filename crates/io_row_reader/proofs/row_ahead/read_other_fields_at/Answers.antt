use Rattle.io_row_reader.proofs.FieldsAhead.{behind_comma, fields_last, fields_more}
use Rattle.io_row_reader.proofs.row_ahead.read_other_fields_at.Goals as goal

pub returns-then-len-width-clause-fields : goal.returns-then-len-width-clause-fields
returns-then-len-width-clause-fields c = λ from before.
    fields_last c.args.text.now from c.fields.place c.in-Some.end c.fields.row.items c.add_integer_at.new.row.items (c.fields.invariant.fields from before) c.in-Some.ensures

pub fields-preserved : goal.fields-preserved
fields-preserved c = record {
  fields = λ from before.
      fields_more c.args.text.now from c.fields.place c.in-Some.end c.fields.row.items c.add_integer_at.new.row.items c.requires.ended (c.fields.invariant.fields from before) c.in-Some.ensures c.if-text-end-ne44.false;
  within = behind_comma c.args.text.now c.fields.place c.in-Some.end c.fields.row.items c.add_integer_at.new.row.items c.requires.ended c.in-Some.ensures c.if-text-end-ne44.false;
}
