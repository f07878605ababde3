use Rattle.sql_parser.specs.declared.tree.Statement.TheVariants.{CreateStream}
use Rattle.std.proofs.Common.{List, refl, sym, ap, ◌∙◌, length, nat_lt}
use Rattle.sql_catalog.specs.declared.column.ColumnDef.{ColumnDef}
use Rattle.sql_catalog.specs.Streams.{column_names}
use Rattle.adv_diagnosis.specs.declared.fault.Asks.TheVariants as asks
use Rattle.adv_diagnosis.specs.Asked.{stream_asked}
use Rattle.adv_diagnosis.specs.Faults.{first_repeated}
use Rattle.adv_diagnosis.proofs.StreamTests.{added_twice, added_beyond, added_last, not_true, not_false, at_least, new_stream}
use Rattle.adv_diagnosis.proofs.statements.diagnose_stream.Goals as goal

pub returns-in-Some-clause-found : goal.returns-in-Some-clause-found
returns-in-Some-clause-found c =
    let streams = c.args.known.now.catalog.now in
    let twice = ap (λ (cs : List ColumnDef). first_repeated (column_names cs)) (sym c.as_slice.ensures.value) ∙ ap first_repeated (sym c.names_of_columns-names.ensures ∙ sym c.as_slice-2.ensures.value) ∙ sym c.repeated_name.ensures ∙ c.in-Some.is in
    record {
      asked = sym (ap (stream_asked (asks.Stream c.args.name c.args.columns)) (added_twice streams c.args.name c.args.columns.items c.in-Some.name (sym c.has_stream.ensures ∙ c.if-has_stream.false) twice));
      facts = (new_stream streams c.args.name (CreateStream c.args.name c.args.columns) refl (sym c.has_stream.ensures ∙ c.if-has_stream.false), twice);
    }

pub returns-then-is_full-clause-found : goal.returns-then-is_full-clause-found
returns-then-is_full-clause-found c =
    let streams = c.args.known.now.catalog.now in
    let alone = ap (λ (cs : List ColumnDef). first_repeated (column_names cs)) (sym c.as_slice.ensures.value) ∙ ap first_repeated (sym c.names_of_columns-names.ensures ∙ sym c.as_slice-2.ensures.value) ∙ sym c.repeated_name.ensures ∙ c.in_default.is in
    let full = not_true (nat_lt (length streams) 16) (sym c.is_full.ensures ∙ c.if-is_full.true) in
    record {
      asked = sym (ap (stream_asked (asks.Stream c.args.name c.args.columns)) (added_beyond streams c.args.name c.args.columns.items (sym c.has_stream.ensures ∙ c.if-has_stream.false) alone full));
      facts = (new_stream streams c.args.name (CreateStream c.args.name c.args.columns) refl (sym c.has_stream.ensures ∙ c.if-has_stream.false), alone, at_least (length streams) full);
    }

pub returns-clause-found : goal.returns-clause-found
returns-clause-found c =
    let streams = c.args.known.now.catalog.now in
    let alone = ap (λ (cs : List ColumnDef). first_repeated (column_names cs)) (sym c.as_slice.ensures.value) ∙ ap first_repeated (sym c.names_of_columns-names.ensures ∙ sym c.as_slice-2.ensures.value) ∙ sym c.repeated_name.ensures ∙ c.in_default.is in
    record {
      asked = sym (ap (stream_asked (asks.Stream c.args.name c.args.columns)) (added_last streams c.args.name c.args.columns.items (sym c.has_stream.ensures ∙ c.if-has_stream.false) alone (not_false (nat_lt (length streams) 16) (sym c.is_full.ensures ∙ c.if-is_full.false))));
      facts = tt;
    }
