use Rattle.std.proofs.Common.{ℕ, List, length, Some, None, is_some, sym, ap, ◌∙◌, arith}
use Rattle.sql_text.specs.Key.{key_of}
use Rattle.sql_catalog.specs.Streams.{stream_number}
use Rattle.adv_diagnosis.specs.declared.fault.Fault.TheVariants.{RowKey, RowName, RowStream}
use Rattle.adv_diagnosis.proofs.LockedLines.{row_found, row_there}
use Rattle.adv_diagnosis.proofs.RowTests.{row_key, row_name, row_stream, row_fields}
use Rattle.adv_diagnosis.proofs.rows.diagnose_row.Goals as goal

pub returns-then-is_some-clause-found : goal.returns-then-is_some-clause-found
returns-then-is_some-clause-found c =
    row_found c.args.catalog.now c.args.text.now RowKey
    (row_key c.args.catalog.now c.args.text.now (ap (λ (w : List ℕ). is_some (key_of w)) (sym c.split_word.ensures.word) ∙ ap is_some (sym c.key_of.ensures) ∙ sym c.is_some.ensures ∙ c.if-is_some.true))

pub returns-then-word-gt-MOST_BYTES-clause-found : goal.returns-then-word-gt-MOST_BYTES-clause-found
returns-then-word-gt-MOST_BYTES-clause-found c =
    row_found c.args.catalog.now c.args.text.now (RowName (length c.split_word.result.0.now))
    (row_name c.args.catalog.now c.args.text.now (length c.split_word.result.0.now)
    (ap (λ (w : List ℕ). is_some (key_of w)) (sym c.split_word.ensures.word) ∙ ap is_some (sym c.key_of.ensures) ∙ sym c.is_some.ensures ∙ c.if-is_some.false)
    (ap length (sym c.split_word.ensures.word)) (omega arith))

pub returns-in_default-clause-found : goal.returns-in_default-clause-found
returns-in_default-clause-found c =
    row_found c.args.catalog.now c.args.text.now RowStream
    (row_stream c.args.catalog.now c.args.text.now
    (ap (λ (w : List ℕ). is_some (key_of w)) (sym c.split_word.ensures.word) ∙ ap is_some (sym c.key_of.ensures) ∙ sym c.is_some.ensures ∙ c.if-is_some.false)
    (omega (arith, ap length c.split_word.ensures.word, c.if-word-gt-MOST_BYTES.false))
    (ap (stream_number c.args.catalog.now) (sym c.split_word.ensures.word) ∙ sym c.find_bytes.ensures.number ∙ c.in_default.is))

pub returns-in-Some-fields_fault-clause-found : goal.returns-in-Some-fields_fault-clause-found
returns-in-Some-fields_fault-clause-found c =
    row_found c.args.catalog.now c.args.text.now c.in-Some-fields_fault.fault
    (row_fields c.args.catalog.now c.args.text.now c.in-Some.stream (Some c.in-Some-fields_fault.fault)
    (ap (λ (w : List ℕ). is_some (key_of w)) (sym c.split_word.ensures.word) ∙ ap is_some (sym c.key_of.ensures) ∙ sym c.is_some.ensures ∙ c.if-is_some.false)
    (omega (arith, ap length c.split_word.ensures.word, c.if-word-gt-MOST_BYTES.false))
    (ap (stream_number c.args.catalog.now) (sym c.split_word.ensures.word) ∙ sym c.find_bytes.ensures.number ∙ c.in-Some.is)
    (rw c.in-Some-fields_fault.is at c.fields_fault.ensures))

pub returns-in-None-clause-found : goal.returns-in-None-clause-found
returns-in-None-clause-found c =
    row_there c.args.catalog.now c.args.text.now
    (row_fields c.args.catalog.now c.args.text.now c.in-Some.stream None
    (ap (λ (w : List ℕ). is_some (key_of w)) (sym c.split_word.ensures.word) ∙ ap is_some (sym c.key_of.ensures) ∙ sym c.is_some.ensures ∙ c.if-is_some.false)
    (omega (arith, ap length c.split_word.ensures.word, c.if-word-gt-MOST_BYTES.false))
    (ap (stream_number c.args.catalog.now) (sym c.split_word.ensures.word) ∙ sym c.find_bytes.ensures.number ∙ c.in-Some.is)
    (rw c.in-None.is at c.fields_fault.ensures))
