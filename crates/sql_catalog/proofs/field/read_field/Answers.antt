use Rattle.std.proofs.Common.{◌≡◌, ◌<◌, ◌==◌, ℕ, true, false, [], ◌∷◌, List, take, drop, ap, sym, ◌∙◌, arith}
use Rattle.std.specs.List.{slice_split}
use Rattle.std.proofs.lemmas.Bool.Decides.{nat_tests}
use Rattle.std.proofs.lemmas.List.{nil_from_length}
use Rattle.sql_text.specs.Blank.{without_blanks_before}
use Rattle.sql_text.specs.Lines.{parts_behind}
use Rattle.sql_text.specs.Value.{value_of, integer_len}
use Rattle.sql_text.proofs.Trimmed.{behind_integer}
use Rattle.sql_catalog.specs.Rows.{is_comma}
use Rattle.sql_catalog.proofs.Fields.{field_parts, field_value, field_no_value}
use Rattle.sql_catalog.proofs.field.read_field.Goals as goal

none_left : (n : ℕ) → (n == 0) ≡ true → n ≡ 0
none_left n h = grind (arith, nat_tests)

some_left : (n : ℕ) → (n == 0) ≡ false → 0 < n
some_left n h = grind (arith, nat_tests)

pub returns-then-is_empty-clause-value : goal.returns-then-is_empty-clause-value
returns-then-is_empty-clause-value c =
    let rest : without_blanks_before c.leading_i64-value.result.1.now ≡ behind_integer c.args.text.now =
    ap without_blanks_before (c.leading_i64-value.ensures.behind ∙ ap (λ (t : List ℕ). drop (integer_len t) t) c.trim_start.ensures) in
    let parts : slice_split is_comma (behind_integer c.args.text.now) ≡ c.cut_behind.result.0.now ∷ parts_behind 44 c.cut_behind.result.1 = ap (slice_split is_comma) (sym rest) ∙ c.cut_behind.ensures.parts in
    let empty : c.cut_behind.result.0.now ≡ [] = nil_from_length _ (none_left _ (sym c.is_empty.ensures ∙ c.if-is_empty.true)) in
    c.leading_i64-value.ensures.value
    ∙ ap (λ (t : List ℕ). value_of (take (integer_len t) t)) c.trim_start.ensures
    ∙ field_value c.args.text.now c.cut_behind.result.0.now (parts_behind 44 c.cut_behind.result.1) parts empty

pub returns-then-is_empty-clause-parts : goal.returns-then-is_empty-clause-parts
returns-then-is_empty-clause-parts c =
    let rest : without_blanks_before c.leading_i64-value.result.1.now ≡ behind_integer c.args.text.now =
    ap without_blanks_before (c.leading_i64-value.ensures.behind ∙ ap (λ (t : List ℕ). drop (integer_len t) t) c.trim_start.ensures) in
    field_parts c.args.text.now c.cut_behind.result.0.now (parts_behind 44 c.cut_behind.result.1) (ap (slice_split is_comma) (sym rest) ∙ c.cut_behind.ensures.parts)

pub returns-else-is_empty-clause-value : goal.returns-else-is_empty-clause-value
returns-else-is_empty-clause-value c =
    let rest : without_blanks_before c.leading_i64-value.result.1.now ≡ behind_integer c.args.text.now =
    ap without_blanks_before (c.leading_i64-value.ensures.behind ∙ ap (λ (t : List ℕ). drop (integer_len t) t) c.trim_start.ensures) in
    sym (field_no_value c.args.text.now c.cut_behind.result.0.now (parts_behind 44 c.cut_behind.result.1) (ap (slice_split is_comma) (sym rest) ∙ c.cut_behind.ensures.parts) (some_left _ (sym c.is_empty.ensures ∙ c.if-is_empty.false)))

pub returns-else-is_empty-clause-parts : goal.returns-else-is_empty-clause-parts
returns-else-is_empty-clause-parts c =
    let rest : without_blanks_before c.leading_i64-value.result.1.now ≡ behind_integer c.args.text.now =
    ap without_blanks_before (c.leading_i64-value.ensures.behind ∙ ap (λ (t : List ℕ). drop (integer_len t) t) c.trim_start.ensures) in
    field_parts c.args.text.now c.cut_behind.result.0.now (parts_behind 44 c.cut_behind.result.1) (ap (slice_split is_comma) (sym rest) ∙ c.cut_behind.ensures.parts)
