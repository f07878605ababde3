use Rattle.std.proofs.Common.{◌≡◌, ◌∙◌, ◌^◌, ℕ, List, ℤ, true, false, ap, map, sym}
use Rattle.sem_query.specs.Meaning.{by_column}
use Rattle.sem_query.specs.Combinations.{Found}
use Rattle.exec_answer_table.specs.Entries.{TableValue, added_upto, with_entries}
use Rattle.exec_join.specs.Remaining.{as_found}
use Rattle.exec_ranges.specs.Values.{rows_in}
use Rattle.exec_query.specs.Executor.{cleared}
use Rattle.exec_query.specs.FoundTable.{with_found}
use Rattle.exec_query.proofs.InPart.{one_added}
use Rattle.exec_query.proofs.DirectLaws.{told-some}
use Rattle.exec_query.proofs.two_cells.take_up_anew.Goals as goal

pub returns-then-is_once : goal.returns-then-is_once
returns-then-is_once c =
    let d = c.args.q.now.distinct in
    let left : TableValue = with_entries c.args.table.now (cleared d c.args.table.now.entries) in
    let shown : List ℤ = map (by_column c.args.row.now.items) c.args.direct.now.selected.items in
    let f : Found = as_found shown (rows_in c.args.cell) in
    let is : c.clear.new.table ≡ left = c.clear.ensures ∙ ap (λ b. with_entries c.args.table.now (cleared b c.args.table.now.entries)) c.distinct-is_once.ensures in
    let same : map (by_column c.as_slice-values.result.now) c.as_slice-columns.result.now ≡ shown
    = ap (λ v. map (by_column v) c.as_slice-columns.result.now) c.as_slice-values.ensures.value ∙ ap (λ columns. map (by_column c.args.row.now.items) columns) c.as_slice-columns.ensures.value in
    let once : d ≡ true = sym c.distinct-is_once.ensures ∙ c.if-is_once.true in
    one_added d f _ left c.take_up_once.new.table (told-some c.args.direct.now c.args.row.now.items c.args.cell c.requires.some)
    (c.take_up_once.ensures
    ∙ ap (λ (u : List ℤ). with_entries c.clear.new.table (with_found true (as_found u 1) c.clear.new.table.entries)) same
    ∙ ap (λ (t : TableValue). with_entries t (with_found true (as_found shown 1) t.entries)) is
    ∙ ap (λ b. with_entries left (with_found b f left.entries)) (sym once))

pub returns-else-is_once : goal.returns-else-is_once
returns-else-is_once c =
    let d = c.args.q.now.distinct in
    let left : TableValue = with_entries c.args.table.now (cleared d c.args.table.now.entries) in
    let shown : List ℤ = map (by_column c.args.row.now.items) c.args.direct.now.selected.items in
    let f : Found = as_found shown (rows_in c.args.cell) in
    let is : c.clear.new.table ≡ left = c.clear.ensures ∙ ap (λ b. with_entries c.args.table.now (cleared b c.args.table.now.entries)) c.distinct-is_once.ensures in
    let same : map (by_column c.as_slice-values.result.now) c.as_slice-columns.result.now ≡ shown
    = ap (λ v. map (by_column v) c.as_slice-columns.result.now) c.as_slice-values.ensures.value ∙ ap (λ columns. map (by_column c.args.row.now.items) columns) c.as_slice-columns.ensures.value in
    let often : d ≡ false = sym c.distinct-is_once.ensures ∙ c.if-is_once.false in
    one_added d f _ left c.add_columns_upto.new.self (told-some c.args.direct.now c.args.row.now.items c.args.cell c.requires.some)
    (c.add_columns_upto.ensures
    ∙ ap (λ (u : List ℤ). with_entries c.clear.new.table (added_upto u c.from.result (2 ^ 127) c.clear.new.table.entries)) same
    ∙ ap (λ (n : ℕ). with_entries c.clear.new.table (added_upto shown n (2 ^ 127) c.clear.new.table.entries)) (c.from.ensures ∙ c.rows_in.ensures)
    ∙ ap (λ (t : TableValue). with_entries t (added_upto shown (rows_in c.args.cell) (2 ^ 127) t.entries)) is
    ∙ ap (λ b. with_entries left (with_found b f left.entries)) (sym often))
