use Rattle.std.proofs.Common.{◌≡◌, ◌∙◌, ◌*◌, ◌<◌, List, ◌∷◌, [], length, ap, sym, subst, arith, ℤ, true}
use Rattle.std.specs.Prelude.{slice_index_or, Some}
use Rattle.sem_query.specs.declared.cell.Cell.TheVariants.{Empty}
use Rattle.sem_query.specs.Combinations.{read_from}
use Rattle.sem_query.specs.Meaning.{by_column}
use Rattle.sem_query.specs.Parts.{pairs}
use Rattle.sem_query.specs.Probing.{found_beside}
use Rattle.exec_pool.specs.Extents.{cells_of}
use Rattle.exec_synopsis.specs.Joining.{IsJoinLookup}
use Rattle.exec_join.specs.Joining.{are_told, told_values}
use Rattle.exec_join.specs.Remaining.{as_found}
use Rattle.exec_ranges.specs.Values.{rows_in}
use Rattle.exec_join.proofs.JoinLaws.{nothing-outside, nothing-there, one-there, there-below}
use Rattle.exec_join.proofs.StartLaws.{share-some}
use Rattle.exec_join.proofs.join.first_look.Goals as goal

pub cell_of-requires-clause-axes : goal.cell_of-requires-clause-axes
cell_of-requires-clause-axes g c = (c.requires.prepared.joins c.args.at.now.arriving (Some c.in-Some.listed.now) c.in-Some.ensures).axes

pub cell_of-requires-clause-few : goal.cell_of-requires-clause-few
cell_of-requires-clause-few g c = (c.requires.prepared.joins c.args.at.now.arriving (Some c.in-Some.listed.now) c.in-Some.ensures).few

pub returns-in_default-cell_of-clause-found : goal.returns-in_default-cell_of-clause-found
returns-in_default-cell_of-clause-found g c =
    let is : IsJoinLookup (pairs c.args.at.now.q.now) c.args.at.now.part.now c.args.at.now.arriving c.in-Some.listed.now = c.requires.prepared.joins c.args.at.now.arriving (Some c.in-Some.listed.now) c.in-Some.ensures in
    subst (λ (row : List ℤ). found_beside c.args.at.now.q.now c.args.at.now.part.now (read_from (cells_of c.args.pool.now c.args.e.now)) c.args.at.now.arriving (by_column row) ≡ []) c.as_slice-row.ensures.value
    (nothing-outside c.args.at.now.q.now c.args.at.now.part.now c.requires.ready.held.walked c.args.at.now.arriving c.in-Some.listed.now is c.as_slice-row.result.now (cells_of c.args.pool.now c.args.e.now) c.in_default-cell_of.ensures)

pub read-cell-requires-clause-within : goal.read-cell-requires-clause-within
read-cell-requires-clause-within g c =
    let is : IsJoinLookup (pairs c.args.at.now.q.now) c.args.at.now.part.now c.args.at.now.arriving c.in-Some.listed.now = c.requires.prepared.joins c.args.at.now.arriving (Some c.in-Some.listed.now) c.in-Some.ensures in
    let held = c.requires.ready.held in
    let below = there-below c.args.at.now.q.now c.args.at.now.part.now held.walked c.args.at.now.arriving c.in-Some.listed.now is c.as_slice-row.result.now [] (64 * c.args.e.now.pages) held.within c.in-Some-cell_of.ensures.2 in
    let n = c.in-Some-cell_of.ensures.1 in
    omega (arith, below, n)

pub returns-then-is_empty-clause-found : goal.returns-then-is_empty-clause-found
returns-then-is_empty-clause-found g c =
    let contents = cells_of c.args.pool.now c.args.e.now in
    let is : IsJoinLookup (pairs c.args.at.now.q.now) c.args.at.now.part.now c.args.at.now.arriving c.in-Some.listed.now = c.requires.prepared.joins c.args.at.now.arriving (Some c.in-Some.listed.now) c.in-Some.ensures in
    subst (λ (row : List ℤ). found_beside c.args.at.now.q.now c.args.at.now.part.now (read_from contents) c.args.at.now.arriving (by_column row) ≡ []) c.as_slice-row.ensures.value
    (nothing-there c.args.at.now.q.now c.args.at.now.part.now c.requires.ready.held.walked c.args.at.now.arriving c.in-Some.listed.now is c.as_slice-row.result.now contents c.in-Some-cell_of.ensures.0
    (ap (λ n. slice_index_or contents n Empty) (sym c.in-Some-cell_of.ensures.1) ∙ sym (c.read-cell.ensures.cell Empty) ∙ c.is_empty.ensures.yes c.if-is_empty.true))

pub returns-else-is_empty-clause-found : goal.returns-else-is_empty-clause-found
returns-else-is_empty-clause-found g c =
    let q = c.args.at.now.q.now in
    let part = c.args.at.now.part.now in
    let contents = cells_of c.args.pool.now c.args.e.now in
    let listed = c.in-Some.listed.now in
    let is : IsJoinLookup (pairs q) part c.args.at.now.arriving listed = c.requires.prepared.joins c.args.at.now.arriving (Some listed) c.in-Some.ensures in
    let same = ap (λ n. slice_index_or contents n Empty) (sym c.in-Some-cell_of.ensures.1) ∙ sym (c.read-cell.ensures.cell Empty) in
    let told : are_told listed c.args.at.now.arriving q.select ≡ true = ap (are_told listed c.args.at.now.arriving) (sym c.select-select.ensures.value) ∙ sym c.are_told.ensures ∙ c.if-not-are_told.false in
    let values = c.put_values.ensures in
    subst (λ (row : List ℤ). found_beside q part (read_from contents) c.args.at.now.arriving (by_column row) ≡ as_found c.put_values.new.tuple.items c.rows_in.result ∷ []) c.as_slice-row.ensures.value
    (one-there q part c.requires.ready.held.walked c.args.at.now.arriving listed is c.as_slice-row.result.now contents c.in-Some-cell_of.ensures.0
    (λ e. c.is_empty.ensures.no c.if-is_empty.false (sym same ∙ e)) told
    ∙ (λ i. as_found ((ap (told_values listed c.args.at.now.arriving c.as_slice-row.result.now) (sym c.select-select.ensures.value) ∙ sym values) i) ((ap rows_in same ∙ sym c.rows_in.ensures) i) ∷ []))

pub returns-then-is_empty-clause-reads : goal.returns-then-is_empty-clause-reads
returns-then-is_empty-clause-reads g c =
    let walked = c.requires.ready.held.walked in
    let here : c.args.at.now.arriving < length c.args.at.now.part.now.streams.items = (let h = c.requires.here in omega (arith, h, walked.plan.count)) in
    let some = share-some c.args.at.now.q.now c.args.at.now.part.now c.args.at.now.arriving walked here in
    let r = c.read-cell.ensures.reads in
    omega (arith, r, some)

pub returns-else-is_empty-clause-reads : goal.returns-else-is_empty-clause-reads
returns-else-is_empty-clause-reads g c =
    let walked = c.requires.ready.held.walked in
    let here : c.args.at.now.arriving < length c.args.at.now.part.now.streams.items = (let h = c.requires.here in omega (arith, h, walked.plan.count)) in
    let some = share-some c.args.at.now.q.now c.args.at.now.part.now c.args.at.now.arriving walked here in
    let r = c.read-cell.ensures.reads in
    omega (arith, r, some)
