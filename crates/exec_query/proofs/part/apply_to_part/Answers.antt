use Rattle.std.proofs.Common.{◌≡◌, ℕ, ◌<◌, ◌*◌, ℤ, List, true, ◌∙◌, sym, subst, slice_index_or, Option, Some, None}
use Rattle.std.specs.Option.{IfSome}
use Rattle.sem_query.specs.declared.cell.Cell.{Cell}
use Rattle.sem_query.specs.declared.plan.PartPlan.{PartPlan}
use Rattle.sem_query.specs.Combinations.{read_from}
use Rattle.exec_pool.specs.Extents.{cells_of}
use Rattle.exec_query.specs.FoundTable.{HaveRoom}
use Rattle.exec_query.proofs.InPart.{found_admitted, all_added, own_room}
use Rattle.exec_synopsis.specs.declared.own.OwnCell.{OwnCell}
use Rattle.exec_synopsis.specs.Own.{IsOwnCell}
use Rattle.exec_synopsis.specs.Premises.{HasRoom, row_cell}
use Rattle.exec_query.proofs.part.apply_to_part.Goals as goal
use Rattle.exec_query.proofs.part.apply_to_part.Goals.{then-takes+in-Some, then-takes+in-None, else-takes}

-- a cell that takes a row can count it
with-room : (part : PartPlan) (pos : ℕ) (row : List ℤ) (cells : List Cell) (end : ℕ) → HasRoom (slice_index_or cells (row_cell part pos row) Cell.Empty)
    → (own : Option OwnCell) → IfSome own (λ (cell : OwnCell). IsOwnCell part pos row cells cell × (cell.number < end))
    → IfSome own (λ (cell : OwnCell). IsOwnCell part pos row cells cell × (cell.number < end) × HasRoom cell.held)
with-room part pos row cells end room None h = tt
with-room part pos row cells end room (Some cell) h = (h.0, h.1, subst HasRoom (sym h.0.held) room)

pub own_cell-requires-clause-room : goal.own_cell-requires-clause-room
own_cell-requires-clause-room g c =
    own_room c.args.at.now.q.now c.args.at.now.part.now c.from-from.ensures.limits c.requires.ready.held.walked.plan c.args.at.now.arriving c.requires.here c.args.at.now.row.now.items
    (cells_of c.args.pool.now c.args.e.now) (c.requires.counts c.if-takes.true) (c.requires.several c.if-takes.true) c.requires.admitted

pub answer_and_put-requires-clause-own : goal.answer_and_put-requires-clause-own
answer_and_put-requires-clause-own g c =
    let room : c.args.takes.owns ≡ true → HasRoom (slice_index_or (cells_of c.args.pool.now c.args.e.now) (row_cell c.args.at.now.part.now c.args.at.now.arriving c.args.at.now.row.now.items) Cell.Empty)
    = λ owns. own_room c.args.at.now.q.now c.args.at.now.part.now c.from-from.ensures.limits c.requires.ready.held.walked.plan c.args.at.now.arriving c.requires.here c.args.at.now.row.now.items
    (cells_of c.args.pool.now c.args.e.now) (c.requires.counts owns) (c.requires.several owns) c.requires.admitted in
    let there : (own : Option OwnCell) → c.if-takes.own ≡ own
    → IfSome own (λ (cell : OwnCell). IsOwnCell c.args.at.now.part.now c.args.at.now.arriving c.args.at.now.row.now.items (cells_of c.args.pool.now c.args.e.now) cell × (cell.number < 64 * c.args.e.now.pages) × HasRoom cell.held)
    → IfSome c.if-takes.own (λ (cell : OwnCell). IsOwnCell c.args.at.now.part.now c.args.at.now.arriving c.args.at.now.row.now.items (cells_of c.args.pool.now c.args.e.now) cell × (cell.number < 64 * c.args.e.now.pages) × HasRoom cell.held)
    = λ own is h. subst (λ (o : Option OwnCell). IfSome o (λ (cell : OwnCell). IsOwnCell c.args.at.now.part.now c.args.at.now.arriving c.args.at.now.row.now.items (cells_of c.args.pool.now c.args.e.now) cell × (cell.number < 64 * c.args.e.now.pages) × HasRoom cell.held)) (sym is) h in
    elim c.if-takes.branch [
      | then-takes+in-Some w ↦ there c.args.takes.own (w.own-is ∙ sym w.in-Some.is)
          (with-room c.args.at.now.part.now c.args.at.now.arriving c.args.at.now.row.now.items (cells_of c.args.pool.now c.args.e.now) (64 * c.args.e.now.pages) (room w.if-takes.true) c.args.takes.own c.requires.own)
      | then-takes+in-None w ↦ there (Some w.own_cell.result) w.own-is (w.own_cell.ensures.own, w.own_cell.ensures.inside, subst HasRoom (sym w.own_cell.ensures.own.held) (room w.if-takes.true))
      | else-takes w ↦ there None w.own-is tt
    ]

pub answer_and_put-requires-clause-room : goal.answer_and_put-requires-clause-room
answer_and_put-requires-clause-room g c =
    subst (λ fs. HaveRoom c.args.at.now.q.now.distinct fs c.args.table.now)
    (found_admitted c.args.at.now.q.now c.args.at.now.part.now c.from-from.ensures.limits c.requires.ready.held.walked.plan c.args.at.now.arriving c.requires.here c.args.at.now.row.now.items (read_from (cells_of c.args.pool.now c.args.e.now)) c.requires.admitted)
    c.requires.room

pub returns-clause-table : goal.returns-clause-table
returns-clause-table g c =
    all_added c.args.at.now.q.now.distinct _ _ c.args.table.now c.answer_and_put.new.table
    (found_admitted c.args.at.now.q.now c.args.at.now.part.now c.from-from.ensures.limits c.requires.ready.held.walked.plan c.args.at.now.arriving c.requires.here c.args.at.now.row.now.items (read_from (cells_of c.args.pool.now c.args.e.now)) c.requires.admitted)
    c.answer_and_put.ensures.table
