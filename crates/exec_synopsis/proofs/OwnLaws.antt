-- Taking a row into its own cell.
use Rattle.std.proofs.Common.{◌≡◌, ℕ, ℤ, Some, Option, List, [], ◌∷◌, set, get_or, ap, sym, ◌∙◌}
use Rattle.std.proofs.lemmas.List.{set-get_or}
use Rattle.sem_query.specs.declared.cell.Cell.{Cell}
use Rattle.sem_query.specs.declared.cell.Cell.TheVariants.{Empty}
use Rattle.sem_query.specs.declared.plan.PartPlan.{PartPlan}
use Rattle.sem_query.specs.Cells.{content}
use Rattle.sem_query.specs.Merge.{merged}
use Rattle.exec_pool.specs.declared.pool.Extent.{Extent}
use Rattle.exec_pool.specs.Extents.{PoolValue, cells_of, with_cells, IsLive}
use Rattle.exec_synopsis.specs.declared.own.OwnCell.{OwnCell}
use Rattle.exec_synopsis.specs.Inserting.{cells_with_row}
use Rattle.exec_synopsis.specs.Own.{IsOwnCell, with_row}

-- what is put into the own cell
pub put-own : (part : PartPlan) (place : ℕ) (row : List ℤ) (cells : List Cell) (own : OwnCell) → IsOwnCell part place row cells own
    → set cells own.number (with_row own row) ≡ cells_with_row part place row cells
put-own part place row cells own o = (λ i. set cells (o.number i) (merged (o.kind i) (o.held i) (content (o.kind i) (row ∷ []))))

-- cells put where they stand are the pool
same-pool : (p : PoolValue) (e : Extent) → IsLive p e → with_cells p e (cells_of p e) ≡ p
same-pool p e h =
    let same : set p.extents e.slot (Some (cells_of p e)) ≡ p.extents
    = ap (λ (o : Option (List Cell)). set p.extents e.slot o) (sym h.live) ∙ set-get_or p.extents e.slot _ in
    (λ i. record { pages = p.pages; free = p.free; lent = p.lent; extents = same i })

-- a cell that stays as it is need not be written
pub stays-put : (p : PoolValue) (e : Extent) (part : PartPlan) (place : ℕ) (row : List ℤ) (own : OwnCell) → IsLive p e
    → IsOwnCell part place row (cells_of p e) own → with_row own row ≡ own.held → p ≡ with_cells p e (cells_with_row part place row (cells_of p e))
stays-put p e part place row own h o stays =
    let cells : List Cell = cells_of p e in
    let held : with_row own row ≡ get_or cells own.number Empty = stays ∙ o.held ∙ sym (ap (λ (n : ℕ). get_or cells n Empty) o.number) in
    sym (ap (λ (cs : List Cell). with_cells p e cs) (sym (put-own part place row cells own o) ∙ ap (λ (c : Cell). set cells own.number c) held ∙ set-get_or cells own.number Empty)
    ∙ same-pool p e h)
