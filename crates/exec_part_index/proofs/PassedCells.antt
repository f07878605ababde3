-- The parts that a row passes over, and its own cells there.
use Rattle.std.proofs.Common.{◌≡◌, ℕ, ◌+◌, ◌*◌, ◌<◌, inl, inr, ℤ, List, length, get_or, sym, ap, ◌∙◌, subst, arith, slice_get, Some, [], ◌∷◌}
use Rattle.std.proofs.lemmas.Bool.{cases_lt}
use Rattle.sem_query.specs.declared.cell.Cell.TheVariants.{Empty}
use Rattle.sem_query.specs.declared.plan.Kind.{Kind}
use Rattle.sem_query.specs.declared.plan.PartPlan.{PartPlan}
use Rattle.sem_query.specs.Query.{QueryValue}
use Rattle.sem_query.specs.Meaning.{by_column}
use Rattle.sem_query.specs.Plan.{dims_at}
use Rattle.sem_query.specs.Admission.{admits}
use Rattle.sem_query.specs.Combinations.{read_from}
use Rattle.sem_laws.proofs.Tests.{and-right, not_both}
use Rattle.sem_laws.proofs.Places.{place-below}
use Rattle.exec_pool.specs.declared.pool.Extent.{Extent}
use Rattle.exec_pool.specs.Extents.{PoolValue, cells_of}
use Rattle.exec_synopsis.specs.declared.axes.Placement.TheVariants as placements
use Rattle.exec_synopsis.specs.declared.own.OwnCell.{OwnCell}
use Rattle.exec_synopsis.specs.Axes.{IsPlacement}
use Rattle.exec_synopsis.specs.Own as own_cells
use Rattle.exec_synopsis.specs.Premises.{IsHeld}
use Rattle.exec_synopsis.proofs.PlanLaws.{laid-from}
use Rattle.exec_part_index.proofs.PreparedParts.{part_at}
use Rattle.exec_part_index.proofs.Linked.{NoneAdmits, passed_by, hit_within, hit_there}
use Rattle.exec_part_index.specs.declared.part_index.PartIndex.{PartIndex}
use Rattle.exec_part_index.specs.PartIndex.{IsPartIndex, IsNext, buckets, row_bucket}
use Rattle.exec_part_index.specs.declared.shift.CellAt.{CellAt}
use Rattle.exec_part_index.specs.Shifts.{StandsAt}
use Rattle.exec_part_index.specs.Leaving.{AreHeld, LeavesCells, IsCellOf, IsOnChain, HasPassed, LeavesCell}
use Rattle.sem_query.specs.declared.cell.Cell.{Cell}
use Rattle.sem_query.specs.Cells.{content}
use Rattle.sem_query.specs.Merge.{merged}
use Rattle.exec_synopsis.specs.Own.{IsOwnCell}

-- the cell that is told of a row is one of the extent
pub cell-inside : (q : QueryValue) (part : PartPlan) (pos : ℕ) → pos < length q.from → 1 < length q.from → (row : List ℤ) (pool : PoolValue) (e : Extent) → IsHeld q part pool e
    → (number : ℕ) (kind : Kind) → IsPlacement part pos row (admits q part pos (by_column row)) (placements.Cell number kind) → number < 64 * e.pages
cell-inside q part pos here several row pool e held number kind stands =
    let laid = laid-from q part held.walked (64 * e.pages) held.within several pos here in
    let below = place-below (dims_at part pos) (by_column row) (and-right _ _ (sym stands.inside)) in
    let own = stands.cell.1 in
    let size = laid.size in
    let room = laid.room in
    omega (arith, below, own, size, room)

-- so is the cell where a row stands in the part of a number
pub stands-inside : (q : QueryValue) (parts : List PartPlan) (pos : ℕ) → pos < length q.from → 1 < length q.from → (row : List ℤ) (pool : PoolValue) (e : Extent) → AreHeld q parts pool e
    → (i : ℕ) (cell : CellAt) → StandsAt q parts pos row i cell → cell.number < 64 * e.pages
stands-inside q parts pos here several row pool e held i cell stands =
    let there = part_at parts i stands.within in
    cell-inside q there.0 pos here several row pool e (held i there.0 there.1) cell.number cell.kind (stands.stands there.0 there.1)

-- the cell that was read says that the row leaves it as it is
pub leaves-cell : (part : PartPlan) (pos : ℕ) (values : List ℤ) (cells : List Cell) (own : OwnCell) → IsOwnCell part pos values cells own → own_cells.with_row own values ≡ own.held
    → LeavesCell part (read_from cells) pos values
leaves-cell part pos values cells own o stays =
    sym (λ i. merged (o.kind i) (o.held i) (content (o.kind i) (values ∷ []))) ∙ stays ∙ o.held

-- no part of no parts has a cell that is turned
pub none-left : (q : QueryValue) (parts : List PartPlan) (pool : PoolValue) (e : Extent) (pos : ℕ) (values : List ℤ) (n m : ℕ) → n ≡ m → LeavesCells q parts (read_from (cells_of pool e)) pos values n m
none-left q parts pool e pos values n m same k part low high at_k admitted = absurd (omega (arith, low, high, same))

-- one part more, behind which the chain leads over parts that do not admit the row
pub left-more : (q : QueryValue) (parts : List PartPlan) (pool : PoolValue) (e : Extent) (pos : ℕ) (values : List ℤ) (n i m : ℕ)
    → LeavesCells q parts (read_from (cells_of pool e)) pos values n i → ((part : PartPlan) → slice_get parts i ≡ Some part → LeavesCell part (read_from (cells_of pool e)) pos values)
    → NoneAdmits q parts pos (by_column values) (i + 1) m → LeavesCells q parts (read_from (cells_of pool e)) pos values n m
left-more q parts pool e pos values n i m before own none k part low high at_k admitted = elim (cases_lt k i) [
  | inl less ↦ before k part low less at_k admitted
  | inr above ↦ elim (cases_lt i k) [
    | inl more ↦ absurd (not_both (admits q part pos (by_column values)) admitted (none k part (omega (arith, more)) high at_k))
    | inr below ↦ (
        let same : k ≡ i = omega (arith, above, below) in
        own part (subst (λ x. slice_get parts x ≡ Some part) same at_k))
  ]
]

-- the own cell that is read where it is told
pub cell-of : (parts : List PartPlan) (q : QueryValue) (pos : ℕ) (row : List ℤ) (pool : PoolValue) (e : Extent) (i : ℕ) (cell : CellAt) (held : Cell) → StandsAt q parts pos row i cell
    → held ≡ get_or (cells_of pool e) cell.number Empty → cell.number < 64 * e.pages → IsCellOf parts pos row pool e i (record { number = cell.number; kind = cell.kind; held = held })
cell-of parts q pos row pool e i cell held stands is inside = record {
  own = λ part at_i.
      let c = (stands.stands part at_i).cell in
      record {
        number = c.1;
        kind = c.2;
        held = is ∙ ap (λ n. get_or (cells_of pool e) n Empty) c.1;
      };
  inside = inside;
}

module _ (q : QueryValue) (parts : List PartPlan) (pos : ℕ) (c : PartIndex) (are : IsPartIndex q parts pos c) (row : List ℤ) where
  -- the next part of the row's bucket is on the chain
  pub on-chain : (n i : ℕ) → IsNext (buckets c) (row_bucket c (by_column row)) n i → IsOnChain q parts c row i
  on-chain n i next = record {
    within = hit_within q parts pos c are (by_column row) n i next;
    there = hit_there q parts pos c are (by_column row) n i next;
  }

  pub next-of : (i m : ℕ) → i < length parts → IsOnChain q parts c row i
      → IsNext (buckets c) (get_or (buckets c) i 0) (i + 1) m
      → IsNext (buckets c) (row_bucket c (by_column row)) (i + 1) m
  next-of i m inside chain next = subst (λ b. IsNext (buckets c) b (i + 1) m) (chain.there inside) next

  -- one part more is passed over, whose cell the row leaves as it is
  pub passed-step : (pool : PoolValue) (e : Extent) (start i m : ℕ) (own : OwnCell) → i < length parts → HasPassed q parts c pos row pool e start i → IsCellOf parts pos row pool e i own
      → own_cells.with_row own row ≡ own.held → IsNext (buckets c) (get_or (buckets c) i 0) (i + 1) m
      → HasPassed q parts c pos row pool e start m
  passed-step pool e start i m own inside passed cell stays next =
      let more = next-of i m inside passed.there next in
      record {
        behind = (let b = passed.behind in let n = next.behind in omega (arith, b, n));
        left =
            left-more q parts pool e pos row start i m passed.left (λ part at_i. leaves-cell part pos row (cells_of pool e) own (cell.own part at_i) stays)
            (passed_by q parts pos c are (by_column row) (i + 1) m more);
        there = on-chain (i + 1) m more;
      }
