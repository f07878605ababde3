-- The evaluator that keeps the cells and the printed tuples, as one number, and that it is right.
use Rattle.std.proofs.Common.{◌≡◌, ℕ, List, [], ◌∷◌, ◌++◌, map, length, cond, Bool, true, false, refl, sym, ap, ap₂, ◌∙◌, arith, ℤ}
use Rattle.std.proofs.lemmas.List.{length-map}
use Rattle.std.proofs.lemmas.List.Elements.{All-contains}
use Rattle.sem_query.specs.declared.cell.Cell.{Cell}
use Rattle.sem_query.specs.declared.plan.PartPlan.{PartPlan}
use Rattle.sem_query.specs.Query.{QueryValue, IsWithinLimits}
use Rattle.sem_query.specs.Meaning.{Arrival, answers, new_answers}
use Rattle.sem_query.specs.Tuples.{sorted, distinct_tuples}
use Rattle.sem_query.specs.Domains.{RowKeeps, RowsKeep}
use Rattle.sem_query.specs.Plan.{Follow}
use Rattle.sem_query.specs.Serving.{KeepsStreams}
use Rattle.sem_query.specs.Cells.{cell_of, laid_out, synopsis, printed}
use Rattle.sem_query.proofs.Has.{first, later, Has-from_contains}
use Rattle.sem_query.specs.Combinations.{read_from}
use Rattle.sem_query.specs.Future.{future}
use Rattle.sem_query.specs.Merge.{merge, merged_table}
use Rattle.sem_query.specs.Ranges.{all_tuples}
use Rattle.sem_query.specs.Numbers.{cell_count}
use Rattle.sem_laws.specs.Sufficiency.{IsReadingOf, IsPlannedAnywhere, nothing, anywhere}
use Rattle.sem_laws.proofs.Keeping.{row-keeps, rows-keep, rows-more-keep}
use Rattle.sem_laws.proofs.LaidOut.{laid-out-at}
use Rattle.sem_laws.proofs.Sufficiency.{readings-suffice, none-read}
use Rattle.sem_laws.proofs.Walking.{serving-keep}
use Rattle.sem_laws.proofs.Merge.{synopses-merge, printed-grows}
use Rattle.sem_laws.proofs.Numbering.{synopsis-has-cells}
use Rattle.sem_laws.proofs.Interleaving.{appended, ended}
use Rattle.sem_lower_bounds.specs.States.{Evaluator, after}
use Rattle.sem_lower_bounds.specs.Within.{IsRightOn}
use Rattle.sem_lower_bounds.proofs.Pairing.{paired, parted, parted-paired, coded, numbers, numbers-coded}
use Rattle.sem_lower_bounds.proofs.Numbering.{cell_at, number, cells-numbered}
use Rattle.sem_lower_bounds.proofs.Marks.{mark, marked, table-again, printed-is}

-- cells and a table as one number
unfoldable pub state : QueryValue → List PartPlan → List Cell → List (List ℤ) → ℕ
state q plan cells table = paired (coded (map number cells)) (coded (map (mark table) (all_tuples q plan)))

-- the cells in a number
pub cells_of : List PartPlan → ℕ → List Cell
cells_of plan s = map cell_at (numbers (cell_count plan) (parted s).0)

-- the table in a number
pub table_of : QueryValue → List PartPlan → ℕ → List (List ℤ)
table_of q plan s = sorted (distinct_tuples (marked (numbers (length (all_tuples q plan)) (parted s).1) (all_tuples q plan)))

-- what is answered to a row, and the state after it, by cells and table
abbrev said : QueryValue → List PartPlan → List Cell → List (List ℤ) → Arrival → List (List ℤ)
said q plan cells table r = future q plan (read_from cells) table r

abbrev grown : QueryValue → List PartPlan → List Cell → List (List ℤ) → Arrival → ℕ
grown q plan cells table r =
    state q plan (merge plan cells (synopsis q plan (r ∷ []))) (cond q.distinct (merged_table table (said q plan cells table r)) [])

abbrev pub evaluator : QueryValue → List PartPlan → Evaluator
evaluator q plan = record {
  start = state q plan (synopsis q plan []) (printed q []);
  step = λ s r. grown q plan (cells_of plan s) (table_of q plan s) r;
  says = λ s r. said q plan (cells_of plan s) (table_of q plan s) r;
}

-- the state that stands for a history
abbrev pub standing : QueryValue → List PartPlan → List Arrival → ℕ
standing q plan h = state q plan (synopsis q plan h) (printed q h)

cells-again : (q : QueryValue) (plan : List PartPlan) (h : List Arrival) → cells_of plan (standing q plan h) ≡ synopsis q plan h
unfolding state cells_of
cells-again q plan h =
    let cells : List Cell = synopsis q plan h in
    let n : cell_count plan ≡ length (map number cells) = sym (length-map cells number ∙ synopsis-has-cells q plan h) in
    ap (λ (p : ℕ × ℕ). map cell_at (numbers (cell_count plan) p.0)) (parted-paired (coded (map number cells)) (coded (map (mark (printed q h)) (all_tuples q plan))))
    ∙ ap (λ (k : ℕ). map cell_at (numbers k (coded (map number cells)))) n
    ∙ ap (map cell_at) (numbers-coded (map number cells)) ∙ cells-numbered cells

-- the synopsis gives the cells of its history
reads : (q : QueryValue) (plan : List PartPlan) → IsPlannedAnywhere q plan → Follow 0 plan → (h : List Arrival) → IsReadingOf q plan h (read_from (synopsis q plan h))
unfolding synopsis
reads q plan (nothing f e) follow h = none-read q plan h (read_from (synopsis q plan h)) e
reads q plan (anywhere n is) follow h = found
  where
    found : IsReadingOf q plan h (read_from (laid_out (cell_of q h) plan))
    found part k place i l b =
        let keeps : KeepsStreams q part = All-contains (KeepsStreams q) plan part (serving-keep q plan is.serves) k in
        laid-out-at (cell_of q h) plan follow part (Has-from_contains plan part k) place i (omega (arith, l, keeps.count)) b Cell.Empty

module _ (q : QueryValue) (plan : List PartPlan) (within : IsWithinLimits q) (planned : IsPlannedAnywhere q plan) (follow : Follow 0 plan) where
  table-stands : (h : List Arrival) → RowsKeep q h → table_of q plan (standing q plan h) ≡ printed q h
  unfolding state table_of
  table-stands h keep =
      let ts : List (List ℤ) = all_tuples q plan in
      let marks : List ℕ = map (mark (printed q h)) ts in
      let n : length ts ≡ length marks = sym (length-map ts (mark (printed q h))) in
      ap (λ (p : ℕ × ℕ). sorted (distinct_tuples (marked (numbers (length ts) p.1) ts))) (parted-paired (coded (map number (synopsis q plan h))) (coded marks))
      ∙ ap (λ (k : ℕ). sorted (distinct_tuples (marked (numbers k (coded marks)) ts))) n
      ∙ ap (λ (ms : List ℕ). sorted (distinct_tuples (marked ms ts))) (numbers-coded marks) ∙ table-again ts (printed q h) (printed-is q plan within planned h keep)

  -- the cells and the printed tuples tell the answers to the next row
  tells : (h : List Arrival) (r : Arrival) → RowsKeep q h → RowKeeps q r → future q plan (read_from (synopsis q plan h)) (printed q h) r ≡ new_answers q h r
  tells h r keep_h keep_r = readings-suffice q plan within planned h keep_h (read_from (synopsis q plan h)) (reads q plan planned follow h) r keep_r

  says-right : (h : List Arrival) (r : Arrival) → RowsKeep q h → RowKeeps q r → (evaluator q plan).says (standing q plan h) r ≡ new_answers q h r
  says-right h r keep_h keep_r =
      ap (λ (cells : List Cell). said q plan cells (table_of q plan (standing q plan h)) r) (cells-again q plan h)
      ∙ ap (λ (table : List (List ℤ)). said q plan (synopsis q plan h) table r) (table-stands h keep_h) ∙ tells h r keep_h keep_r

  printed-next : (h : List Arrival) (r : Arrival) → cond q.distinct (merged_table (printed q h) (new_answers q h r)) [] ≡ printed q (h ++ r ∷ [])
  printed-next h r = by q.distinct refl
    where
      by : (b : Bool) → q.distinct ≡ b → cond q.distinct (merged_table (printed q h) (new_answers q h r)) [] ≡ printed q (h ++ r ∷ [])
      by true d = ap (λ b. cond b (merged_table (printed q h) (new_answers q h r)) []) d ∙ sym (printed-grows q h r within d)
      by false d =
          ap (λ b. cond b (merged_table (printed q h) (new_answers q h r)) []) d
          ∙ sym (ap (λ b. cond b (sorted (distinct_tuples (answers q (h ++ r ∷ [])))) []) d)

  steps-right : (h : List Arrival) (r : Arrival) → RowsKeep q h → RowKeeps q r → (evaluator q plan).step (standing q plan h) r ≡ standing q plan (h ++ r ∷ [])
  steps-right h r keep_h keep_r =
      ap (λ (cells : List Cell). grown q plan cells (table_of q plan (standing q plan h)) r) (cells-again q plan h)
      ∙ ap (λ (table : List (List ℤ)). grown q plan (synopsis q plan h) table r) (table-stands h keep_h)
      ∙ ap (λ (new : List (List ℤ)). state q plan (merge plan (synopsis q plan h) (synopsis q plan (r ∷ []))) (cond q.distinct (merged_table (printed q h) new) [])) (tells h r keep_h keep_r)
      ∙ ap₂ (state q plan) (sym (synopses-merge q plan h (r ∷ []))) (printed-next h r)

  comes : (done h : List Arrival) → RowsKeep q done → RowsKeep q h → after (evaluator q plan) (standing q plan done) h ≡ standing q plan (done ++ h)
  comes done [] keep rest = ap (standing q plan) (sym (ended done))
  comes done (r ∷ h) keep rest =
      let one : RowKeeps q r = row-keeps q (r ∷ h) rest r first in
      let more : RowsKeep q h = rows-keep q h (λ o i. row-keeps q (r ∷ h) rest o (later i)) in
      ap (λ (s : ℕ). after (evaluator q plan) s h) (steps-right done r keep one) ∙ comes (done ++ r ∷ []) h (rows-more-keep q done r keep one) more
      ∙ ap (standing q plan) (appended done r h)

  -- after each history the evaluator is in its state
  pub comes-to : (h : List Arrival) → RowsKeep q h → after (evaluator q plan) (evaluator q plan).start h ≡ standing q plan h
  comes-to h keep = comes [] h (rows-keep q [] (λ r i. elim i [ ])) keep

  pub evaluates : IsRightOn (RowKeeps q) q (evaluator q plan)
  evaluates h r keep_h keep_r = ap (λ (s : ℕ). (evaluator q plan).says s r) (comes-to h keep_h) ∙ says-right h r keep_h keep_r
