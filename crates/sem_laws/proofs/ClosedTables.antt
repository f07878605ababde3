-- Cells stay saturated with every row, and so tables stay closed.
use Rattle.std.proofs.Common.{◌≡◌, ℕ, zero, suc, ◌+◌, ◌<◌, ◌⊎◌, inl, inr, List, [], ◌∷◌, map, length, cond, Bool, true, false, ◌&&◌, ◌==◌, nat_eq, refl, sym, ap, ◌∙◌, subst, arith, ℤ, replicate, slice_index_or, Contains}
use Rattle.std.proofs.lemmas.List.{length-replicate}
use Rattle.std.specs.List.{flat_map, list_any}
use Rattle.sem_query.specs.declared.cell.Cell.{Cell}
use Rattle.sem_query.specs.declared.plan.PartPlan.{PartPlan}
use Rattle.sem_query.specs.Query.{QueryValue}
use Rattle.sem_query.specs.Meaning.{Arrival, by_column}
use Rattle.sem_query.specs.Domains.{RowsKeep}
use Rattle.sem_query.specs.Plan.{stream_at, dims_at}
use Rattle.sem_query.specs.Admission.{admits}
use Rattle.sem_query.specs.Cells.{row_place, content, upto}
use Rattle.sem_query.specs.Merge.{merged, merged_table}
use Rattle.sem_query.specs.Tuples.{sorted, new_tuples}
use Rattle.sem_query.specs.Combinations.{Choice, choice, cell_choice, Reading, read_from, found_in}
use Rattle.sem_query.specs.Numbers.{places}
use Rattle.sem_query.specs.Probing.{choices_beside, found_beside}
use Rattle.sem_query.specs.Future.{spelled_out, waiting, future}
use Rattle.sem_query.specs.Sharing.{Box, sizes_in, synopsis_in, merge_in}
use Rattle.sem_query.specs.Bases.{Base, first_base, base_of, table_with, kept, kept_row}
use Rattle.sem_query.proofs.Has.{Has, first, Has-from_contains, Contains-from_has}
use Rattle.sem_laws.specs.Sharing.{AreBoxesOf}
use Rattle.sem_laws.specs.Bases.{boxed}
use Rattle.sem_laws.specs.Closed.{IsDistinctPlan, IsSaturated, own_place, own_content, with_own, IsClosedBase, StaySaturated, CellsStaySaturated, TablesStayClosed}
use Rattle.sem_laws.proofs.Tests.{true_or_false, false_if, nat_true, or-false, or-cases}
use Rattle.sem_laws.proofs.OnePartFits.{has_cases}
use Rattle.sem_laws.proofs.Weights.{View}
use Rattle.sem_laws.proofs.Extremes.{Partnered, flat_map-from, has-flat_map, has-upto, upto-below}
use Rattle.sem_laws.proofs.ServedCells.{Agree, StandsIn, stands_itself, down}
use Rattle.sem_laws.proofs.Sufficiency.{future-is}
use Rattle.sem_laws.proofs.BoxReadings.{rows-merge-in}
use Rattle.sem_laws.proofs.Walking.{serving-keep}
use Rattle.sem_laws.proofs.SharedCells.{bases-grow}
use Rattle.sem_laws.proofs.Bases.{bases-keep-on, bases-stand-for-histories}
use Rattle.sem_laws.proofs.Crossing.{Tells, Partner, crossed-either, tells-crossed}
use Rattle.sem_laws.proofs.OwnCells.{stays-or-turns}
use Rattle.sem_laws.proofs.MergedTables.{in-merged, waits-or-stands}
use Rattle.sem_laws.proofs.Saturated.{part-serves, counts-none, itself, own-choices, cell-choices, ends, tells-instead, found-tells, tells-found, found-beside}

-- where a stream stands in FROM
place-in : (stream : ℕ) (from : List ℕ) → list_any (λ s. stream == s) from ≡ true → (place : ℕ) × (place < length from) × (slice_index_or from place 0 ≡ stream)
place-in stream [] h = absurd cc
place-in stream (s ∷ from) h = elim (or-cases (stream == s) (list_any (λ s. stream == s) from) h) [
  | inl e ↦ (zero, omega arith, sym (nat_true stream s e))
  | inr e ↦ (let r = place-in stream from e in (suc r.0, omega (arith, r.1), r.2))
]

none-in : (stream : ℕ) (from : List ℕ) → list_any (λ s. stream == s) from ≡ false → (place : ℕ) → place < length from → (stream == slice_index_or from place 0) ≡ false
none-in stream [] h place l = absurd (omega (arith, l))
none-in stream (s ∷ from) h zero l = (or-false (stream == s) (list_any (λ s. stream == s) from) h).0
none-in stream (s ∷ from) h (suc place) l = none-in stream from (or-false (stream == s) (list_any (λ s. stream == s) from) h).1 place (omega (arith, l))

nat-other : (a b : ℕ) → (a ≡ b → ⊥) → nat_eq a b ≡ false
nat-other a b n = false_if (nat_eq a b) (λ e. n (nat_true a b e))

module _ (q : QueryValue) (plan : List PartPlan) (is : IsDistinctPlan q plan) (list : List Box) (of : AreBoxesOf q plan list) (base : Base) (whole : length base.cells ≡ sizes_in list) (r : Arrival) where
  abbrev old : Reading
  old = read_from base.cells

  abbrev new : Reading
  new = read_from (merge_in list base.cells (synopsis_in q list (r ∷ [])))

  abbrev table : List (List ℤ)
  table = table_with q plan base.cells base.table r

  abbrev v : View
  v = by_column r.values

  table-is : table ≡ merged_table base.table (future q plan old base.table r)
  table-is = ap (λ b. cond b (merged_table base.table (future q plan old base.table r)) []) is.distinct

  old-tuple : (t : List ℤ) → Has base.table t → Has table t
  old-tuple t h = subst (λ ts. Has ts t) (sym table-is) (in-merged base.table (future q plan old base.table r) t (inl h))

  new-tuple : list_any (λ stream. r.stream == stream) q.from ≡ true → (t : List ℤ) → Has (waiting q plan old r) t → Has table t
  new-tuple named t h =
      let f : future q plan old base.table r ≡ sorted (new_tuples base.table (waiting q plan old r))
      = future-is q plan old base.table r true false named is.several
      ∙ ap (λ b. cond b (sorted (new_tuples base.table (waiting q plan old r))) (sorted (waiting q plan old r))) is.distinct in
      let o : Has base.table t ⊎ Has (sorted (new_tuples base.table (waiting q plan old r))) t = waits-or-stands base.table (waiting q plan old r) t h in
      subst (λ ts. Has ts t) (sym table-is) (in-merged base.table (future q plan old base.table r) t (subst (λ us. Has base.table t ⊎ Has us t) (sym f) o))

  module _ (part : PartPlan) (known : Has plan part) where
    abbrev lists : Reading → ℕ → View → ℕ → List Choice
    lists read place v = choices_beside q part read place v

    abbrev told : Reading → ℕ → View → List ℤ → Type 0
    told read place v t = Tells q part (map (lists read place v) (places part)) t

    abbrev cell_at : Reading → ℕ → List Choice
    cell_at read place = flat_map (λ i. cell_choice q part place i (read part place i)) (upto (λ i. i) (stream_at part place).size)

    placed : (place : ℕ) → place < length q.from → place < length part.streams.items
    placed place l = let c = (part-serves q plan is part known).keeps.count in omega (arith, c, l)

    merges : (place i : ℕ) → place < length q.from → i < (stream_at part place).size
        → new part place i
        ≡ cond ((r.stream == slice_index_or q.from place 0) && (admits q part place v && nat_eq (row_place (dims_at part place) v) i))
        (merged (stream_at part place).kind (old part place i) (content (stream_at part place).kind (r.values ∷ []))) (old part place i)
    merges place i l b =
        (rows-merge-in q plan (serving-keep q plan is.serving.serves) list of base.cells whole r).at part (Contains-from_has plan part known) place i (placed place l) b

    -- a cell of another stream stays as it is
    off-stream : (place i : ℕ) → place < length q.from → i < (stream_at part place).size → (r.stream == slice_index_or q.from place 0) ≡ false
        → new part place i ≡ old part place i
    off-stream place i l b e =
        merges place i l b
        ∙ ap (λ c. cond (c && (admits q part place v && nat_eq (row_place (dims_at part place) v) i)) (merged (stream_at part place).kind (old part place i) (content (stream_at part place).kind (r.values ∷ []))) (old part place i)) e

    -- where all cells stay as they are, each stays saturated
    left-alone : ((place i : ℕ) → place < length q.from → i < (stream_at part place).size → new part place i ≡ old part place i)
        → (place i : ℕ) → place < length q.from → i < (stream_at part place).size
        → IsSaturated q part old base.table place i → IsSaturated q part new table place i
    left-alone same place i l b saturated c k p t h =
        let k' = subst (λ (d : Cell). Contains (cell_choice q part place i d) c) (same place i l b) k in
        let w = found-tells q plan is part known new place c.values t (Has-from_contains _ t h) in
        let u = tells-instead q plan is part known new old place c.values c.values l (itself q plan is part known place c.values) (λ m j a n d. same m j a d) t w in
        Contains-from_has table t (old-tuple t (Has-from_contains base.table t (saturated c k' p t (Contains-from_has _ t (tells-found q plan is part known old place c.values t u)))))

    module _ (a : ℕ) (there : a < length q.from) (stream : slice_index_or q.from a 0 ≡ r.stream) where
      named : list_any (λ stream. r.stream == stream) q.from ≡ true
      named = elim (true_or_false (list_any (λ stream. r.stream == stream) q.from)) [
        | inl e ↦ e
        | inr e ↦ absurd (let n : (r.stream == slice_index_or q.from a 0) ≡ false = none-in r.stream q.from e a there in grind (arith, n, stream))
      ]

      -- FROM names the stream at no other place
      elsewhere : (place : ℕ) → place < length q.from → (place ≡ a → ⊥) → (r.stream == slice_index_or q.from place 0) ≡ false
      elsewhere place l n =
          nat-other r.stream (slice_index_or q.from place 0) (λ e. elim (before place a n) [
            | inl b ↦ is.limits.different place a 0 b there (sym e ∙ sym stream)
            | inr b ↦ is.limits.different a place 0 b l (stream ∙ e)
          ])
        where
          before : (a b : ℕ) → (a ≡ b → ⊥) → (a < b) ⊎ (b < a)
          before a b n = elim (three a b) [ inl h ↦ inl h | inr h ↦ elim h [ inl e ↦ absurd (n e) | inr k ↦ inr k ] ]
            where
              three : (a b : ℕ) → (a < b) ⊎ ((a ≡ b) ⊎ (b < a))
              three a b = grind arith

      others-stay : (place i : ℕ) → place < length q.from → (place ≡ a → ⊥) → i < (stream_at part place).size → new part place i ≡ old part place i
      others-stay place i l n b = off-stream place i l b (elsewhere place l n)

      -- at its own place of FROM a row changes no cell but the one that it falls into
      on-stream : (i : ℕ) → i < (stream_at part a).size
          → new part a i
          ≡ cond (admits q part a v && nat_eq (row_place (dims_at part a) v) i)
          (merged (stream_at part a).kind (old part a i) (content (stream_at part a).kind (r.values ∷ []))) (old part a i)
      on-stream i b =
          let e : (r.stream == slice_index_or q.from a 0) ≡ true = grind (arith, stream) in
          merges a i there b
          ∙ ap (λ c. cond (c && (admits q part a v && nat_eq (row_place (dims_at part a) v) i)) (merged (stream_at part a).kind (old part a i) (content (stream_at part a).kind (r.values ∷ []))) (old part a i)) e

      not-admitted : admits q part a v ≡ false → (i : ℕ) → i < (stream_at part a).size → new part a i ≡ old part a i
      not-admitted e i b =
          on-stream i b
          ∙ ap (λ c. cond (c && nat_eq (row_place (dims_at part a) v) i) (merged (stream_at part a).kind (old part a i) (content (stream_at part a).kind (r.values ∷ []))) (old part a i)) e

      same-box : (i : ℕ) → i < (stream_at part a).size → nat_eq (own_place part a r.values) i ≡ false → new part a i ≡ old part a i
      same-box i b e =
          on-stream i b
          ∙ ap (λ c. cond (admits q part a v && c) (merged (stream_at part a).kind (old part a i) (content (stream_at part a).kind (r.values ∷ []))) (old part a i)) e
          ∙ none (admits q part a v)
        where
          none : (b : Bool) → cond (b && false) (merged (stream_at part a).kind (old part a i) (content (stream_at part a).kind (r.values ∷ []))) (old part a i) ≡ old part a i
          none true = refl
          none false = refl

      module _ (admitted : admits q part a v ≡ true) where
        own-cell : own_place part a r.values < (stream_at part a).size → new part a (own_place part a r.values) ≡ with_own part old a r.values
        own-cell b =
            let e : nat_eq (own_place part a r.values) (own_place part a r.values) ≡ true = grind arith in
            on-stream (own_place part a r.values) b
            ∙ ap (λ c. cond (c && nat_eq (own_place part a r.values) (own_place part a r.values)) (with_own part old a r.values) (old part a (own_place part a r.values))) admitted
            ∙ ap (λ c. cond c (with_own part old a r.values) (old part a (own_place part a r.values))) e

        -- what a walk for the row finds is in the table
        from-row : (t : List ℤ) → told old a v t → Has table t
        from-row t w =
            let f : found_in q part old r ≡ found_beside q part old a v
            = found-beside q plan is part known old r a there stream ∙ ap (λ b. cond b (found_beside q part old a v) []) admitted in
            let h : Has (spelled_out (found_in q part old r)) t
            = subst (λ fs. Has (spelled_out fs) t) (sym f) (tells-found q plan is part known old a v t w) in
            new-tuple named t (has-flat_map (λ part. spelled_out (found_in q part old r)) plan part t known h)

        module _ (turns : with_own part old a r.values ≡ own_content part a r.values) where
          -- a choice of the cell that holds what it would hold of the row alone is that row
          is-row : own_place part a r.values < (stream_at part a).size → (c : Choice) → Has (cell_choice q part a (own_place part a r.values) (new part a (own_place part a r.values))) c
              → StandsIn q part a c.values v
          is-row inside c k =
              let k' : Has (cell_choice q part a (own_place part a r.values) (content (stream_at part a).kind (r.values ∷ []))) c
              = subst (λ (d : Cell). Has (cell_choice q part a (own_place part a r.values) d) c) (own-cell inside ∙ turns) k in
              let x = down q part (part-serves q plan is part known) a there (stream_at part a).kind refl (own_place part a r.values) (r.values ∷ []) rows-are c k' in
              let e : r.values ≡ x.0 = elim (has_cases r.values x.0 [] x.1) [ inl e ↦ e | inr o ↦ elim o [ ] ] in
              stands_itself q part a c.values v (subst (λ (y : List ℤ). Agree q part a c.values (by_column y)) (sym e) x.2)
            where
              rows-are : (y : List ℤ) → Has (r.values ∷ []) y → (admits q part a (by_column y) ≡ true) × (row_place (stream_at part a).dims.items (by_column y) ≡ own_place part a r.values)
              rows-are y h = elim (has_cases r.values y [] h) [
                | inl e ↦ subst (λ (y : List ℤ). (admits q part a (by_column y) ≡ true) × (row_place (stream_at part a).dims.items (by_column y) ≡ own_place part a r.values)) e (admitted, refl)
                | inr o ↦ elim o [ ]
              ]

          -- the row saturates that cell
          own-saturated : own_place part a r.values < (stream_at part a).size → IsSaturated q part new table a (own_place part a r.values)
          own-saturated inside c k p t h =
              let w = found-tells q plan is part known new a c.values t (Has-from_contains _ t h) in
              let u = tells-instead q plan is part known new old a c.values v there (is-row inside c (Has-from_contains _ c k)) (λ m j l n b. others-stay m j l n b) t w in
              Contains-from_has table t (from-row t u)

          -- another cell of its box stays saturated
          stays-here : (i : ℕ) → i < (stream_at part a).size → nat_eq (own_place part a r.values) i ≡ false → IsSaturated q part old base.table a i → IsSaturated q part new table a i
          stays-here i b e saturated c k p t h =
              let k' = subst (λ (d : Cell). Contains (cell_choice q part a i d) c) (same-box i b e) k in
              let w = found-tells q plan is part known new a c.values t (Has-from_contains _ t h) in
              let u = tells-instead q plan is part known new old a c.values c.values there (itself q plan is part known a c.values) (λ m j l n b. others-stay m j l n b) t w in
              Contains-from_has table t (old-tuple t (Has-from_contains base.table t (saturated c k' p t (Contains-from_has _ t (tells-found q plan is part known old a c.values t u)))))

          old-choice : (p : ℕ) → p < length q.from → (p ≡ a → ⊥) → (d : Choice) → Has (cell_at new p) d → Has (cell_at old p) d
          old-choice p l n d k =
              let i = flat_map-from (λ i. cell_choice q part p i (new part p i)) (upto (λ i. i) (stream_at part p).size) d k in
              has-flat_map (λ i. cell_choice q part p i (old part p i)) (upto (λ i. i) (stream_at part p).size) i.0 d i.1
              (subst (λ (e : Cell). Has (cell_choice q part p i.0 e) d) (others-stay p i.0 l n (upto-below (stream_at part p).size i.0 i.1)) i.2)

          -- a cell of another place stays saturated: beside it the own cell holds what it held, or the row
          module _ (m i : ℕ) (l : m < length q.from) (n : m ≡ a → ⊥) (b : i < (stream_at part m).size) (c : Choice) (k : Has (cell_choice q part m i (old part m i)) c) (p : 0 < c.times) where
            mine : Has (cell_at old m) c
            mine = has-flat_map (λ i. cell_choice q part m i (old part m i)) (upto (λ i. i) (stream_at part m).size) i c (has-upto (stream_at part m).size i b) k

            left : (o : ℕ) → o < length q.from → (o ≡ a → ⊥) → Partnered (StandsIn q part) o (lists new m c.values o) (lists old m c.values o)
            left o lo apart d kd pd = (d, by (true_or_false (nat_eq o m)), pd, itself q plan is part known o d.values)
              where
                by : (nat_eq o m ≡ true) ⊎ (nat_eq o m ≡ false) → Has (lists old m c.values o) d
                by (inl e) =
                    let s : o ≡ m = nat_true o m e in
                    let f : lists new m c.values o ≡ lists old m c.values o
                    = ap (lists new m c.values) s ∙ own-choices q plan is part known new m c.values ∙ sym (own-choices q plan is part known old m c.values) ∙ sym (ap (lists old m c.values) s) in
                    subst (λ cs. Has cs d) f kd
                by (inr e) =
                    let s : o ≡ m → ⊥ = λ h. absurd (grind (arith, e, h)) in
                    subst (λ cs. Has cs d) (sym (cell-choices q plan is part known old m c.values o l lo s))
                    (old-choice o lo apart d (subst (λ cs. Has cs d) (cell-choices q plan is part known new m c.values o l lo s) kd))

            right : (o : ℕ) → o < length q.from → (o ≡ a → ⊥) → Partnered (StandsIn q part) o (lists new m c.values o) (lists old a v o)
            right o lo apart d kd pd = by (true_or_false (nat_eq o m))
              where
                by : (nat_eq o m ≡ true) ⊎ (nat_eq o m ≡ false) → Partner (StandsIn q part) o (lists old a v o) d.values
                by (inl e) =
                    let s : o ≡ m = nat_true o m e in
                    let h : Has (choice c.values 1) d
                    = subst (λ cs. Has cs d) (ap (lists new m c.values) s ∙ own-choices q plan is part known new m c.values) kd in
                    let f : record { values = c.values; times = 1 } ≡ d = elim (has_cases _ d [] h) [ inl e ↦ e | inr o ↦ elim o [ ] ] in
                    let g : Has (lists old a v o) c
                    = subst (λ cs. Has cs c) (sym (ap (lists old a v) s ∙ cell-choices q plan is part known old a v m there l n)) mine in
                    (c, g, p, subst (λ (d : Choice). StandsIn q part o d.values c.values) f (itself q plan is part known o c.values))
                by (inr e) =
                    let s : o ≡ m → ⊥ = λ h. absurd (grind (arith, e, h)) in
                    let g : Has (lists old a v o) d
                    = subst (λ cs. Has cs d) (sym (cell-choices q plan is part known old a v o there lo apart))
                    (old-choice o lo apart d (subst (λ cs. Has cs d) (cell-choices q plan is part known new m c.values o l lo s) kd)) in
                    (d, g, pd, itself q plan is part known o d.values)

            at-own : (d : Choice) → Has (lists new m c.values a) d → 0 < d.times
                → Partner (StandsIn q part) a (lists old m c.values a) d.values ⊎ Partner (StandsIn q part) a (lists old a v a) d.values
            at-own d kd pd = by (true_or_false (nat_eq (own_place part a r.values) j.0))
              where
                off : a ≡ m → ⊥
                off e = n (sym e)

                j : (j : ℕ) × Has (upto (λ i. i) (stream_at part a).size) j × Has (cell_choice q part a j (new part a j)) d
                j =
                    flat_map-from (λ i. cell_choice q part a i (new part a i)) (upto (λ i. i) (stream_at part a).size) d
                    (subst (λ cs. Has cs d) (cell-choices q plan is part known new m c.values a l there off) kd)

                by : (nat_eq (own_place part a r.values) j.0 ≡ true) ⊎ (nat_eq (own_place part a r.values) j.0 ≡ false)
                    → Partner (StandsIn q part) a (lists old m c.values a) d.values ⊎ Partner (StandsIn q part) a (lists old a v a) d.values
                by (inl e) =
                    let s : own_place part a r.values ≡ j.0 = nat_true _ _ e in
                    let inside : own_place part a r.values < (stream_at part a).size
                    = subst (λ x. x < (stream_at part a).size) (sym s) (upto-below (stream_at part a).size j.0 j.1) in
                    let h : Has (cell_choice q part a (own_place part a r.values) (new part a (own_place part a r.values))) d
                    = subst (λ x. Has (cell_choice q part a x (new part a x)) d) (sym s) j.2 in
                    inr (
                      record { values = v; times = 1 },
                      subst (λ cs. Has cs record { values = v; times = 1 }) (sym (own-choices q plan is part known old a v)) first,
                      omega arith,
                      is-row inside d h,
                    )
                by (inr e) =
                    let h : Has (cell_choice q part a j.0 (old part a j.0)) d
                    = subst (λ (x : Cell). Has (cell_choice q part a j.0 x) d) (same-box j.0 (upto-below (stream_at part a).size j.0 j.1) e) j.2 in
                    inl (
                      d,
                      subst (λ cs. Has cs d) (sym (cell-choices q plan is part known old m c.values a l there off))
                          (has-flat_map (λ i. cell_choice q part a i (old part a i)) (upto (λ i. i) (stream_at part a).size) j.0 d j.1 h),
                      pd,
                      itself q plan is part known a d.values,
                    )

            split : (t : List ℤ) → told new m c.values t → told old m c.values t ⊎ told old a v t
            split t w =
                elim (crossed-either (StandsIn q part) (length q.from) a 0 (length part.streams.items) (ends q plan is part known) (omega arith) there (lists new m c.values) (lists old m c.values) (lists old a v) left right at-own w.chosen w.among w.present) [
                  | inl x ↦ inl (tells-crossed q part (part-serves q plan is part known) (map (lists new m c.values) (places part)) (map (lists old m c.values) (places part)) t w x)
                  | inr x ↦ inr (tells-crossed q part (part-serves q plan is part known) (map (lists new m c.values) (places part)) (map (lists old a v) (places part)) t w x)
                ]

          stays-beside : (m i : ℕ) → m < length q.from → (m ≡ a → ⊥) → i < (stream_at part m).size → IsSaturated q part old base.table m i → IsSaturated q part new table m i
          stays-beside m i l n b saturated c k p t h =
              let k' = subst (λ (d : Cell). Contains (cell_choice q part m i d) c) (others-stay m i l n b) k in
              let w = found-tells q plan is part known new m c.values t (Has-from_contains _ t h) in
              elim (split m i l n b c (Has-from_contains _ c k') p t w) [
                | inl u ↦ Contains-from_has table t (old-tuple t (Has-from_contains base.table t (saturated c k' p t (Contains-from_has _ t (tells-found q plan is part known old m c.values t u)))))
                | inr u ↦ Contains-from_has table t (from-row t u)
              ]

          stays-turned : (m i : ℕ) → m < length q.from → i < (stream_at part m).size → IsSaturated q part old base.table m i → IsSaturated q part new table m i
          stays-turned m i l b saturated = elim (true_or_false (nat_eq m a)) [
            | inl e ↦ (
                let s : m ≡ a = nat_true m a e in
                subst (λ m. i < (stream_at part m).size → IsSaturated q part old base.table m i → IsSaturated q part new table m i) (sym s) at_a b saturated)
            | inr e ↦ stays-beside m i l (λ h. absurd (grind (arith, e, h))) b saturated
          ]
            where
              at_a : i < (stream_at part a).size → IsSaturated q part old base.table a i → IsSaturated q part new table a i
              at_a b saturated = elim (true_or_false (nat_eq (own_place part a r.values) i)) [
                | inl e ↦ (
                    let s : own_place part a r.values ≡ i = nat_true _ _ e in
                    subst (λ x. x < (stream_at part a).size → IsSaturated q part new table a x) s own-saturated b)
                | inr e ↦ stays-here i b e saturated
              ]

        -- where the own cell stays as it is, all cells do
        none-changes : with_own part old a r.values ≡ old part a (own_place part a r.values) → (m i : ℕ) → m < length q.from → i < (stream_at part m).size → new part m i ≡ old part m i
        none-changes same m i l b = elim (true_or_false (nat_eq m a)) [
          | inl e ↦ (
              let s : m ≡ a = nat_true m a e in
              subst (λ m. i < (stream_at part m).size → new part m i ≡ old part m i) (sym s) at_a b)
          | inr e ↦ others-stay m i l (λ h. absurd (grind (arith, e, h))) b
        ]
          where
            at_a : i < (stream_at part a).size → new part a i ≡ old part a i
            at_a b = elim (true_or_false (nat_eq (own_place part a r.values) i)) [
              | inl e ↦ (
                  let s : own_place part a r.values ≡ i = nat_true _ _ e in
                  subst (λ x. x < (stream_at part a).size → new part a x ≡ old part a x) s (λ inside. own-cell inside ∙ same) b)
              | inr e ↦ same-box i b e
            ]

        stays-admitted : (m i : ℕ) → m < length q.from → i < (stream_at part m).size → IsSaturated q part old base.table m i → IsSaturated q part new table m i
        stays-admitted m i l b saturated =
            elim (stays-or-turns (stream_at part a).kind (counts-none q plan is part known a there) (old part a (own_place part a r.values)) r.values) [
              | inl e ↦ left-alone (none-changes e) m i l b saturated
              | inr e ↦ stays-turned e m i l b saturated
            ]

      none-admitted : admits q part a v ≡ false → (m i : ℕ) → m < length q.from → i < (stream_at part m).size → new part m i ≡ old part m i
      none-admitted refused m i l b = elim (true_or_false (nat_eq m a)) [
        | inl e ↦ (
            let s : m ≡ a = nat_true m a e in
            subst (λ m. i < (stream_at part m).size → new part m i ≡ old part m i) (sym s) (not-admitted refused i) b)
        | inr e ↦ others-stay m i l (λ h. absurd (grind (arith, e, h))) b
      ]

      stays-named : (m i : ℕ) → m < length q.from → i < (stream_at part m).size → IsSaturated q part old base.table m i → IsSaturated q part new table m i
      stays-named m i l b saturated = elim (true_or_false (admits q part a v)) [
        | inl e ↦ stays-admitted e m i l b saturated
        | inr e ↦ left-alone (none-admitted e) m i l b saturated
      ]

    stays : (m i : ℕ) → m < length q.from → i < (stream_at part m).size → IsSaturated q part old base.table m i → IsSaturated q part new table m i
    stays m i l b saturated = elim (true_or_false (list_any (λ s. r.stream == s) q.from)) [
      | inl e ↦ (let a = place-in r.stream q.from e in stays-named a.0 a.1 a.2 m i l b saturated)
      | inr e ↦ left-alone (λ m i l b. off-stream m i l b (none-in r.stream q.from e m l)) m i l b saturated
    ]

  pub all-stay : StaySaturated q plan list base r
  all-stay = record {
    stay = λ part known m i l b saturated. stays part (Has-from_contains plan part known) m i l b saturated;
    own = λ part known a there stream admitted inside turns. own-saturated part (Has-from_contains plan part known) a there stream admitted turns inside;
  }

pub cells-stay-saturated : CellsStaySaturated
cells-stay-saturated q plan is list of base r whole = all-stay q plan is list of base whole r

-- an empty cell tells nothing
empty-at : (n k : ℕ) → slice_index_or (replicate n Cell.Empty) k Cell.Empty ≡ Cell.Empty
empty-at zero k = refl
empty-at (suc n) zero = refl
empty-at (suc n) (suc k) = empty-at n k

module _ (q : QueryValue) (plan : List PartPlan) (is : IsDistinctPlan q plan) (list : List Box) (of : AreBoxesOf q plan list) where
  first-closed : IsClosedBase q plan (first_base list)
  first-closed part known m i l b c k p t h =
      let k' : Has (cell_choice q part m i Cell.Empty) c
      = subst (λ (d : Cell). Has (cell_choice q part m i d) c) (empty-at (sizes_in list) ((stream_at part m).base + i)) (Has-from_contains _ c k) in
      elim k' [ ]

  row-closed : (base : Base) (r : Arrival) → length base.cells ≡ sizes_in list → IsClosedBase q plan base → IsClosedBase q plan (kept_row q plan list base r)
  row-closed base r whole closed part known m i l b = (cells-stay-saturated q plan is list of base r whole).stay part known m i l b (closed part known m i l b)

  rows-closed : (base : Base) (h : List Arrival) → length base.cells ≡ sizes_in list → IsClosedBase q plan base → IsClosedBase q plan (kept q plan list base h)
  rows-closed base [] whole closed = subst (IsClosedBase q plan) (sym (bases-keep-on q plan list base whole).none) closed
  rows-closed base (r ∷ h) whole closed =
      let on = bases-keep-on q plan list base whole in
      let one : kept q plan list base (r ∷ []) ≡ kept_row q plan list base r = on.row [] r ∙ ap (λ (b : Base). kept_row q plan list b r) on.none in
      let all : kept q plan list (kept_row q plan list base r) h ≡ kept q plan list base (r ∷ h)
      = ap (λ (b : Base). kept q plan list b h) (sym one) ∙ on.again (r ∷ []) h in
      subst (IsClosedBase q plan) all
      (rows-closed (kept_row q plan list base r) h (((bases-grow q list).0 base.cells whole).size (r ∷ [])) (row-closed base r whole closed))

  histories-closed : (h : List Arrival) → RowsKeep q h → IsClosedBase q plan (base_of q list h)
  histories-closed h keep =
      subst (IsClosedBase q plan) ((bases-stand-for-histories q plan list is.limits (boxed is.several is.serving of)).created h keep)
      (rows-closed (first_base list) h (length-replicate (sizes_in list) Cell.Empty) first-closed)

pub tables-stay-closed : TablesStayClosed
tables-stay-closed q plan is list of =
    record { first = first-closed q plan is list of; row = row-closed q plan is list of; rows = rows-closed q plan is list of; histories = histories-closed q plan is list of }
