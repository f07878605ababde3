-- A row changes one cell of its box; extremes are attained; the state determines the future.
use Rattle.std.proofs.Common.{◌≡◌, ℕ, List, [], ◌∷◌, ◌++◌, map, filter, cond, Bool, true, false, ◌&&◌, ◌==◌, nat_eq, refl, sym, ap, ◌∙◌, ℤ, slice_index_or, None}
use Rattle.std.proofs.lemmas.List.Elements.{All-contains}
use Rattle.sem_query.proofs.Has.{Has, first, later, Has-from_contains, Contains-from_has, Has-map}
use Rattle.sem_laws.proofs.Tests.{and-left, and-right, filter-passes, nat_true}
use Rattle.sem_laws.proofs.StandingIn.{IsSafe, down}
use Rattle.sem_laws.proofs.NoViolation.{safe-if, none_breaks}
use Rattle.sem_laws.proofs.Merge.{cell-append, merged-empty, synopses-merge, printed-grows}
use Rattle.sem_laws.proofs.Interleaving.{ended, appended}
use Rattle.sem_laws.proofs.Sufficiency.{synopsis-suffices}
use Rattle.sem_laws.proofs.Queries.{query_within}
use Rattle.sem_laws.proofs.Keeping.{row-keeps, rows-more-keep}
use Rattle.sem_query.specs.Domains.{RowKeeps, RowsKeep}
use Rattle.sem_query.specs.Query.{QueryValue}
use Rattle.sem_query.specs.Parts.{IsPart}
use Rattle.sem_query.specs.Violation.{IsViolation}
use Rattle.sem_query.specs.declared.cell.Cell.{Cell}
use Rattle.sem_query.specs.declared.plan.Kind.{Kind}
use Rattle.sem_query.specs.Meaning.{Arrival, rows, by_column, answers, new_answers}
use Rattle.sem_query.specs.Tuples.{sorted, distinct_tuples}
use Rattle.sem_query.specs.declared.plan.PartPlan.{PartPlan}
use Rattle.sem_query.specs.Plan.{IsPartPlan, IsPlanned, stream_at}
use Rattle.sem_query.specs.Query.{IsWithinLimits}
use Rattle.sem_query.specs.Cells.{content, rows_of_cell, cell_of, row_place, synopsis, printed}
use Rattle.sem_query.specs.Admission.{admits}
use Rattle.sem_query.specs.Merge.{merged, merge, merged_table}
use Rattle.sem_query.specs.Future.{future}
use Rattle.sem_query.specs.Combinations.{read_from}
use Rattle.sem_laws.specs.Growth.{InsertsRow}
use Rattle.sem_laws.specs.Sufficiency.{ExtremesAreAttained, FutureIsDetermined}

-- the cell of one row alone
alone_in_cell : (q : QueryValue) (r : Arrival) (part : PartPlan) (place i : ℕ)
    → cell_of q (r ∷ []) part place i
    ≡ cond ((r.stream == slice_index_or q.from place 0) && (admits q part place (by_column r.values) && nat_eq (row_place (stream_at part place).dims.items (by_column r.values)) i)) (content (stream_at part place).kind (r.values ∷ [])) Cell.Empty
alone_in_cell q r part place i =
    by (r.stream == slice_index_or q.from place 0) (admits q part place (by_column r.values) && nat_eq (row_place (stream_at part place).dims.items (by_column r.values)) i) refl
  where
    T : List ℤ → Bool
    T row = admits q part place (by_column row) && nat_eq (row_place (stream_at part place).dims.items (by_column row)) i

    by : (b c : Bool) → T r.values ≡ c
        → content (stream_at part place).kind (filter T (map (λ t. t.values) (cond b (r ∷ []) []))) ≡ cond (b && c) (content (stream_at part place).kind (r.values ∷ [])) Cell.Empty
    by false c e = refl
    by true true e = ap (λ c. content (stream_at part place).kind (cond c (r.values ∷ []) [])) e
    by true false e = ap (λ c. content (stream_at part place).kind (cond c (r.values ∷ []) [])) e

pub inserts-row : InsertsRow
inserts-row q h r part place i =
    cell-append q h (r ∷ []) part place i ∙ ap (merged k c) (alone_in_cell q r part place i)
    ∙ by ((r.stream == slice_index_or q.from place 0) && (admits q part place (by_column r.values) && nat_eq (row_place (stream_at part place).dims.items (by_column r.values)) i))
  where
    k : Kind
    k = (stream_at part place).kind

    c : Cell
    c = cell_of q h part place i

    by : (b : Bool) → merged k c (cond b (content k (r.values ∷ [])) Cell.Empty) ≡ cond b (merged k c (content k (r.values ∷ []))) c
    by true = refl
    by false = merged-empty k (rows_of_cell q part place i (rows h (slice_index_or q.from place 0)))

pub extremes-are-attained : ExtremesAreAttained
extremes-are-attained q plan within no_filter is violation part m h place i at c k =
    let some : IsPart q part.signs.items
    = All-contains (IsPart q) (map (λ p. p.signs.items) plan) part.signs.items is.parts.each (Contains-from_has (map (λ p. p.signs.items) plan) part.signs.items (Has-map (λ p. p.signs.items) (Has-from_contains plan part m))) in
    let here : IsPartPlan q part = All-contains (IsPartPlan q) plan part is.plans m in
    let safe : IsSafe q part = safe-if q (query_within q within) part here some (none_breaks q no_filter violation part.signs.items some) in
    let xs : List (List ℤ) = rows h (slice_index_or q.from place 0) in
    let t : (x : List ℤ) → Has (rows_of_cell q part place i xs) x → (admits q part place (by_column x) && nat_eq (row_place (stream_at part place).dims.items (by_column x)) i) ≡ true
    = λ x y. filter-passes (λ row. admits q part place (by_column row) && nat_eq (row_place (stream_at part place).dims.items (by_column row)) i) xs x y in
    let o = down q part here some safe place at (stream_at part place).kind (safe.less place at) i (rows_of_cell q part place i xs)
    (λ x y. (and-left _ _ (t x y), nat_true _ _ (and-right (admits q part place (by_column x)) _ (t x y)))) c (Has-from_contains _ c k) in
    (o.0, Contains-from_has _ o.0 o.1, o.2)

module _ (q : QueryValue) (plan : List PartPlan) (within : IsWithinLimits q) (planned : IsPlanned q plan) (violation : IsViolation q None) where
  next_same : (g h : List Arrival) → RowsKeep q g → RowsKeep q h → synopsis q plan g ≡ synopsis q plan h → printed q g ≡ printed q h → (r : Arrival) → RowKeeps q r
      → new_answers q g r ≡ new_answers q h r
  next_same g h keep_g keep_h s p r keep_r =
      sym (synopsis-suffices q plan within planned violation g r keep_g keep_r)
      ∙ ap (λ cells. future q plan (read_from cells) (printed q g) r) s
      ∙ ap (λ table. future q plan (read_from (synopsis q plan h)) table r) p
      ∙ synopsis-suffices q plan within planned violation h r keep_h keep_r

  synopsis_same : (g h : List Arrival) → synopsis q plan g ≡ synopsis q plan h → (r : Arrival)
      → synopsis q plan (g ++ r ∷ []) ≡ synopsis q plan (h ++ r ∷ [])
  synopsis_same g h s r =
      synopses-merge q plan g (r ∷ []) ∙ ap (λ cells. merge plan cells (synopsis q plan (r ∷ []))) s
      ∙ sym (synopses-merge q plan h (r ∷ []))

  printed_same : (g h : List Arrival) → RowsKeep q g → RowsKeep q h → synopsis q plan g ≡ synopsis q plan h → printed q g ≡ printed q h → (r : Arrival) → RowKeeps q r
      → printed q (g ++ r ∷ []) ≡ printed q (h ++ r ∷ [])
  printed_same g h keep_g keep_h s p r keep_r = by q.distinct refl
    where
      by : (b : Bool) → q.distinct ≡ b → printed q (g ++ r ∷ []) ≡ printed q (h ++ r ∷ [])
      by true e =
          printed-grows q g r within e ∙ ap (λ t. merged_table t (new_answers q g r)) p
          ∙ ap (merged_table (printed q h)) (next_same g h keep_g keep_h s p r keep_r) ∙ sym (printed-grows q h r within e)
      by false e =
          ap (λ b. cond b (sorted (distinct_tuples (answers q (g ++ r ∷ [])))) []) e
          ∙ sym (ap (λ b. cond b (sorted (distinct_tuples (answers q (h ++ r ∷ [])))) []) e)

  determined : (more : List Arrival) → ((t : Arrival) → Has more t → RowKeeps q t) → (g h : List Arrival) → RowsKeep q g → RowsKeep q h → synopsis q plan g ≡ synopsis q plan h → printed q g ≡ printed q h → (r : Arrival) → RowKeeps q r
      → new_answers q (g ++ more) r ≡ new_answers q (h ++ more) r
  determined [] f g h keep_g keep_h s p r keep_r =
      ap (λ l. new_answers q l r) (ended g) ∙ next_same g h keep_g keep_h s p r keep_r ∙ ap (λ l. new_answers q l r) (sym (ended h))
  determined (t ∷ more) f g h keep_g keep_h s p r keep_r =
      ap (λ l. new_answers q l r) (sym (appended g t more))
      ∙ determined more (λ u i. f u (later i)) (g ++ t ∷ []) (h ++ t ∷ []) (rows-more-keep q g t keep_g (f t first)) (rows-more-keep q h t keep_h (f t first)) (synopsis_same g h s t) (printed_same g h keep_g keep_h s p t (f t first)) r keep_r
      ∙ ap (λ l. new_answers q l r) (appended h t more)

pub future-is-determined : FutureIsDetermined
future-is-determined q plan within planned violation g h keep_g keep_h s p more r keep keep_r = determined q plan within planned violation more (row-keeps q more keep) g h keep_g keep_h s p r keep_r
