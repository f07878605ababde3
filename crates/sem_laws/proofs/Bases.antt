-- What a base and the rows since come to.
use Rattle.std.proofs.Common.{◌≡◌, ℕ, zero, suc, ◌+◌, ◌*◌, ◌^◌, min, ◌<◌, ◌≤◌, List, [], ◌∷◌, ◌++◌, map, filter, length, cond, Bool, true, false, refl, sym, ap, ◌∙◌, arith, ℤ, replicate, length-append}
use Rattle.std.proofs.lemmas.List.{length-replicate}
use Rattle.std.proofs.lemmas.List.Elements.{All-nil, All-head, All-tail}
use Rattle.sem_query.specs.declared.cell.Cell.{Cell}
use Rattle.sem_query.specs.declared.plan.PartPlan.{PartPlan}
use Rattle.sem_query.specs.Query.{QueryValue, IsWithinLimits}
use Rattle.sem_query.specs.Tuples.{is_same, sorted, distinct_tuples, bag_minus, new_tuples, at_most}
use Rattle.sem_query.specs.Assignment.{holds, projected}
use Rattle.sem_query.specs.Meaning.{Arrival, rows, product, assignment_of, answers, new_answers}
use Rattle.sem_query.specs.Domains.{RowKeeps, RowsKeep}
use Rattle.sem_query.specs.Cells.{printed}
use Rattle.sem_query.specs.Combinations.{read_from}
use Rattle.sem_query.specs.Future.{future}
use Rattle.sem_query.specs.Merge.{merged_table}
use Rattle.sem_query.specs.Sharing.{Box, sizes_in, synopsis_in, merge_in}
use Rattle.sem_query.specs.Bases.{Base, first_base, base_of, answers_from, table_with, table_after, kept}
use Rattle.sem_laws.specs.Sufficiency.{nothing, anywhere}
use Rattle.sem_laws.specs.Bases.{BasesKeepOn, IsKept, alone, boxed, BasesStandForHistories}
use Rattle.sem_laws.proofs.Interleaving.{appended, ended, occurs-is, counts-fit}
use Rattle.sem_laws.proofs.Sums.{sums_same_in, sums_flat_map, sums_times, bit}
use Rattle.sem_laws.proofs.Counts.{times}
use Rattle.sem_laws.proofs.Order.{Rises, ascending-rises, times-ascending, times-once, same-counts, same-is}
use Rattle.sem_laws.proofs.CountsGrow.{times-repeated}
use Rattle.sem_laws.proofs.Merge.{printed-grows}
use Rattle.sem_laws.proofs.Sufficiency.{readings-suffice, none-read}
use Rattle.sem_laws.proofs.Keeping.{rows-more-keep}
use Rattle.sem_laws.proofs.SharedCells.{bases-grow, boxes-merge}
use Rattle.sem_laws.proofs.BoxReadings.{boxes-are-read}
use Rattle.sem_laws.proofs.Walking.{serving-keep}

module _ (q : QueryValue) (plan : List PartPlan) (list : List Box) where
  abbrev with_history : List Cell → List Arrival → List Cell
  with_history cells h = merge_in list cells (synopsis_in q list h)

  with-size : (cells : List Cell) → length cells ≡ sizes_in list → (h : List Arrival) → length (with_history cells h) ≡ sizes_in list
  with-size cells e h = ((bases-grow q list).0 cells e).size h

  with-more : (cells : List Cell) → length cells ≡ sizes_in list → (h g : List Arrival) → with_history cells (h ++ g) ≡ with_history (with_history cells h) g
  with-more cells e h g = ((bases-grow q list).0 cells e).more h g

  -- the table after rows and more rows
  table-more : (cells : List Cell) (table : List (List ℤ)) → length cells ≡ sizes_in list → (h g : List Arrival)
      → table_after q plan list cells table (h ++ g) ≡ table_after q plan list (with_history cells h) (table_after q plan list cells table h) g
  unfolding table_after
  table-more cells table e [] g = ap (λ (cs : List Cell). table_after q plan list cs table g) (sym (((bases-grow q list).0 cells e).none))
  table-more cells table e (r ∷ h) g =
      table-more (with_history cells (r ∷ [])) (table_with q plan cells table r) (with-size cells e (r ∷ [])) h g
      ∙ ap (λ (cs : List Cell). table_after q plan list cs (table_after q plan list (with_history cells (r ∷ [])) (table_with q plan cells table r) h) g)
      (sym (with-more cells e (r ∷ []) h))

  table-row : (cells : List Cell) (table : List (List ℤ)) (r : Arrival) → table_after q plan list cells table (r ∷ []) ≡ table_with q plan cells table r
  unfolding table_after
  table-row cells table r = refl

  table-none : (cells : List Cell) (table : List (List ℤ)) → table_after q plan list cells table [] ≡ table
  unfolding table_after
  table-none cells table = refl

pub bases-keep-on : BasesKeepOn
bases-keep-on q plan list base e = record {
  none = (λ j. record { cells = ((bases-grow q list).0 base.cells e).none j; table = table-none q plan list base.cells base.table j; given = zero-more base.given j });
  row =
      λ h r.
      let cs = with-more q plan list base.cells e h (r ∷ []) in
      let ts = table-more q plan list base.cells base.table e h (r ∷ []) ∙ table-row q plan list (with_history q plan list base.cells h) (table_after q plan list base.cells base.table h) r in
      let n : base.given + length (h ++ r ∷ []) ≡ base.given + length h + 1 = (let l = length-append h (r ∷ []) in omega (arith, l)) in
      (λ j. record { cells = cs j; table = ts j; given = n j });
  again =
      λ h g.
      let cs = with-more q plan list base.cells e h g in
      let ts = table-more q plan list base.cells base.table e h g in
      let n : base.given + length (h ++ g) ≡ base.given + length h + length g = (let l = length-append h g in omega (arith, l)) in
      (λ j. record { cells = sym cs j; table = sym ts j; given = sym n j });
}
  where
    zero-more : (n : ℕ) → n + 0 ≡ n
    zero-more n = omega arith

-- a list that rises and has no tuple more often is as it was
pub times-at_most : (most : ℕ) (z : List ℤ) (ts : List (List ℤ)) → times z (at_most most ts) ≡ min most (times z ts)
times-at_most most z ts =
    sums_flat_map (λ t. bit (is_same z t)) (λ t. replicate (min most (length (filter (is_same t) ts))) t) (distinct_tuples ts)
    ∙ sums_same_in (λ t. times z (replicate (min most (length (filter (is_same t) ts))) t)) (λ t. min most (times z ts) * bit (is_same z t)) (distinct_tuples ts) (λ t h. one t)
    ∙ sums_times (min most (times z ts)) (λ t. bit (is_same z t)) (distinct_tuples ts)
    ∙ ap (λ n. min most (times z ts) * n) (times-once z ts)
    ∙ less (times z ts)
  where
    one : (t : List ℤ) → times z (replicate (min most (length (filter (is_same t) ts))) t) ≡ min most (times z ts) * bit (is_same z t)
    one t = times-repeated z (min most (length (filter (is_same t) ts))) t ∙ by (is_same z t) refl
      where
        by : (b : Bool) → is_same z t ≡ b → min most (length (filter (is_same t) ts)) * bit b ≡ min most (times z ts) * bit b
        by true e = ap (λ n. min most n * 1) (occurs-is t ts ∙ ap (λ (u : List ℤ). times u ts) (sym (same-is z t e)))
        by false e = omega arith

    less : (n : ℕ) → min most n * min 1 n ≡ min most n
    less zero = omega arith
    less (suc n) = (let e : min 1 (suc n) ≡ 1 = omega arith in ap (λ m. min most (suc n) * m) e) ∙ omega arith

pub capped-same : (most : ℕ) (ts : List (List ℤ)) → Rises ts → ((z : List ℤ) → times z ts ≤ most) → sorted (at_most most ts) ≡ ts
capped-same most ts rises few =
    same-counts (sorted (at_most most ts)) ts (ascending-rises (at_most most ts)) rises (λ z.
    times-ascending z (at_most most ts) ∙ times-at_most most z ts ∙ (let f = few z in let e : min most (times z ts) ≡ times z ts = omega (arith, f) in e))

rises-new : (q : QueryValue) (h : List Arrival) (r : Arrival) → Rises (new_answers q h r)
unfolding new_answers
rises-new q h r = by q.distinct
  where
    by : (b : Bool) → Rises (cond b (sorted (new_tuples (answers q h) (answers q (h ++ r ∷ [])))) (sorted (bag_minus (answers q (h ++ r ∷ [])) (answers q h))))
    by true = ascending-rises (new_tuples (answers q h) (answers q (h ++ r ∷ [])))
    by false = ascending-rises (bag_minus (answers q (h ++ r ∷ [])) (answers q h))

module _ (q : QueryValue) (plan : List PartPlan) (list : List Box) (within : IsWithinLimits q) (is : IsKept q plan list) where
  pub suffices : (h : List Arrival) (r : Arrival) → RowsKeep q h → RowKeeps q r → future q plan (read_from (synopsis_in q list h)) (printed q h) r ≡ new_answers q h r
  suffices h r keep_h keep_r = by is
    where
      by : IsKept q plan list → future q plan (read_from (synopsis_in q list h)) (printed q h) r ≡ new_answers q h r
      by (alone f p l) =
          readings-suffice q plan within (nothing f p) h keep_h (read_from (synopsis_in q list h)) (none-read q plan h _ p) r keep_r
      by (boxed n is of) =
          readings-suffice q plan within (anywhere n is) h keep_h (read_from (synopsis_in q list h)) (boxes-are-read q plan (serving-keep q plan is.serves) list of h) r keep_r

  no_answers : answers q [] ≡ []
  no_answers = by q.from within.streams.0
    where
      by : (from : List ℕ) → 0 < length from → map (λ c. projected q (assignment_of c)) (filter (λ c. holds q (assignment_of c)) (product (map (rows []) from))) ≡ []
      by [] l = absurd (omega (arith, l))
      by (s ∷ from) l = refl

  none_printed : [] ≡ printed q []
  none_printed = by q.distinct
    where
      by : (b : Bool) → [] ≡ cond b (sorted (distinct_tuples (answers q []))) []
      by true = ap (λ (ts : List (List ℤ)). sorted (distinct_tuples ts)) (sym no_answers)
      by false = refl

  table-grows : (h : List Arrival) (r : Arrival) → RowsKeep q h → RowKeeps q r → table_with q plan (synopsis_in q list h) (printed q h) r ≡ printed q (h ++ r ∷ [])
  table-grows h r keep_h keep_r = by q.distinct refl
    where
      by : (b : Bool) → q.distinct ≡ b
          → cond q.distinct (merged_table (printed q h) (future q plan (read_from (synopsis_in q list h)) (printed q h) r)) [] ≡ printed q (h ++ r ∷ [])
      by true d =
          ap (λ b. cond b (merged_table (printed q h) (future q plan (read_from (synopsis_in q list h)) (printed q h) r)) []) d
          ∙ ap (merged_table (printed q h)) (suffices h r keep_h keep_r) ∙ sym (printed-grows q h r within d)
      by false d =
          ap (λ b. cond b (merged_table (printed q h) (future q plan (read_from (synopsis_in q list h)) (printed q h) r)) []) d
          ∙ sym (ap (λ b. cond b (sorted (distinct_tuples (answers q (h ++ r ∷ [])))) []) d)

  table-of : (h g : List Arrival) → RowsKeep q h → RowsKeep q g → table_after q plan list (synopsis_in q list h) (printed q h) g ≡ printed q (h ++ g)
  unfolding table_after
  table-of h [] keep_h keep_g = ap (printed q) (sym (ended h))
  table-of h (r ∷ g) keep_h keep_g =
      let keep_r : RowKeeps q r = All-head (RowKeeps q) r g keep_g in
      (λ j. table_after q plan list (sym (boxes-merge q list h (r ∷ [])) j) (table-grows h r keep_h keep_r j) g)
      ∙ table-of (h ++ r ∷ []) g (rows-more-keep q h r keep_h keep_r) (All-tail (RowKeeps q) r g keep_g) ∙ ap (printed q) (appended h r g)

  resumed : (h g : List Arrival) → RowsKeep q h → RowsKeep q g → kept q plan list (base_of q list h) g ≡ base_of q list (h ++ g)
  resumed h g keep_h keep_g =
      let cs = boxes-merge q list h g in
      let ts = table-of h g keep_h keep_g in
      let n : length h + length g ≡ length (h ++ g) = (let l = length-append h g in omega (arith, l)) in
      (λ j. record { cells = sym cs j; table = ts j; given = n j })

  first-is : first_base list ≡ base_of q list []
  first-is =
      let e : length (replicate (sizes_in list) Cell.Empty) ≡ sizes_in list = length-replicate (sizes_in list) Cell.Empty in
      let cs = sym (((bases-grow q list).0 (replicate (sizes_in list) Cell.Empty) e).none) ∙ (bases-grow q list).1 [] in
      (λ j. record { cells = cs j; table = none_printed j; given = 0 })

  created : (h : List Arrival) → RowsKeep q h → kept q plan list (first_base list) h ≡ base_of q list h
  created h keep_h = ap (λ (b : Base). kept q plan list b h) first-is ∙ resumed [] h (All-nil (RowKeeps q)) keep_h

  answers-from : (h : List Arrival) (r : Arrival) → RowsKeep q h → RowKeeps q r → length h ≤ 2 ^ 40 → answers_from q plan (base_of q list h) r ≡ new_answers q h r
  answers-from h r keep_h keep_r few =
      ap (λ (ts : List (List ℤ)). sorted (at_most (2 ^ 127) ts)) (suffices h r keep_h keep_r)
      ∙ capped-same (2 ^ 127) (new_answers q h r) (rises-new q h r) (λ z.
      let c = counts-fit q within h r z few in
      let o = occurs-is z (new_answers q h r) in omega (arith, c, o))

pub bases-stand-for-histories : BasesStandForHistories
bases-stand-for-histories q plan list within is =
    record { created = created q plan list within is; resumed = resumed q plan list within is; answers = answers-from q plan list within is }
