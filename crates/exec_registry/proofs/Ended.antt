-- What a row leaves of the live queries when it was given to some of them and counted for all.
use Rattle.std.proofs.Common.{◌≡◌, ◌≢◌, ℕ, zero, suc, ◌+◌, ◌%◌, ◌<◌, ◌≤◌, ◌^◌, inl, inr, List, [], ◌∷◌, length, sym, ap, ◌∙◌, subst, arith, slice_index_or, slice_set, All}
use Rattle.std.specs.List.{sum_by}
use Rattle.std.specs.Int.{bit_at}
use Rattle.std.proofs.lemmas.Bool.{cases_eq, cases_lt}
use Rattle.std.proofs.lemmas.Nat.Bits.{bit_at-zero}
use Rattle.std.proofs.lemmas.List.{length-set, get_or-set_same, get_or-set_other}
use Rattle.std.proofs.lemmas.List.Sums.{sum_by-cons}
use Rattle.sem_query.specs.Domains.{RowKeeps}
use Rattle.sem_query.specs.Meaning.{Arrival}
use Rattle.exec_pool.specs.Extents.{PoolValue}
use Rattle.exec_filter.specs.Prefilter.{IsRefused}
use Rattle.exec_query.specs.Executor.{ExecutorValue, waiting_in}
use Rattle.exec_query.specs.Standing.{IsReady}
use Rattle.exec_registry.specs.declared.queries.Runner.{Runner}
use Rattle.exec_registry.specs.Live.{Live, live_of, named}
use Rattle.exec_registry.specs.Counted.{shown, run_to, IsCounted}
use Rattle.exec_registry.specs.Registry.{IsSound, KeepsToEach}
use Rattle.exec_registry.specs.RowByQuery.{AreSpared, TookFirst, TookOne}
use Rattle.exec_registry.specs.Waiting.{AreQuiet}
use Rattle.exec_registry.proofs.SideBySide.{under, under_same, under_names}
use Rattle.exec_registry.proofs.Shown.{sized, size_run}
use Rattle.exec_registry.proofs.InTurn.{took_none}
use Rattle.exec_registry.proofs.BitsLeft.{IsOnlyBit, left_all, left_more, none_after}
use Rattle.exec_registry.proofs.Spared.{mixed, step_ready, step_keeps, step_plan, step_took, ahead_waits, all_took, all_counted, wrapped, few_rows, shown_waits, wrapped_counted}

-- the row was given to all live queries, and nothing waits of those that have no bit in the word
pub record HasTaken (r : Arrival) (pool later : PoolValue) (before : List Live) (names : List (List ℕ)) (rows : ℕ) (rs : List Runner) (waiting : ℕ) : Type 0 where
  pub taken : TookFirst r (length before) pool later before (live_of names (shown rows rs))
  pub quiet : AreQuiet waiting (live_of names (shown rows rs))
  pub sized : length names ≡ length rs
  pub counted : All (IsCounted rows) rs

-- where nothing is left without the lowest bit, there is no other
pub only_left : (word left place : ℕ) → word < 2 ^ 64 → place < 64 → bit_at word place ≡ 1 → ((i : ℕ) → i < place → bit_at word i ≡ 0) → bit_at left place ≡ 0
    → ((i : ℕ) → i < 64 → i ≢ place → bit_at left i ≡ bit_at word i) → left ≡ 0 → IsOnlyBit word place
only_left word left place few within on below own same none = record {
  own = on;
  others = λ k ne. elim (cases_lt k place) [
    | inl h ↦ below k h
    | inr h ↦ none_after word left (place + 1) few (left_more word word 0 place left (left_all word) within on below own same) none k (omega (arith, h, ne))
  ];
}

-- a part of a sum is no more
pub part_of_sum : (f : Live → ℕ) (xs : List Live) (n : ℕ) (d : Live) → n < length xs → f (slice_index_or xs n d) ≤ sum_by f xs
part_of_sum f [] n d a = absurd (omega (arith, a))
part_of_sum f (x ∷ xs) zero d a = (let e = sum_by-cons f x xs in omega (arith, e))
part_of_sum f (x ∷ xs) (suc n) d a = (let e = sum_by-cons f x xs in let h = part_of_sum f xs n d (omega (arith, a)) in omega (arith, e, h))

module _ (r : Arrival) (pool : PoolValue) (before : List Live) (names : List (List ℕ)) (rows : ℕ) (old : List Runner) (after word : ℕ)
    (same : length names ≡ length old) (view : live_of names (shown rows old) ≡ before)
    (few : All (λ (l : Live). l.executor.given < 2 ^ 40) before) (keeps : KeepsToEach before r) (spared : AreSpared word r before) where
  -- where those from a place on are spared, all took the row
  pub ended : (later : PoolValue) (rs : List Runner) (waiting next : ℕ) → after ≡ (rows + 1) % 2 ^ 64 → length rs ≡ length before
      → TookFirst r next pool later before (under before (mixed rows next rs)) → next ≤ length before → ((k : ℕ) → next ≤ k → bit_at word k ≡ 0)
      → ((i : ℕ) (ρ : Runner) → i < length rs → (slice_index_or rs i ρ).executor.given ≤ (slice_index_or rs i ρ).before + (rows + 1))
      → ((k : ℕ) → bit_at waiting k ≡ 1 → k < next)
      → ((k : ℕ) (ρ : Runner) → k < next → k < length rs → bit_at waiting k ≡ 0 → waiting_in (slice_index_or rs k ρ).executor ≡ [])
      → HasTaken r pool later before names after rs waiting
  ended later rs waiting next is many first order none behind only quiet =
      let t : TookFirst r (length before) pool later before (under before (shown (rows + 1) rs))
      = all_took r pool later before rows rs many few keeps next first order
      (λ j l a b. spared.refused j l b (none j a)) (λ j l a b. spared.quiet j l b (none j a)) in
      let counted : All (IsCounted (rows + 1)) rs = all_counted r pool later before rows rs many (length before) t behind in
      let seen : under before (shown (rows + 1) rs) ≡ live_of names (shown after rs)
      = under_names names (shown rows old) (shown (rows + 1) rs) before (sized rows names old same) view
      ∙ ap (λ (es : List ExecutorValue). live_of names es) (sym (wrapped rows rs (few_rows rows rs counted)))
      ∙ ap (λ (n : ℕ). live_of names (shown n rs)) (sym is) in
      let size = t.size in
      let silent : AreQuiet waiting (under before (shown (rows + 1) rs)) = record {
        only = λ k on. (let f = only k on in omega (arith, f, order, size));
        quiet = λ k d a off.
            (let within : k < length rs = omega (arith, a, size, many) in
            let ρ : Runner = record { executor = d.executor; before = 0 } in
            shown_waits before (rows + 1) rs k d ρ many within
            ∙ elim (cases_lt k next) [
              | inl h ↦ quiet k ρ h within off
              | inr h ↦ ahead_waits r pool later before rows rs many next first k ρ h within (λ l. spared.quiet k l (omega (arith, within, many)) (none k h))
            ]);
      } in
      record {
        taken = subst (λ (now : List Live). TookFirst r (length before) pool later before now) seen t;
        quiet = subst (λ (now : List Live). AreQuiet waiting now) seen silent;
        sized = same ∙ size_run rows names old before same view ∙ sym many;
        counted = subst (λ (n : ℕ). All (IsCounted n) rs) (sym is) (wrapped_counted rows rs counted);
      }

  module _ (sound : IsSound pool before) (counted : All (IsCounted rows) old) where
    size : length old ≡ length before
    size = size_run rows names old before same view

    -- before the first
    begun : TookFirst r 0 pool pool before (under before (mixed rows 0 old))
    begun = subst (λ (now : List Live). TookFirst r 0 pool pool before now) (sym (under_same names (shown rows old) before (sized rows names old same) view)) (took_none r pool before sound)

    behind : (i : ℕ) (ρ : Runner) → i < length old → (slice_index_or old i ρ).executor.given ≤ (slice_index_or old i ρ).before + (rows + 1)
    behind i ρ a = (let h = (counted i ρ a).behind in omega (arith, h))

    -- where no bit is set, the row was counted alone
    pub none_took : after ≡ (rows + 1) % 2 ^ 64 → word ≡ 0 → HasTaken r pool pool before names after old 0
    none_took is none =
        ended pool old 0 0 is size begun (omega arith) (λ k a. ap (λ (w : ℕ). bit_at w k) none ∙ bit_at-zero k) behind
        (λ k on. absurd (let z = bit_at-zero k in omega (arith, z, on))) (λ k ρ a b off. absurd (omega (arith, a)))

    module _ (place : ℕ) (only : IsOnlyBit word place) where
      on : bit_at word place ≡ 1
      on = only.own

      others : (k : ℕ) → k ≢ place → bit_at word k ≡ 0
      others k ne = only.others k ne

      within : place < length before
      within = spared.only place on

      refused : (i : ℕ) (l : Live) → 0 ≤ i → i < place → IsRefused (slice_index_or before i l).executor.query (slice_index_or before i l).executor.plan r
      refused i l a b = spared.refused i l (omega (arith, b, within)) (others i (λ e. omega (arith, e, b)))

      quiet : (i : ℕ) (l : Live) → 0 ≤ i → i < place → waiting_in (slice_index_or before i l).executor ≡ []
      quiet i l a b = spared.quiet i l (omega (arith, b, within)) (others i (λ e. omega (arith, e, b)))

      -- the only one can take it
      pub only_counted : (own : Runner) → IsCounted rows (slice_index_or old place own)
      only_counted own = counted place own (omega (arith, within, size))

      pub only_ready : (own : Runner) → IsReady (run_to rows (slice_index_or old place own)) pool
      only_ready own = step_ready r pool pool before rows old size few keeps 0 place begun (omega arith) within refused quiet own

      pub only_keeps : (own : Runner) → RowKeeps (slice_index_or old place own).executor.query r
      only_keeps own = step_keeps r pool pool before rows old size few keeps 0 place begun (omega arith) within refused quiet own

      pub only_plan : (own : Runner) (d : Live) → (slice_index_or before place d).executor.plan ≡ (slice_index_or old place own).executor.plan
      only_plan own d = step_plan r pool pool before rows old size few keeps 0 place begun (omega arith) within refused quiet own d

      -- and took it, alone
      pub only_took : (later : PoolValue) (own new : Runner) (waiting : ℕ) → after ≡ (rows + 1) % 2 ^ 64 → new.before ≡ (slice_index_or old place own).before
          → ((name : List ℕ) → TookOne r pool later (named name (run_to rows (slice_index_or old place own))) (named name new.executor))
          → ((k : ℕ) → bit_at waiting k ≡ 1 → bit_at word k ≡ 1) → (bit_at waiting place ≡ 0 → waiting_in new.executor ≡ [])
          → HasTaken r pool later before names after (slice_set old place new) waiting
      only_took later own new waiting is kept one some none =
          let many = length-set old place new in
          let here : place < length old = omega (arith, within, size) in
          let given : new.executor.given ≡ ((slice_index_or old place own).before + rows) + 1 = ap (λ (e : ExecutorValue). e.given) (one []).same in
          ended later (slice_set old place new) waiting (place + 1) is (many ∙ size)
          (step_took r pool pool before rows old size few keeps 0 place begun (omega arith) within refused quiet later own new kept one)
          (omega (arith, within)) (λ k a. others k (λ e. omega (arith, e, a)))
          (λ j ρ a. elim (cases_eq j place) [
            | inl e ↦ subst (λ (x : Runner). x.executor.given ≤ x.before + (rows + 1)) (sym (ap (λ k. slice_index_or (slice_set old place new) k ρ) e ∙ get_or-set_same old place new ρ here)) (omega (arith, given, kept))
            | inr ne ↦ subst (λ (x : Runner). x.executor.given ≤ x.before + (rows + 1)) (sym (get_or-set_other old place j new ρ ne)) (behind j ρ (omega (arith, a, many)))
          ])
          (λ k h. elim (cases_eq k place) [
            | inl e ↦ omega (arith, e)
            | inr ne ↦ absurd (let off = others k ne in let set = some k h in omega (arith, off, set))
          ])
          (λ k ρ a b off. elim (cases_eq k place) [
            | inl e ↦ subst (λ (x : Runner). waiting_in x.executor ≡ []) (sym (ap (λ j. slice_index_or (slice_set old place new) j ρ) e ∙ get_or-set_same old place new ρ here)) (none (ap (bit_at waiting) (sym e) ∙ off))
            | inr ne ↦ subst (λ (x : Runner). waiting_in x.executor ≡ []) (sym (get_or-set_other old place k new ρ ne))
                (ahead_waits r pool pool before rows old size 0 begun k ρ (omega arith) (omega (arith, b, many)) (λ l. spared.quiet k l (omega (arith, b, many, size)) (others k ne)))
          ])
