-- What the shards answer to a row, and over a history: where their counts add up, their answers do.
use Rattle.std.proofs.Common.{◌≡◌, ℕ, zero, suc, ◌+◌, ◌-◌, ◌*◌, min, ◌<◌, ◌≤◌, inl, inr, List, [], ◌∷◌, ◌++◌, map, filter, cond, not, Bool, true, false, refl, sym, ap, ◌∙◌, subst, arith, ℤ}
use Rattle.std.specs.List.{list_any}
use Rattle.std.proofs.lemmas.List.Elements.{filter-append}
use Rattle.sem_query.proofs.Has.{Has, same_map, Contains-from_has}
use Rattle.sem_laws.proofs.Sums.{sums, sums_append, bit}
use Rattle.sem_laws.proofs.Tests.{true_or_false, append-nothing}
use Rattle.sem_laws.proofs.Counts.{times}
use Rattle.sem_laws.proofs.Order.{any-times, times-ascending}
use Rattle.sem_laws.proofs.NewAnswers.{is_new, none-times, times-new-plain, times-new-distinct}
use Rattle.sem_laws.proofs.Merge.{counts-stay, rows-append, times-printed-is}
use Rattle.sem_laws.proofs.Interleaving.{any-interleaving, occurs-is}
use Rattle.sem_laws.proofs.Queries.{IsQuery, query_within}
use Rattle.sem_laws.proofs.Keeping.{rows-more-keep}
use Rattle.sem_laws.specs.Growth.{answered}
use Rattle.sem_query.specs.Query.{QueryValue, IsWithinLimits}
use Rattle.sem_query.specs.Meaning.{Arrival, rows, product, assignment_of, answers, new_answers}
use Rattle.sem_query.specs.Assignment.{holds, projected}
use Rattle.sem_query.specs.Domains.{RowsKeep}
use Rattle.sem_query.specs.Tuples.{is_same, sorted, bag_minus, new_tuples}
use Rattle.sem_query.specs.Cells.{printed}
use Rattle.sem_sharding.specs.Shards.{Routing, share, shards_answer, shards_answered, HaveTheirShares, AnswerTogether, AnswerAlikeInAll, OneShardReplies, HomeAnswers}
use Rattle.sem_sharding.proofs.Shares.{over, over-same, over-one, rows-share, filter-all}

-- how often a query answers a tuple that so many combinations have
abbrev pub counted : QueryValue → ℕ → ℕ
counted q n = cond q.distinct (min 1 n) n

pub counted-grows : (q : QueryValue) (m n : ℕ) → m ≤ n → counted q m ≤ counted q n
counted-grows q m n l = by q.distinct
  where
    by : (b : Bool) → cond b (min 1 m) m ≤ cond b (min 1 n) n
    by true = omega (arith, l)
    by false = l

-- one row more
pub times-new : (q : QueryValue) → IsQuery q → (h : List Arrival) (r : Arrival) (z : List ℤ)
    → times z (new_answers q h r) ≡ counted q (times z (answers q (h ++ r ∷ []))) - counted q (times z (answers q h))
times-new q well h r z = elim (true_or_false q.distinct) [
  | inl e ↦ (
      distinct e (list_any (is_same z) (answers q h)) refl
      ∙ sym (ap (λ b. cond b (min 1 (times z (answers q (h ++ r ∷ [])))) (times z (answers q (h ++ r ∷ []))) - cond b (min 1 (times z (answers q h))) (times z (answers q h))) e))
  | inr e ↦ (
      times-new-plain q h r z e
      ∙ sym (ap (λ b. cond b (min 1 (times z (answers q (h ++ r ∷ [])))) (times z (answers q (h ++ r ∷ []))) - cond b (min 1 (times z (answers q h))) (times z (answers q h))) e))
]
  where
    distinct : q.distinct ≡ true → (b : Bool) → list_any (is_same z) (answers q h) ≡ b
        → times z (new_answers q h r) ≡ min 1 (times z (answers q (h ++ r ∷ []))) - min 1 (times z (answers q h))
    distinct e true f =
        let n : times z (new_answers q h r) ≡ 0 * min 1 (times z (answers q (h ++ r ∷ [])))
        = times-new-distinct q h r z e ∙ ap (λ b. bit (not b) * min 1 (times z (answers q (h ++ r ∷ [])))) f in
        omega (arith, n, counts-stay q well h r z, any-times z (answers q h) f)
    distinct e false f =
        let n : times z (new_answers q h r) ≡ 1 * min 1 (times z (answers q (h ++ r ∷ [])))
        = times-new-distinct q h r z e ∙ ap (λ b. bit (not b) * min 1 (times z (answers q (h ++ r ∷ [])))) f in
        omega (arith, n, none-times z (answers q h) f)

pub over-minus : (k : ℕ) (f g : ℕ → ℕ) → ((i : ℕ) → i < k → g i ≤ f i) → (over k (λ i. f i - g i) ≡ over k f - over k g) × (over k g ≤ over k f)
unfolding over
over-minus zero f g h = (omega arith, omega arith)
over-minus (suc k) f g h =
    let m = over-minus k f g (λ i l. h i (omega (arith, l))) in (omega (arith, m.0, m.1, h k (omega arith)), omega (arith, m.1, h k (omega arith)))

-- the counts of the shards add up to that of one process
abbrev pub AddsUp : QueryValue → ℕ → Routing → Type 0
AddsUp q k to =
    (h : List Arrival) → RowsKeep q h → (z : List ℤ)
    → over k (λ i. counted q (times z (answers q (share to i h)))) ≡ counted q (times z (answers q h))

times-nothing : (z : List ℤ) → times z [] ≡ 0
unfolding sums
times-nothing z = refl

module _ (q : QueryValue) (well : IsQuery q) (to : Routing) where
  -- the share of a history that is one row longer
  pub share-more : (i : ℕ) (h : List Arrival) (r : Arrival) → share to i (h ++ r ∷ []) ≡ share to i h ++ cond (to i r) (r ∷ []) []
  share-more i h r = filter-append (to i) h (r ∷ [])

  one-row : (i : ℕ) (h : List Arrival) (r : Arrival) → (b : Bool) → to i r ≡ b
      → share to i (h ++ r ∷ []) ≡ cond b (share to i h ++ r ∷ []) (share to i h)
  one-row i h r true e = share-more i h r ∙ ap (λ b. share to i h ++ cond b (r ∷ []) []) e
  one-row i h r false e = share-more i h r ∙ ap (λ b. share to i h ++ cond b (r ∷ []) []) e ∙ append-nothing (share to i h)

  shard-grows : (i : ℕ) (h : List Arrival) (r : Arrival) (z : List ℤ)
      → counted q (times z (answers q (share to i h))) ≤ counted q (times z (answers q (share to i (h ++ r ∷ []))))
  shard-grows i h r z = by (to i r) refl
    where
      by : (b : Bool) → to i r ≡ b → counted q (times z (answers q (share to i h))) ≤ counted q (times z (answers q (share to i (h ++ r ∷ []))))
      by true e =
          counted-grows q _ _ (subst (λ l. times z (answers q (share to i h)) ≤ times z (answers q l)) (sym (one-row i h r true e)) (counts-stay q well (share to i h) r z))
      by false e =
          counted-grows q _ _ (subst (λ l. times z (answers q (share to i h)) ≤ times z (answers q l)) (sym (one-row i h r false e)) (omega arith))

  shard-new : (i : ℕ) (h : List Arrival) (r : Arrival) (z : List ℤ)
      → times z (cond (to i r) (new_answers q (share to i h) r) [])
      ≡ counted q (times z (answers q (share to i (h ++ r ∷ [])))) - counted q (times z (answers q (share to i h)))
  shard-new i h r z = by (to i r) refl
    where
      C : List Arrival → ℕ
      C l = counted q (times z (answers q l))

      by : (b : Bool) → to i r ≡ b → times z (cond (to i r) (new_answers q (share to i h) r) []) ≡ C (share to i (h ++ r ∷ [])) - C (share to i h)
      by true e =
          ap (λ b. times z (cond b (new_answers q (share to i h) r) [])) e ∙ times-new q well (share to i h) r z
          ∙ ap (λ l. C l - C (share to i h)) (sym (one-row i h r true e))
      by false e =
          ap (λ b. times z (cond b (new_answers q (share to i h) r) [])) e ∙ times-nothing z
          ∙ sym (ap (λ l. C l - C (share to i h)) (one-row i h r false e) ∙ omega arith)

  shards-new : (k : ℕ) (h : List Arrival) (r : Arrival) (z : List ℤ)
      → times z (shards_answer q to k h r) ≡ over k (λ i. times z (cond (to i r) (new_answers q (share to i h) r) []))
  unfolding over sums
  shards-new zero h r z = refl
  shards-new (suc k) h r z =
      sums_append (λ t. bit (is_same z t)) (shards_answer q to k h r) (cond (to k r) (new_answers q (share to k h) r) [])
      ∙ ap (λ n. n + times z (cond (to k r) (new_answers q (share to k h) r) [])) (shards-new k h r z)

  abbrev counted_at : List Arrival → List ℤ → ℕ → ℕ
  counted_at h z i = counted q (times z (answers q (share to i h)))

  -- what the shards answer to a row is what their counts grow by
  pub shards-step : (k : ℕ) (h : List Arrival) (r : Arrival) (z : List ℤ)
      → times z (shards_answer q to k h r) ≡ over k (counted_at (h ++ r ∷ []) z) - over k (counted_at h z)
  shards-step k h r z =
      shards-new k h r z ∙ over-same k _ _ (λ i l. shard-new i h r z)
      ∙ (over-minus k (counted_at (h ++ r ∷ []) z) (counted_at h z) (λ i l. shard-grows i h r z)).0

  pub shards-grow : (k : ℕ) (h : List Arrival) (r : Arrival) (z : List ℤ) → over k (counted_at h z) ≤ over k (counted_at (h ++ r ∷ []) z)
  shards-grow k h r z = (over-minus k (counted_at (h ++ r ∷ []) z) (counted_at h z) (λ i l. shard-grows i h r z)).1

  pub together : (k : ℕ) → AddsUp q k to → AnswerTogether q k to
  together k adds h r keep keep_r =
      is_new q h r (shards_answer q to k h r) (λ z.
      omega (arith, shards-step k h r z, adds (h ++ r ∷ []) (rows-more-keep q h r keep keep_r) z, adds h keep z, times-new q well h r z))

pub one-shard-replies : OneShardReplies
one-shard-replies q k to within together h r keep keep_r dealt shard l goes =
    let well : IsQuery q = query_within q within in
    let own : List (List ℤ) = new_answers q (share to shard h) r in
    sym (is_new q (share to shard h) r own (λ z. refl))
    ∙ is_new q h r own (λ z.
    ap (λ b. times z (cond b own [])) (sym goes)
    ∙ sym (over-one k (λ i. times z (cond (to i r) (new_answers q (share to i h) r) [])) shard l (λ j m o. other z j m o (to j r) refl))
    ∙ sym (shards-new q well to k h r z) ∙ sym (times-ascending z (shards_answer q to k h r)) ∙ ap (times z) (together h r keep keep_r))
  where
    other : (z : List ℤ) (j : ℕ) → j < k → (j ≡ shard → ⊥) → (b : Bool) → to j r ≡ b → times z (cond (to j r) (new_answers q (share to j h) r) []) ≡ 0
    other z j m o true e = absurd (o (dealt.one r refl j shard m l e goes))
    other z j m o false e = ap (λ b. times z (cond b (new_answers q (share to j h) r) [])) e ∙ times-nothing z

-- answers hang on the rows of the streams of FROM alone
same-rows : (g h : List Arrival) (from : List ℕ) → ((s : ℕ) → Has from s → rows g s ≡ rows h s) → map (rows g) from ≡ map (rows h) from
same-rows g h from e = same_map (rows g) (rows h) from e

same-answers : (q : QueryValue) (g h : List Arrival) → ((s : ℕ) → Has q.from s → rows g s ≡ rows h s) → answers q g ≡ answers q h
same-answers q g h e =
    ap (λ ls. map (λ c. projected q (assignment_of c)) (filter (λ c. holds q (assignment_of c)) (product ls))) (same-rows g h q.from e)

pub home-answers : HomeAnswers
unfolding new_answers
home-answers q to shard sent h r =
    let was : answers q (share to shard h) ≡ answers q h = same-answers q (share to shard h) h before in
    let now : answers q (share to shard h ++ r ∷ []) ≡ answers q (h ++ r ∷ [])
    = same-answers q (share to shard h ++ r ∷ []) (h ++ r ∷ []) (λ s i. rows-append (share to shard h) (r ∷ []) s ∙ ap (λ l. l ++ rows (r ∷ []) s) (before s i) ∙ sym (rows-append h (r ∷ []) s)) in
    ap (λ x. cond q.distinct (sorted (new_tuples x (answers q (share to shard h ++ r ∷ [])))) (sorted (bag_minus (answers q (share to shard h ++ r ∷ [])) x))) was
    ∙ ap (λ y. cond q.distinct (sorted (new_tuples (answers q h) y)) (sorted (bag_minus y (answers q h)))) now
  where
    before : (s : ℕ) → Has q.from s → rows (share to shard h) s ≡ rows h s
    before s i = rows-share (to shard) h s ∙ filter-all (λ x. to shard (record { stream = s; values = x })) (rows h s) (λ x. sent s (Contains-from_has q.from s i) (record { stream = s; values = x }) refl)

-- what one process answers to a row is what its count grows by
pub whole-step : (q : QueryValue) → IsQuery q → (h : List Arrival) (r : Arrival) (z : List ℤ)
    → counted q (times z (answers q (h ++ r ∷ []))) ≡ counted q (times z (answers q h)) + times z (new_answers q h r)
whole-step q well h r z = omega (arith, times-new q well h r z, counted-grows q _ _ (counts-stay q well h r z))

-- over a whole history
pub answered-is : (q : QueryValue) → IsWithinLimits q → (h : List Arrival) (z : List ℤ) → answered q z [] h ≡ counted q (times z (answers q h))
answered-is q within h z = (any-interleaving q within).0 h z ∙ occurs-is z (cond q.distinct (printed q h) (answers q h)) ∙ by q.distinct refl
  where
    by : (b : Bool) → q.distinct ≡ b → times z (cond b (printed q h) (answers q h)) ≡ cond b (min 1 (times z (answers q h))) (times z (answers q h))
    by true e = times-printed-is q h z e
    by false e = refl

pub answered-over : (q : QueryValue) → IsWithinLimits q → (to : Routing) (h : List Arrival) (got : ℕ → List Arrival) (z : List ℤ) (k : ℕ)
    → HaveTheirShares to k got h
    → shards_answered q z k got ≡ over k (λ i. counted q (times z (answers q (share to i h))))
unfolding over
answered-over q within to h got z zero have = refl
answered-over q within to h got z (suc k) have =
    omega (
      arith,
      answered-over q within to h got z k (λ i l. have i (omega (arith, l))),
      (any-interleaving q within).1 (got k) (share to k h) (have k (omega arith)) z,
      answered-is q within (share to k h) z,
    )

pub alike : (q : QueryValue) → IsWithinLimits q → (to : Routing) (k : ℕ) → AddsUp q k to → AnswerAlikeInAll q k to
alike q within to k adds h keep got have z = answered-over q within to h got z k have ∙ adds h keep z ∙ sym (answered-is q within h z)
