-- One stream that is dealt out in any way.
use Rattle.std.proofs.Common.{◌≡◌, ◌≢◌, ℕ, zero, suc, ◌+◌, min, ◌<◌, List, [], ◌∷◌, map, length, cond, Bool, true, false, refl, sym, ap, ◌∙◌, arith, ℤ, slice_index_or}
use Rattle.std.specs.Prelude.{IsPermutation}
use Rattle.std.specs.List.{sum_by}
use Rattle.std.proofs.lemmas.List.Sorted.{sum_by-IsPermutation}
use Rattle.std.proofs.lemmas.List.Sums.{sum_by-cons}
use Rattle.sem_laws.proofs.Sums.{sums, sums_same, sums_both, sums_append, sums_zero, nested}
use Rattle.sem_laws.proofs.Counts.{times, times-answers, gives}
use Rattle.sem_query.specs.Query.{QueryValue, IsWithinLimits}
use Rattle.sem_query.specs.Meaning.{Arrival, rows, by_column, answers}
use Rattle.sem_sharding.specs.Shards.{shards_answered}
use Rattle.sem_sharding.specs.Turns.{all_got, OneStreamDealt}
use Rattle.sem_sharding.proofs.Shares.{over, over-same}
use Rattle.sem_sharding.proofs.Together.{counted, answered-is}

-- reordered lists have equal sums
sums-by : {X : Type 0} (f : X → ℕ) (xs : List X) → sums f xs ≡ sum_by f xs
unfolding sums
sums-by f [] = refl
sums-by f (x ∷ xs) = ap (λ n. f x + n) (sums-by f xs) ∙ sym (sum_by-cons f x xs)

sums-reordered : {X : Type 0} (f : X → ℕ) (xs ys : List X) → IsPermutation xs ys → sums f xs ≡ sums f ys
sums-reordered f xs ys p = sums-by f xs ∙ sym (sum_by-IsPermutation f xs ys p) ∙ sym (sums-by f ys)

over-sums : {X : Type 0} (k : ℕ) (f : ℕ → X → ℕ) (xs : List X) → over k (λ i. sums (f i) xs) ≡ sums (λ x. over k (λ i. f i x)) xs
unfolding over
over-sums zero f xs = sym (sums_zero xs)
over-sums (suc k) f xs = ap (λ n. n + sums (f k) xs) (over-sums k f xs) ∙ sym (sums_both (λ x. over k (λ i. f i x)) (f k) xs)

over-got : (k : ℕ) (got : ℕ → List Arrival) (stream : ℕ) (f : List ℤ → ℕ) → over k (λ i. sums f (rows (got i) stream)) ≡ sums f (all_got k got stream)
unfolding over sums
over-got zero got stream f = refl
over-got (suc k) got stream f =
    ap (λ n. n + sums f (rows (got k) stream)) (over-got k got stream f) ∙ sym (sums_append f (all_got k got stream) (rows (got k) stream))

abbrev Same : List Arrival → List Arrival → List ℕ → Type 0
Same g h from = (i : ℕ) → i < length from → IsPermutation (rows g (slice_index_or from i 0)) (rows h (slice_index_or from i 0))

nested-reordered : (g h : List Arrival) (from : List ℕ) → Same g h from → (f : List (List ℤ) → ℕ)
    → nested (map (rows g) from) f ≡ nested (map (rows h) from) f
unfolding nested
nested-reordered g h [] p f = refl
nested-reordered g h (s ∷ from) p f =
    sums_same _ (λ x. nested (map (rows h) from) (λ c. f (x ∷ c))) (rows g s) (λ x. nested-reordered g h from (λ i l. p (suc i) (omega (arith, l))) (λ c. f (x ∷ c)))
    ∙ sums-reordered (λ x. nested (map (rows h) from) (λ c. f (x ∷ c))) (rows g s) (rows h s) (p 0 (omega arith))

-- the combinations of the shards are those of the whole
nested-dealt : (k : ℕ) (got : ℕ → List Arrival) (h : List Arrival) (from : List ℕ) (place : ℕ) → place < length from
    → IsPermutation (all_got k got (slice_index_or from place 0)) (rows h (slice_index_or from place 0))
    → ((other shard : ℕ) → other < length from → other ≢ place → shard < k → IsPermutation (rows (got shard) (slice_index_or from other 0)) (rows h (slice_index_or from other 0)))
    → (f : List (List ℤ) → ℕ) → over k (λ i. nested (map (rows (got i)) from) f) ≡ nested (map (rows h) from) f
unfolding nested
nested-dealt k got h [] place l d a f = absurd (omega (arith, l))
nested-dealt k got h (s ∷ from) zero l d a f =
    over-same k _ (λ i. sums (λ x. nested (map (rows h) from) (λ c. f (x ∷ c))) (rows (got i) s)) (λ i m.
    sums_same _ _ (rows (got i) s) (λ x. nested-reordered (got i) h from (λ j o. a (suc j) i (omega (arith, o)) (λ e. absurd (omega (arith, e))) m) (λ c. f (x ∷ c))))
    ∙ over-got k got s (λ x. nested (map (rows h) from) (λ c. f (x ∷ c)))
    ∙ sums-reordered (λ x. nested (map (rows h) from) (λ c. f (x ∷ c))) (all_got k got s) (rows h s) d
nested-dealt k got h (s ∷ from) (suc n) l d a f =
    over-same k _ (λ i. sums (λ x. nested (map (rows (got i)) from) (λ c. f (x ∷ c))) (rows h s)) (λ i m.
    sums-reordered (λ x. nested (map (rows (got i)) from) (λ c. f (x ∷ c))) (rows (got i) s) (rows h s) (a 0 i (omega arith) (λ e. absurd (omega (arith, e))) m))
    ∙ over-sums k (λ i x. nested (map (rows (got i)) from) (λ c. f (x ∷ c))) (rows h s)
    ∙ sums_same _ _ (rows h s) (λ x. nested-dealt k got h from n (omega (arith, l)) d (λ j i o e m. a (suc j) i (omega (arith, o)) (λ g. e (omega (arith, g))) m) (λ c. f (x ∷ c)))

shards-counted : (q : QueryValue) → IsWithinLimits q → (k : ℕ) (got : ℕ → List Arrival) (z : List ℤ)
    → shards_answered q z k got ≡ over k (λ i. counted q (times z (answers q (got i))))
unfolding over
shards-counted q within zero got z = refl
shards-counted q within (suc k) got z = omega (arith, shards-counted q within k got z, answered-is q within (got k) z)

least-each : (k : ℕ) (f : ℕ → ℕ) → min 1 (over k (λ i. min 1 (f i))) ≡ min 1 (over k f)
unfolding over
least-each zero f = refl
least-each (suc k) f = omega (arith, least-each k f)

pub one-stream-dealt : OneStreamDealt
one-stream-dealt q k within got h have z =
    ap (λ n. cond q.distinct (min 1 n) n) (shards-counted q within k got z) ∙ by q.distinct ∙ ap (counted q) total ∙ sym (answered-is q within h z)
  where
    total : over k (λ i. times z (answers q (got i))) ≡ times z (answers q h)
    total =
        over-same k _ _ (λ i l. times-answers q z (got i))
        ∙ nested-dealt k got h q.from have.place have.at have.dealt have.sent (λ c. gives q z (map by_column c))
        ∙ sym (times-answers q z h)

    by : (b : Bool) → cond b (min 1 (over k (λ i. cond b (min 1 (times z (answers q (got i)))) (times z (answers q (got i)))))) (over k (λ i. cond b (min 1 (times z (answers q (got i)))) (times z (answers q (got i)))))
        ≡ cond b (min 1 (over k (λ i. times z (answers q (got i))))) (over k (λ i. times z (answers q (got i))))
    by true = least-each k (λ i. times z (answers q (got i)))
    by false = refl
