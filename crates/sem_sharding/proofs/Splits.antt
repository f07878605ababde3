-- The laws on shards: a share of the rows is a share of the combinations.
use Rattle.std.proofs.Common.{◌≡◌, ℕ, ◌*◌, min, ◌≤◌, List, [], ◌∷◌, ◌++◌, map, not, cond, Bool, true, false, refl, sym, ap, ◌∙◌, subst, arith, ℤ}
use Rattle.std.specs.List.{list_all, list_any}
use Rattle.sem_laws.proofs.Sums.{nested, bit}
use Rattle.sem_laws.proofs.Counts.{times, gives}
use Rattle.sem_laws.proofs.Order.{any-times, times-fresh}
use Rattle.sem_laws.proofs.NewAnswers.{is_new, none-times}
use Rattle.sem_laws.proofs.Merge.{times-printed-is}
use Rattle.sem_laws.proofs.Keeping.{rows-more-keep}
use Rattle.sem_laws.proofs.Queries.{IsQuery, query_within}
use Rattle.sem_query.specs.Query.{QueryValue}
use Rattle.sem_query.specs.Meaning.{Arrival, rows, by_column, answers, new_answers}
use Rattle.sem_query.specs.Tuples.{is_same, new_tuples}
use Rattle.sem_query.specs.Cells.{printed}
use Rattle.sem_query.specs.Domains.{RowsKeep}
use Rattle.sem_sharding.specs.Shards.{Routing, share, rows_of, IsSplit, IsDisjoint, SplitAnswers, DisjointAnswers, SplitHistories, DisjointHistories, DedupedHistories, DedupedAnswers, shards_answer}
use Rattle.sem_sharding.proofs.Shares.{over, times-share}
use Rattle.sem_sharding.proofs.Together.{counted, AddsUp, together, whole-step, shards-step, alike, answered-is, answered-over}
use Rattle.sem_sharding.proofs.Parted.{add-up, add-up-distinct, cover}

abbrev pub seen : QueryValue → Routing → ℕ → List (List ℤ) → Bool
seen q to i c = list_all (to i) (rows_of q.from c)

abbrev pub has : QueryValue → Routing → List Arrival → ℕ → List ℤ → ℕ
has q to h i z = times z (answers q (share to i h))

pub is : (q : QueryValue) (to : Routing) (h : List Arrival) (i : ℕ) (z : List ℤ)
    → has q to h i z ≡ nested (map (rows h) q.from) (λ c. bit (seen q to i c) * gives q z (map by_column c))
is q to h i z = times-share q z (to i) h

plain : (q : QueryValue) → IsQuery q → (k : ℕ) (to : Routing) → q.distinct ≡ false → IsSplit q k to → AddsUp q k to
plain q well k to e split h keep z =
    ap (λ b. over k (λ i. cond b (min 1 (times z (answers q (share to i h)))) (times z (answers q (share to i h))))) e
    ∙ add-up q well h keep k (seen q to) (has q to h) (is q to h) split.some split.one z
    ∙ ap (λ b. cond b (min 1 (times z (answers q h))) (times z (answers q h))) (sym e)

distinct : (q : QueryValue) → IsQuery q → (k : ℕ) (to : Routing) → q.distinct ≡ true → IsDisjoint q k to → AddsUp q k to
distinct q well k to e split h keep z =
    ap (λ b. over k (λ i. cond b (min 1 (times z (answers q (share to i h)))) (times z (answers q (share to i h))))) e
    ∙ add-up-distinct q well h keep k (seen q to) (has q to h) (is q to h) split.some split.one z
    ∙ ap (λ b. cond b (min 1 (times z (answers q h))) (times z (answers q h))) (sym e)

pub split-answers : SplitAnswers
split-answers q k to within e split =
    let well : IsQuery q = query_within q within in together q well to k (plain q well k to e split)

pub disjoint-answers : DisjointAnswers
disjoint-answers q k to within e split =
    let well : IsQuery q = query_within q within in together q well to k (distinct q well k to e split)

pub split-histories : SplitHistories
split-histories q k to within e split = alike q within to k (plain q (query_within q within) k to e split)

pub disjoint-histories : DisjointHistories
disjoint-histories q k to within e split = alike q within to k (distinct q (query_within q within) k to e split)

pub deduped-answers : DedupedAnswers
deduped-answers q k to within e some h r keep keep_r =
    is_new q h r (new_tuples (printed q h) (shards_answer q to k h r)) (λ z.
    times-fresh z (printed q h) (shards_answer q to k h r) ∙ by z (list_any (is_same z) (printed q h)) refl)
  where
    well : IsQuery q
    well = query_within q within

    -- counts of the shards, and of one process
    of : List Arrival → List ℤ → ℕ
    of l z = over k (λ i. counted q (times z (answers q (share to i l))))

    covers : (l : List Arrival) → RowsKeep q l → (z : List ℤ) → min 1 (of l z) ≡ counted q (times z (answers q l))
    covers l keeps z =
        ap (λ b. min 1 (over k (λ i. cond b (min 1 (times z (answers q (share to i l)))) (times z (answers q (share to i l)))))) e
        ∙ cover q well l keeps k (seen q to) (has q to l) (is q to l) some z
        ∙ ap (λ b. cond b (min 1 (times z (answers q l))) (times z (answers q l))) (sym e)

    was : (z : List ℤ) → times z (printed q h) ≡ counted q (times z (answers q h))
    was z = times-printed-is q h z e ∙ ap (λ b. cond b (min 1 (times z (answers q h))) (times z (answers q h))) (sym e)

    most : (n : ℕ) → counted q n ≤ 1
    most n = subst (λ b. cond b (min 1 n) n ≤ 1) (sym e) (omega arith)

    by : (z : List ℤ) (b : Bool) → list_any (is_same z) (printed q h) ≡ b
        → bit (not (list_any (is_same z) (printed q h))) * min 1 (times z (shards_answer q to k h r)) ≡ times z (new_answers q h r)
    by z true f =
        ap (λ b. bit (not b) * min 1 (times z (shards_answer q to k h r))) f
        ∙ omega (arith, any-times z (printed q h) f, was z, whole-step q well h r z, most (times z (answers q (h ++ r ∷ []))))
    by z false f =
        ap (λ b. bit (not b) * min 1 (times z (shards_answer q to k h r))) f
        ∙ omega (arith, none-times z (printed q h) f, was z, whole-step q well h r z, covers h keep z, covers (h ++ r ∷ []) (rows-more-keep q h r keep keep_r) z, shards-step q well to k h r z)

pub deduped-histories : DedupedHistories
deduped-histories q k to within e some h keep got have z =
    ap (min 1) (answered-over q within to h got z k have)
    ∙ ap (λ b. min 1 (over k (λ i. cond b (min 1 (times z (answers q (share to i h)))) (times z (answers q (share to i h)))))) e
    ∙ cover q (query_within q within) h keep k (seen q to) (has q to h) (is q to h) some z
    ∙ ap (λ b. cond b (min 1 (times z (answers q h))) (times z (answers q h))) (sym e)
    ∙ sym (answered-is q within h z)
