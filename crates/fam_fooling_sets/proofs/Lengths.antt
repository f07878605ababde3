-- Without DISTINCT each row adds as many answers as it is answered tuples.
use Rattle.std.proofs.Common.{◌≡◌, suc, ◌+◌, List, [], ◌∷◌, ◌++◌, length, cond, Bool, true, false, refl, sym, ap, ◌∙◌, arith, ℤ, length-append}
use Rattle.sem_query.specs.Query.{QueryValue}
use Rattle.sem_query.specs.Tuples.{is_same, is_before, insert_sorted, sorted}
use Rattle.sem_query.specs.Meaning.{Arrival, answers, new_answers}
use Rattle.sem_laws.specs.Growth.{occurs}
use Rattle.sem_laws.proofs.Sums.{sums_append, bit}
use Rattle.sem_laws.proofs.Counts.{times}
use Rattle.sem_laws.proofs.Order.{times-ascending, ascending-rises, same-counts}
use Rattle.sem_laws.proofs.Interleaving.{along_plain, occurs-is}
use Rattle.sem_laws.proofs.Queries.{IsQuery}

length-placed : (t : List ℤ) (us : List (List ℤ)) → length (insert_sorted t us) ≡ suc (length us)
length-placed t [] = refl
length-placed t (u ∷ us) = by (is_before u t) (length-placed t us)
  where
    by : (b : Bool) → length (insert_sorted t us) ≡ suc (length us) → length (cond b (u ∷ insert_sorted t us) (t ∷ u ∷ us)) ≡ suc (suc (length us))
    by true e = ap suc e
    by false e = refl

length-sorted : (ts : List (List ℤ)) → length (sorted ts) ≡ length ts
length-sorted [] = refl
length-sorted (t ∷ ts) = length-placed t (sorted ts) ∙ ap suc (length-sorted ts)

-- lists that have each tuple equally often are equally long
same-length : (xs ys : List (List ℤ)) → ((t : List ℤ) → times t xs ≡ times t ys) → length xs ≡ length ys
same-length xs ys h =
    sym (length-sorted xs)
    ∙ ap length (same-counts (sorted xs) (sorted ys) (ascending-rises xs) (ascending-rises ys) (λ t. times-ascending t xs ∙ h t ∙ sym (times-ascending t ys)))
    ∙ length-sorted ys

pub new-length : (q : QueryValue) → IsQuery q → q.distinct ≡ false → (h : List Arrival) (r : Arrival)
    → length (answers q (h ++ r ∷ [])) ≡ length (answers q h) + length (new_answers q h r)
new-length q well d h r =
    same-length (answers q (h ++ r ∷ [])) (answers q h ++ new_answers q h r) (λ t.
    let a : times t (answers q (h ++ r ∷ [])) ≡ times t (answers q h) + (occurs t (new_answers q h r) + 0) = along_plain q well d h (r ∷ []) t in
    let b : occurs t (new_answers q h r) ≡ times t (new_answers q h r) = occurs-is t (new_answers q h r) in
    let c : times t (answers q h ++ new_answers q h r) ≡ times t (answers q h) + times t (new_answers q h r) = sums_append (λ u. bit (is_same t u)) (answers q h) (new_answers q h r) in
    omega (arith, a, b, c))
    ∙ length-append (answers q h) (new_answers q h r)
