-- What a table has after it took what is answered.
use Rattle.std.proofs.Common.{◌≡◌, ℕ, ◌+◌, ◌*◌, min, ◌<◌, ◌⊎◌, inl, inr, List, ◌++◌, not, Bool, true, false, refl, sym, ap, ◌∙◌, subst, arith, ℤ}
use Rattle.std.specs.List.{list_any}
use Rattle.sem_query.specs.Tuples.{is_same, sorted, distinct_tuples, new_tuples}
use Rattle.sem_query.specs.Merge.{merged_table}
use Rattle.sem_query.proofs.Has.{Has}
use Rattle.sem_laws.proofs.Sums.{sums_append, bit}
use Rattle.sem_laws.proofs.Tests.{any_if, any_from}
use Rattle.sem_laws.proofs.Counts.{times}
use Rattle.sem_laws.proofs.Order.{same-itself, same-is, times-ascending, times-once, times-fresh, any-times, times-any}

pub has-times : (z : List ℤ) (ts : List (List ℤ)) → Has ts z → 0 < times z ts
has-times z ts h = any-times z ts (any_if (is_same z) ts z h (same-itself z))

pub times-has : (z : List ℤ) (ts : List (List ℤ)) → 0 < times z ts → Has ts z
times-has z ts l =
    let x = any_from (is_same z) ts (times-any z ts l) in
    subst (λ (u : List ℤ). Has ts u) (sym (same-is z x.0 x.2)) x.1

pub in-merged : (table us : List (List ℤ)) (z : List ℤ) → Has table z ⊎ Has us z → Has (merged_table table us) z
in-merged table us z h = times-has z (merged_table table us) (subst (λ (n : ℕ). 0 < n) (sym all) (by h))
  where
    all : times z (merged_table table us) ≡ min 1 (times z table + times z us)
    all =
        times-ascending z (distinct_tuples (table ++ us)) ∙ times-once z (table ++ us) ∙ ap (min 1) (sums_append (λ t. bit (is_same z t)) table us)

    by : Has table z ⊎ Has us z → 0 < min 1 (times z table + times z us)
    by (inl k) = let l = has-times z table k in omega (arith, l)
    by (inr k) = let l = has-times z us k in omega (arith, l)

-- what waits is in the table, or is answered
pub waits-or-stands : (table ts : List (List ℤ)) (z : List ℤ) → Has ts z → Has table z ⊎ Has (sorted (new_tuples table ts)) z
waits-or-stands table ts z h = by (list_any (is_same z) table) refl
  where
    by : (b : Bool) → list_any (is_same z) table ≡ b → Has table z ⊎ Has (sorted (new_tuples table ts)) z
    by true e = inl (times-has z table (any-times z table e))
    by false e =
        let n : times z (sorted (new_tuples table ts)) ≡ 1 * min 1 (times z ts)
        = times-ascending z (new_tuples table ts) ∙ times-fresh z table ts ∙ ap (λ b. bit (not b) * min 1 (times z ts)) e in
        let l = has-times z ts h in
        inr (times-has z (sorted (new_tuples table ts)) (omega (arith, n, l)))
