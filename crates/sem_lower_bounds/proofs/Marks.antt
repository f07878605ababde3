-- A table as marks on a list of all tuples that it may have, and back.
use Rattle.std.proofs.Common.{◌≡◌, ℕ, zero, suc, min, ◌<◌, ◌≤◌, inl, inr, List, [], ◌∷◌, map, filter, cond, Bool, true, false, refl, sym, ap, ◌∙◌, subst, arith, ℤ}
use Rattle.std.specs.List.{list_any}
use Rattle.sem_query.proofs.Has.{Has, first, later, Has-head, Has-filter, Contains-from_has, Has-from_contains}
use Rattle.sem_query.specs.Query.{QueryValue, IsWithinLimits, is_filter}
use Rattle.sem_query.specs.declared.plan.PartPlan.{PartPlan}
use Rattle.sem_query.specs.Meaning.{Arrival, answers}
use Rattle.sem_query.specs.Tuples.{is_same, sorted, distinct_tuples}
use Rattle.sem_query.specs.Domains.{RowsKeep}
use Rattle.sem_query.specs.Cells.{printed}
use Rattle.sem_query.specs.Ranges.{all_tuples}
use Rattle.sem_laws.proofs.Tests.{or-cases, not_both, false_if, filter-passes}
use Rattle.sem_laws.proofs.Sums.{bit, sums}
use Rattle.sem_laws.proofs.Counts.{times}
use Rattle.sem_laws.proofs.Order.{Rises, rises_nil, same-itself, same-is, ascending-rises, times-ascending, times-once, any-times, times-any, same-counts}
use Rattle.sem_laws.proofs.NewAnswers.{none-times}
use Rattle.sem_laws.proofs.Merge.{times-printed-is}
use Rattle.sem_laws.specs.Sufficiency.{IsPlannedAnywhere, nothing, anywhere}
use Rattle.sem_laws.proofs.TableRoom.{table-has-room}

-- 1 at a tuple of the table, 0 at others
unfoldable pub mark : List (List ℤ) → List ℤ → ℕ
mark table t = bit (list_any (is_same t) table)

-- the tuples that are marked
pub marked : List ℕ → List (List ℤ) → List (List ℤ)
marked [] ts = []
marked (m ∷ ms) [] = []
marked (zero ∷ ms) (t ∷ ts) = marked ms ts
marked (suc m ∷ ms) (t ∷ ts) = t ∷ marked ms ts

marked-is : (table ts : List (List ℤ)) → marked (map (mark table) ts) ts ≡ filter (λ t. list_any (is_same t) table) ts
unfolding marked mark
marked-is table [] = refl
marked-is table (t ∷ ts) = by (list_any (is_same t) table) (marked-is table ts)
  where
    by : (b : Bool) → marked (map (mark table) ts) ts ≡ filter (λ u. list_any (is_same u) table) ts
        → marked (bit b ∷ map (mark table) ts) (t ∷ ts) ≡ cond b (t ∷ filter (λ u. list_any (is_same u) table) ts) (filter (λ u. list_any (is_same u) table) ts)
    by true e = ap (λ l. t ∷ l) e
    by false e = e

-- an ascending table with each tuple once, all of them among these
pub record IsTable (ts table : List (List ℤ)) : Type 0 where
  pub rises : Rises table
  pub single : (z : List ℤ) → times z table ≤ 1
  pub among : (z : List ℤ) → 0 < times z table → 0 < times z ts

any-has : (z : List ℤ) (ts : List (List ℤ)) → list_any (is_same z) ts ≡ true → Has ts z
any-has z [] h = absurd cc
any-has z (t ∷ ts) h = elim (or-cases (is_same z t) _ h) [
  | inl e ↦ Has-head z t ts (sym (same-is z t e))
  | inr e ↦ later (any-has z ts e)
]

has-times : (z : List ℤ) (ts : List (List ℤ)) → Has ts z → 0 < times z ts
unfolding sums
has-times z [] h = elim h [ ]
has-times z (t ∷ ts) first = let e : bit (is_same z z) ≡ 1 = ap bit (same-itself z) in omega (arith, e)
has-times z (t ∷ ts) (later k) = omega (arith, has-times z ts k)

pub table-again : (ts table : List (List ℤ)) → IsTable ts table → sorted (distinct_tuples (marked (map (mark table) ts) ts)) ≡ table
table-again ts table is =
    ap (λ l. sorted (distinct_tuples l)) (marked-is table ts)
    ∙ same-counts (sorted (distinct_tuples kept)) table (ascending-rises (distinct_tuples kept)) is.rises (λ z.
    times-ascending z (distinct_tuples kept) ∙ times-once z kept ∙ by z (list_any (is_same z) table) refl)
  where
    test : List ℤ → Bool
    test t = list_any (is_same t) table

    kept : List (List ℤ)
    kept = filter test ts

    by : (z : List ℤ) (b : Bool) → list_any (is_same z) table ≡ b → min 1 (times z kept) ≡ times z table
    by z true e =
        let k : 0 < times z table = any-times z table e in
        let t : 0 < times z kept = has-times z kept (Has-filter test e (any-has z ts (times-any z ts (is.among z k)))) in
        omega (arith, k, is.single z, t)
    by z false e =
        let n : times z kept ≡ 0 = none-times z kept (false_if (list_any (is_same z) kept) (λ h. not_both (test z) (filter-passes test ts z (any-has z kept h)) e)) in
        omega (arith, none-times z table e, n)

no-table : (ts table : List (List ℤ)) → table ≡ [] → IsTable ts table
unfolding sums
no-table ts [] e = record { rises = rises_nil; single = λ z. omega arith; among = λ z h. absurd (omega (arith, h)) }
no-table ts (t ∷ table) e = absurd cc

plain-is : (q : QueryValue) → is_filter q ≡ true → q.distinct ≡ false
plain-is q h = grind (arith, h)

-- the printed tuples are such a table
pub printed-is : (q : QueryValue) (plan : List PartPlan) → IsWithinLimits q → IsPlannedAnywhere q plan → (h : List Arrival) → RowsKeep q h
    → IsTable (all_tuples q plan) (printed q h)
printed-is q plan within (nothing f e) h keep =
    no-table (all_tuples q plan) (printed q h) (ap (λ b. cond b (sorted (distinct_tuples (answers q h))) []) (plain-is q f))
printed-is q plan within (anywhere n is) h keep = by q.distinct refl
  where
    at_most_one : (n m : ℕ) → n ≡ min 1 m → n ≤ 1
    at_most_one n m e = omega (arith, e)

    by : (b : Bool) → q.distinct ≡ b → IsTable (all_tuples q plan) (printed q h)
    by true d = record {
      rises = subst Rises (sym (ap (λ b. cond b (sorted (distinct_tuples (answers q h))) []) d)) (ascending-rises (distinct_tuples (answers q h)));
      single = λ z. at_most_one _ _ (times-printed-is q h z d);
      among = λ z k. has-times z (all_tuples q plan) (Has-from_contains (all_tuples q plan) z
          ((table-has-room q plan within is).0 h keep z (Contains-from_has (answers q h) z
          (any-has z (answers q h) (times-any z (answers q h) (omega (arith, k, times-printed-is q h z d)))))));
    }
    by false d = no-table (all_tuples q plan) (printed q h) (ap (λ b. cond b (sorted (distinct_tuples (answers q h))) []) d)
