-- Whether FROM names the stream of a row; and a filter's own answer.
use Rattle.std.proofs.Common.{◌≡◌, ℕ, ◌==◌, Bool, true, false, List, [], ◌∷◌, ◌&&◌, subst, length, get_or, map, sym, ap, ◌∙◌, Option, Some, None, ℤ, cond, ◌≤◌, nat_lt, arith}
use Rattle.std.specs.List.{position, position_or_len, list_any}
use Rattle.std.specs.Option.{option_to_list}
use Rattle.std.proofs.lemmas.Bool.Decides.{nat_tests}
use Rattle.std.proofs.lemmas.List.Sums.{fails_before_first}
use Rattle.std.proofs.lemmas.List.Folds.{list_any_none}
use Rattle.sem_query.specs.declared.plan.PartPlan.{PartPlan}
use Rattle.sem_query.specs.Query.{QueryValue, IsWithinLimits}
use Rattle.sem_query.specs.declared.atom.Attr.{Attr}
use Rattle.sem_query.specs.Assignment.{holds, projected}
use Rattle.sem_query.specs.Meaning.{Arrival, assignment_of}
use Rattle.sem_query.specs.Filter.{filter_tuple}
use Rattle.exec_synopsis.specs.Premises.{AreKeeping}
use Rattle.sem_query.specs.Combinations.{Found, Reading}
use Rattle.sem_query.specs.declared.plan.Numbers.{Numbers}
use Rattle.sem_query.specs.declared.plan.Plan.{Plan}
use Rattle.sem_query.specs.declared.plan.Plan.TheVariants as plan
use Rattle.exec_pool.specs.declared.pool.Extent.{Extent}
use Rattle.exec_pool.specs.Extents.{PoolValue, cells_of, IsLive}
use Rattle.exec_answer_table.specs.Entries.{TableValue, with_entries, Fits}
use Rattle.exec_query.specs.FoundTable.{with_all, with_found, HaveRoom}
use Rattle.exec_query.specs.CellSteps.{own_found, all_found, answered_by, HasTaken}
use Rattle.exec_query.proofs.Inserting.{inserted_outside}
use Rattle.exec_query.proofs.PartCells.{with_own}

none_from_cond : (a b : ℕ) → cond (nat_lt a b) (Some a) None ≡ None → b ≤ a
none_from_cond a b e = grind (arith, nat_tests)

pub named_nowhere : (stream : ℕ) (from : List ℕ) → position (λ s. stream == s) from ≡ None → list_any (λ s. stream == s) from ≡ false
named_nowhere stream from e =
    let far : length from ≤ position_or_len (λ s. stream == s) from = none_from_cond _ _ e in
    list_any_none (λ s. stream == s) from (λ k d l. fails_before_first (λ s. stream == s) from k d (omega (arith, far, l)))

-- a row of a stream outside FROM leaves the pool as it is
pub taken_outside : (q : QueryValue) (plan : List PartPlan) → IsWithinLimits q → AreKeeping q plan → (e : Extent) (r : Arrival) (n : ℕ) (p : PoolValue) → IsLive p e
    → list_any (λ s. r.stream == s) q.from ≡ false → HasTaken q plan e r n p p
taken_outside q plan within is e r n p live none = record {
  live = live;
  only = with_own p e live;
  inserted = inserted_outside q plan within is r n (cells_of p e) none;
}

-- what a filter answers is taken up
pub own_some : (q : QueryValue) (r : Arrival) (t : List ℤ) (d : Bool) (table more : TableValue) → Some t ≡ filter_tuple q r → d ≡ q.distinct
    → more ≡ with_entries table (with_found d (record { tuple = t; count = 1 }) table.entries)
    → more ≡ with_entries table (with_all q.distinct (own_found q r) table.entries)
unfolding with_all
own_some q r t d table more e b is =
    is
    ∙ ap (λ d. with_entries table (with_found d (record { tuple = t; count = 1 }) table.entries)) b
    ∙ ap (λ (o : Option (List ℤ)). with_entries table (with_all q.distinct (map (λ t. let f : Found = record { tuple = t; count = 1 } in f) (option_to_list o)) table.entries)) e

pub own_none : (q : QueryValue) (r : Arrival) (table : TableValue) → None ≡ filter_tuple q r
    → table ≡ with_entries table (with_all q.distinct (own_found q r) table.entries)
unfolding with_all
own_none q r table e =
    ap (λ (o : Option (List ℤ)). with_entries table (with_all q.distinct (map (λ t. let f : Found = record { tuple = t; count = 1 } in f) (option_to_list o)) table.entries)) e

-- it has room
pub own_room : (q : QueryValue) (r : Arrival) (t : List ℤ) (table : TableValue) → Some t ≡ filter_tuple q r → HaveRoom q.distinct (own_found q r) table
    → (length t ≡ table.width) × Fits t table
own_room q r t table e h =
    let k : HaveRoom q.distinct (map (λ t. let f : Found = record { tuple = t; count = 1 } in f) (option_to_list (Some t))) table
    = subst (λ (o : Option (List ℤ)). HaveRoom q.distinct (map (λ t. let f : Found = record { tuple = t; count = 1 } in f) (option_to_list o)) table) (sym e) h in
    (k.0, k.1)

-- a filter answers where its condition holds
pub own_told : (q : QueryValue) (r : Arrival) (t : List ℤ) → ((r.stream == get_or q.from 0 0) && holds q (assignment_of (r.values ∷ []))) ≡ true
    → (select : List Attr) → select ≡ q.select → t ≡ map (assignment_of (r.values ∷ [])) select → Some t ≡ filter_tuple q r
own_told q r t b select is e =
    ap (λ (xs : List ℤ). Some xs) (e ∙ ap (map (assignment_of (r.values ∷ []))) is)
    ∙ sym (ap (λ c. cond c (Some (projected q (assignment_of (r.values ∷ [])))) None) b)

pub own_untold : (q : QueryValue) (r : Arrival) → ((r.stream == get_or q.from 0 0) && holds q (assignment_of (r.values ∷ []))) ≡ false → None ≡ filter_tuple q r
own_untold q r b = sym (ap (λ c. cond c (Some (projected q (assignment_of (r.values ∷ [])))) None) b)

-- a row of a stream outside FROM is answered nothing
pub answered_nothing : (q : QueryValue) (p : Plan) (parts : List PartPlan) (numbers : Numbers) (read : Reading) (r : Arrival)
    → p ≡ plan.Parts parts numbers → list_any (λ s. r.stream == s) q.from ≡ false → answered_by q p read r ≡ []
answered_nothing q p parts numbers read r is none =
    ap (λ o. answered_by q o read r) is ∙ ap (λ b. cond b (all_found q parts read r) []) none
