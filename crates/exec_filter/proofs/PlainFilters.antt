-- What a filter answers to the rows that pass its prefilter.
use Rattle.std.proofs.Common.{◌≡◌, ℕ, ◌+◌, ◌<◌, ◌==◌, take, ◌&&◌, length, cond, Bool, true, false, ℤ, List, [], ◌∷◌, map, get_or, Some, None, refl, sym, ap, ◌∙◌, arith}
use Rattle.std.specs.List.{list_all}
use Rattle.std.proofs.lemmas.List.Folds.{list_all_more}
use Rattle.std.proofs.lemmas.Bool.Decides.{nat_tests}
use Rattle.sem_query.specs.declared.atom.Atom.{Atom}
use Rattle.sem_query.specs.Query.{QueryValue}
use Rattle.sem_query.specs.Assignment.{meets, holds, projected}
use Rattle.sem_query.specs.Meaning.{Arrival, by_column, assignment_of}
use Rattle.sem_query.specs.Filter.{filter_tuple}
use Rattle.sem_laws.proofs.Tests.{not_both, nat_true}
use Rattle.exec_filter.specs.declared.prefilter.Prefilter.{Prefilter}
use Rattle.exec_filter.specs.Prefilter.{lets_in, comes_in, passes}

pub and_true : (b : Bool) → b ≡ (b && true)
and_true true = refl
and_true false = refl

-- one more element that a test is asked of
pub all_more : {X : Type 0} (p : X → Bool) (xs : List X) (i : ℕ) (d : X) (new old : Bool) → i < length xs → new ≡ (old && p (get_or xs i d)) → old ≡ list_all p (take i xs)
    → new ≡ list_all p (take (i + 1) xs)
all_more p xs i d new old there is so_far = is ∙ ap (λ b. b && p (get_or xs i d)) so_far ∙ sym (list_all_more p xs i d there)

same_number : (n : ℕ) → (n == n) ≡ true
same_number n = grind (arith, nat_tests)

-- a row that passes is of the only stream, whose filter lets it in
came_in : (prefilter : Prefilter) → prefilter.others.items ≡ [] → (r : Arrival) → passes prefilter r ≡ true
    → (prefilter.front.stream ≡ r.stream) × (lets_in prefilter.front (by_column r.values) ≡ true)
came_in prefilter single r h = by (prefilter.front.stream == r.stream) refl
  where
    by : (b : Bool) → (prefilter.front.stream == r.stream) ≡ b → (prefilter.front.stream ≡ r.stream) × (lets_in prefilter.front (by_column r.values) ≡ true)
    by true e =
        (nat_true prefilter.front.stream r.stream e, ap (λ b. cond b (lets_in prefilter.front (by_column r.values)) (comes_in r prefilter.others.items)) (sym e) ∙ h)
    by false e = absurd (not_both (passes prefilter r) h
        (ap (λ b. cond b (lets_in prefilter.front (by_column r.values)) (comes_in r prefilter.others.items)) e ∙ ap (comes_in r) single))

-- it is answered where it meets the comparisons that are left open
pub answers-open : (q : QueryValue) (prefilter : Prefilter) (selected : List ℕ) (unimplied : List Atom) → prefilter.front.stream ≡ get_or q.from 0 0 → prefilter.others.items ≡ []
    → ((values : List ℤ) → lets_in prefilter.front (by_column values) ≡ true
    → list_all (meets (assignment_of (values ∷ []))) unimplied ≡ list_all (meets (assignment_of (values ∷ []))) q.atoms)
    → ((values : List ℤ) → map (assignment_of (values ∷ [])) q.select ≡ map (by_column values) selected)
    → (r : Arrival) → passes prefilter r ≡ true
    → filter_tuple q r ≡ cond (list_all (meets (assignment_of (r.values ∷ []))) unimplied) (Some (map (by_column r.values) selected)) None
answers-open q prefilter selected unimplied first single same selects r h =
    let came = came_in prefilter single r h in
    let here : (r.stream == get_or q.from 0 0) ≡ true = ap (λ n. n == get_or q.from 0 0) (sym came.0 ∙ first) ∙ same_number (get_or q.from 0 0) in
    ap (λ b. cond (b && holds q (assignment_of (r.values ∷ []))) (Some (projected q (assignment_of (r.values ∷ [])))) None) here
    ∙ ap (λ b. cond b (Some (projected q (assignment_of (r.values ∷ [])))) None) (sym (same r.values came.1))
    ∙ ap (λ (t : List ℤ). cond (list_all (meets (assignment_of (r.values ∷ []))) unimplied) (Some t) None) (selects r.values)
