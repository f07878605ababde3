-- The worked query with two soft comparisons: an evaluator that keeps little of it is right.
use Rattle.std.proofs.Common.{◌≡◌, ℕ, zero, suc, ◌+◌, ◌*◌, ◌≤◌, ◌^◌, List, [], ◌∷◌, ◌++◌, map, filter, cond, Bool, true, false, not, ◌&&◌, ◌||◌, ◌==◌, refl, sym, ap, ◌∙◌, subst, arith, append-nil, ℤ, pos}
use Rattle.std.proofs.Math.Nat.{pow-le-pow_left}
use Rattle.std.proofs.lemmas.Bool.Decides.{nat_tests}
use Rattle.std.proofs.lemmas.List.Folds.{list_any-append}
use Rattle.std.specs.List.{list_any, flat_map}
use Rattle.std.specs.Ordering.{int_eq}
use Rattle.sem_query.proofs.Has.{Has, Contains-from_has, first}
use Rattle.sem_query.proofs.Holding.{Compares-from_test, Holds-each}
use Rattle.sem_query.specs.declared.atom.Op.{Op}
use Rattle.sem_query.specs.Assignment.{Assignment, holds, projected}
use Rattle.sem_query.specs.Meaning.{Arrival, rows, product, by_column, assignment_of, answers, new_answers}
use Rattle.sem_query.specs.Tuples.{is_same, sorted, distinct_tuples, new_tuples}
use Rattle.sem_laws.proofs.Interleaving.{appended, ended}
use Rattle.sem_laws.proofs.Limits.{within-limits}
use Rattle.sem_lower_bounds.specs.Accepted.{HasPolynomiallyManyStates}
use Rattle.sem_lower_bounds.specs.States.{Evaluator, after, IsWithin, AreWithin, IsRight}
use Rattle.sem_lower_bounds.specs.Unlike.{s_e, unlike_both, UnlikeMayMislead}
use Rattle.sem_lower_bounds.proofs.FewStates.{polynomially-many-are-few}
use Rattle.sem_lower_bounds.proofs.OneLong.{rows-append, rows-first}
use Rattle.sem_lower_bounds.proofs.Separated.{few-refute}
use Rattle.sem_lower_bounds.proofs.SmallCells.{value-within}
use Rattle.sem_lower_bounds.proofs.UnlikeKept.{Pick, none, other, Kept, neither, lacks, with_row, row-lacks, misses, with_value, IsPick, value-pick, value-misses, code, kept_at, kept-again, Within, codes_within, length-codes, code-among, row-within}
use Rattle.sem_lower_bounds.proofs.UnlikeKept as kept
use Rattle.sem_lower_bounds.proofs.UnlikeRefused.{unlike-refused}

-- whether a row of S asks, and whether it answers to a value of T.c
abbrev asks : List ℤ → Bool
asks row = int_eq (by_column row 2) (pos 1)

abbrev answers_to : List ℤ → ℤ → Bool
answers_to row c = asks row && neither (by_column row 0) (by_column row 1) c

-- the same as the query says it
abbrev pass : List ℤ → List ℤ → Bool
pass s t = holds unlike_both (assignment_of (s ∷ t ∷ []))

pass-is : (s t : List ℤ) → pass s t ≡ answers_to s (by_column t 0)
pass-is s t = three (asks s) (not (int_eq (by_column s 0) (by_column t 0))) (not (int_eq (by_column s 1) (by_column t 0)))
  where
    three : (x y z : Bool) → (x && (y && (z && true))) ≡ (x && (y && z))
    three true true true = refl
    three true true false = refl
    three true false z = refl
    three false y z = refl

-- what is kept after rows of S, and after rows of T
abbrev common_with : Pick → List ℤ → Pick
common_with p row = cond (asks row) (with_row p (by_column row 0) (by_column row 1)) p

abbrev common_of : Pick → List (List ℤ) → Pick
common_of p [] = p
common_of p (row ∷ rows) = common_of (common_with p row) rows

abbrev seen_of : Pick → List (List ℤ) → Pick
seen_of p [] = p
seen_of p (row ∷ rows) = seen_of (with_value p (by_column row 0)) rows

or-step : (x y z : Bool) → ((x || y) || z) ≡ (x || (y || z))
or-step true y z = refl
or-step false y z = refl

or-none : (x : Bool) → x ≡ (x || false)
or-none true = refl
or-none false = refl

common-lacks : (p : Pick) (ss : List (List ℤ)) (c : ℤ) → lacks (common_of p ss) c ≡ (lacks p c || list_any (λ s. answers_to s c) ss)
common-lacks p [] c = or-none (lacks p c)
common-lacks p (s ∷ ss) c =
    common-lacks (common_with p s) ss c ∙ ap (λ b. b || list_any (λ s. answers_to s c) ss) (by (asks s))
    ∙ or-step (lacks p c) (answers_to s c) (list_any (λ s. answers_to s c) ss)
  where
    by : (b : Bool) → lacks (cond b (with_row p (by_column s 0) (by_column s 1)) p) c ≡ (lacks p c || (b && neither (by_column s 0) (by_column s 1) c))
    by true = row-lacks p (by_column s 0) (by_column s 1) c
    by false = or-none (lacks p c)

seen-misses : (p : Pick) → IsPick p → (ts : List (List ℤ)) (a b : ℤ) → misses (seen_of p ts) a b ≡ (misses p a b || list_any (λ t. neither a b (by_column t 0)) ts)
seen-misses p o [] a b = or-none (misses p a b)
seen-misses p o (t ∷ ts) a b =
    seen-misses (with_value p (by_column t 0)) (value-pick p (by_column t 0) o) ts a b
    ∙ ap (λ x. x || list_any (λ t. neither a b (by_column t 0)) ts) (value-misses p (by_column t 0) a b o)
    ∙ or-step (misses p a b) (neither a b (by_column t 0)) (list_any (λ t. neither a b (by_column t 0)) ts)

common-more : (p : Pick) (ss : List (List ℤ)) (s : List ℤ) → common_of p (ss ++ s ∷ []) ≡ common_with (common_of p ss) s
common-more p [] s = refl
common-more p (r ∷ ss) s = common-more (common_with p r) ss s

seen-more : (p : Pick) (ts : List (List ℤ)) (t : List ℤ) → seen_of p (ts ++ t ∷ []) ≡ with_value (seen_of p ts) (by_column t 0)
seen-more p [] t = refl
seen-more p (r ∷ ts) t = seen-more (with_value p (by_column r 0)) ts t

-- whether some row of S answers to some row of T
abbrev some_pass : List (List ℤ) → List (List ℤ) → Bool
some_pass ss ts = list_any (λ s. list_any (pass s) ts) ss

row-more : (ss ts : List (List ℤ)) (s : List ℤ) → some_pass (ss ++ s ∷ []) ts ≡ (some_pass ss ts || list_any (pass s) ts)
row-more ss ts s = list_any-append (λ s. list_any (pass s) ts) ss (s ∷ []) ∙ ap (λ b. some_pass ss ts || b) (sym (or-none (list_any (pass s) ts)))

value-more : (ss ts : List (List ℤ)) (t : List ℤ) → some_pass ss (ts ++ t ∷ []) ≡ (some_pass ss ts || list_any (λ s. pass s t) ss)
value-more [] ts t = refl
value-more (s ∷ ss) ts t =
    ap (λ b. b || some_pass ss (ts ++ t ∷ [])) (list_any-append (pass s) ts (t ∷ []) ∙ ap (λ b. list_any (pass s) ts || b) (sym (or-none (pass s t))))
    ∙ ap (λ b. (list_any (pass s) ts || pass s t) || b) (value-more ss ts t)
    ∙ four (list_any (pass s) ts) (pass s t) (some_pass ss ts) (list_any (λ s. pass s t) ss)
  where
    four : (x y z w : Bool) → ((x || y) || (z || w)) ≡ ((x || z) || (y || w))
    four true y z w = refl
    four false true true w = refl
    four false true false w = refl
    four false false z w = refl

abbrev hits : List Arrival → Bool
hits h = some_pass (rows h 0) (rows h 1)

standing : List Arrival → Kept
standing h = record { printed = hits h; common = common_of other (rows h 0); seen = seen_of none (rows h 1) }

-- whether a row of a stream brings an answer, by what is kept
abbrev hit : Kept → ℕ → List ℤ → Bool
hit k zero row = asks row && misses k.seen (by_column row 0) (by_column row 1)
hit k (suc zero) row = lacks k.common (by_column row 0)
hit k (suc (suc s)) row = false

abbrev next : Kept → ℕ → List ℤ → Kept
next k zero row = record { printed = k.printed || hit k 0 row; common = common_with k.common row; seen = k.seen }
next k (suc zero) row = record { printed = k.printed || hit k 1 row; common = k.common; seen = with_value k.seen (by_column row 0) }
next k (suc (suc s)) row = k

abbrev arrival : ℕ → List ℤ → Arrival
arrival s row = record { stream = s; values = row }

row-hits : (h : List Arrival) (row : List ℤ) → hit (standing h) 0 row ≡ list_any (pass row) (rows h 1)
unfolding standing
row-hits h row =
    ap (λ b. asks row && b) (seen-misses none tt (rows h 1) (by_column row 0) (by_column row 1)) ∙ by (asks row) (rows h 1)
    ∙ (λ i. list_any (λ t. sym (pass-is row t) i) (rows h 1))
  where
    by : (b : Bool) (ts : List (List ℤ)) → (b && list_any (λ t. neither (by_column row 0) (by_column row 1) (by_column t 0)) ts)
        ≡ list_any (λ t. b && neither (by_column row 0) (by_column row 1) (by_column t 0)) ts
    by true ts = refl
    by false [] = refl
    by false (t ∷ ts) = by false ts

value-hits : (h : List Arrival) (row : List ℤ) → hit (standing h) 1 row ≡ list_any (λ s. pass s row) (rows h 0)
unfolding standing
value-hits h row = common-lacks other (rows h 0) (by_column row 0) ∙ (λ i. list_any (λ s. sym (pass-is s row) i) (rows h 0))

rows-more : (h : List Arrival) (r : Arrival) (s : ℕ) (row : List ℤ) → rows (r ∷ []) s ≡ row ∷ [] → rows (h ++ r ∷ []) s ≡ rows h s ++ row ∷ []
rows-more h r s row e = rows-append h (r ∷ []) s ∙ ap (λ l. rows h s ++ l) e

rows-same : (h : List Arrival) (r : Arrival) (s : ℕ) → rows (r ∷ []) s ≡ [] → rows (h ++ r ∷ []) s ≡ rows h s
rows-same h r s e = rows-append h (r ∷ []) s ∙ ap (λ l. rows h s ++ l) e ∙ append-nil (rows h s)

no-rows : (s : ℕ) (row : List ℤ) (k : ℕ) → (suc (suc s) == k) ≡ false → rows (arrival (suc (suc s)) row ∷ []) k ≡ []
no-rows s row k e = rows-first (arrival (suc (suc s)) row) [] k false e

more-hits : (h : List Arrival) (s : ℕ) (row : List ℤ) → hits (h ++ arrival s row ∷ []) ≡ (hits h || hit (standing h) s row)
more-hits h zero row =
    let e : rows (h ++ arrival 0 row ∷ []) 0 ≡ rows h 0 ++ row ∷ [] = rows-more h (arrival 0 row) 0 row refl in
    let f : rows (h ++ arrival 0 row ∷ []) 1 ≡ rows h 1 = rows-same h (arrival 0 row) 1 refl in
    (λ i. some_pass (e i) (f i)) ∙ row-more (rows h 0) (rows h 1) row ∙ ap (λ b. hits h || b) (sym (row-hits h row))
more-hits h (suc zero) row =
    let e : rows (h ++ arrival 1 row ∷ []) 0 ≡ rows h 0 = rows-same h (arrival 1 row) 0 refl in
    let f : rows (h ++ arrival 1 row ∷ []) 1 ≡ rows h 1 ++ row ∷ [] = rows-more h (arrival 1 row) 1 row refl in
    (λ i. some_pass (e i) (f i)) ∙ value-more (rows h 0) (rows h 1) row ∙ ap (λ b. hits h || b) (sym (value-hits h row))
more-hits h (suc (suc s)) row =
    let e : rows (h ++ arrival (suc (suc s)) row ∷ []) 0 ≡ rows h 0 = rows-same h (arrival (suc (suc s)) row) 0 (no-rows s row 0 (grind (arith, nat_tests))) in
    let f : rows (h ++ arrival (suc (suc s)) row ∷ []) 1 ≡ rows h 1 = rows-same h (arrival (suc (suc s)) row) 1 (no-rows s row 1 (grind (arith, nat_tests))) in
    (λ i. some_pass (e i) (f i)) ∙ or-none (hits h)

-- what is kept goes on as the history does
goes-on : (h : List Arrival) (s : ℕ) (row : List ℤ) → next (standing h) s row ≡ standing (h ++ arrival s row ∷ [])
unfolding standing
goes-on h zero row =
    let e : rows (h ++ arrival 0 row ∷ []) 0 ≡ rows h 0 ++ row ∷ [] = rows-more h (arrival 0 row) 0 row refl in
    let f : rows (h ++ arrival 0 row ∷ []) 1 ≡ rows h 1 = rows-same h (arrival 0 row) 1 refl in
    let c : common_with (common_of other (rows h 0)) row ≡ common_of other (rows (h ++ arrival 0 row ∷ []) 0) = sym (common-more other (rows h 0) row) ∙ ap (common_of other) (sym e) in
    let p : (hits h || hit (standing h) 0 row) ≡ hits (h ++ arrival 0 row ∷ []) = sym (more-hits h 0 row) in
    λ i. record { printed = p i; common = c i; seen = seen_of none (sym f i) }
goes-on h (suc zero) row =
    let e : rows (h ++ arrival 1 row ∷ []) 0 ≡ rows h 0 = rows-same h (arrival 1 row) 0 refl in
    let f : rows (h ++ arrival 1 row ∷ []) 1 ≡ rows h 1 ++ row ∷ [] = rows-more h (arrival 1 row) 1 row refl in
    let c : with_value (seen_of none (rows h 1)) (by_column row 0) ≡ seen_of none (rows (h ++ arrival 1 row ∷ []) 1) = sym (seen-more none (rows h 1) row) ∙ ap (seen_of none) (sym f) in
    let p : (hits h || hit (standing h) 1 row) ≡ hits (h ++ arrival 1 row ∷ []) = sym (more-hits h 1 row) in
    λ i. record { printed = p i; common = common_of other (sym e i); seen = c i }
goes-on h (suc (suc s)) row =
    let e : rows (h ++ arrival (suc (suc s)) row ∷ []) 0 ≡ rows h 0 = rows-same h (arrival (suc (suc s)) row) 0 (no-rows s row 0 (grind (arith, nat_tests))) in
    let f : rows (h ++ arrival (suc (suc s)) row ∷ []) 1 ≡ rows h 1 = rows-same h (arrival (suc (suc s)) row) 1 (no-rows s row 1 (grind (arith, nat_tests))) in
    λ i. record { printed = some_pass (sym e i) (sym f i); common = common_of other (sym e i); seen = seen_of none (sym f i) }

-- all answers are the tuple of 1
abbrev one : List ℤ
one = pos 1 ∷ []

abbrev AreOnes : List (List ℤ) → Type 0
AreOnes [] = Unit {0}
AreOnes (t ∷ ts) = (t ≡ one) × AreOnes ts

abbrev is_some : List (List ℤ) → Bool
is_some [] = false
is_some (t ∷ ts) = true

selects-one : (v : Assignment) → holds unlike_both v ≡ true → projected unlike_both v ≡ one
selects-one v h = ap (λ z. z ∷ []) (Compares-from_test Op.Eq (v s_e) (pos 1) (Holds-each unlike_both v h _ first))

abbrev chosen : List (List (List ℤ)) → List (List ℤ)
chosen cs = map (λ c. projected unlike_both (assignment_of c)) (filter (λ c. holds unlike_both (assignment_of c)) cs)

chosen-ones : (cs : List (List (List ℤ))) → AreOnes (chosen cs)
chosen-ones [] = tt
chosen-ones (c ∷ cs) = by (holds unlike_both (assignment_of c)) (λ e. selects-one (assignment_of c) e) (chosen-ones cs)
  where
    by : (b : Bool) → (b ≡ true → projected unlike_both (assignment_of c) ≡ one) → AreOnes (chosen cs)
        → AreOnes (map (λ c. projected unlike_both (assignment_of c)) (cond b (c ∷ filter (λ c. holds unlike_both (assignment_of c)) cs) (filter (λ c. holds unlike_both (assignment_of c)) cs)))
    by true f o = (f refl, o)
    by false f o = o

some-chosen : (cs : List (List (List ℤ))) → is_some (chosen cs) ≡ list_any (λ c. holds unlike_both (assignment_of c)) cs
some-chosen [] = refl
some-chosen (c ∷ cs) = by (holds unlike_both (assignment_of c)) (some-chosen cs)
  where
    by : (b : Bool) → is_some (chosen cs) ≡ list_any (λ c. holds unlike_both (assignment_of c)) cs
        → is_some (map (λ c. projected unlike_both (assignment_of c)) (cond b (c ∷ filter (λ c. holds unlike_both (assignment_of c)) cs) (filter (λ c. holds unlike_both (assignment_of c)) cs)))
        ≡ (b || list_any (λ c. holds unlike_both (assignment_of c)) cs)
    by true e = refl
    by false e = e

-- the combinations of a row of S
abbrev with_each : List ℤ → List (List ℤ) → List (List (List ℤ))
with_each s ts = map (λ others. s ∷ others) (product (ts ∷ []))

any-with : (s : List ℤ) (ts : List (List ℤ)) → list_any (λ c. holds unlike_both (assignment_of c)) (with_each s ts) ≡ list_any (pass s) ts
any-with s [] = refl
any-with s (t ∷ ts) = ap (λ b. pass s t || b) (any-with s ts)

any-combined : (ss ts : List (List ℤ)) → list_any (λ c. holds unlike_both (assignment_of c)) (flat_map (λ s. with_each s ts) ss) ≡ some_pass ss ts
any-combined [] ts = refl
any-combined (s ∷ ss) ts =
    list_any-append (λ c. holds unlike_both (assignment_of c)) (with_each s ts) (flat_map (λ s. with_each s ts) ss)
    ∙ ap (λ b. b || list_any (λ c. holds unlike_both (assignment_of c)) (flat_map (λ s. with_each s ts) ss)) (any-with s ts)
    ∙ ap (λ b. list_any (pass s) ts || b) (any-combined ss ts)

some-answers : (h : List Arrival) → is_some (answers unlike_both h) ≡ hits h
some-answers h = some-chosen (product (rows h 0 ∷ rows h 1 ∷ [])) ∙ any-combined (rows h 0) (rows h 1)

distinct-ones : (ts : List (List ℤ)) → AreOnes ts → distinct_tuples ts ≡ cond (is_some ts) (one ∷ []) []
distinct-ones [] o = refl
distinct-ones (t ∷ ts) o =
    ap (λ x. x ∷ filter (λ u. not (is_same u x)) (distinct_tuples ts)) o.0
    ∙ ap (λ l. one ∷ filter (λ u. not (is_same u one)) l) (distinct-ones ts o.1) ∙ by (is_some ts)
  where
    by : (b : Bool) → (one ∷ filter (λ u. not (is_same u one)) (cond b (one ∷ []) [])) ≡ (one ∷ [])
    by true = refl
    by false = refl

any-ones : (ts : List (List ℤ)) → AreOnes ts → list_any (is_same one) ts ≡ is_some ts
any-ones [] o = refl
any-ones (t ∷ ts) o = ap (λ x. is_same one x || list_any (is_same one) ts) o.0

new-ones : (before now : List (List ℤ)) → AreOnes before → AreOnes now → sorted (new_tuples before now) ≡ cond (not (is_some before) && is_some now) (one ∷ []) []
new-ones before now o p =
    ap (λ l. sorted (filter (λ t. not (list_any (is_same t) before)) l)) (distinct-ones now p) ∙ at (is_some now)
  where
    by : (b : Bool) → sorted (cond b (one ∷ []) []) ≡ cond b (one ∷ []) []
    by true = refl
    by false = refl

    swap : (b : Bool) → (b && true) ≡ b
    swap true = refl
    swap false = refl

    swap-false : (b : Bool) → (b && false) ≡ false
    swap-false true = refl
    swap-false false = refl

    at : (n : Bool) → sorted (filter (λ t. not (list_any (is_same t) before)) (cond n (one ∷ []) [])) ≡ cond (not (is_some before) && n) (one ∷ []) []
    at true =
        ap (λ b. sorted (cond (not b) (one ∷ []) [])) (any-ones before o) ∙ by (not (is_some before))
        ∙ ap (λ b. cond b (one ∷ []) []) (sym (swap (not (is_some before))))
    at false = ap (λ b. cond b (one ∷ []) []) (sym (swap-false (not (is_some before))))

new-is : (h : List Arrival) (r : Arrival) → new_answers unlike_both h r ≡ cond (not (hits h) && hits (h ++ r ∷ [])) (one ∷ []) []
unfolding new_answers
new-is h r =
    new-ones (answers unlike_both h) (answers unlike_both (h ++ r ∷ [])) (chosen-ones (product (rows h 0 ∷ rows h 1 ∷ []))) (chosen-ones (product (rows (h ++ r ∷ []) 0 ∷ rows (h ++ r ∷ []) 1 ∷ [])))
    ∙ (λ i. cond (not (some-answers h i) && some-answers (h ++ r ∷ []) i) (one ∷ []) [])

abbrev said : Kept → ℕ → List ℤ → List (List ℤ)
said k s row = cond (not k.printed && hit k s row) (one ∷ []) []

said-is : (h : List Arrival) (r : Arrival) → said (standing h) r.stream r.values ≡ new_answers unlike_both h r
unfolding standing
said-is h r =
    ap (λ b. cond b (one ∷ []) []) (by (hits h) (hit (standing h) r.stream r.values))
    ∙ ap (λ b. cond (not (hits h) && b) (one ∷ []) []) (sym (more-hits h r.stream r.values)) ∙ sym (new-is h r)
  where
    by : (x y : Bool) → (not x && y) ≡ (not x && (x || y))
    by true y = refl
    by false y = refl

abbrev evaluator : Evaluator
evaluator = record {
  start = code (standing []);
  step = λ s r. code (next (kept_at s) r.stream r.values);
  says = λ s r. said (kept_at s) r.stream r.values;
}

comes : (done h : List Arrival) → after evaluator (code (standing done)) h ≡ code (standing (done ++ h))
comes done [] = ap (λ h. code (standing h)) (sym (ended done))
comes done (r ∷ h) =
    ap (λ k. after evaluator (code (next k r.stream r.values)) h) (kept-again (standing done))
    ∙ ap (λ k. after evaluator (code k) h) (goes-on done r.stream r.values)
    ∙ comes (done ++ r ∷ []) h ∙ ap (λ h. code (standing h)) (appended done r h)

right : IsRight unlike_both evaluator
right h r =
    ap (λ s. said (kept_at s) r.stream r.values) (comes [] h) ∙ ap (λ k. said k r.stream r.values) (kept-again (standing h)) ∙ said-is h r

-- what is kept lies within the bound of the rows
AllWithin : ℕ → List (List ℤ) → Type 0
AllWithin bound [] = Unit {0}
AllWithin bound (row ∷ rows) = IsWithin bound row × AllWithin bound rows

rows-within : (bound : ℕ) (h : List Arrival) (s : ℕ) → AreWithin bound h → AllWithin bound (rows h s)
unfolding AllWithin
rows-within bound [] s w = tt
rows-within bound (r ∷ h) s w = by (r.stream == s) (rows-within bound h s w.1)
  where
    by : (b : Bool) → AllWithin bound (rows h s) → AllWithin bound (map (λ t. t.values) (cond b (r ∷ filter (λ t. t.stream == s) h) (filter (λ t. t.stream == s) h)))
    by true o = (w.0, o)
    by false o = o

common-within : (bound : ℕ) (p : Pick) (ss : List (List ℤ)) → Within bound p → AllWithin bound ss → Within bound (common_of p ss)
unfolding AllWithin
common-within bound p [] v w = v
common-within bound p (s ∷ ss) v w = common-within bound (common_with p s) ss (by (asks s)) w.1
  where
    by : (b : Bool) → Within bound (cond b (with_row p (by_column s 0) (by_column s 1)) p)
    by true = row-within bound p (by_column s 0) (by_column s 1) v (value-within bound s 0 w.0) (value-within bound s 1 w.0)
    by false = v

seen-within : (bound : ℕ) (p : Pick) (ts : List (List ℤ)) → Within bound p → AllWithin bound ts → Within bound (seen_of p ts)
unfolding AllWithin
seen-within bound p [] v w = v
seen-within bound p (t ∷ ts) v w = seen-within bound (with_value p (by_column t 0)) ts (kept.value-within bound p (by_column t 0) v (value-within bound t 0 w.0)) w.1

among : (bound : ℕ) (h : List Arrival) → AreWithin bound h → Has (codes_within bound) (code (standing h))
unfolding standing
among bound h w = code-among bound (standing h) (common-within bound other (rows h 0) tt (rows-within bound h 0 w)) (seen-within bound none (rows h 1) tt (rows-within bound h 1 w))

few : HasPolynomiallyManyStates evaluator
few = record {
  factor = 3;
  exponent = 5;
  states = λ n bound. record {
    states = codes_within bound;
    size = (let l : (2 * bound + 3) ^ 5 ≤ (3 * (n + bound + 1)) ^ 5 = pow-le-pow_left (omega arith) 5 in omega (arith, l, length-codes bound));
    all = λ h l w. Contains-from_has (codes_within bound) (after evaluator evaluator.start h) (subst (Has (codes_within bound)) (sym (comes [] h)) (among bound h w));
  };
}

pub unlike-may-mislead : UnlikeMayMislead
unlike-may-mislead = record {
  limits = within-limits unlike_both refl;
  refused = unlike-refused;
  enough = few-refute unlike_both evaluator right (polynomially-many-are-few evaluator few);
}
