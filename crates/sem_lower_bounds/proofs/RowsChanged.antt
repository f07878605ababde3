-- Histories in which each row is changed as its stream asks.
use Rattle.std.proofs.Common.{◌≡◌, ℕ, List, [], ◌∷◌, ◌++◌, map, filter, length, cond, Bool, true, false, ◌==◌, refl, sym, ap, ◌∙◌, ℤ}
use Rattle.std.proofs.lemmas.List.{length-map, map-append}
use Rattle.std.specs.List.{flat_map}
use Rattle.sem_query.proofs.Has.{Has, first, later}
use Rattle.sem_query.specs.Query.{QueryValue}
use Rattle.sem_query.specs.Assignment.{holds, projected}
use Rattle.sem_query.specs.Meaning.{Arrival, rows, product, assignment_of, answers, new_answers}
use Rattle.sem_query.specs.Tuples.{sorted, bag_minus, new_tuples}
use Rattle.sem_laws.proofs.Tests.{nat_true}
use Rattle.sem_laws.proofs.TableRoom.{product-length}
use Rattle.sem_lower_bounds.specs.States.{Evaluator, after}

module _ (f : ℕ → List ℤ → List ℤ) where
  abbrev pub changed_row : Arrival → Arrival
  changed_row r = record { stream = r.stream; values = f r.stream r.values }

  rows-changed : (h : List Arrival) (s : ℕ) → rows (map changed_row h) s ≡ map (f s) (rows h s)
  rows-changed [] s = refl
  rows-changed (r ∷ h) s = by (r.stream == s) (λ e. nat_true r.stream s e) (rows-changed h s)
    where
      by : (b : Bool) → (b ≡ true → r.stream ≡ s) → rows (map changed_row h) s ≡ map (f s) (rows h s)
          → map (λ t. t.values) (cond b (changed_row r ∷ filter (λ t. t.stream == s) (map changed_row h)) (filter (λ t. t.stream == s) (map changed_row h)))
          ≡ map (f s) (map (λ t. t.values) (cond b (r ∷ filter (λ t. t.stream == s) h) (filter (λ t. t.stream == s) h)))
      by true g e = ap (λ (l : List (List ℤ)). f r.stream r.values ∷ l) e ∙ ap (λ (k : ℕ). f k r.values ∷ map (f s) (rows h s)) (g refl)
      by false g e = e

  -- the rows of a combination, each changed as its stream asks
  abbrev pub change_each : List ℕ → List (List ℤ) → List (List ℤ)
  change_each [] c = c
  change_each (s ∷ from) [] = []
  change_each (s ∷ from) (row ∷ c) = f s row ∷ change_each from c

  first-changed : (s : ℕ) (from : List ℕ) (row : List ℤ) (cs : List (List (List ℤ)))
      → map (λ c. f s row ∷ c) (map (change_each from) cs) ≡ map (change_each (s ∷ from)) (map (λ c. row ∷ c) cs)
  first-changed s from row [] = refl
  first-changed s from row (c ∷ cs) = ap (λ (l : List (List (List ℤ))). (f s row ∷ change_each from c) ∷ l) (first-changed s from row cs)

  longer-changed : (s : ℕ) (from : List ℕ) (cs : List (List (List ℤ))) (xs : List (List ℤ))
      → flat_map (λ x. map (λ c. x ∷ c) (map (change_each from) cs)) (map (f s) xs) ≡ map (change_each (s ∷ from)) (flat_map (λ x. map (λ c. x ∷ c) cs) xs)
  longer-changed s from cs [] = refl
  longer-changed s from cs (x ∷ xs) =
      ap (λ (l : List (List (List ℤ))). l ++ flat_map (λ x. map (λ c. x ∷ c) (map (change_each from) cs)) (map (f s) xs)) (first-changed s from x cs)
      ∙ ap (λ (l : List (List (List ℤ))). map (change_each (s ∷ from)) (map (λ c. x ∷ c) cs) ++ l) (longer-changed s from cs xs)
      ∙ sym (map-append (change_each (s ∷ from)) (map (λ c. x ∷ c) cs) (flat_map (λ x. map (λ c. x ∷ c) cs) xs))

  product-changed : (h : List Arrival) (from : List ℕ) → product (map (rows (map changed_row h)) from) ≡ map (change_each from) (product (map (rows h) from))
  product-changed h [] = refl
  product-changed h (s ∷ from) =
      ap (λ (cs : List (List (List ℤ))). flat_map (λ x. map (λ c. x ∷ c) cs) (rows (map changed_row h) s)) (product-changed h from)
      ∙ ap (λ (xs : List (List ℤ)). flat_map (λ x. map (λ c. x ∷ c) (map (change_each from) (product (map (rows h) from)))) xs) (rows-changed h s)
      ∙ longer-changed s from (product (map (rows h) from)) (rows h s)

  -- what is selected and passes is the same
  same-filtered : (t u : List (List ℤ) → Bool) (p o : List (List ℤ) → List ℤ) (g : List (List ℤ) → List (List ℤ)) (cs : List (List (List ℤ)))
      → ((c : List (List ℤ)) → Has cs c → (t (g c) ≡ u c) × (p (g c) ≡ o c)) → map p (filter t (map g cs)) ≡ map o (filter u cs)
  same-filtered t u p o g [] h = refl
  same-filtered t u p o g (c ∷ cs) h = by (u c) (t (g c)) (h c first).0 (same-filtered t u p o g cs (λ d k. h d (later k)))
    where
      by : (b d : Bool) → d ≡ b → map p (filter t (map g cs)) ≡ map o (filter u cs)
          → map p (cond d (g c ∷ filter t (map g cs)) (filter t (map g cs))) ≡ map o (cond b (c ∷ filter u cs) (filter u cs))
      by true true e k = ap (λ (x : List ℤ). x ∷ map p (filter t (map g cs))) (h c first).1 ∙ ap (λ (l : List (List ℤ)). o c ∷ l) k
      by true false e k = absurd cc
      by false true e k = absurd cc
      by false false e k = k

  -- over the changed combinations the other query holds where the one does over theirs, and both select the same
  pub record Follows (other q : QueryValue) : Type 0 where
    pub distinct : other.distinct ≡ q.distinct
    pub from : other.from ≡ q.from
    pub alike : (c : List (List ℤ)) → length c ≡ length q.from
        → (holds other (assignment_of (change_each q.from c)) ≡ holds q (assignment_of c)) × (projected other (assignment_of (change_each q.from c)) ≡ projected q (assignment_of c))

  module _ (other q : QueryValue) (follows : Follows other q) where
    answers-changed : (h : List Arrival) → answers other (map changed_row h) ≡ answers q h
    answers-changed h =
        ap (λ (from : List ℕ). map (λ c. projected other (assignment_of c)) (filter (λ c. holds other (assignment_of c)) (product (map (rows (map changed_row h)) from)))) follows.from
        ∙ ap (λ (cs : List (List (List ℤ))). map (λ c. projected other (assignment_of c)) (filter (λ c. holds other (assignment_of c)) cs)) (product-changed h q.from)
        ∙ same-filtered (λ c. holds other (assignment_of c)) (λ c. holds q (assignment_of c)) (λ c. projected other (assignment_of c)) (λ c. projected q (assignment_of c))
        (change_each q.from) (product (map (rows h) q.from)) (λ c k. follows.alike c (product-length (map (rows h) q.from) c k ∙ length-map q.from (rows h)))

    -- so the other answers to changed rows as the one to its own
    pub new-changed : (h : List Arrival) (r : Arrival) → new_answers other (map changed_row h) (changed_row r) ≡ new_answers q h r
    unfolding new_answers
    new-changed h r =
        let before : answers other (map changed_row h) ≡ answers q h = answers-changed h in
        let now : answers other (map changed_row h ++ changed_row r ∷ []) ≡ answers q (h ++ r ∷ [])
        = ap (answers other) (sym (map-append changed_row h (r ∷ []))) ∙ answers-changed (h ++ r ∷ []) in
        λ i. cond (follows.distinct i) (sorted (new_tuples (before i) (now i))) (sorted (bag_minus (now i) (before i)))

  -- an evaluator that sees each row changed
  pub changing : Evaluator → Evaluator
  changing e = record { start = e.start; step = λ s r. e.step s (changed_row r); says = λ s r. e.says s (changed_row r) }

  pub after-changed : (e : Evaluator) (s : ℕ) (h : List Arrival) → after (changing e) s h ≡ after e s (map changed_row h)
  unfolding changing
  after-changed e s [] = refl
  after-changed e s (r ∷ h) = after-changed e (e.step s (changed_row r)) h

  pub start-changed : (e : Evaluator) → (changing e).start ≡ e.start
  unfolding changing
  start-changed e = refl

  pub says-changed : (e : Evaluator) (s : ℕ) (r : Arrival) → (changing e).says s r ≡ e.says s (changed_row r)
  unfolding changing
  says-changed e s r = refl
