-- Rows cut or filled up to the columns of a catalog are answered alike.
use Rattle.std.proofs.Common.{◌≡◌, ℕ, zero, suc, ◌<◌, ◌≤◌, ◌*◌, inl, inr, List, [], ◌∷◌, map, length, refl, sym, ap, ◌∙◌, subst, arith, ℤ, pos, slice_index_or, Contains}
use Rattle.std.proofs.lemmas.List.{length-map}
use Rattle.std.proofs.lemmas.List.Elements.{All-contains}
use Rattle.sem_query.proofs.Has.{Contains-from_has}
use Rattle.sem_query.specs.Query.{QueryValue, IsColumn, attrs_of}
use Rattle.sem_query.specs.Meaning.{Arrival, by_column, at_place, assignment_of}
use Rattle.sem_lower_bounds.specs.States.{Evaluator, after, IsWithin, AreWithin, IsRight, HasStates, NeedsStates}
use Rattle.sem_lower_bounds.specs.Catalog.{IsOver, AreRows, IsRightOver, HasStatesOver, NeedsStatesOver, CatalogNeedsStates}
use Rattle.sem_lower_bounds.proofs.Formed.{IsFormed, formed}
use Rattle.sem_lower_bounds.proofs.Mixing.{Agree, same-holds, same-projected}
use Rattle.sem_lower_bounds.proofs.Refused.{refused-needs-states}
use Rattle.sem_lower_bounds.proofs.RowsChanged.{changed_row, change_each, Follows, new-changed, changing, after-changed, start-changed, says-changed}

-- the first n values of a row, filled up by 0
abbrev fit_row : ℕ → List ℤ → List ℤ
fit_row zero row = []
fit_row (suc n) [] = pos 0 ∷ fit_row n []
fit_row (suc n) (z ∷ row) = z ∷ fit_row n row

length-fit : (n : ℕ) (row : List ℤ) → length (fit_row n row) ≡ n
length-fit zero row = refl
length-fit (suc n) [] = ap suc (length-fit n [])
length-fit (suc n) (z ∷ row) = ap suc (length-fit n row)

within-fit : (bound n : ℕ) (row : List ℤ) → IsWithin bound row → IsWithin bound (fit_row n row)
within-fit bound zero row h = tt
within-fit bound (suc n) [] h = (omega arith, within-fit bound n [] h)
within-fit bound (suc n) (z ∷ row) h = (h.0, within-fit bound n row h.1)

read-fit : (n : ℕ) (row : List ℤ) (c : ℕ) → c < n → by_column (fit_row n row) c ≡ by_column row c
read-fit zero row c l = absurd (omega (arith, l))
read-fit (suc n) [] zero l = refl
read-fit (suc n) [] (suc c) l = read-fit n [] c (omega (arith, l))
read-fit (suc n) (z ∷ row) zero l = refl
read-fit (suc n) (z ∷ row) (suc c) l = read-fit n row c (omega (arith, l))

module _ (width : ℕ → ℕ) where
  -- the row of a stream, cut or filled up to its columns
  abbrev cut : ℕ → List ℤ → List ℤ
  cut s row = fit_row (width s) row

  abbrev fit : Arrival → Arrival
  fit r = changed_row cut r

  read-each : (from : List ℕ) (c : List (List ℤ)) (place column : ℕ) → length c ≡ length from → place < length from → column < width (slice_index_or from place 0)
      → at_place (map by_column (change_each cut from c)) place column ≡ at_place (map by_column c) place column
  read-each [] c place column e l m = absurd (omega (arith, l))
  read-each (s ∷ from) [] place column e l m = absurd (omega (arith, e))
  read-each (s ∷ from) (row ∷ c) zero column e l m = read-fit (width s) row column m
  read-each (s ∷ from) (row ∷ c) (suc place) column e l m = read-each from c place column (omega (arith, e)) (omega (arith, l)) m

  module _ (q : QueryValue) (within : IsFormed q) (over : IsOver width q) where
    agree : (c : List (List ℤ)) → length c ≡ length q.from → Agree q (assignment_of (change_each cut q.from c)) (assignment_of c)
    agree c e = record {
      atoms = λ a k. read-each q.from c a.stream a.column e
          (All-contains (IsColumn (length q.from)) (attrs_of q.atoms) a within.attrs (Contains-from_has _ a k)).stream (over a (inr (Contains-from_has _ a k)));
      select = λ a k. read-each q.from c a.stream a.column e
          (All-contains (IsColumn (length q.from)) q.select a within.select (Contains-from_has _ a k)).stream (over a (inl (Contains-from_has _ a k)));
    }

    follows : Follows cut q q
    follows = record {
      distinct = refl;
      from = refl;
      alike = λ c e. (same-holds q _ _ (agree c e), same-projected q _ _ (agree c e));
    }

    are-rows : (h : List Arrival) → AreRows width (map fit h)
    are-rows [] = tt
    are-rows (r ∷ h) = (length-fit (width r.stream) r.values, are-rows h)

    are-within : (bound : ℕ) (h : List Arrival) → AreWithin bound h → AreWithin bound (map fit h)
    are-within bound [] w = tt
    are-within bound (r ∷ h) w = (within-fit bound (width r.stream) r.values w.0, are-within bound h w.1)

    fitted : Evaluator → Evaluator
    fitted e = changing cut e

    fitted-right : (e : Evaluator) → IsRightOver width q e → IsRight q (fitted e)
    unfolding fitted
    fitted-right e right h r =
        says-changed cut e (after (changing cut e) (changing cut e).start h) r
        ∙ ap (λ (s : ℕ). e.says s (fit r)) (after-changed cut e (changing cut e).start h ∙ ap (λ (s : ℕ). after e s (map fit h)) (start-changed cut e))
        ∙ right (map fit h) (fit r) (are-rows h) (length-fit (width r.stream) r.values)
        ∙ new-changed cut q q follows h r

    fitted-has : (e : Evaluator) (n bound most : ℕ) → HasStatesOver width e n bound most → HasStates (fitted e) n bound most
    unfolding fitted
    fitted-has e n bound most o = record {
      states = o.states;
      size = o.size;
      all = λ h l w. subst (Contains o.states) (sym (after-changed cut e (changing cut e).start h ∙ ap (λ (s : ℕ). after e s (map fit h)) (start-changed cut e)))
          (o.all (map fit h) (are-rows h) (subst (λ (m : ℕ). m ≤ n) (sym (length-map h fit)) l) (are-within bound h w));
    }

    -- what is needed on all rows is needed on those of the catalog
    pub over-needs : NeedsStates q → NeedsStatesOver width q
    over-needs n none = n (λ b all. none b (λ e right m most has. all (fitted e) (fitted-right e right) m most (fitted-has e m (b * suc m) most has)))

pub catalog-needs-states : CatalogNeedsStates
catalog-needs-states q within plain f violation width over = over-needs width q (formed q within) over (refused-needs-states q within plain f violation)
