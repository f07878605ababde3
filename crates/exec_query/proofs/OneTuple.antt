-- Where the row alone tells what a part answers to it: all that a walk finds is the one tuple, which changes nothing where it
-- has an entry.
use Rattle.std.proofs.Common.{◌≡◌, ℕ, zero, suc, ◌+◌, ◌<◌, ◌==◌, cond, Bool, true, false, ℤ, List, [], ◌∷◌, map, filter, length, refl, ap, ◌∙◌, subst, arith, inl, inr}
use Rattle.std.specs.List.{flat_map, range_with_len}
use Rattle.sem_query.specs.declared.plan.PartPlan.{PartPlan}
use Rattle.sem_query.specs.Query.{QueryValue}
use Rattle.sem_query.specs.Meaning.{product, by_column, at_place}
use Rattle.sem_query.specs.Boxes.{box, place_of}
use Rattle.sem_query.specs.Plan.{dims_at}
use Rattle.sem_query.specs.Numbers.{places}
use Rattle.sem_query.specs.Combinations.{Choice, choice, choice_of, Reading, Found, found, chosen_values, linked}
use Rattle.sem_query.specs.Probing.{choices_beside, found_beside}
use Rattle.sem_query.proofs.Has.{Has, Has-map_from, Has-filter_from}
use Rattle.sem_laws.proofs.OnePartFits.{has_cases}
use Rattle.sem_laws.proofs.Extremes.{flat_map-from}
use Rattle.sem_laws.proofs.Tests.{filter-passes}
use Rattle.exec_answer_table.specs.Entries.{Entry, changed, has}
use Rattle.exec_query.specs.FoundTable.{with_found}
use Rattle.exec_point_lookup.specs.Known.{AreKnown}
use Rattle.exec_query.proofs.TableLaws.{has_changed_same}

only_choice : (v : ℕ → ℤ) (c : Choice) → Has (choice v 1) c → c.values ≡ v
only_choice v c h = elim (has_cases _ c [] h) [ inl e ↦ subst (λ (d : Choice). d.values ≡ v) e refl | inr k ↦ elim k [ ] ]

-- where there is one choice at a place, each combination has it
own_at : (f : ℕ → List Choice) (v : ℕ → ℤ) (n m k : ℕ) (chosen : List Choice) → k < m → f (n + k) ≡ choice v 1
    → Has (product (map f (range_with_len n m))) chosen → at_place (map (λ c. c.values) chosen) k ≡ v
own_at f v n zero k chosen l e h = absurd (omega (arith, l))
own_at f v n (suc m) zero chosen l e h =
    let p = flat_map-from (λ x. map (λ others. x ∷ others) (product (map f (range_with_len (n + 1) m)))) (f n) chosen h in
    let u = Has-map_from (λ others. p.0 ∷ others) (product (map f (range_with_len (n + 1) m))) chosen p.2 in
    let n_is : n ≡ n + 0 = omega arith in
    let here : f n ≡ choice v 1 = ap f n_is ∙ e in
    subst (λ (cs : List Choice). at_place (map (λ c. c.values) cs) 0 ≡ v) u.2 (only_choice v p.0 (subst (λ cs. Has cs p.0) here p.1))
own_at f v n (suc m) (suc k) chosen l e h =
    let p = flat_map-from (λ x. map (λ others. x ∷ others) (product (map f (range_with_len (n + 1) m)))) (f n) chosen h in
    let u = Has-map_from (λ others. p.0 ∷ others) (product (map f (range_with_len (n + 1) m))) chosen p.2 in
    let n_is : n + 1 + k ≡ n + suc k = omega arith in
    let one : f (n + 1 + k) ≡ choice v 1 = ap f n_is ∙ e in
    subst (λ (cs : List Choice). at_place (map (λ c. c.values) cs) (suc k) ≡ v) u.2 (own_at f v (n + 1) m k u.0 (omega (arith, l)) one u.1)

module _ (q : QueryValue) (part : PartPlan) (read : Reading) (pos : ℕ) (row : List ℤ) (t : List ℤ) (here : pos < length part.streams.items) (known : AreKnown part pos row q.select t) where
  abbrev v : ℕ → ℤ
  v = by_column row

  -- at its own place stands the row
  own_choice : choices_beside q part read pos v (0 + pos) ≡ choice v 1
  own_choice =
      let e : (0 + pos == pos) ≡ true = grind arith in
      ap (λ b. cond b (choice v 1) (flat_map (λ xs. choice_of q part (0 + pos) xs (read part (0 + pos) (place_of (dims_at part (0 + pos)) xs))) (box (dims_at part (0 + pos))))) e

  -- each tuple that a walk finds is the known one
  pub each_known : (f : Found) → Has (found_beside q part read pos v) f → f.tuple ≡ t
  unfolding found_beside
  each_known f h =
      let all : List (List Choice) = product (map (choices_beside q part read pos v) (places part)) in
      let meets : List Choice → Bool = λ chosen. linked part (chosen_values chosen) in
      let m = Has-map_from (found q) (filter meets all) f h in
      let own : at_place (map (λ c. c.values) m.0) pos ≡ v
      = own_at (choices_beside q part read pos v) v 0 (length part.streams.items) pos m.0 here own_choice (Has-filter_from meets all m.0 m.1) in
      subst (λ (g : Found). g.tuple ≡ t) m.2
      (known (chosen_values m.0) record {
        links = filter-passes meets all m.0 m.1;
        own = λ a s. ap (λ k. at_place (map (λ c. c.values) m.0) k a.column) s ∙ ap (λ (w : ℕ → ℤ). w a.column) own;
      })

-- a tuple that was found has an entry
pub found_has : (f : Found) (es : List Entry) → has f.tuple (with_found true f es) ≡ true
found_has f es = at (has f.tuple es) refl
  where
    at : (b : Bool) → has f.tuple es ≡ b → has f.tuple (cond b es (changed (λ waiting. waiting + 1) f.tuple es)) ≡ true
    at true e = e
    at false e = has_changed_same f.tuple (λ waiting. waiting + 1) es
