-- Finds whose tuples have entries.
use Rattle.std.proofs.Common.{◌≡◌, ℕ, zero, suc, ◌&&◌, ◌↔◌, nat_eq, Bool, true, false, ℤ, List, [], ◌∷◌, map, filter, replicate, length, sym, ap, ◌∙◌, subst, arith, inl, inr, All, Contains}
use Rattle.std.proofs.lemmas.List.{length-map}
use Rattle.std.specs.List.{list_all}
use Rattle.std.proofs.lemmas.List.Elements.{All-contains}
use Rattle.std.proofs.lemmas.List.Folds.{list_all-append}
use Rattle.sem_query.specs.declared.plan.PartPlan.{PartPlan}
use Rattle.sem_query.specs.Query.{QueryValue}
use Rattle.sem_query.specs.Tuples.{is_same}
use Rattle.sem_query.specs.Meaning.{product}
use Rattle.sem_query.specs.Combinations.{Choice, Reading, Found, found, chosen_values, linked}
use Rattle.sem_query.specs.Future.{spelled_out}
use Rattle.sem_query.specs.Numbers.{places}
use Rattle.sem_query.specs.Probing.{choices_beside, found_beside}
use Rattle.sem_query.proofs.Has.{Has, first, Has-from_contains, Contains-from_has, Has-map_from, Has-flat_map, Has-flat_map_from}
use Rattle.sem_laws.proofs.OnePartFits.{has_cases}
use Rattle.sem_laws.proofs.Order.{same-itself, same-is}
use Rattle.sem_laws.proofs.Tests.{and-right, and-both, all_at, all_if, any_if, any_from}
use Rattle.exec_answer_table.specs.Entries.{Entry, TableValue, has, tuples_of}
use Rattle.exec_answer_table.proofs.Tuples.{has_tuple}
use Rattle.exec_join.specs.Remaining.{as_found}
use Rattle.exec_join.specs.Repeats.{ArePassed}
use Rattle.exec_saturation.specs.Saturated.{HasEach}

-- a tuple of the table's width has an entry
abbrev pub is_listed : TableValue → Found → Bool
is_listed table f = nat_eq (length f.tuple) table.width && has f.tuple table.entries

-- a tuple has an entry exactly where it is among the tuples
has-from : (t : List ℤ) (es : List Entry) → Contains (tuples_of es) t → has t es ≡ true
has-from t es c = sym (has_tuple t es) ∙ any_if (is_same t) (tuples_of es) t (Has-from_contains (tuples_of es) t c) (same-itself t)

from-has : (t : List ℤ) (es : List Entry) → has t es ≡ true → Contains (tuples_of es) t
from-has t es h =
    let m = any_from (is_same t) (tuples_of es) (has_tuple t es ∙ h) in
    Contains-from_has (tuples_of es) t (subst (λ z. Has (tuples_of es) z) (sym (same-is t m.0 m.2)) m.1)

copies : (n : ℕ) (u t : List ℤ) → Has (replicate n u) t → u ≡ t
copies zero u t h = elim h [ ]
copies (suc n) u t h = elim (has_cases u t (replicate n u) h) [ inl e ↦ e | inr k ↦ copies n u t k ]

-- a tuple that a walk finds has the width of the selected columns
found-width : (q : QueryValue) (part : PartPlan) (read : Reading) (arriving : ℕ) (v : ℕ → ℤ) (f : Found) → Has (found_beside q part read arriving v) f
    → length f.tuple ≡ length q.select
unfolding found_beside
found-width q part read arriving v f h =
    let links : List Choice → Bool = λ chosen. linked part (chosen_values chosen) in
    let m = Has-map_from (found q) (filter links (product (map (choices_beside q part read arriving v) (places part)))) f h in
    subst (λ (g : Found). length g.tuple ≡ length q.select) m.2 (length-map q.select (chosen_values m.0))

-- what a walk finds for a row, each once, beside a table of that width
module _ (q : QueryValue) (part : PartPlan) (read : Reading) (arriving : ℕ) (v : ℕ → ℤ) (table : TableValue) (width : length q.select ≡ table.width)
    (ones : All (λ (f : Found). f.count ≡ 1) (found_beside q part read arriving v)) where
  abbrev finds : List Found
  finds = found_beside q part read arriving v

  abbrev spell : Found → List (List ℤ)
  spell f = replicate f.count f.tuple

  forth : list_all (is_listed table) finds ≡ true → HasEach (tuples_of table.entries) (spelled_out finds)
  forth h t c =
      let m = Has-flat_map_from spell finds t (Has-from_contains (spelled_out finds) t c) in
      let e : m.0.tuple ≡ t = copies m.0.count m.0.tuple t m.2 in
      subst (λ u. Contains (tuples_of table.entries) u) e (from-has m.0.tuple table.entries (and-right _ _ (all_at (is_listed table) finds m.0 h m.1)))

  back : HasEach (tuples_of table.entries) (spelled_out finds) → list_all (is_listed table) finds ≡ true
  back h =
      all_if (is_listed table) finds (λ f k.
      let one : f.count ≡ 1 = All-contains (λ (f : Found). f.count ≡ 1) finds f ones (Contains-from_has finds f k) in
      let copy : Has (replicate f.count f.tuple) f.tuple = subst (λ n. Has (replicate n f.tuple) f.tuple) (sym one) first in
      let w = found-width q part read arriving v f k in
      let wide : nat_eq (length f.tuple) table.width ≡ true = grind (arith, w, width) in
      and-both _ _ wide (has-from f.tuple table.entries (h f.tuple (Contains-from_has (spelled_out finds) f.tuple (Has-flat_map spell finds f f.tuple k copy)))))

  -- all finds have entries exactly where the table has each of their tuples
  pub each-listed : (b : Bool) → list_all (is_listed table) finds ≡ b → (b ≡ true) ↔ HasEach (tuples_of table.entries) (spelled_out finds)
  each-listed b e = (λ t. forth (e ∙ t), λ h. sym e ∙ back h)

-- what is passed behind a find whose tuple has an entry has entries
pub passed-listed : (table : TableValue) (d : Bool) (f : Found) (left others rest : List Found) → left ≡ f ∷ others → is_listed table f ≡ true → ArePassed d f.tuple others rest
    → list_all (is_listed table) rest ≡ list_all (is_listed table) left
passed-listed table d f left others rest is h p =
    let here : list_all (is_listed table) left ≡ (is_listed table f && list_all (is_listed table) others) = ap (list_all (is_listed table)) is in
    let next : list_all (is_listed table) others ≡ (list_all (is_listed table) p.passed && list_all (is_listed table) rest)
    = ap (list_all (is_listed table)) p.all ∙ list_all-append (is_listed table) p.passed rest in
    let passed : list_all (is_listed table) p.passed ≡ true
    = all_if (is_listed table) p.passed (λ g k.
    let e : g.tuple ≡ f.tuple = All-contains (λ (g : Found). g.tuple ≡ f.tuple) p.passed g p.same (Contains-from_has p.passed g k) in
    ap (λ t. nat_eq (length t) table.width && has t table.entries) e ∙ h) in
    sym (here ∙ ap (λ b. b && list_all (is_listed table) others) h ∙ next ∙ ap (λ b. b && list_all (is_listed table) rest) passed)

-- where a tuple that is found has no entry, the table has not each
pub missing_tuple : (q : QueryValue) (part : PartPlan) (read : Reading) (arriving : ℕ) (v : ℕ → ℤ) (table : TableValue) (left others : List Found) (t : List ℤ) (n : ℕ) (b : Bool)
    → length q.select ≡ table.width → All (λ (f : Found). f.count ≡ 1) (found_beside q part read arriving v)
    → list_all (is_listed table) left ≡ list_all (is_listed table) (found_beside q part read arriving v) → left ≡ as_found t n ∷ others
    → b ≡ (nat_eq (length t) table.width && has t table.entries) → b ≡ false
    → (false ≡ true) ↔ HasEach (tuples_of table.entries) (spelled_out (found_beside q part read arriving v))
missing_tuple q part read arriving v table left others t n b width ones same is has_it none =
    each-listed q part read arriving v table width ones false
    (sym same ∙ ap (list_all (is_listed table)) is ∙ ap (λ b. b && list_all (is_listed table) others) (sym has_it ∙ none))

-- where nothing is left, it has each
pub no_tuple_missing : (q : QueryValue) (part : PartPlan) (read : Reading) (arriving : ℕ) (v : ℕ → ℤ) (table : TableValue) (left : List Found)
    → length q.select ≡ table.width → All (λ (f : Found). f.count ≡ 1) (found_beside q part read arriving v)
    → list_all (is_listed table) left ≡ list_all (is_listed table) (found_beside q part read arriving v) → left ≡ []
    → (true ≡ true) ↔ HasEach (tuples_of table.entries) (spelled_out (found_beside q part read arriving v))
no_tuple_missing q part read arriving v table left width ones same is =
    each-listed q part read arriving v table width ones true (sym same ∙ ap (list_all (is_listed table)) is)
