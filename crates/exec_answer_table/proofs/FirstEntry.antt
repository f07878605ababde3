-- A table without entries, whose first entry is kept beside its lists.
use Rattle.std.proofs.Common.{◌≡◌, ◌<◌, ◌+◌, ℕ, ℤ, Bool, true, false, List, [], ◌∷◌, length, nat_eq, min, refl, sym, ap, arith}
use Rattle.std.proofs.lemmas.Bool.Decides.{nat_tests}
use Rattle.exec_answer_table.specs.declared.lone.Lone.{Lone}
use Rattle.exec_answer_table.specs.Entries.{Entry, TableValue, entry_of, added_upto, changed, has, Fits}
use Rattle.exec_answer_table.specs.Lone.{table_with, StandsAlone}

pub none_of : (es : List Entry) → nat_eq (length es) 0 ≡ true → es ≡ []
none_of [] h = refl
none_of (e ∷ es) h = absurd (grind (arith, nat_tests))

-- the lists are empty too
pub none_listed : (lone : Lone) (table : TableValue)
    → StandsAlone lone table → nat_eq (length (table_with lone table).entries) 0 ≡ true → table.entries ≡ []
none_listed lone table alone none = by lone.is_there refl
  where
    by : (b : Bool) → lone.is_there ≡ b → table.entries ≡ []
    by true e = (alone e).0
    by false e = none_of table.entries (rw e at none)

-- there is room for a first entry
pub room_first : (t : List ℤ) (table : TableValue) → table.entries ≡ [] → Fits t table → 0 < table.capacity
unfolding has
room_first t table none fits =
    let absent : has t table.entries ≡ false = ap (λ (es : List Entry). has t es) none in
    let below = fits absent in
    rw none at below

-- the first entry
pub first_upto : (t : List ℤ) (n most : ℕ) (es : List Entry) → es ≡ [] → entry_of t (min (0 + n) most) ∷ [] ≡ added_upto t n most es
unfolding changed
first_upto t n most es none = sym (ap (λ (xs : List Entry). added_upto t n most xs) none)
