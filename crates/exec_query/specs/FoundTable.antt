-- What a table holds after what was found for a row was taken up.
use Rattle.std.specs.Prelude.{◌≡◌, ◌^◌, Bool, true, List, [], ◌∷◌, length, if◌then◌else◌, Contains}
use Rattle.sem_query.specs.Combinations.{Found}
use Rattle.exec_answer_table.specs.Entries.{Entry, TableValue, with_entries, has, added, added_upto, Fits}

-- the entries after a tuple was found: with DISTINCT it comes to wait once where it has no entry, else as much more as it is
-- answered, but at most 2^127 times
abbrev pub with_found : Bool → Found → List Entry → List Entry
with_found distinct f entries =
    if distinct then (if has f.tuple entries then entries else added f.tuple 1 entries) else added_upto f.tuple f.count (2 ^ 127) entries

-- the entries after all of these were found, one after the other
unfoldable pub with_all : Bool → List Found → List Entry → List Entry
with_all distinct [] entries = entries
with_all distinct (f ∷ others) entries = with_all distinct others (with_found distinct f entries)

-- each of these is of the table's width, and has room when its turn comes
abbrev pub HaveRoom : Bool → List Found → TableValue → Type 0
HaveRoom distinct [] table = Unit {0}
HaveRoom distinct (f ∷ others) table =
    (length f.tuple ≡ table.width) × Fits f.tuple table × HaveRoom distinct others (with_entries table (with_found distinct f table.entries))

-- with DISTINCT all that was found has an entry
pub record AreOld (distinct : Bool) (finds : List Found) (entries : List Entry) : Type 0 where
  pub once : distinct ≡ true
  pub old : (f : Found) → Contains finds f → has f.tuple entries ≡ true
