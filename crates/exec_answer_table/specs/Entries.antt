-- What contracts see of an answer table: the ascending list of different tuples with their waiting counts.
use Rattle.std.specs.Prelude.{◌≡◌, ℕ, ◌<◌, ◌≤◌, ℤ, List, [], ◌∷◌, length, map, filter, Bool, true, false, nat_lt, min, ◌+◌, slice_index_or, Result, Ok, Err}
use Rattle.std.specs.declared.cmp.Ordering.{Ordering}
use Rattle.std.specs.declared.cmp.Ordering.TheVariants.{Less, Equal, Greater}
use Rattle.exec_answer_table.specs.Order.{tuple_order}

-- a tuple, and how often it waits to be written
pub record Entry : Type 0 where
  pub tuple : List ℤ
  pub waiting : ℕ

-- the number of values of each tuple, the most entries that there may be, and the entries
pub record TableValue : Type 0 where
  pub width : ℕ
  pub capacity : ℕ
  pub entries : List Entry

-- the table with other entries
abbrev pub with_entries : TableValue → List Entry → TableValue
with_entries table entries = record { width = table.width; capacity = table.capacity; entries = entries }

-- the entry of a tuple with this waiting count
abbrev pub entry_of : List ℤ → ℕ → Entry
entry_of tuple waiting = record { tuple = tuple; waiting = waiting }

-- the entry at a place of the list
abbrev pub entry_at : List Entry → ℕ → Entry
entry_at entries place = slice_index_or entries place (entry_of [] 0)

-- the tuple stands before that of each entry
abbrev pub AllAbove : List ℤ → List Entry → Type 0
AllAbove t [] = Unit {0}
AllAbove t (e ∷ rest) = (tuple_order t e.tuple ≡ Less) × AllAbove t rest

-- the entries stand in ascending order of tuples, each tuple once
abbrev pub Ascends : List Entry → Type 0
Ascends [] = Unit {0}
Ascends (e ∷ rest) = AllAbove e.tuple rest × Ascends rest

-- the entries after that of t was changed, by how t compares with the first tuple
abbrev pub changed_at : Ordering → (ℕ → ℕ) → List ℤ → Entry → List Entry → List Entry → List Entry
changed_at Less f t e rest done = entry_of t (f 0) ∷ e ∷ rest
changed_at Equal f t e rest done = entry_of e.tuple (f e.waiting) ∷ rest
changed_at Greater f t e rest done = e ∷ done

-- the entries after the waiting count of t was changed by f, where a tuple without an entry gets one and counts as 0
unfoldable pub changed : (ℕ → ℕ) → List ℤ → List Entry → List Entry
changed f t [] = entry_of t (f 0) ∷ []
changed f t (e ∷ rest) = changed_at (tuple_order t e.tuple) f t e rest (changed f t rest)

-- the entries after t came to wait n times more
abbrev pub added : List ℤ → ℕ → List Entry → List Entry
added t n entries = changed (λ waiting. waiting + n) t entries

-- the entries after t came to wait n times more, but at most so many times
abbrev pub added_upto : List ℤ → ℕ → ℕ → List Entry → List Entry
added_upto t n most entries = changed (λ waiting. min (waiting + n) most) t entries

-- the waiting count of t, by how t compares with the first tuple
abbrev pub waiting_at : Ordering → Entry → ℕ → ℕ
waiting_at Equal e later = e.waiting
waiting_at _ e later = later

-- how often t waits, which is 0 where it has no entry
unfoldable pub waiting_of : List ℤ → List Entry → ℕ
waiting_of t [] = 0
waiting_of t (e ∷ rest) = waiting_at (tuple_order t e.tuple) e (waiting_of t rest)

-- whether t has an entry, by how t compares with the first tuple
abbrev pub has_at : Ordering → Bool → Bool
has_at Equal later = true
has_at _ later = later

-- whether t has an entry
unfoldable pub has : List ℤ → List Entry → Bool
has t [] = false
has t (e ∷ rest) = has_at (tuple_order t e.tuple) (has t rest)

-- the same tuples, of which none waits
abbrev pub settled : List Entry → List Entry
settled entries = map (λ e. entry_of e.tuple 0) entries

-- whether an entry waits to be written
abbrev pub waits : Entry → Bool
waits e = nat_lt 0 e.waiting

-- the tuples of the entries, in order
abbrev pub tuples_of : List Entry → List (List ℤ)
tuples_of entries = map (λ e. e.tuple) entries

-- the entries that wait, in ascending order
abbrev pub waiting_entries : List Entry → List Entry
waiting_entries entries = filter waits entries

-- the tuple has an entry, or there is room for one more
abbrev pub Fits : List ℤ → TableValue → Type 0
Fits t table = has t table.entries ≡ false → length table.entries < table.capacity

-- the place of the entry of t, or else the place between the lesser and the greater ones
abbrev pub IsFound : List ℤ → List Entry → Result ℕ ℕ → Type 0
IsFound t entries (Ok i) =
    (i < length entries)
    × ((j : ℕ) → j < i → tuple_order (entry_at entries j).tuple t ≡ Less)
    × ((entry_at entries i).tuple ≡ t)
IsFound t entries (Err i) =
    (i ≤ length entries)
    × ((j : ℕ) → j < i → tuple_order (entry_at entries j).tuple t ≡ Less)
    × ((j : ℕ) → i ≤ j → j < length entries → tuple_order t (entry_at entries j).tuple ≡ Less)
