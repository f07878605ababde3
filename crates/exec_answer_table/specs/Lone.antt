-- An entry that a table keeps beside its lists.
use Rattle.std.specs.Prelude.{◌≡◌, ◌<◌, [], ◌∷◌, true, length, if◌then◌else◌}
use Rattle.exec_answer_table.specs.declared.lone.Lone.{Lone}
use Rattle.exec_answer_table.specs.Entries.{TableValue, entry_of, with_entries}

-- the table, with the entry that is kept beside its lists where there is one
abbrev pub table_with : Lone → TableValue → TableValue
table_with lone table = with_entries table (if lone.is_there then entry_of lone.tuple.items lone.waiting ∷ [] else table.entries)

-- an entry beside the lists is the only one, as wide as any, and has its room
abbrev pub StandsAlone : Lone → TableValue → Type 0
StandsAlone lone table = lone.is_there ≡ true → (table.entries ≡ []) × (length lone.tuple.items ≡ table.width) × (0 < table.capacity)
