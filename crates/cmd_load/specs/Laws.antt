-- What holds of every script.
use Rattle.std.specs.Prelude.{◌≡◌, ℕ, [], ◌∷◌, codes}
use Rattle.sql_text.specs.Lines.{lines}
use Rattle.cmd_load.specs.Script.{rows_from, script_lines, script_text}

-- the first rows, worked out
abbrev pub FirstRows : Type 0
FirstRows = rows_from 1 4 ≡ codes "T,548" ∷ codes "S,307,34378" ∷ codes "S,393,8343" ∷ codes "T,741" ∷ []

-- the text of a script, cut into lines, gives its lines back
abbrev pub HasItsLines : Type 0
HasItsLines = (n : ℕ) → lines (script_text n) ≡ script_lines n
