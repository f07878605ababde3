-- The words that ask for a family.
use Rattle.std.specs.Prelude.{◌≡◌, ℕ, List, [], ◌∷◌, ◌++◌, map, codes, String}
use Rattle.std.specs.String.{string_bytes}
use Rattle.std.specs.declared.alloc.Global.{Global}
use Rattle.cmd_lower.specs.declared.form.Families.{Families}
use Rattle.cmd_lower.specs.declared.form.Families.TheVariants.{FirstTwo, All}
use Rattle.cmd_lower.specs.declared.form.LowerForm.{LowerForm}
use Rattle.cmd_dispatch.specs.Words.{IsSize}

-- a number of rows of a family, in its shortest form
abbrev pub IsFamilySize : List ℕ → ℕ → Type 0
IsFamilySize text rows = IsSize 1000 text rows

-- the option that says for which conditions families are made, where one is needed
abbrev pub option_of : Families → List (List ℕ)
option_of FirstTwo = []
option_of All = codes "--c3" ∷ []

-- `lower N` asks for a family of N rows for the first two conditions, and `lower --c3 N` for all three
pub record AreLowerTexts (texts : List (List ℕ)) (form : LowerForm) : Type 0 where
  pub number : List ℕ
  pub words : texts ≡ codes "lower" ∷ (option_of form.families ++ number ∷ [])
  pub size : IsFamilySize number form.rows

-- the words ask for a family of this form
abbrev pub AreLower : List (String Global) → LowerForm → Type 0
AreLower words form = AreLowerTexts (map string_bytes words) form
