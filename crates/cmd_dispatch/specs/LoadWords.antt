-- The words of a load.
use Rattle.std.specs.Prelude.{◌≡◌, ℕ, List, [], ◌∷◌, map, codes, String}
use Rattle.std.specs.String.{string_bytes}
use Rattle.std.specs.declared.alloc.Global.{Global}
use Rattle.cmd_dispatch.specs.Words.{IsSize}

-- a number of rows of a load, in its shortest form
abbrev pub IsLoadSize : List ℕ → ℕ → Type 0
IsLoadSize text rows = IsSize 100000 text rows

-- `load N` loads N rows
pub record AreLoadTexts (texts : List (List ℕ)) (rows : ℕ) : Type 0 where
  pub number : List ℕ
  pub words : texts ≡ codes "load" ∷ number ∷ []
  pub size : IsLoadSize number rows

-- the words load so many rows
abbrev pub AreLoad : List (String Global) → ℕ → Type 0
AreLoad words rows = AreLoadTexts (map string_bytes words) rows
