-- The words of a session.
use Rattle.std.specs.Prelude.{◌≡◌, ◌≢◌, ℕ, ◌<◌, ◌≤◌, ◌^◌, Bool, true, false, List, [], ◌∷◌, map, codes, decimal, String}
use Rattle.std.specs.String.{string_bytes}
use Rattle.std.specs.declared.alloc.Global.{Global}
use Rattle.std.specs.declared.option.Option.{Option}
use Rattle.std.specs.declared.option.Option.TheVariants.{None, Some}
use Rattle.cmd_session.specs.Words.{IsRowLimit}
use Rattle.cmd_dispatch.specs.declared.words.RunForm.{RunForm}

-- a number from 1 to a bound, in its shortest form
pub record IsSize (most : ℕ) (text : List ℕ) (rows : ℕ) : Type 0 where
  pub digits : text ≡ decimal rows
  pub some : 0 < rows
  pub few : rows ≤ most

-- a name of a file: it is not empty, and does not begin with `-`
abbrev pub IsFileName : List ℕ → Type 0
IsFileName [] = ⊥
IsFileName (b ∷ rest) = b ≢ 45

-- These are the last words: none, or the name of a file.
pub data AreLast (texts : List (List ℕ)) (file : Bool) : Type 0 where
  nothing : texts ≡ [] → file ≡ false → AreLast texts file
  named : (name : List ℕ) → texts ≡ name ∷ [] → IsFileName name → file ≡ true → AreLast texts file

-- how many rows a session may take of which the words say so, or say nothing
abbrev pub rows_or_most : Option ℕ → ℕ
rows_or_most None = 2 ^ 40
rows_or_most (Some n) = n

-- Words behind `run`, where `--rows N` came before them or did not, and `--each` did or did not: options, each of them once at most and in
-- any order, and then the last words.
pub data AreOptions : List (List ℕ) → Option ℕ → Bool → RunForm → Type 0 where
  limited : {texts : List (List ℕ)} {limit : Option ℕ} {each : Bool} {form : RunForm} → (number : List ℕ) → (others : List (List ℕ)) → (n : ℕ) → texts ≡ codes "--rows" ∷ number ∷ others → limit ≡ None → IsRowLimit number n
      → AreOptions others (Some n) each form → AreOptions texts limit each form
  by_line : {texts : List (List ℕ)} {limit : Option ℕ} {each : Bool} {form : RunForm} → (others : List (List ℕ)) → texts ≡ codes "--each" ∷ others → each ≡ false
      → AreOptions others limit true form → AreOptions texts limit each form
  over : {texts : List (List ℕ)} {limit : Option ℕ} {each : Bool} {form : RunForm} → AreLast texts form.file → form.limit ≡ rows_or_most limit → form.each ≡ each → AreOptions texts limit each form

-- `run`, and options and a file behind it
pub record AreRunTexts (texts : List (List ℕ)) (form : RunForm) : Type 0 where
  pub others : List (List ℕ)
  pub words : texts ≡ codes "run" ∷ others
  pub options : AreOptions others None false form

-- The words run a session of this form.
abbrev pub AreRun : List (String Global) → RunForm → Type 0
AreRun words form = AreRunTexts (map string_bytes words) form
