-- The words of the commands over a script that take no number.
use Rattle.std.specs.Prelude.{◌≡◌, ℕ, Bool, List, String, [], ◌∷◌, map, codes}
use Rattle.std.specs.String.{string_bytes}
use Rattle.std.specs.declared.alloc.Global.{Global}
use Rattle.std.specs.declared.option.Option.{Option}
use Rattle.std.specs.declared.option.Option.TheVariants.{None, Some}
use Rattle.cmd_dispatch.specs.Words.{AreLast}
use Rattle.cmd_dispatch.specs.declared.command.Command.{Command}
use Rattle.cmd_dispatch.specs.declared.command.Command.TheVariants.{Run, Load, Lower, Certify, Check, Advise, Split, Help, Version}

-- the one word `certify`
abbrev pub AreCertify : List (String Global) → Type 0
AreCertify words = map string_bytes words ≡ codes "certify" ∷ []

-- the one word `check`
abbrev pub AreCheck : List (String Global) → Type 0
AreCheck words = map string_bytes words ≡ codes "check" ∷ []

-- `advise`, and behind it the name of a file that has the script, or nothing where the input has it
pub record AreAdviseTexts (texts : List (List ℕ)) (file : Bool) : Type 0 where
  pub others : List (List ℕ)
  pub words : texts ≡ codes "advise" ∷ others
  pub last : AreLast others file

-- the words ask for advice
abbrev pub AreAdvise : List (String Global) → Bool → Type 0
AreAdvise words file = AreAdviseTexts (map string_bytes words) file

-- `--split`, and behind it the same
pub record AreSplitTexts (texts : List (List ℕ)) (file : Bool) : Type 0 where
  pub others : List (List ℕ)
  pub words : texts ≡ codes "--split" ∷ others
  pub last : AreLast others file

-- `advise`, and these behind it
pub record AreAdviseSplitTexts (texts : List (List ℕ)) (file : Bool) : Type 0 where
  pub others : List (List ℕ)
  pub words : texts ≡ codes "advise" ∷ others
  pub split : AreSplitTexts others file

-- the words ask for choices of keys
abbrev pub AreSplit : List (String Global) → Bool → Type 0
AreSplit words file = AreAdviseSplitTexts (map string_bytes words) file

-- the words ask for neither of the commands of `advise`
abbrev pub AreNoAdvise : List (String Global) → Type 0
AreNoAdvise words = ((file : Bool) → AreAdvise words file → ⊥) × ((file : Bool) → AreSplit words file → ⊥)

-- a command of `advise` that the words ask for, or none
abbrev pub AdviseCommand : List (String Global) → Option Command → Type 0
AdviseCommand words None = AreNoAdvise words
AdviseCommand words (Some (Advise file)) = AreAdvise words file
AdviseCommand words (Some (Split file)) = AreSplit words file
AdviseCommand words (Some _) = ⊥

-- the words are none of these
abbrev pub AreNoScript : List (String Global) → Type 0
AreNoScript words = (¬ AreCertify words) × (¬ AreCheck words) × AreNoAdvise words

-- a command over a script that the words ask for, or none
abbrev pub ScriptCommand : List (String Global) → Option Command → Type 0
ScriptCommand words None = AreNoScript words
ScriptCommand words (Some (Run form)) = ⊥
ScriptCommand words (Some (Load rows)) = ⊥
ScriptCommand words (Some (Lower form)) = ⊥
ScriptCommand words (Some Certify) = AreCertify words
ScriptCommand words (Some Check) = AreCheck words
ScriptCommand words (Some (Advise file)) = AreAdvise words file
ScriptCommand words (Some (Split file)) = AreSplit words file
ScriptCommand words (Some Help) = ⊥
ScriptCommand words (Some Version) = ⊥
