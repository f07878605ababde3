-- The words that ask what the program is.
use Rattle.std.specs.Prelude.{◌≡◌, ◌⊎◌, List, String, [], ◌∷◌, map, codes}
use Rattle.std.specs.String.{string_bytes}
use Rattle.std.specs.declared.alloc.Global.{Global}
use Rattle.std.specs.declared.option.Option.{Option}
use Rattle.std.specs.declared.option.Option.TheVariants.{None, Some}
use Rattle.cmd_dispatch.specs.declared.command.Command.{Command}
use Rattle.cmd_dispatch.specs.declared.command.Command.TheVariants.{Run, Load, Lower, Certify, Check, Advise, Split, Help, Version}

-- the one word `--help`, or `-h`
abbrev pub AreHelp : List (String Global) → Type 0
AreHelp words = (map string_bytes words ≡ codes "--help" ∷ []) ⊎ (map string_bytes words ≡ codes "-h" ∷ [])

-- the one word `--version`, or `-V`
abbrev pub AreVersion : List (String Global) → Type 0
AreVersion words = (map string_bytes words ≡ codes "--version" ∷ []) ⊎ (map string_bytes words ≡ codes "-V" ∷ [])

-- one of the two that the words ask for, or none
abbrev pub HelpCommand : List (String Global) → Option Command → Type 0
HelpCommand words None = (¬ AreHelp words) × (¬ AreVersion words)
HelpCommand words (Some (Run form)) = ⊥
HelpCommand words (Some (Load rows)) = ⊥
HelpCommand words (Some (Lower form)) = ⊥
HelpCommand words (Some Certify) = ⊥
HelpCommand words (Some Check) = ⊥
HelpCommand words (Some (Advise file)) = ⊥
HelpCommand words (Some (Split file)) = ⊥
HelpCommand words (Some Help) = AreHelp words
HelpCommand words (Some Version) = AreVersion words
