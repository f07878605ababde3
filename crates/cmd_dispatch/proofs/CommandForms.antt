-- What is asked for where it is neither a session, nor a load, nor a family.
use Rattle.std.proofs.Common.{ℕ, List, Some, None, MatchOption, IfSome, String}
use Rattle.std.specs.declared.alloc.Global.{Global}
use Rattle.std.specs.declared.option.Option.{Option}
use Rattle.cmd_dispatch.specs.declared.command.Command.{Command}
use Rattle.cmd_dispatch.specs.declared.command.Command.TheVariants.{Run, Load, Lower, Certify, Check, Advise, Split, Help, Version}
use Rattle.cmd_lower.specs.declared.form.LowerForm.{LowerForm}
use Rattle.cmd_dispatch.specs.Words.{AreRun}
use Rattle.cmd_dispatch.specs.LoadWords.{AreLoad}
use Rattle.cmd_dispatch.specs.LowerWords.{AreLower}
use Rattle.cmd_dispatch.specs.CertificateWords.{AreNoScript, ScriptCommand}
use Rattle.cmd_dispatch.specs.declared.words.RunForm.{RunForm}
use Rattle.cmd_dispatch.specs.HelpWords.{AreHelp, AreVersion, HelpCommand}
use Rattle.cmd_dispatch.specs.Commands.{Asks, IsAllowed}

-- the words are none of the forms
no_command : (words : List (String Global)) → ((form : RunForm) → AreRun words form → ⊥) → ((n : ℕ) → AreLoad words n → ⊥) → ((form : LowerForm) → AreLower words form → ⊥) → AreNoScript words → (¬ AreHelp words) × (¬ AreVersion words) → (command : Command) → Asks words command → ⊥
no_command words no_run no_load no_lower other none (Run n) asks = no_run n asks
no_command words no_run no_load no_lower other none (Load n) asks = no_load n asks
no_command words no_run no_load no_lower other none (Lower n) asks = no_lower n asks
no_command words no_run no_load no_lower other none Certify asks = other.0 asks
no_command words no_run no_load no_lower other none Check asks = other.1 asks
no_command words no_run no_load no_lower other none (Advise file) asks = other.2.0 file asks
no_command words no_run no_load no_lower other none (Split file) asks = other.2.1 file asks
no_command words no_run no_load no_lower other none Help asks = none.0 asks
no_command words no_run no_load no_lower other none Version asks = none.1 asks

-- a command over a script is asked for
pub asked_script : (words : List (String Global)) (command : Command) → ScriptCommand words (Some command) → Asks words command
asked_script words (Run n) h = absurd h
asked_script words (Load n) h = absurd h
asked_script words (Lower n) h = absurd h
asked_script words Certify h = h
asked_script words Check h = h
asked_script words (Advise file) h = h
asked_script words (Split file) h = h
asked_script words Help h = absurd h
asked_script words Version h = absurd h

pub allowed_script : (words : List (String Global)) (command : Command) → ScriptCommand words (Some command) → IsAllowed command
allowed_script words (Run n) h = absurd h
allowed_script words (Load n) h = absurd h
allowed_script words (Lower n) h = absurd h
allowed_script words Certify h = tt
allowed_script words Check h = tt
allowed_script words (Advise file) h = tt
allowed_script words (Split file) h = tt
allowed_script words Help h = absurd h
allowed_script words Version h = absurd h

-- help or the version is asked for, or nothing
pub asked_help : (words : List (String Global)) (r : Option Command) → ((form : RunForm) → AreRun words form → ⊥) → ((n : ℕ) → AreLoad words n → ⊥) → ((form : LowerForm) → AreLower words form → ⊥) → AreNoScript words → HelpCommand words r
    → MatchOption r ((command : Command) → Asks words command → ⊥) (λ command. Asks words command)
asked_help words None no_run no_load no_lower other h = no_command words no_run no_load no_lower other h
asked_help words (Some (Run n)) no_run no_load no_lower other h = absurd h
asked_help words (Some (Load n)) no_run no_load no_lower other h = absurd h
asked_help words (Some (Lower n)) no_run no_load no_lower other h = absurd h
asked_help words (Some Certify) no_run no_load no_lower other h = absurd h
asked_help words (Some Check) no_run no_load no_lower other h = absurd h
asked_help words (Some (Advise file)) no_run no_load no_lower other h = absurd h
asked_help words (Some (Split file)) no_run no_load no_lower other h = absurd h
asked_help words (Some Help) no_run no_load no_lower other h = h
asked_help words (Some Version) no_run no_load no_lower other h = h

pub allowed_help : (words : List (String Global)) (r : Option Command) → HelpCommand words r → IfSome r IsAllowed
allowed_help words None h = tt
allowed_help words (Some (Run n)) h = absurd h
allowed_help words (Some (Load n)) h = absurd h
allowed_help words (Some (Lower n)) h = absurd h
allowed_help words (Some Certify) h = absurd h
allowed_help words (Some Check) h = absurd h
allowed_help words (Some (Advise file)) h = absurd h
allowed_help words (Some (Split file)) h = absurd h
allowed_help words (Some Help) h = tt
allowed_help words (Some Version) h = tt
