-- What is found before anything is written.
use Rattle.std.specs.Prelude.{◌≡◌, ℕ, ⊤, Bool, true, false, List}
use Rattle.std.specs.declared.result.Result.{Result}
use Rattle.std.specs.declared.result.Result.TheVariants.{Ok, Err}
use Rattle.io_streams.specs.Source.{SourceState}
use Rattle.sem_query.specs.declared.condition.Condition.TheVariants.{C1, C2, C3}
use Rattle.sem_query.specs.declared.decision.Decision.{Decision}
use Rattle.sem_query.specs.declared.decision.Decision.TheVariants as decision
use Rattle.fam_fooling_sets.specs.declared.error.LowerError.{LowerError}
use Rattle.fam_fooling_sets.specs.declared.error.LowerError.TheVariants as why
use Rattle.fam_fooling_sets.specs.Family.{FamilyValue}
use Rattle.sql_parser.specs.Resolution.{HasNamed}
use Rattle.sql_replies.specs.declared.refusal.Refusal.TheVariants.{Limit}
use Rattle.sql_script.specs.declared.end.ScriptEnd.{ScriptEnd}
use Rattle.sql_script.specs.declared.end.ScriptEnd.TheVariants.{Refused, ReadFault, ByteLimit, Memory}
use Rattle.sql_script.specs.declared.script.Script.{Script}
use Rattle.sql_script.specs.Commands.{ComesTo}
use Rattle.sql_script.specs.Script.{name_of}
use Rattle.sql_script.specs.Ending.{StopsAt}
use Rattle.cmd_lower.specs.declared.form.Families.{Families}
use Rattle.cmd_lower.specs.declared.form.Families.TheVariants as families
use Rattle.cmd_lower.specs.declared.form.LowerForm.{LowerForm}
use Rattle.cmd_lower.specs.declared.finding.NoFamily.TheVariants as none
use Rattle.cmd_lower.specs.declared.finding.LowerFinding.{LowerFinding}
use Rattle.cmd_lower.specs.declared.finding.LowerFinding.TheVariants.{Nothing, Rows}
use Rattle.cmd_lower.specs.declared.lower_command.Lowered.{Lowered}
use Rattle.cmd_lower.specs.Formed.{IsTooLarge}
use Rattle.cmd_lower.specs.Finding.{IsFinding}
use Rattle.cmd_lower.specs.Lowering.{Lowers, found}
use Rattle.cmd_lower.specs.Text.{finding_text}

-- what a decision and the answer to the call for a family come to; the call is answered that nothing is broken exactly where it is decided so
abbrev pub finding_of : Decision → Result FamilyValue LowerError → Result LowerFinding ScriptEnd
finding_of decision.Bounded answer = Ok (Nothing none.Bounded)
finding_of (decision.Violation part condition attr) (Ok family) = Ok (Rows part condition attr family)
finding_of (decision.Violation part condition attr) (Err why.Bounded) = Ok (Nothing none.Bounded)
finding_of (decision.Violation part condition attr) (Err why.C2) = Ok (Nothing none.C2)
finding_of (decision.Violation part condition attr) (Err why.C3) = Ok (Nothing none.C3)
finding_of (decision.Violation part condition attr) (Err why.Memory) = Err Memory

-- how a script ends whose query has too many parts
abbrev pub refused : Script → ScriptEnd
refused script = Refused script.line Limit

-- whether the first condition that is broken is one for which no families are made
abbrev pub is_left_out : Families → Decision → Bool
is_left_out families.All d = false
is_left_out families.FirstTwo decision.Bounded = false
is_left_out families.FirstTwo (decision.Violation part C1 attr) = false
is_left_out families.FirstTwo (decision.Violation part C2 attr) = false
is_left_out families.FirstTwo (decision.Violation part C3 attr) = true

-- what looking for a family comes to for the query of a script: one of too many parts is refused at its line
abbrev pub FindsFor : Result LowerFinding ScriptEnd → Script → LowerForm → Type 0
FindsFor (Ok finding) script form = IsFinding script.catalog script.query form finding × (¬ IsTooLarge script.query)
FindsFor (Err (Refused number word)) script form = (number ≡ script.line) × (word ≡ Limit) × IsTooLarge script.query
FindsFor (Err ReadFault) script form = ⊥
FindsFor (Err ByteLimit) script form = ⊥
FindsFor (Err Memory) script form = ⊤

-- the text of what is found for a script
abbrev pub text_of : Lowered → LowerForm → List ℕ
text_of l form = finding_text l.script.catalog (name_of l.script.statement) l.script.query form.rows l.finding

-- what is found, and the streams and columns that the query names are there
pub record IsSound (form : LowerForm) (l : Lowered) : Type 0 where
  pub is : IsFinding l.script.catalog l.script.query form l.finding
  pub named : HasNamed l.script.catalog l.script.query

-- how reading ends: with a script and what is found for its query, or before
abbrev pub ReadsLowered : LowerForm → Result Lowered ScriptEnd → SourceState → SourceState → Type 0
ReadsLowered form (Ok l) source now = ComesTo (Lowers form) source now (found l.script.catalog (name_of l.script.statement) l.script.query form l.finding) × IsSound form l
ReadsLowered form (Err end) source now = StopsAt (Lowers form) end source now
