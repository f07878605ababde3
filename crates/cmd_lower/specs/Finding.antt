-- What is found for a query, and how it is written.
use Rattle.std.specs.Prelude.{◌≡◌, ℕ, ⊤, ◌⊎◌, IsTrue, IsFalse, None, Some, List}
use Rattle.sem_query.specs.declared.atom.Attr.{Attr}
use Rattle.sem_query.specs.declared.condition.Condition.{Condition}
use Rattle.sem_query.specs.declared.condition.Condition.TheVariants.{C1, C2, C3}
use Rattle.sem_query.specs.declared.decision.Decision.TheVariants as decision
use Rattle.sem_query.specs.Query.{QueryValue}
use Rattle.sem_query.specs.Verdict.{IsDecision}
use Rattle.sql_catalog.specs.Streams.{Shape}
use Rattle.sem_forms.specs.Forms.{HasWholeForm}
use Rattle.sem_forms.specs.Parts.{IsFormViolation}
use Rattle.sem_lower_bounds.specs.Within.{NeedsStatesWithin}
use Rattle.fam_fooling_sets.specs.Family.{FamilyValue}
use Rattle.fam_fooling_sets.specs.Lowered.{HasPairAcross, LacksRows}
use Rattle.fam_text.specs.Answer.{HasFamilyOver, IsFoundOver}
use Rattle.cmd_lower.specs.declared.form.Families.{Families}
use Rattle.cmd_lower.specs.declared.form.Families.TheVariants as families
use Rattle.cmd_lower.specs.declared.form.LowerForm.{LowerForm}
use Rattle.cmd_lower.specs.declared.finding.NoFamily.TheVariants as why
use Rattle.cmd_lower.specs.declared.finding.LowerFinding.{LowerFinding}
use Rattle.cmd_lower.specs.declared.finding.LowerFinding.TheVariants.{Nothing, Rows}
use Rattle.cmd_lower.specs.Formed.{goes_by_form, BreaksFirst, BreaksOne, FewAreEnough}

-- families are made for the condition
abbrev pub AreMadeFor : Families → Condition → Type 0
AreMadeFor families.All condition = ⊤
AreMadeFor families.FirstTwo C1 = ⊤
AreMadeFor families.FirstTwo C2 = ⊤
AreMadeFor families.FirstTwo C3 = ⊥

-- rows that move in equal steps are sought: for all queries where all families are asked for, and else for those that are judged by their form
abbrev pub AreSought : Families → QueryValue → Type 0
AreSought families.All q = ⊤
AreSought families.FirstTwo q = IsTrue (goes_by_form q)

-- with DISTINCT the query needs many states
abbrev pub NeedsManyWithDistinct : QueryValue → Type 0
NeedsManyWithDistinct q = IsTrue q.distinct → NeedsStatesWithin q

-- A family of so many rows for what the query breaks first: by its plain parts, at the column that is named, or, where all families are asked for,
-- at one of another stream where the rows move in equal steps; or by the split form of a compact query, likewise.
pub data IsShown (streams : List Shape) (q : QueryValue) (asked : Families) (n part : ℕ) (condition : Condition) (a : Attr) (f : FamilyValue) : Type 0 where
  by_plain : IsFalse (goes_by_form q) → IsDecision q (decision.Violation part condition a) → HasFamilyOver streams q condition a n f → IsShown streams q asked n part condition a f
  moved : asked ≡ families.All → IsFalse (goes_by_form q) → (b : Attr) → IsDecision q (decision.Violation part condition b) → IsFoundOver streams q condition a n f
      → IsShown streams q asked n part condition a f
  by_form : IsTrue (goes_by_form q) → (b : Attr) → IsFormViolation q (Some record { part = part; condition = condition; attr = b }) → IsFoundOver streams q condition a n f
      → IsShown streams q asked n part condition a f

-- What is found for a query over these streams. The whole form of a compact query fits, or it breaks no condition by the parts by which it is judged. Or it breaks
-- one, rows that move are sought, and yet few states are enough. Or no rows were found: it is compact, breaks a condition, and needs many states; or its plain parts
-- break the second condition first, and a pair lies between streams; or the third, for which no families are made, or of which the plain parts have none. Where all
-- families are asked for, these need many states with DISTINCT. Or there is a family of so many rows for what is broken first.
abbrev pub IsFinding : List Shape → QueryValue → LowerForm → LowerFinding → Type 0
IsFinding streams q form (Nothing why.Bounded) = HasWholeForm q ⊎ IsFormViolation q None
IsFinding streams q form (Nothing why.Few) = AreSought form.families q × BreaksOne q × FewAreEnough q
IsFinding streams q form (Nothing why.Form) = IsTrue (goes_by_form q) × BreaksOne q × NeedsStatesWithin q
IsFinding streams q form (Nothing why.C2) = IsFalse (goes_by_form q) × BreaksFirst q C2 × HasPairAcross q × (form.families ≡ families.All → NeedsManyWithDistinct q)
IsFinding streams q form (Nothing why.C3) = BreaksFirst q C3 × (form.families ≡ families.All → IsFalse (goes_by_form q) × LacksRows q × NeedsManyWithDistinct q)
IsFinding streams q form (Rows part condition attr family) = AreMadeFor form.families condition × IsShown streams q form.families form.rows part condition attr family
