-- What a line comes to, by what it asks for.
use Rattle.std.specs.Prelude.{◌≡◌, ℕ, Bool, true, false, List, IsTrue}
use Rattle.sem_query.specs.declared.plan.Plan.{Plan}
use Rattle.sem_query.specs.declared.plan.Plan.TheVariants as plans
use Rattle.sem_query.specs.Query.{QueryValue}
use Rattle.sem_query.specs.Verdict.{Verdict}
use Rattle.sem_query.specs.Verdict as verdicts
use Rattle.sem_forms.specs.Forms.{IsFormPlanOf, IsFormVerdict}
use Rattle.exec_registry.specs.Live.{free_pages}
use Rattle.cmd_session.specs.Request.{Request, silent, created, asked, explained, dropped, taken, saved, resumed, based, locked, unlocked, refused}
use Rattle.cmd_session.specs.Requests.{IsRequest}
use Rattle.cmd_session.specs.Answer.{Answer, plain, registered, decided}
use Rattle.cmd_session.specs.State.{State}

-- the verdict on a query that is given this plan
abbrev pub acceptance : Plan → Verdict
acceptance plans.Filter = verdicts.filter
acceptance (plans.Parts ps numbers) = verdicts.accepted numbers

-- whether a verdict refuses the query
abbrev pub is_refusal : Verdict → Bool
is_refusal verdicts.filter = false
is_refusal (verdicts.violation f) = true
is_refusal (verdicts.limit which) = true
is_refusal verdicts.pool = true
is_refusal (verdicts.accepted numbers) = false

-- the verdict on a query, with shared cells or without, with so many free pages: it is accepted, with its plan, or refused
pub data IsDecided (name : List ℕ) (q : QueryValue) (shared : Bool) (free : ℕ) (answer : Answer) : Type 0 where
  accepted : (plan : Plan) → IsFormPlanOf shared q plan → IsFormVerdict shared q free (acceptance plan) → answer ≡ registered name q shared plan → IsDecided name q shared free answer
  rejected : (verdict : Verdict) → IsFormVerdict shared q free verdict → IsTrue (is_refusal verdict) → answer ≡ decided name q verdict → IsDecided name q shared free answer

-- what a request comes to, in a state
abbrev pub Settles : State → Request → Answer → Type 0
Settles s silent answer = answer ≡ plain silent
Settles s (created name columns) answer = answer ≡ plain (created name columns)
Settles s (asked name query shared) answer = IsDecided name query shared (free_pages s.pages s.queries) answer
Settles s (explained name) answer = answer ≡ plain (explained name)
Settles s (dropped name) answer = answer ≡ plain (dropped name)
Settles s (taken stream values) answer = answer ≡ plain (taken stream values)
Settles s saved answer = answer ≡ plain saved
Settles s (resumed n) answer = answer ≡ plain (resumed n)
Settles s (based name base) answer = answer ≡ plain (based name base)
Settles s (locked lock) answer = answer ≡ plain (locked lock)
Settles s unlocked answer = answer ≡ plain unlocked
Settles s (refused word) answer = answer ≡ plain (refused word)

-- What a line comes to: what it asks for comes to this.
pub record IsAnswer (s : State) (line : List ℕ) (answer : Answer) : Type 0 where
  pub request : Request
  pub asks : IsRequest s line request
  pub settles : Settles s request answer
