-- What CREATE QUERY comes to.
use Rattle.std.specs.Prelude.{◌≡◌, ℕ, Bool, ◌<◌, List, [], ◌∷◌, ◌++◌, IsFalse, IfSome, ⊤}
use Rattle.std.specs.declared.option.Option.{Option}
use Rattle.std.specs.declared.option.Option.TheVariants.{None, Some}
use Rattle.std.specs.declared.result.Result.{Result}
use Rattle.std.specs.declared.result.Result.TheVariants.{Ok, Err}
use Rattle.sem_query.specs.declared.decision.Which.{Which}
use Rattle.sem_query.specs.declared.decision.Which.TheVariants.{Parts}
use Rattle.sem_query.specs.declared.plan.Plan.{Plan}
use Rattle.sem_query.specs.declared.plan.Plan.TheVariants as plans
use Rattle.sem_query.specs.Query.{QueryValue, is_filter}
use Rattle.sem_query.specs.Numbers.{pages_of}
use Rattle.sem_query.specs.Verdict as model
use Rattle.sem_query.specs.Verdict.{most}
use Rattle.sem_forms.specs.Forms.{HasWholeForm, IsFormVerdict}
use Rattle.sem_forms.specs.Parts.{HasTooManyParts, IsFormViolation, IsOverLimit}
use Rattle.exec_query.specs.Executor.{IsAccepted}
use Rattle.exec_registry.specs.declared.refusal.CreateError.{CreateError}
use Rattle.exec_registry.specs.declared.refusal.CreateError.TheVariants as refusals
use Rattle.exec_registry.specs.declared.verdict.Verdict.{Verdict}
use Rattle.exec_registry.specs.declared.verdict.Verdict.TheVariants as verdicts
use Rattle.exec_registry.specs.Live.{Live, LiveQuery, newly}
use Rattle.exec_registry.specs.Registry.{RegistryValue, StandsFor, IsQuiet, GivenUpto}

-- a number of a query whose whole form does not fit that is above its limit: there are too many parts, or else it is the first that its plan
-- has
pub data IsTooLarge (shared : Bool) (q : QueryValue) (which : Which) (value : ℕ) : Type 0 where
  many : IsFalse (is_filter q) → ¬ HasWholeForm q → HasTooManyParts q → which ≡ Parts → value ≡ 4097 → IsTooLarge shared q which value
  large : ¬ HasWholeForm q → ¬ HasTooManyParts q → IsFormViolation q None → IsOverLimit shared q which value → IsTooLarge shared q which value

-- the plan of a query that is accepted if its pages are free; or why it is refused, whatever pages are free
abbrev pub IsJudged : Bool → QueryValue → Result Plan CreateError → Type 0
IsJudged shared q (Ok plan) = IsAccepted shared q plan
IsJudged shared q (Err (refusals.Limit which value limit)) = IsTooLarge shared q which value × (limit ≡ most which)
IsJudged shared q (Err (refusals.Violation part condition attr)) =
    (¬ HasWholeForm q) × IsFalse (is_filter q) × (¬ HasTooManyParts q) × IsFormViolation q (Some record { part = part; condition = condition; attr = attr })
IsJudged shared q (Err (refusals.Pool needed free)) = ⊥
IsJudged shared q (Err refusals.Memory) = ⊤

-- how a query with this plan runs
abbrev pub verdict_of : Plan → Verdict
verdict_of plans.Filter = verdicts.Filter
verdict_of (plans.Parts parts numbers) = verdicts.Accepted numbers

-- the verdict that an answer tells; want of memory tells none
abbrev pub told : Result Verdict CreateError → Option model.Verdict
told (Ok verdicts.Filter) = Some model.filter
told (Ok (verdicts.Accepted numbers)) = Some (model.accepted numbers)
told (Err (refusals.Violation part condition attr)) = Some (model.violation record { part = part; condition = condition; attr = attr })
told (Err (refusals.Limit which value limit)) = Some (model.limit which)
told (Err (refusals.Pool needed free)) = Some model.pool
told (Err refusals.Memory) = None

-- what an answer tells is the verdict
abbrev pub TellsVerdict : Bool → QueryValue → ℕ → Result Verdict CreateError → Type 0
TellsVerdict shared q free result = IfSome (told result) (IsFormVerdict shared q free)

-- so many pages are needed by the plan of a query that meets all conditions
abbrev pub NeedsPages : Bool → QueryValue → ℕ → Type 0
NeedsPages shared q needed = (plan : Plan) × IsAccepted shared q plan × (needed ≡ pages_of plan)

-- what a refusal carries: the violation of a query whose whole form does not fit; the number that is too large and its limit; how many pages are
-- needed and how many are free
abbrev pub CarriesWhy : Bool → QueryValue → ℕ → Result Verdict CreateError → Type 0
CarriesWhy shared q available (Ok verdict) = ⊤
CarriesWhy shared q available (Err (refusals.Violation part condition attr)) =
    (¬ HasWholeForm q) × IsFormViolation q (Some record { part = part; condition = condition; attr = attr })
CarriesWhy shared q available (Err (refusals.Limit which value limit)) = IsTooLarge shared q which value × (limit ≡ most which)
CarriesWhy shared q available (Err (refusals.Pool needed free)) = (available < needed) × (free ≡ available) × NeedsPages shared q needed
CarriesWhy shared q available (Err refusals.Memory) = ⊤

-- the query is live, the last in order of creation, with its plan and no history; the other live queries are as before, and there are as many
-- pages
pub record Registered (old : RegistryValue) (name : List ℕ) (q : QueryValue) (shared : Bool) (verdict : Verdict) (new : RegistryValue) : Type 0 where
  pub plan : Plan
  pub accepted : IsAccepted shared q plan
  pub told : verdict ≡ verdict_of plan
  pub stands : (queries : List LiveQuery) → StandsFor old queries → StandsFor new (queries ++ newly name q shared plan ∷ [])
  pub quiet : IsQuiet old → IsQuiet new
  pub given : (n : ℕ) → GivenUpto n old → GivenUpto n new
  pub last : Live
  pub list : new.live ≡ old.live ++ last ∷ []
  pub asked : last.executor.query ≡ q
  pub named : last.name ≡ name
  pub sharing : last.executor.shared ≡ shared
  pub pages : new.pool.pages ≡ old.pool.pages

-- the registry stands for what it stood for, and of as many pages as many are free
pub record IsUnchanged (old new : RegistryValue) : Type 0 where
  pub live : new.live ≡ old.live
  pub free : new.pool.free ≡ old.pool.free
  pub stands : (queries : List LiveQuery) → StandsFor old queries → StandsFor new queries
  pub pages : new.pool.pages ≡ old.pool.pages

-- What `create` does: a query that is accepted is live, and on a refusal all is as before.
abbrev pub Creates : RegistryValue → List ℕ → QueryValue → Bool → Result Verdict CreateError → RegistryValue → Type 0
Creates old name q shared (Ok verdict) new = Registered old name q shared verdict new
Creates old name q shared (Err refusal) new = IsUnchanged old new
