-- A query that no word refuses, and the verdict on it.
use Rattle.std.proofs.Common.{◌≡◌, ℕ, Bool, List, [], ◌∷◌, ◌++◌, codes, decimal, refl, sym, ap, ◌∙◌, Ok, Err, subst}
use Rattle.std.specs.declared.result.Result.{Result}
use Rattle.io_streams.specs.Sink.{SinkState, Writes}
use Rattle.sem_query.specs.declared.atom.Attr.{Attr}
use Rattle.sem_query.specs.declared.condition.Condition.{Condition}
use Rattle.sem_query.specs.declared.decision.Which.{Which}
use Rattle.sem_query.specs.declared.plan.Plan.{Plan}
use Rattle.sem_query.specs.declared.plan.Plan.TheVariants as plans
use Rattle.sem_query.specs.Query.{QueryValue}
use Rattle.sem_query.specs.Verdict as verdicts
use Rattle.sem_forms.specs.Forms.{IsFormVerdict}
use Rattle.sql_parser.specs.declared.tree.ColumnAst.{ColumnAst}
use Rattle.sql_parser.specs.Resolution.{column_named}
use Rattle.exec_registry.specs.declared.refusal.CreateError.{CreateError}
use Rattle.exec_registry.specs.declared.verdict.Verdict.{Verdict}
use Rattle.exec_registry.specs.declared.verdict.Verdict.TheVariants as kinds
use Rattle.exec_registry.specs.Live.{free_pages}
use Rattle.exec_registry.specs.Judged.{TellsVerdict, Registered, IsUnchanged, verdict_of}
use Rattle.exec_registry.specs.Registry.{RegistryValue, IsQuiet}
use Rattle.cmd_session.specs.declared.outcome.LineOutcome.{LineOutcome}
use Rattle.cmd_session.specs.Request.{asked}
use Rattle.cmd_session.specs.Answer.{registered, decided}
use Rattle.cmd_session.specs.Answers.{accepted, rejected, acceptance}
use Rattle.cmd_session.specs.State.{State, one_line_more}
use Rattle.sql_parser.specs.Naming.{column_text}
use Rattle.sql_replies.specs.Texts.{which_text, condition_text, numbers_text, plan_text}
use Rattle.cmd_session.specs.Session.{SessionValue, StandsFor, Does, outcome_of}
use Rattle.cmd_session.proofs.Given.{given}

-- the session with this registry in place of its own
abbrev pub with_registry : SessionValue → RegistryValue → SessionValue
with_registry k r = record k { registry = r }

-- the reply to a query that is accepted
abbrev pub acceptance_text : List ℕ → Verdict → List ℕ
acceptance_text name kinds.Filter = codes "ok query " ++ name ++ codes " filter" ++ 10 ∷ []
acceptance_text name (kinds.Accepted numbers) = numbers_text name numbers

same_text : (name : List ℕ) (plan : Plan) → acceptance_text name (verdict_of plan) ≡ plan_text name plan
same_text name plans.Filter = refl
same_text name (plans.Parts ps numbers) = refl

same_verdict : (shared : Bool) (q : QueryValue) (free : ℕ) (plan : Plan) → TellsVerdict shared q free (Ok (verdict_of plan)) → IsFormVerdict shared q free (acceptance plan)
same_verdict shared q free plans.Filter t = t
same_verdict shared q free (plans.Parts ps numbers) t = t

-- the registry's verdict is the state's, which has as many pages
pub told_accepted : (k : SessionValue) (s : State) (shared : Bool) (q : QueryValue) (v w : Verdict) → StandsFor k (one_line_more s) → v ≡ w → TellsVerdict shared q (free_pages k.registry.pool.pages s.queries) (Ok v)
    → TellsVerdict shared q (free_pages s.pages s.queries) (Ok w)
told_accepted k s shared q v w old same tells =
    subst (λ (x : Verdict). TellsVerdict shared q (free_pages s.pages s.queries) (Ok x)) same (subst (λ (n : ℕ). TellsVerdict shared q (free_pages n s.queries) (Ok v)) old.pages tells)

pub told_refused : (k : SessionValue) (s : State) (shared : Bool) (q : QueryValue) (e f : CreateError) → StandsFor k (one_line_more s) → e ≡ f → TellsVerdict shared q (free_pages k.registry.pool.pages s.queries) (Err e)
    → TellsVerdict shared q (free_pages s.pages s.queries) (Err f)
told_refused k s shared q e f old same tells =
    subst (λ (x : CreateError). TellsVerdict shared q (free_pages s.pages s.queries) (Err x)) same (subst (λ (n : ℕ). TellsVerdict shared q (free_pages n s.queries) (Err e)) old.pages tells)

-- a query is accepted
pub takes : {T E : Type 0} (written : Result T E) (outcome : LineOutcome) (s : State) (name : List ℕ) (q : QueryValue) (shared : Bool) (k : SessionValue) (r : RegistryValue) (v : Verdict) (before after : SinkState)
    → outcome ≡ outcome_of written → StandsFor k (one_line_more s) → TellsVerdict shared q (free_pages s.pages s.queries) (Ok v) → Registered k.registry name q shared v r
    → Writes written before after (acceptance_text name v)
    → Does outcome s (asked name q shared) (with_registry k r) before after
takes written outcome s name q shared k r v before after o old tells reg w =
    let told = subst (λ (x : Verdict). TellsVerdict shared q (free_pages s.pages s.queries) (Ok x)) reg.told tells in
    given written outcome s (asked name q shared) (registered name q shared reg.plan) (with_registry k r) before after o
    (accepted reg.plan reg.accepted.plan (same_verdict shared q (free_pages s.pages s.queries) reg.plan told) refl)
    (record {
      limit = old.limit;
      streams = old.streams;
      queries = reg.stands s.queries old.queries;
      quiet = reg.quiet old.quiet;
      taken = old.taken;
      lines = old.lines;
      began = old.began;
      lock = old.lock;
      pages = reg.pages ∙ old.pages;
    })
    (subst (λ t. Writes written before after t) (ap (acceptance_text name) reg.told ∙ same_text name reg.plan) w)

-- a session whose registry is unchanged stands for what it stood for
pub unchanged : (k : SessionValue) (r : RegistryValue) (s : State) → IsUnchanged k.registry r → StandsFor k s → StandsFor (with_registry k r) s
unchanged k r s u old = record {
  limit = old.limit;
  streams = old.streams;
  queries = u.stands s.queries old.queries;
  quiet = subst (λ l. IsQuiet (record { pool = r.pool; live = l })) (sym u.live) old.quiet;
  taken = old.taken;
  lines = old.lines;
  began = old.began;
  lock = old.lock;
  pages = u.pages ∙ old.pages;
}

-- a number of the query is above its limit
pub too_large : {T E : Type 0} (written : Result T E) (outcome : LineOutcome) (s : State) (name : List ℕ) (q : QueryValue) (shared : Bool) (k : SessionValue) (r : RegistryValue) (which : Which) (before after : SinkState)
    → outcome ≡ outcome_of written → StandsFor k (one_line_more s) → IsFormVerdict shared q (free_pages s.pages s.queries) (verdicts.limit which) → IsUnchanged k.registry r
    → Writes written before after (codes "refused " ++ name ++ codes " limit " ++ which_text which ++ 10 ∷ [])
    → Does outcome s (asked name q shared) (with_registry k r) before after
too_large written outcome s name q shared k r which before after o old v u w =
    given written outcome s (asked name q shared) (decided name q (verdicts.limit which)) (with_registry k r) before after o (rejected (verdicts.limit which) v refl refl) (unchanged k r (one_line_more s) u old) w

-- too few pages are free
pub no_room : {T E : Type 0} (written : Result T E) (outcome : LineOutcome) (s : State) (name : List ℕ) (q : QueryValue) (shared : Bool) (k : SessionValue) (r : RegistryValue) (before after : SinkState)
    → outcome ≡ outcome_of written → StandsFor k (one_line_more s) → IsFormVerdict shared q (free_pages s.pages s.queries) verdicts.pool → IsUnchanged k.registry r
    → Writes written before after (codes "refused " ++ name ++ codes " limit pool" ++ 10 ∷ [])
    → Does outcome s (asked name q shared) (with_registry k r) before after
no_room written outcome s name q shared k r before after o old v u w =
    given written outcome s (asked name q shared) (decided name q verdicts.pool) (with_registry k r) before after o (rejected verdicts.pool v refl refl) (unchanged k r (one_line_more s) u old) w

-- a part of a query breaks a condition
pub violated : {T E : Type 0} (written : Result T E) (outcome : LineOutcome) (s : State) (name : List ℕ) (q : QueryValue) (shared : Bool) (k : SessionValue) (r : RegistryValue) (part : ℕ) (condition : Condition) (attr : Attr) (column : ColumnAst) (before after : SinkState)
    → outcome ≡ outcome_of written → StandsFor k (one_line_more s) → IsFormVerdict shared q (free_pages s.pages s.queries) (verdicts.violation record { part = part; condition = condition; attr = attr }) → IsUnchanged k.registry r
    → column ≡ column_named k.streams q.from attr
    → Writes written before after (codes "refused " ++ name ++ codes " part " ++ decimal part ++ 32 ∷ condition_text condition ++ 32 ∷ column_text column ++ 10 ∷ [])
    → Does outcome s (asked name q shared) (with_registry k r) before after
violated written outcome s name q shared k r part condition attr column before after o old v u named w =
    let text : ColumnAst → List ℕ = λ c. codes "refused " ++ name ++ codes " part " ++ decimal part ++ 32 ∷ condition_text condition ++ 32 ∷ column_text c ++ 10 ∷ [] in
    given written outcome s (asked name q shared) (decided name q (verdicts.violation record { part = part; condition = condition; attr = attr })) (with_registry k r) before after o
    (rejected (verdicts.violation record { part = part; condition = condition; attr = attr }) v refl refl) (unchanged k r (one_line_more s) u old)
    (subst (λ c. Writes written before after (text c)) (named ∙ ap (λ streams. column_named streams q.from attr) old.streams) w)
