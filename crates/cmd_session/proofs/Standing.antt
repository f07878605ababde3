-- What a session keeps, and the states that it stands for.
use Rattle.std.proofs.Common.{◌≡◌, ℕ, ◌+◌, ◌≤◌, List, length, ℤ, arith, sym, ap, ◌∙◌, subst, nat_lt, refl, IsTrue, Option}
use Rattle.sql_parser.specs.declared.line.LineKind.{LineKind}
use Rattle.sql_parser.specs.LineKind.{stripped, kind_of_line}
use Rattle.std.specs.List.{sum_by}
use Rattle.sem_query.specs.declared.plan.Plan.{Plan}
use Rattle.exec_pool.specs.Extents.{PoolValue}
use Rattle.exec_registry.specs.Live.{Live, LiveQuery}
use Rattle.exec_registry.specs.Registry.{AreLiveFor}
use Rattle.exec_registry.proofs.Whole.{same_names}
use Rattle.io_row_reader.specs.Open.{is_open}
use Rattle.cmd_session.specs.Lock.{Lock, LetsText, open_in}
use Rattle.cmd_session.specs.Request.{Request, refused}
use Rattle.sql_replies.specs.declared.refusal.Refusal.TheVariants.{Locked}
use Rattle.std.specs.declared.result.Result.TheVariants.{Ok}
use Rattle.sql_catalog.specs.Rows.{entry}
use Rattle.sql_parser.specs.declared.line.LineKind.TheVariants as kinds
use Rattle.io_row_reader.specs.Plain.{IsPlainRow}
use Rattle.cmd_session.specs.Requests.{entry_request, row_request, IsTextRequest, IsRequest, barred, fits}
use Rattle.cmd_session.specs.State.{State, live_names, has_room}
use Rattle.cmd_session.specs.Session.{SessionValue, StandsFor, names_in}
use Rattle.cmd_session.proofs.Announcing.{sums_agree}
use Rattle.cmd_session.proofs.LetRows.{row_let}

-- the names that are kept are those of the live queries
pub names-kept : (k : SessionValue) (s : State) → StandsFor k s → names_in k.registry ≡ live_names s
names-kept k s h = same_names k.registry.pool k.registry.live s.queries h.queries

-- a line of a kind asks for what its text does
pub of_kind : (s : State) (kind : LineKind) (line text : List ℕ) (request : Request) → length line ≤ 1024 → kind_of_line (stripped line) ≡ kind → stripped line ≡ text → LetsText s.lock s.streams kind text → IsTextRequest s kind text request → IsRequest s line request
of_kind s kind line text request short k t lets h =
    fits short (subst (λ x. LetsText s.lock s.streams x (stripped line)) (sym k) (subst (λ x. LetsText s.lock s.streams kind x) (sym t) lets))
    (subst (λ x. IsTextRequest s x (stripped line) request) (sym k) (subst (λ x. IsTextRequest s kind x request) (sym t) h))

-- a row line, by what is kept
pub row-kept : (k : SessionValue) (s : State) (text : List ℕ) → StandsFor k s → row_request k.streams (nat_lt k.taken k.limit) text ≡ row_request s.streams (has_room s) text
row-kept k s text h =
    ap (λ x. row_request x (nat_lt k.taken k.limit) text) h.streams
    ∙ ap (λ x. row_request s.streams (nat_lt x k.limit) text) h.taken
    ∙ ap (λ x. row_request s.streams (nat_lt s.taken x) text) h.limit

-- a bound by what is kept is one by the live queries
pub at_most : (f : Plan → ℕ) (pool : PoolValue) (live : List Live) (queries : List LiveQuery) (new old : ℕ) → AreLiveFor pool live queries
    → new ≤ old + sum_by (λ (l : Live). f l.executor.plan) live → new ≤ old + sum_by (λ (q : LiveQuery). f q.plan) queries
at_most f pool live queries new old all most = (let e = sums_agree f pool live queries all in omega (arith, e, most))

-- what a line asks for that is read in one pass
pub plain_asks : (k : SessionValue) (s : State) (line : List ℕ) (stream : ℕ) (values : List ℤ) → length line ≤ 1024 → StandsFor k s → IsPlainRow k.streams line stream values
    → IsTrue (is_open (open_in k.lock) stream) → IsRequest s line (entry_request (nat_lt k.taken k.limit) (Ok (entry stream values)))
plain_asks k s line stream values short h p opens =
    of_kind s kinds.RowLine line (stripped line) (entry_request (nat_lt k.taken k.limit) (Ok (entry stream values))) short p.kind refl
    (subst (λ l. LetsText l s.streams kinds.RowLine (stripped line)) h.lock
    (subst (λ x. LetsText k.lock x kinds.RowLine (stripped line)) h.streams (row_let k.lock k.streams (stripped line) stream values opens p.row)))
    (ap (entry_request (nat_lt k.taken k.limit)) (sym p.row) ∙ row-kept k s (stripped line) h)

-- another lock stands, in what is kept and in the state
pub relocked : (k : SessionValue) (s : State) (lock : Option Lock) → StandsFor k s → StandsFor (record k { lock = lock }) (record s { lock = lock })
relocked k s lock h = record { limit = h.limit; streams = h.streams; queries = h.queries; quiet = h.quiet; taken = h.taken; lines = h.lines; began = h.began; lock = refl; pages = h.pages }

-- a line that is not let is refused, by the kind and the text that are left of it
pub not_let : (s : State) (kind : LineKind) (line text : List ℕ) → length line ≤ 1024 → kind_of_line (stripped line) ≡ kind → stripped line ≡ text → (LetsText s.lock s.streams kind text → ⊥) → IsRequest s line (refused Locked)
not_let s kind line text short k t none =
    barred short (λ lets. none (subst (λ x. LetsText s.lock s.streams kind x) t (subst (λ x. LetsText s.lock s.streams x (stripped line)) k lets))) refl

-- what is kept lets the same as the state
pub let-kept : (k : SessionValue) (s : State) (kind kind' : LineKind) (text : List ℕ) → StandsFor k s → kind ≡ kind' → LetsText k.lock k.streams kind text → LetsText s.lock s.streams kind' text
let-kept k s kind kind' text h is lets =
    subst (λ x. LetsText s.lock s.streams x text) is (subst (λ l. LetsText l s.streams kind text) h.lock (subst (λ x. LetsText k.lock x kind text) h.streams lets))

pub none-let : (k : SessionValue) (s : State) (kind : LineKind) (text : List ℕ) → StandsFor k s → (LetsText k.lock k.streams kind text → ⊥) → LetsText s.lock s.streams kind text → ⊥
none-let k s kind text h none lets =
    none (subst (λ l. LetsText l k.streams kind text) (sym h.lock) (subst (λ x. LetsText s.lock x kind text) (sym h.streams) lets))
