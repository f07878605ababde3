-- RESUME lines that are settled.
use Rattle.std.proofs.Common.{◌≡◌, ℕ, ◌+◌, ◌≤◌, ℤ, List, [], refl, sym, ap, ◌∙◌, subst, Ok, Err}
use Rattle.std.specs.declared.result.Result.{Result}
use Rattle.io_streams.specs.Sink.{SinkState}
use Rattle.io_streams.proofs.Writing.{Wrote-nil}
use Rattle.sql_parser.specs.declared.line.LineKind.{LineKind}
use Rattle.sql_parser.specs.declared.line.LineKind.TheVariants as kinds
use Rattle.sem_query.specs.Bases.{Base}
use Rattle.exec_pool.specs.Extents.{PoolValue}
use Rattle.exec_registry.specs.Live.{Live, LiveQuery, plan_reads, plan_writes, plan_cells}
use Rattle.exec_registry.specs.Registry.{RegistryValue, AreLiveFor, IsQuiet}
use Rattle.cmd_session.specs.declared.outcome.LineOutcome.{LineOutcome}
use Rattle.cmd_session.specs.declared.outcome.LineOutcome.TheVariants.{Done}
use Rattle.sql_replies.specs.declared.refusal.Refusal.{Refusal}
use Rattle.cmd_session.specs.Request.{Request, resumed, based}
use Rattle.cmd_session.specs.Requests.{count_request, rows_request}
use Rattle.cmd_session.specs.Answer.{plain}
use Rattle.cmd_session.specs.Answers.{Settles}
use Rattle.cmd_session.specs.State.{State, set_base, next_by, one_line_more}
use Rattle.cmd_session.specs.Replies.{reply_by}
use Rattle.cmd_session.specs.Session.{SessionValue, StandsFor, Does, line_reads, line_writes, announced_line_reads, announced_line_writes}
use Rattle.cmd_session.specs.Resuming.{IsStanding, Sets, IsSettled}
use Rattle.cmd_session.proofs.Deciding.{with_registry}
use Rattle.cmd_session.proofs.Standing.{at_most}

-- a line does what one does that asks for the same
pub same_request : (outcome : LineOutcome) (s : State) (a b : Request) (new : SessionValue) (before after : SinkState) → a ≡ b → Does outcome s a new before after → Does outcome s b new before after
same_request outcome s a b new before after e d = subst (λ (x : Request). Does outcome s x new before after) e d

-- so many rows count as taken
rows_resumed : (k : SessionValue) (s : State) (n : ℕ) (before : SinkState) → StandsFor k (one_line_more s) → Does Done s (resumed n) (record k { taken = n }) before before
rows_resumed k s n before h = record {
  answer = plain (resumed n);
  settles = refl;
  stands = record { limit = h.limit; streams = h.streams; queries = h.queries; quiet = h.quiet; taken = refl; lines = h.lines; began = h.began; lock = h.lock; pages = h.pages };
  reply = Wrote-nil before;
}

pub rows_asked : (k : SessionValue) (s : State) (z : ℤ) (n : ℕ) (before : SinkState) → StandsFor k (one_line_more s) → count_request k.began k.taken k.limit z ≡ resumed n
    → Does Done s (rows_request s z) (record k { taken = n }) before before
rows_asked k s z n before h e =
    let asks : resumed n ≡ rows_request s z
    = sym e ∙ ap (λ b. count_request b k.taken k.limit z) h.began ∙ ap (λ m. count_request s.began m k.limit z) h.taken ∙ ap (λ m. count_request s.began s.taken m z) h.limit in
    same_request Done s (resumed n) (rows_request s z) (record k { taken = n }) before before asks (rows_resumed k s n before h)

-- the registry of a session, and a state that the session stands for
pub standing : (k : SessionValue) (s : State) → StandsFor k (one_line_more s) → IsStanding k.registry k.began s
standing k s h = record { queries = h.queries; began = h.began }

based_settled : (k : SessionValue) (r : RegistryValue) (s : State) (name : List ℕ) (base : Base) → StandsFor k (one_line_more s) → IsQuiet r → AreLiveFor r.pool r.live (set_base name base s.queries) → r.pool.pages ≡ k.registry.pool.pages
    → Settles s (based name base) (plain (based name base)) × (reply_by s (based name base) ≡ []) × StandsFor (with_registry k r) (next_by s (based name base))
based_settled k r s name base h quiet stands same = (
  refl,
  refl,
  record {
    limit = h.limit;
    streams = h.streams;
    queries = stands;
    quiet = quiet;
    taken = h.taken;
    lines = h.lines;
    began = h.began;
    lock = h.lock;
    pages = same ∙ h.pages;
  },
)

pub settled_set : {T : Type 0} (result : Result T Refusal) (k : SessionValue) (r : RegistryValue) (s : State) (request : Request) → StandsFor k (one_line_more s) → Sets result request s.queries k.registry r
    → (IsQuiet k.registry → IsQuiet r) → r.pool.pages ≡ k.registry.pool.pages → IsSettled result s request (with_registry k r)
settled_set (Ok x) k r s request h set quiet same =
    subst (λ (q : Request). Settles s q (plain q) × (reply_by s q ≡ []) × StandsFor (with_registry k r) (next_by s q)) (sym set.asks)
    (based_settled k r s set.name set.base h (quiet h.quiet) set.stands same)
settled_set (Err word) k r s request h set quiet same =
    (set.0, subst (λ (x : RegistryValue). StandsFor (with_registry k x) (one_line_more s)) (sym set.1) h)

-- a bound by what is kept is one by the live queries
pub reads_at_most : (kind : LineKind) (pool : PoolValue) (live : List Live) (queries : List LiveQuery) (new old : ℕ) → AreLiveFor pool live queries → new ≤ old + line_reads kind live
    → new ≤ old + announced_line_reads kind queries
reads_at_most kinds.Nothing pool live queries new old all most = most
reads_at_most kinds.RowLine pool live queries new old all most = at_most plan_reads pool live queries new old all most
reads_at_most kinds.StatementLine pool live queries new old all most = at_most plan_cells pool live queries new old all most

pub writes_at_most : (kind : LineKind) (pool : PoolValue) (live : List Live) (queries : List LiveQuery) (new old : ℕ) → AreLiveFor pool live queries → new ≤ old + line_writes kind live
    → new ≤ old + announced_line_writes kind queries
writes_at_most kinds.Nothing pool live queries new old all most = most
writes_at_most kinds.RowLine pool live queries new old all most = at_most plan_writes pool live queries new old all most
writes_at_most kinds.StatementLine pool live queries new old all most = at_most plan_cells pool live queries new old all most
