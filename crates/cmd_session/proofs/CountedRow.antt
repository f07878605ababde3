-- A row that each live query refuses is counted, and answered by nothing.
use Rattle.std.proofs.Common.{◌≡◌, ℕ, zero, suc, Bool, ◌+◌, ◌<◌, ◌≤◌, ◌^◌, true, nat_lt, lt-ltb, ℤ, List, [], ◌∷◌, ◌++◌, All, flat_map, length, Ok, refl, sym, ap, ◌∙◌, subst, arith, IsTrue}
use Rattle.io_streams.specs.Sink.{SinkState, Wrote}
use Rattle.io_streams.proofs.Writing.{Wrote-nil}
use Rattle.exec_query.specs.Executor.{arrival}
use Rattle.sem_query.specs.Meaning.{Arrival}
use Rattle.exec_registry.specs.Concerned.{SparesStream}
use Rattle.exec_registry.specs.Live.{Live, LiveQuery, answers_of}
use Rattle.exec_registry.specs.Passed.{PassedRow, passed}
use Rattle.exec_registry.specs.Registry as registry
use Rattle.exec_registry.proofs.Passing.{passed_given, passed_keep, passed_sound, spared_rows_pass}
use Rattle.io_row_reader.specs.Open.{is_open}
use Rattle.io_row_reader.specs.Plain.{IsPlainRow}
use Rattle.sql_catalog.specs.Rows.{entry}
use Rattle.sql_catalog.specs.Streams.{KeepsDomains}
use Rattle.sql_text.specs.Tuple.{tuple_line}
use Rattle.cmd_session.specs.declared.outcome.LineOutcome.TheVariants.{Done}
use Rattle.cmd_session.specs.Answer.{plain}
use Rattle.cmd_session.specs.Lock.{open_in}
use Rattle.cmd_session.specs.Replies.{answers_to}
use Rattle.cmd_session.specs.Request.{Request, taken}
use Rattle.cmd_session.specs.Requests.{entry_request}
use Rattle.cmd_session.specs.Session.{Answered, SessionValue, IsSound, StandsFor}
use Rattle.cmd_session.specs.State.{State}
use Rattle.cmd_session.proofs.Explaining.{named_kept}
use Rattle.cmd_session.proofs.Keeping.{keeps_to_each}
use Rattle.cmd_session.proofs.Resumed.{same_request}
use Rattle.cmd_session.proofs.Short.{short_kept}
use Rattle.cmd_session.proofs.Standing.{plain_asks}

-- what is true of each session and of its live queries
pub record IsFit (k : SessionValue) : Type 0 where
  pub session : IsSound k
  pub queries : registry.IsSound k.registry.pool k.registry.live

-- the session after so many rows that were counted, and whether a row line was taken
abbrev pub session_at : SessionValue → ℕ → Bool → SessionValue
session_at k count began = record k { taken = k.taken + count; lines = k.lines + count; began = began; registry = passed count k.registry }

-- so many rows more may be given to each live query
pub given_fits : (k : SessionValue) (count : ℕ) → IsSound k → k.taken + count ≤ k.limit → All (λ (l : Live). l.executor.given + count ≤ 2 ^ 40) k.registry.live
given_fits k count sound room i d within = (let few = sound.given i d within in omega (arith, few, room, sound.limit))

-- it is one then too
pub fit_at : (k : SessionValue) (count : ℕ) (began : Bool) → IsFit k → k.taken + count ≤ k.limit → IsFit (session_at k count began)
fit_at k count began fit room = record {
  session = record {
    within = room;
    limit = fit.session.limit;
    given = passed_given count k.taken k.registry fit.session.given;
    named = named_kept k.streams k.registry.live (passed count k.registry).live fit.session.named (passed_keep count k.registry);
    short = short_kept k.streams k.registry.live (passed count k.registry).live fit.session.short (passed_keep count k.registry);
  };
  queries = passed_sound count k.registry fit.queries (given_fits k count fit.session room);
}

no_text : (r : Arrival) (queries : List LiveQuery) → All (λ (q : LiveQuery). answers_of r q ≡ []) queries → flat_map (answers_to r) queries ≡ []
no_text r [] none = refl
no_text r (q ∷ queries) none =
    let first : answers_of r q ≡ [] = none zero q (omega arith) in
    let text : answers_to r q ≡ [] = ap (λ (t : List (List ℤ)). flat_map (tuple_line q.name) t) first in
    ap (λ (t : List ℕ). t ++ flat_map (answers_to r) queries) text ∙ no_text r queries (λ i d within. none (suc i) d (omega (arith, within)))

row_passes : (k : SessionValue) (s : State) (stream : ℕ) (values : List ℤ) → IsFit k → k.taken < k.limit → SparesStream stream k.registry.live → KeepsDomains k.streams stream values → StandsFor k s
    → PassedRow k.registry (arrival stream values) (passed 1 k.registry)
row_passes k s stream values fit room spared keeps stands =
    spared_rows_pass k.registry stream values fit.queries (λ i d within. (let few = fit.session.given i d within in omega (arith, few, room, fit.session.limit))) stands.quiet spared
    (keeps_to_each k.streams stream values k.registry.live fit.session.named keeps)

-- what a line does that is such a row
pub counted_line : (s : State) (line : List ℕ) (k : SessionValue) (stream : ℕ) (values : List ℤ) (seen : SinkState) → IsFit k → k.taken < k.limit → SparesStream stream k.registry.live → length line ≤ 1024 → IsPlainRow k.streams line stream values
    → IsTrue (is_open (open_in k.lock) stream) → StandsFor k s → Answered Done s line (session_at k 1 true) seen seen
counted_line s line k stream values seen fit room spared short row opens h =
    let r : Arrival = record { stream = stream; values = values } in
    let request : Request = taken stream values in
    let pass = row_passes k s stream values fit room spared row.domains h in
    let asks : request ≡ entry_request (nat_lt k.taken k.limit) (Ok (entry stream values)) = ap (λ b. entry_request b (Ok (entry stream values))) (sym (lt-ltb _ _ room)) in
    record {
      request = entry_request (nat_lt k.taken k.limit) (Ok (entry stream values));
      asks = plain_asks k s line stream values short h row opens;
      does = same_request Done s request (entry_request (nat_lt k.taken k.limit) (Ok (entry stream values))) (session_at k 1 true) seen seen asks
          (record {
            answer = plain request;
            settles = refl;
            stands = record {
              limit = h.limit;
              streams = h.streams;
              queries = pass.stands s.queries h.queries;
              quiet = pass.quiet;
              taken = ap (λ n. n + 1) h.taken;
              lines = ap (λ n. n + 1) h.lines;
              began = refl;
              lock = h.lock;
              pages = h.pages;
            };
            reply = subst (λ t. Wrote seen seen t) (sym (no_text r s.queries (pass.none s.queries h.queries))) (Wrote-nil seen);
          });
    }
