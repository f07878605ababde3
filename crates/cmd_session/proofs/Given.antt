-- A line that was answered.
use Rattle.std.proofs.Common.{◌≡◌, suc, List, [], ◌∷◌, ◌++◌, map, refl, sym, ap, ◌∙◌, Ok, Err, subst, arith}
use Rattle.std.specs.declared.result.Result.{Result}
use Rattle.std.specs.List.{flat_map}
use Rattle.sql_text.specs.Tuple.{tuple_line}
use Rattle.io_streams.specs.Sink.{SinkState, Writes}
use Rattle.sem_query.specs.Meaning.{Arrival}
use Rattle.exec_pool.specs.Extents.{PoolValue}
use Rattle.exec_query.specs.Executor.{waiting_in}
use Rattle.exec_registry.specs.Live.{Live, LiveQuery, answers_of, with_row}
use Rattle.exec_registry.specs.Registry.{AreLiveFor, Wait, waiting_text}
use Rattle.cmd_session.specs.declared.outcome.LineOutcome.{LineOutcome}
use Rattle.cmd_session.specs.Request.{Request}
use Rattle.cmd_session.specs.Answer.{Answer}
use Rattle.cmd_session.specs.Answers.{Settles}
use Rattle.cmd_session.specs.State.{State, next_of}
use Rattle.cmd_session.specs.Replies.{reply_to, answers_to}
use Rattle.cmd_session.specs.Session.{SessionValue, StandsFor, Does, outcome_of}

done_as : {T E : Type 0} (written : Result T E) (s : State) (request : Request) (answer : Answer) (new : SessionValue) (before after : SinkState)
    → Settles s request answer → StandsFor new (next_of s answer) → Writes written before after (reply_to s answer) → Does (outcome_of written) s request new before after
done_as (Ok x) s request answer new before after settles stands w = record { answer = answer; settles = settles; stands = stands; reply = w }
done_as (Err x) s request answer new before after settles stands w = record { answer = answer; settles = settles; stands = stands; reply = w }

-- a reply was written, and the session stands for the next state
pub given : {T E : Type 0} (written : Result T E) (outcome : LineOutcome) (s : State) (request : Request) (answer : Answer) (new : SessionValue) (before after : SinkState)
    → outcome ≡ outcome_of written → Settles s request answer → StandsFor new (next_of s answer) → Writes written before after (reply_to s answer) → Does outcome s request new before after
given written outcome s request answer new before after o settles stands w =
    subst (λ x. Does x s request new before after) (sym o) (done_as written s request answer new before after settles stands w)

-- the reply to a row is what waits of each live query
pub row_reply : (pool : PoolValue) (live : List Live) (queries : List LiveQuery) (r : Arrival) → AreLiveFor pool live (map (with_row r) queries) → Wait live queries r
    → flat_map waiting_text live ≡ flat_map (answers_to r) queries
row_reply pool [] [] r all w = refl
row_reply pool [] (q ∷ queries) r all w = absurd (omega (arith, all.size))
row_reply pool (l ∷ live) [] r all w = absurd (omega (arith, all.size))
row_reply pool (l ∷ live) (q ∷ queries) r all w =
    let name : l.name ≡ q.name = (all.each 0 l (with_row r q) (omega arith)).name in
    let waits : waiting_in l.executor ≡ answers_of r q = w.each 0 l q (omega arith) in
    let one : waiting_text l ≡ answers_to r q = ap (λ n. flat_map (tuple_line n) (waiting_in l.executor)) name ∙ ap (flat_map (tuple_line q.name)) waits in
    let others : AreLiveFor pool live (map (with_row r) queries) = record { size = omega (arith, all.size); each = λ i c d a. all.each (suc i) c d (omega arith) } in
    let later : Wait live queries r = record { each = λ i c d a. w.each (suc i) c d (omega arith) } in
    ap (λ t. t ++ flat_map waiting_text live) one ∙ ap (λ t. answers_to r q ++ t) (row_reply pool live queries r others later)
