-- What taking a line comes to.
use Rattle.std.proofs.Common.{◌≡◌, ℕ, Bool, true, List, [], refl, None, Ok, Err}
use Rattle.std.specs.declared.result.Result.{Result}
use Rattle.std.specs.Result.{OnOk}
use Rattle.sql_replies.specs.declared.refusal.Refusal.TheVariants.{LineTooLong}
use Rattle.adv_diagnosis.specs.declared.fault.Asks.{Asks}
use Rattle.adv_diagnosis.specs.declared.fault.Fault.{Fault}
use Rattle.adv_diagnosis.specs.Asked.{too_long}
use Rattle.adv_diagnosis.specs.Faults.{IsDiagnosis}
use Rattle.adv_diagnosis.specs.FaultWords.{word_of}
use Rattle.cmd_advise_split.specs.State.{State, stopped, one_query_more}
use Rattle.sem_query.specs.Query.{QueryValue}
use Rattle.adv_key_choices.specs.declared.choice.KeyedQuery.{KeyedQuery}
use Rattle.cmd_advise_split.specs.Limited.{IsKnown}
use Rattle.cmd_advise_split.specs.Steps.{TakesQuery, live, TakesAsks, TakesLine, TakesGiven, looked}

-- it asks for this
pub asks_taken : {E : Type 0} (r : Result Unit E) (s t : State) (line : List ℕ) (a : Asks) → s.stop ≡ None → IsDiagnosis s.streams s.names line (Ok a) → OnOk r (TakesAsks s a t) → OnOk r (TakesLine s line t)
asks_taken (Ok done) s t line a e is took = looked (Ok a) e is.asked took
asks_taken (Err x) s t line a e is took = tt

-- it is refused
pub fault_taken : (s t : State) (line : List ℕ) (fault : Fault) → s.stop ≡ None → IsDiagnosis s.streams s.names line (Err fault) → t ≡ stopped s (word_of fault) → TakesLine s line t
fault_taken s t line fault e is took = looked (Err (word_of fault)) e is.asked took

-- it is too long
pub long_taken : (s t : State) → s.stop ≡ None → t ≡ stopped s LineTooLong → TakesGiven true [] s t
long_taken s t e took = λ line long. looked (Err LineTooLong) e (too_long long refl) took

-- a query is taken with the classes of its columns and the limit that refuses it
pub live_taken : {E : Type 0} (r : Result Unit E) (s t : State) (name : List ℕ) (q : QueryValue) (shared : Bool) (keyed : KeyedQuery) → keyed.query ≡ q → keyed.shared ≡ shared → IsKnown keyed
    → OnOk r (t ≡ one_query_more s name keyed) → OnOk r (TakesQuery s name q shared t)
live_taken (Ok done) s t name q shared keyed e f known took = live keyed e f known took
live_taken (Err x) s t name q shared keyed e f known took = tt
