-- What a line of a script does to what the lines before it have made.
use Rattle.std.specs.Prelude.{◌≡◌, ℕ, ◌<◌, Bool, true, false, List, [], ◌∷◌, ◌++◌, length, IsTrue, is_some, None}
use Rattle.std.specs.declared.result.Result.{Result}
use Rattle.std.specs.declared.result.Result.TheVariants.{Ok, Err}
use Rattle.sem_query.specs.Query.{QueryValue}
use Rattle.sem_query.specs.Parts.{HasMoreParts}
use Rattle.sql_replies.specs.declared.refusal.Refusal.{Refusal}
use Rattle.sql_replies.specs.declared.refusal.Refusal.TheVariants.{Limit}
use Rattle.adv_diagnosis.specs.declared.fault.Asks.{Asks}
use Rattle.adv_diagnosis.specs.declared.fault.Asks.TheVariants as asks
use Rattle.adv_diagnosis.specs.Asked.{IsAsked}
use Rattle.adv_key_choices.specs.declared.choice.KeyedQuery.{KeyedQuery}
use Rattle.cmd_advise_split.specs.Limited.{IsKnown}
use Rattle.cmd_advise_split.specs.State.{State, empty, one_line_more, stopped, one_stream_more, one_query_more, one_query_less}

-- A query that is asked for, with shared cells or without: it has more than 4,096 parts, and its line is refused; or it is live, with the classes of its
-- columns and the limit that refuses it.
pub data TakesQuery (s : State) (name : List ℕ) (q : QueryValue) (shared : Bool) (t : State) : Type 0 where
  many : HasMoreParts q 4096 → t ≡ stopped s Limit → TakesQuery s name q shared t
  live : (keyed : KeyedQuery) → keyed.query ≡ q → keyed.shared ≡ shared → IsKnown keyed → t ≡ one_query_more s name keyed → TakesQuery s name q shared t

-- a line that asks for this; what asks for no stream and no query changes nothing
abbrev pub TakesAsks : State → Asks → State → Type 0
TakesAsks s (asks.Stream name columns) t = t ≡ one_stream_more s (record { name = name; columns = columns.items })
TakesAsks s (asks.Query name q shared) t = TakesQuery s name q shared t
TakesAsks s (asks.Drop name) t = t ≡ one_query_less s name
TakesAsks s asks.Nothing t = t ≡ one_line_more s
TakesAsks s asks.Row t = t ≡ one_line_more s
TakesAsks s asks.Explain t = t ≡ one_line_more s
TakesAsks s asks.Other t = t ≡ one_line_more s
TakesAsks s (asks.Lock key streams) t = t ≡ one_line_more s
TakesAsks s asks.Unlock t = t ≡ one_line_more s

-- a line that an open session with these streams and queries takes, or refuses by a word
abbrev pub TakesAsked : State → Result Asks Refusal → State → Type 0
TakesAsked s (Err word) t = t ≡ stopped s word
TakesAsked s (Ok asked) t = TakesAsks s asked t

-- A line: one before it is refused, and it is not looked at; or it is taken or refused as an open session does.
pub data TakesLine (s : State) (line : List ℕ) (t : State) : Type 0 where
  behind : IsTrue (is_some s.stop) → t ≡ one_line_more s → TakesLine s line t
  looked : (asked : Result Asks Refusal) → s.stop ≡ None → IsAsked s.streams s.names line asked → TakesAsked s asked t → TakesLine s line t

-- a line of which nothing is held where it is too long
abbrev pub TakesGiven : Bool → List ℕ → State → State → Type 0
TakesGiven true held s t = (line : List ℕ) → 1024 < length line → TakesLine s line t
TakesGiven false held s t = TakesLine s held t

-- what lines have made, one after another
pub data ComeTo : List (List ℕ) → State → Type 0 where
  none : ComeTo [] empty
  one_more : {lines : List (List ℕ)} {s : State} → ComeTo lines s → (line : List ℕ) → (t : State) → TakesLine s line t → ComeTo (lines ++ line ∷ []) t
