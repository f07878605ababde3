-- What a line does that sets what a live query goes on from.
use Rattle.std.specs.Prelude.{◌≡◌, ℕ, Bool, List, [], if◌then◌else◌, Option, Some, None}
use Rattle.std.specs.declared.result.Result.{Result}
use Rattle.std.specs.declared.result.Result.TheVariants.{Ok, Err}
use Rattle.sem_query.specs.Bases.{Base}
use Rattle.exec_registry.specs.Live.{LiveQuery}
use Rattle.exec_registry.specs.Registry.{RegistryValue}
use Rattle.exec_registry.specs.Registry as registry
use Rattle.cmd_session.specs.Request.{Request, based, refused}
use Rattle.cmd_session.specs.State.{State, set_base, next_by, one_line_more}
use Rattle.cmd_session.specs.Answer.{plain}
use Rattle.cmd_session.specs.Answers.{Settles}
use Rattle.cmd_session.specs.Replies.{reply_by}
use Rattle.cmd_session.specs.Session.{SessionValue, StandsFor}
use Rattle.sql_replies.specs.declared.refusal.Refusal.{Refusal}
use Rattle.sql_replies.specs.declared.refusal.Refusal.TheVariants.{UnknownQuery, Late}

-- the registry stands for the live queries of a state, and a mark says whether a row line was taken
pub record IsStanding (r : RegistryValue) (mark : Bool) (s : State) : Type 0 where
  pub queries : registry.StandsFor r s.queries
  pub began : mark ≡ s.began

-- the place of the live query that a line sets something of, where it was found and no row line was taken
abbrev pub place_to_set : Bool → Option ℕ → Result ℕ Refusal
place_to_set began None = Err UnknownQuery
place_to_set began (Some place) = if began then Err Late else Ok place

-- a live query goes on from another base, as the line asks
pub record IsSet (request : Request) (queries : List LiveQuery) (new : RegistryValue) : Type 0 where
  pub name : List ℕ
  pub base : Base
  pub asks : request ≡ based name base
  pub stands : registry.StandsFor new (set_base name base queries)

-- what such a line did: a live query goes on from another base; or a word refuses the line, and all is as before
abbrev pub Sets : {T : Type 0} → Result T Refusal → Request → List LiveQuery → RegistryValue → RegistryValue → Type 0
Sets (Ok x) request queries old new = IsSet request queries new
Sets (Err word) request queries old new = (request ≡ refused word) × (new ≡ old)

-- a line is settled that asked so: it comes to what it asks for, without a reply, and the session stands for the next state; or a word
-- refuses it
abbrev pub IsSettled : {T : Type 0} → Result T Refusal → State → Request → SessionValue → Type 0
IsSettled (Ok x) s request new = Settles s request (plain request) × (reply_by s request ≡ []) × StandsFor new (next_by s request)
IsSettled (Err word) s request new = (request ≡ refused word) × StandsFor new (one_line_more s)
