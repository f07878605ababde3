-- What a line comes to.
use Rattle.std.specs.Prelude.{ℕ, Bool, List}
use Rattle.sem_query.specs.declared.plan.Plan.{Plan}
use Rattle.sem_query.specs.Query.{QueryValue}
use Rattle.sem_query.specs.Verdict.{Verdict}
use Rattle.cmd_session.specs.Request.{Request}

-- What a line comes to: what it asks for, where no verdict is due; or the query of this name is live, with shared cells or without,
-- and with this plan; or it is refused by this verdict. Reply and next state follow from this and the state before.
pub data Answer : Type 0 where
  plain : Request → Answer
  registered : List ℕ → QueryValue → Bool → Plan → Answer
  decided : List ℕ → QueryValue → Verdict → Answer
