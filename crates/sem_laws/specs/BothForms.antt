-- Compact queries beside the same queries that are not compact.
use Rattle.std.specs.Prelude.{◌≡◌, false, List}
use Rattle.sem_query.specs.Query.{QueryValue}
use Rattle.sem_query.specs.Meaning.{Arrival, answers, new_answers}

-- the same query, not compact
abbrev pub plain : QueryValue → QueryValue
plain q = record q { compact = false }

-- both forms of a query give the same answers to every history: what is answered is said of a query whether it is compact or not
abbrev pub BothFormsAnswerAlike : Type 0
BothFormsAnswerAlike =
    (q : QueryValue) (history : List Arrival) (r : Arrival) → (answers q history ≡ answers (plain q) history) × (new_answers q history r ≡ new_answers (plain q) history r)
