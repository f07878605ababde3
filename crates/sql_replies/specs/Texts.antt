-- The texts of replies: words, conditions, numbers and verdicts.
use Rattle.std.specs.Prelude.{ℕ, List, [], ◌∷◌, ◌++◌, codes, decimal}
use Rattle.sql_catalog.specs.Streams.{Shape}
use Rattle.sql_parser.specs.Resolution.{column_named}
use Rattle.sem_query.specs.declared.condition.Condition.{Condition}
use Rattle.sem_query.specs.declared.condition.Condition.TheVariants.{C1, C2, C3}
use Rattle.sem_query.specs.declared.decision.Which.{Which}
use Rattle.sem_query.specs.declared.decision.Which.TheVariants.{Parts, Cells, Answers, Work}
use Rattle.sem_query.specs.declared.plan.Numbers.{Numbers}
use Rattle.sem_query.specs.declared.plan.Plan.{Plan}
use Rattle.sem_query.specs.declared.plan.Plan.TheVariants as plans
use Rattle.sem_query.specs.Query.{QueryValue}
use Rattle.sem_query.specs.Verdict.{Verdict}
use Rattle.sem_query.specs.Verdict as verdicts
use Rattle.sql_parser.specs.Naming.{column_text}
use Rattle.sql_replies.specs.declared.refusal.Refusal.{Refusal}
use Rattle.sql_replies.specs.declared.refusal.Refusal.TheVariants.{LineTooLong, Locked, Syntax, Limit, Duplicate, TooMany, UnknownStream, UnknownColumn, SelfJoin, UnknownQuery, Late, Arity, Value, Domain, RowLimit}

abbrev pub word_text : Refusal → List ℕ
word_text LineTooLong = codes "LineTooLong"
word_text Locked = codes "Locked"
word_text Syntax = codes "Syntax"
word_text Limit = codes "Limit"
word_text Duplicate = codes "Duplicate"
word_text TooMany = codes "TooMany"
word_text UnknownStream = codes "UnknownStream"
word_text UnknownColumn = codes "UnknownColumn"
word_text SelfJoin = codes "SelfJoin"
word_text UnknownQuery = codes "UnknownQuery"
word_text Late = codes "Late"
word_text Arity = codes "Arity"
word_text Value = codes "Value"
word_text Domain = codes "Domain"
word_text RowLimit = codes "RowLimit"

abbrev pub condition_text : Condition → List ℕ
condition_text C1 = codes "C1"
condition_text C2 = codes "C2"
condition_text C3 = codes "C3"

-- a number that has a limit
abbrev pub which_text : Which → List ℕ
which_text Parts = codes "parts"
which_text Cells = codes "cells"
which_text Answers = codes "answers"
which_text Work = codes "work"

-- the reply to a lock
abbrev pub locked_text : List ℕ
locked_text = codes "ok lock" ++ 10 ∷ []

-- the reply to the line that unlocks
abbrev pub unlocked_text : List ℕ
unlocked_text = codes "ok unlock" ++ 10 ∷ []

-- the reply with the numbers that are announced
abbrev pub numbers_text : List ℕ → Numbers → List ℕ
numbers_text name n =
    codes "ok query " ++ name ++ codes " parts " ++ decimal n.parts ++ codes " cells " ++ decimal n.cells ++ codes " answers " ++ decimal n.answers ++ codes " work " ++ decimal n.work ++ 10 ∷ []

-- the reply to a query that is accepted with this plan
abbrev pub plan_text : List ℕ → Plan → List ℕ
plan_text name plans.Filter = codes "ok query " ++ name ++ codes " filter" ++ 10 ∷ []
plan_text name (plans.Parts ps numbers) = numbers_text name numbers

-- the reply with the verdict on a query that is refused, over these streams
abbrev pub verdict_text : List Shape → List ℕ → QueryValue → Verdict → List ℕ
verdict_text streams name q verdicts.filter = []
verdict_text streams name q (verdicts.violation f) =
    codes "refused " ++ name ++ codes " part " ++ decimal f.part ++ 32 ∷ condition_text f.condition ++ 32 ∷ column_text (column_named streams q.from f.attr) ++ 10 ∷ []
verdict_text streams name q (verdicts.limit which) = codes "refused " ++ name ++ codes " limit " ++ which_text which ++ 10 ∷ []
verdict_text streams name q verdicts.pool = codes "refused " ++ name ++ codes " limit pool" ++ 10 ∷ []
verdict_text streams name q (verdicts.accepted numbers) = []
