-- The sections of a statement: which states belong together.
use Rattle.std.specs.Prelude.{Bool, true, false}
use Rattle.sql_parser.specs.declared.transitions.State.{State}
use Rattle.sql_parser.specs.declared.transitions.State.TheVariants.{Start, AfterCreate, AfterShared, AfterCompact, StreamName, OpenColumns, ColumnName, AfterColumn, DomainLow, FirstPoint, SecondPoint, DomainHigh, AfterDomain, QueryName, QueryAs, QuerySelect, FirstSelected, SelectedStream, SelectedPoint, SelectedColumn, AfterSelected, FromName, AfterFrom, AtomLeft, LeftPoint, LeftColumn, ColumnOp, IntegerOp, RightAny, RightStream, RightPoint, RightColumn, AfterAtom, AfterResume, ResumeWhat, GivenRows, CellIndex, CellContent, TupleValue, AfterValue, AfterLock, AfterLockKey, LockStream, AfterLockStream, UnlockKey, ExplainName, AfterDrop, DropName, Complete, Ended}

-- at the beginning of a statement
abbrev pub is_begun : State → Bool
is_begun Start = true
is_begun AfterCreate = true
is_begun AfterShared = true
is_begun AfterCompact = true
is_begun _ = false

-- among the columns of a stream
abbrev pub is_in_columns : State → Bool
is_in_columns StreamName = true
is_in_columns OpenColumns = true
is_in_columns ColumnName = true
is_in_columns AfterColumn = true
is_in_columns _ = false

-- in the domain of a column
abbrev pub is_in_domain : State → Bool
is_in_domain DomainLow = true
is_in_domain FirstPoint = true
is_in_domain SecondPoint = true
is_in_domain DomainHigh = true
is_in_domain AfterDomain = true
is_in_domain _ = false

-- between the name of a query and what it selects
abbrev pub is_in_query : State → Bool
is_in_query QueryName = true
is_in_query QueryAs = true
is_in_query QuerySelect = true
is_in_query FirstSelected = true
is_in_query _ = false

-- among the selected columns and the streams of a query
abbrev pub is_in_select : State → Bool
is_in_select SelectedStream = true
is_in_select SelectedPoint = true
is_in_select SelectedColumn = true
is_in_select AfterSelected = true
is_in_select FromName = true
is_in_select AfterFrom = true
is_in_select _ = false

-- on the left of a comparison, or at its operator
abbrev pub is_on_left : State → Bool
is_on_left AtomLeft = true
is_on_left LeftPoint = true
is_on_left LeftColumn = true
is_on_left ColumnOp = true
is_on_left IntegerOp = true
is_on_left _ = false

-- on the right of a comparison, or behind it
abbrev pub is_on_right : State → Bool
is_on_right RightAny = true
is_on_right RightStream = true
is_on_right RightPoint = true
is_on_right RightColumn = true
is_on_right AfterAtom = true
is_on_right _ = false

-- in a line that sets what is gone on from
abbrev pub is_in_resume : State → Bool
is_in_resume AfterResume = true
is_in_resume ResumeWhat = true
is_in_resume GivenRows = true
is_in_resume CellIndex = true
is_in_resume CellContent = true
is_in_resume TupleValue = true
is_in_resume AfterValue = true
is_in_resume _ = false

-- in LOCK and UNLOCK
abbrev pub is_in_lock : State → Bool
is_in_lock AfterLock = true
is_in_lock AfterLockKey = true
is_in_lock LockStream = true
is_in_lock AfterLockStream = true
is_in_lock UnlockKey = true
is_in_lock _ = false

-- in EXPLAIN and DROP, or at the end of a statement
abbrev pub is_at_end : State → Bool
is_at_end ExplainName = true
is_at_end AfterDrop = true
is_at_end DropName = true
is_at_end Complete = true
is_at_end Ended = true
is_at_end _ = false

-- in a query
abbrev pub is_of_query : State → Bool
is_of_query QueryName = true
is_of_query QueryAs = true
is_of_query QuerySelect = true
is_of_query FirstSelected = true
is_of_query SelectedStream = true
is_of_query SelectedPoint = true
is_of_query SelectedColumn = true
is_of_query AfterSelected = true
is_of_query FromName = true
is_of_query AfterFrom = true
is_of_query AtomLeft = true
is_of_query LeftPoint = true
is_of_query LeftColumn = true
is_of_query ColumnOp = true
is_of_query IntegerOp = true
is_of_query RightAny = true
is_of_query RightStream = true
is_of_query RightPoint = true
is_of_query RightColumn = true
is_of_query AfterAtom = true
is_of_query _ = false
