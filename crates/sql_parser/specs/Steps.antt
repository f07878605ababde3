-- Where in a statement its next token stands, and what each token there does.
use Rattle.std.specs.Prelude.{ℕ, if◌then◌else◌, List, Option, Some, None}
use Rattle.sql_text.specs.declared.key.Key.TheVariants.{CreateKey, StreamKey, QueryKey, AsKey, SelectKey, DistinctKey, FromKey, WhereKey, AndKey, ExplainKey, DropKey, InKey, SharedKey, CheckpointKey, ResumeKey}
use Rattle.sql_lexer.specs.declared.token.TokenKind.{TokenKind}
use Rattle.sql_lexer.specs.declared.token.TokenKind.TheVariants.{Word, Reserved, Integer, Comma, Point, Open, Close, Less, Equal, Greater, LessEqual, GreaterEqual, Unequal, Semi}
use Rattle.sql_parser.specs.declared.transitions.State.{State}
use Rattle.sql_parser.specs.declared.transitions.State.TheVariants.{Start, AfterCreate, AfterShared, AfterCompact, StreamName, OpenColumns, ColumnName, AfterColumn, DomainLow, FirstPoint, SecondPoint, DomainHigh, AfterDomain, QueryName, QueryAs, QuerySelect, FirstSelected, SelectedStream, SelectedPoint, SelectedColumn, AfterSelected, FromName, AfterFrom, AtomLeft, LeftPoint, LeftColumn, ColumnOp, RightAny, IntegerOp, RightStream, RightPoint, RightColumn, AfterAtom, ExplainName, AfterDrop, DropName, AfterResume, ResumeWhat, GivenRows, CellIndex, CellContent, TupleValue, AfterValue, AfterLock, AfterLockKey, LockStream, AfterLockStream, UnlockKey, Complete, Ended}
use Rattle.sql_parser.specs.declared.transitions.Action.{Action}
use Rattle.sql_parser.specs.declared.transitions.Action.TheVariants.{Nothing, BeginExplain, BeginDrop, BeginStream, BeginQuery, BeginShared, BeginCompact, BeginSharedCompact, Named, BeginColumns, ColumnIs, AddColumn, LowIs, AddBounded, BeginSelect, SetDistinct, StreamIs, AddSelected, BeginFrom, AddFrom, LeftInteger, LeftColumnIs, OpIs, AddIntegerAtom, AddColumnAtom, BeginCheckpoint, RowsAre, BeginGiven, BeginCell, IndexIs, CountIs, BeginTuple, AddValue, BeginLock, LockKeyIs, BeginTo, AddLockStream, BeginUnlock}
use Rattle.sem_query.specs.declared.atom.Op.TheVariants.{Lt, Eq, Gt, Le, Ge, Ne}
use Rattle.sql_parser.specs.Grammar.{is_compact, is_lock, is_unlock, is_to}

-- the state behind a token of this kind, and what the token adds; nothing, where no statement goes on so
abbrev pub step : State → TokenKind → Option (State × Action)
step Start (Reserved CreateKey) = Some (AfterCreate, Nothing)
step Start (Reserved ExplainKey) = Some (ExplainName, BeginExplain)
step Start (Reserved DropKey) = Some (AfterDrop, BeginDrop)
step Start (Reserved CheckpointKey) = Some (Complete, BeginCheckpoint)
step Start (Reserved ResumeKey) = Some (AfterResume, Nothing)
step AfterCreate (Reserved StreamKey) = Some (StreamName, BeginStream)
step AfterCreate (Reserved QueryKey) = Some (QueryName, BeginQuery)
step AfterCreate (Reserved SharedKey) = Some (AfterShared, Nothing)
step AfterShared (Reserved QueryKey) = Some (QueryName, BeginShared)
step AfterCompact (Reserved QueryKey) = Some (QueryName, Nothing)
step StreamName Word = Some (OpenColumns, Named)
step OpenColumns Open = Some (ColumnName, BeginColumns)
step ColumnName Word = Some (AfterColumn, ColumnIs)
step AfterColumn Comma = Some (ColumnName, AddColumn)
step AfterColumn Close = Some (Complete, AddColumn)
step AfterColumn (Reserved InKey) = Some (DomainLow, Nothing)
step DomainLow Integer = Some (FirstPoint, LowIs)
step FirstPoint Point = Some (SecondPoint, Nothing)
step SecondPoint Point = Some (DomainHigh, Nothing)
step DomainHigh Integer = Some (AfterDomain, AddBounded)
step AfterDomain Comma = Some (ColumnName, Nothing)
step AfterDomain Close = Some (Complete, Nothing)
step QueryName Word = Some (QueryAs, Named)
step QueryAs (Reserved AsKey) = Some (QuerySelect, Nothing)
step QuerySelect (Reserved SelectKey) = Some (FirstSelected, BeginSelect)
step FirstSelected (Reserved DistinctKey) = Some (SelectedStream, SetDistinct)
step FirstSelected Word = Some (SelectedPoint, StreamIs)
step SelectedStream Word = Some (SelectedPoint, StreamIs)
step SelectedPoint Point = Some (SelectedColumn, Nothing)
step SelectedColumn Word = Some (AfterSelected, AddSelected)
step AfterSelected Comma = Some (SelectedStream, Nothing)
step AfterSelected (Reserved FromKey) = Some (FromName, BeginFrom)
step FromName Word = Some (AfterFrom, AddFrom)
step AfterFrom Comma = Some (FromName, Nothing)
step AfterFrom (Reserved WhereKey) = Some (AtomLeft, Nothing)
step AfterFrom Semi = Some (Ended, Nothing)
step AtomLeft Word = Some (LeftPoint, StreamIs)
step AtomLeft Integer = Some (IntegerOp, LeftInteger)
step LeftPoint Point = Some (LeftColumn, Nothing)
step LeftColumn Word = Some (ColumnOp, LeftColumnIs)
step ColumnOp Less = Some (RightAny, OpIs Lt)
step ColumnOp Equal = Some (RightAny, OpIs Eq)
step ColumnOp Greater = Some (RightAny, OpIs Gt)
step ColumnOp LessEqual = Some (RightAny, OpIs Le)
step ColumnOp GreaterEqual = Some (RightAny, OpIs Ge)
step ColumnOp Unequal = Some (RightAny, OpIs Ne)
step RightAny Word = Some (RightPoint, StreamIs)
step RightAny Integer = Some (AfterAtom, AddIntegerAtom)
step IntegerOp Less = Some (RightStream, OpIs Lt)
step IntegerOp Equal = Some (RightStream, OpIs Eq)
step IntegerOp Greater = Some (RightStream, OpIs Gt)
step IntegerOp LessEqual = Some (RightStream, OpIs Le)
step IntegerOp GreaterEqual = Some (RightStream, OpIs Ge)
step IntegerOp Unequal = Some (RightStream, OpIs Ne)
step RightStream Word = Some (RightPoint, StreamIs)
step RightPoint Point = Some (RightColumn, Nothing)
step RightColumn Word = Some (AfterAtom, AddColumnAtom)
step AfterAtom (Reserved AndKey) = Some (AtomLeft, Nothing)
step AfterAtom Semi = Some (Ended, Nothing)
step ExplainName Word = Some (Complete, Named)
step AfterDrop (Reserved QueryKey) = Some (DropName, Nothing)
step DropName Word = Some (Complete, Named)
step AfterResume Integer = Some (Complete, RowsAre)
step AfterResume Word = Some (ResumeWhat, Named)
step ResumeWhat (Reserved AsKey) = Some (GivenRows, BeginGiven)
step ResumeWhat (Reserved FromKey) = Some (CellIndex, BeginCell)
step ResumeWhat (Reserved SelectKey) = Some (TupleValue, BeginTuple)
step GivenRows Integer = Some (Complete, CountIs)
step CellIndex Integer = Some (CellContent, IndexIs)
step CellContent Integer = Some (Complete, CountIs)
step TupleValue Integer = Some (AfterValue, AddValue)
step AfterValue Integer = Some (AfterValue, AddValue)
step AfterValue Semi = Some (Ended, Nothing)
step AfterLock Integer = Some (AfterLockKey, LockKeyIs)
step AfterLock Semi = Some (Ended, Nothing)
step AfterLockKey Semi = Some (Ended, Nothing)
step LockStream Word = Some (AfterLockStream, AddLockStream)
step AfterLockStream Comma = Some (LockStream, Nothing)
step AfterLockStream Semi = Some (Ended, Nothing)
step UnlockKey Integer = Some (Complete, CountIs)
step Complete Semi = Some (Ended, Nothing)
step _ _ = None

-- the same for a word, which is LOCK, UNLOCK, TO or COMPACT where these may stand
abbrev pub word_step : State → List ℕ → Option (State × Action)
word_step Start w = if is_lock w then Some (AfterLock, BeginLock) else (if is_unlock w then Some (UnlockKey, BeginUnlock) else None)
word_step AfterLock w = if is_to w then Some (LockStream, BeginTo) else None
word_step AfterLockKey w = if is_to w then Some (LockStream, BeginTo) else None
word_step AfterCreate w = if is_compact w then Some (AfterCompact, BeginCompact) else None
word_step AfterShared w = if is_compact w then Some (AfterCompact, BeginSharedCompact) else None
word_step place w = step place Word

-- the same for a token of this kind and text
abbrev pub step_of : State → TokenKind → List ℕ → Option (State × Action)
step_of place Word w = word_step place w
step_of place kind w = step place kind
