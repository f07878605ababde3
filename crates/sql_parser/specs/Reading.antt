-- Reading from left to right: the state, and the parts of the statement so far.
use Rattle.std.specs.Prelude.{ℕ, Bool, true, false, ℤ, pos, List, [], ◌∷◌, ◌++◌, Option, Some, None, Result, Ok, Err}
use Rattle.sql_lexer.specs.declared.token.TokenKind.{TokenKind}
use Rattle.sql_lexer.specs.declared.token.TokenKind.TheVariants as kinds
use Rattle.sql_parser.specs.declared.transitions.State.{State}
use Rattle.sql_parser.specs.declared.transitions.State.TheVariants as states
use Rattle.sql_parser.specs.declared.transitions.Action.{Action}
use Rattle.sql_parser.specs.declared.transitions.Action.TheVariants as actions
use Rattle.sem_query.specs.declared.atom.Op.{Op}
use Rattle.sem_query.specs.declared.atom.Op.TheVariants.{Lt}
use Rattle.sql_catalog.specs.declared.column.ColumnDef.{ColumnDef}
use Rattle.sql_parser.specs.declared.tree.ColumnAst.{ColumnAst}
use Rattle.sql_parser.specs.declared.tree.OperandAst.{OperandAst}
use Rattle.sql_parser.specs.declared.tree.OperandAst.TheVariants.{Column, Integer}
use Rattle.sql_parser.specs.declared.tree.AtomAst.{AtomAst}
use Rattle.sql_parser.specs.declared.tree.Statement.{Statement}
use Rattle.sql_parser.specs.declared.tree.Statement.TheVariants.{CreateStream, CreateQuery, Explain, DropQuery, Checkpoint, ResumeRows, ResumeGiven, ResumeCell, ResumeTuple, Lock, Unlock}
use Rattle.sql_parser.specs.declared.draft.Form.{Form}
use Rattle.sql_parser.specs.declared.draft.Form.TheVariants as forms
use Rattle.sql_parser.specs.Grammar.{Lexeme, word, number, key, comma, point, opening, closing, less, equal, greater, less_equal, greater_equal, unequal, semicolon, FreeWords, capitals}
use Rattle.sql_parser.specs.Steps.{step_of}

-- the statement so far, and the spelling of the free words in it
pub record Parts : Type 0 where
  pub form : Form
  pub name : List ℕ
  pub columns : List ColumnDef
  pub column : List ℕ
  pub low : ℤ
  pub shared : Bool
  pub compact : Bool
  pub spelling : FreeWords (List ℕ)
  pub distinct : Bool
  pub select : List ColumnAst
  pub from : List (List ℕ)
  pub atoms : List AtomAst
  pub stream : List ℕ
  pub left : OperandAst
  pub op : Op
  pub index : ℤ
  pub count : ℤ
  pub values : List ℤ
  pub lock_key : Option ℤ
  pub lock_streams : List (List ℕ)

-- nothing is read
abbrev pub no_parts : Parts
no_parts = record { form = forms.Explain; name = []; columns = []; column = []; low = pos 0; shared = false; compact = false; spelling = capitals; distinct = false; select = []; from = []; atoms = []; stream = []; left = Integer (pos 0); op = Lt; index = pos 0; count = pos 0; values = []; lock_key = None; lock_streams = [] }

-- the word that a token is
abbrev pub text_of : Lexeme → List ℕ
text_of (word w) = w
text_of _ = []

-- the integer that a token is
abbrev pub number_of : Lexeme → ℤ
number_of (number z) = z
number_of _ = pos 0

-- the kind of a token
abbrev pub kind_at : Lexeme → TokenKind
kind_at (word w) = kinds.Word
kind_at (number z) = kinds.Integer
kind_at (key k) = kinds.Reserved k
kind_at comma = kinds.Comma
kind_at point = kinds.Point
kind_at opening = kinds.Open
kind_at closing = kinds.Close
kind_at less = kinds.Less
kind_at equal = kinds.Equal
kind_at greater = kinds.Greater
kind_at less_equal = kinds.LessEqual
kind_at greater_equal = kinds.GreaterEqual
kind_at unequal = kinds.Unequal
kind_at semicolon = kinds.Semi

-- the column of this name in the stream that was named last
abbrev pub column_of : Parts → Lexeme → ColumnAst
column_of p l = record { stream = p.stream; column = text_of l }

-- what an action makes of the parts
abbrev pub act : Action → Lexeme → Parts → Parts
act actions.Nothing l p = p
act actions.BeginExplain l p = record p { form = forms.Explain }
act actions.BeginDrop l p = record p { form = forms.Drop }
act actions.BeginStream l p = record p { form = forms.Stream }
act actions.BeginQuery l p = record p { form = forms.Query; shared = false; compact = false }
act actions.BeginShared l p = record p { form = forms.Query; shared = true; compact = false }
act actions.BeginCompact l p = record p { form = forms.Query; shared = false; compact = true; spelling = record p.spelling { compact = text_of l } }
act actions.BeginSharedCompact l p = record p { form = forms.Query; shared = true; compact = true; spelling = record p.spelling { compact = text_of l } }
act actions.Named l p = record p { name = text_of l }
act actions.BeginColumns l p = record p { columns = [] }
act actions.ColumnIs l p = record p { column = text_of l }
act actions.AddColumn l p = record p { columns = p.columns ++ (record { name = p.column; domain = None }) ∷ [] }
act actions.LowIs l p = record p { low = number_of l }
act actions.AddBounded l p = record p { columns = p.columns ++ (record { name = p.column; domain = Some (p.low, number_of l) }) ∷ [] }
act actions.BeginSelect l p = record p { distinct = false; select = [] }
act actions.SetDistinct l p = record p { distinct = true }
act actions.StreamIs l p = record p { stream = text_of l }
act actions.AddSelected l p = record p { select = p.select ++ column_of p l ∷ [] }
act actions.BeginFrom l p = record p { from = []; atoms = [] }
act actions.AddFrom l p = record p { from = p.from ++ text_of l ∷ [] }
act actions.LeftInteger l p = record p { left = Integer (number_of l) }
act actions.LeftColumnIs l p = record p { left = Column (column_of p l) }
act (actions.OpIs o) l p = record p { op = o }
act actions.AddIntegerAtom l p = record p { atoms = p.atoms ++ (record { left = p.left; op = p.op; right = Integer (number_of l) }) ∷ [] }
act actions.AddColumnAtom l p = record p { atoms = p.atoms ++ (record { left = p.left; op = p.op; right = Column (column_of p l) }) ∷ [] }
act actions.BeginCheckpoint l p = record p { form = forms.Checkpoint }
act actions.RowsAre l p = record p { form = forms.Rows; count = number_of l }
act actions.BeginGiven l p = record p { form = forms.Given }
act actions.BeginCell l p = record p { form = forms.Cell }
act actions.IndexIs l p = record p { index = number_of l }
act actions.CountIs l p = record p { count = number_of l }
act actions.BeginTuple l p = record p { form = forms.Tuple; values = [] }
act actions.AddValue l p = record p { values = p.values ++ number_of l ∷ [] }
act actions.BeginLock l p = record p { form = forms.Lock; lock_key = None; lock_streams = []; spelling = record p.spelling { lock = text_of l } }
act actions.LockKeyIs l p = record p { lock_key = Some (number_of l) }
act actions.BeginTo l p = record p { spelling = record p.spelling { to = text_of l } }
act actions.AddLockStream l p = record p { lock_streams = p.lock_streams ++ text_of l ∷ [] }
act actions.BeginUnlock l p = record p { form = forms.Unlock; spelling = record p.spelling { unlock = text_of l } }

-- the statement of a form that the parts are
abbrev pub built : Form → Parts → Statement
built forms.Stream p = CreateStream p.name (record { items = p.columns })
built forms.Query p = CreateQuery p.name (record { compact = p.compact; distinct = p.distinct; select = record { items = p.select }; from = record { items = p.from }; atoms = record { items = p.atoms } }) p.shared
built forms.Explain p = Explain p.name
built forms.Drop p = DropQuery p.name
built forms.Checkpoint p = Checkpoint
built forms.Rows p = ResumeRows p.count
built forms.Given p = ResumeGiven p.name p.count
built forms.Cell p = ResumeCell p.name p.index p.count
built forms.Tuple p = ResumeTuple p.name (record { items = p.values })
built forms.Lock p = Lock p.lock_key (record { items = p.lock_streams })
built forms.Unlock p = Unlock p.count

-- the statement, where one may end there
abbrev pub finished : State → Parts → Option Statement
finished states.AfterFrom p = Some (built forms.Query p)
finished states.AfterAtom p = Some (built forms.Query p)
finished states.AfterValue p = Some (built forms.Tuple p)
finished states.AfterLock p = Some (built forms.Lock p)
finished states.AfterLockKey p = Some (built forms.Lock p)
finished states.AfterLockStream p = Some (built forms.Lock p)
finished states.Complete p = Some (built p.form p)
finished states.Ended p = Some (built p.form p)
finished _ p = None

-- one step, and on from there
abbrev pub walk_on : Option (State × Action) → Parts → Lexeme → List Lexeme → (State → Parts → Result (State × Parts) (List Lexeme)) → Result (State × Parts) (List Lexeme)
walk_on None p l ts on = Err (l ∷ ts)
walk_on (Some m) p l ts on = on m.0 (act m.1 l p)

-- The state and the parts after the tokens; or what is left from the first token on that begins no statement.
abbrev pub walk : State → Parts → List Lexeme → Result (State × Parts) (List Lexeme)
walk place p [] = Ok (place, p)
walk place p (l ∷ ts) = walk_on (step_of place (kind_at l) (text_of l)) p l ts (λ to q. walk to q ts)

-- whether a statement may end in a state
abbrev pub may_end : State → Bool
may_end states.AfterFrom = true
may_end states.AfterAtom = true
may_end states.AfterValue = true
may_end states.AfterLock = true
may_end states.AfterLockKey = true
may_end states.AfterLockStream = true
may_end states.Complete = true
may_end states.Ended = true
may_end _ = false
