-- What an action makes of a draft.
use Rattle.std.specs.Prelude.{ℕ, ℤ, pos, true, false, nat_lt, List, [], ◌∷◌, ◌++◌, length, Option, Some, None, if◌then◌else◌}
use Rattle.sql_text.specs.Name.{is_name}
use Rattle.sql_text.specs.Value.{value_of}
use Rattle.sql_parser.specs.declared.transitions.Action.{Action}
use Rattle.sql_parser.specs.declared.transitions.Action.TheVariants as actions
use Rattle.sql_parser.specs.declared.tree.ColumnAst.{ColumnAst}
use Rattle.sql_parser.specs.declared.tree.OperandAst.{OperandAst}
use Rattle.sql_parser.specs.declared.tree.OperandAst.TheVariants.{Column, Integer}
use Rattle.sql_parser.specs.declared.tree.AtomAst.{AtomAst}
use Rattle.sql_parser.specs.declared.tree.Statement.{Statement}
use Rattle.sql_parser.specs.declared.tree.Statement.TheVariants.{CreateStream, CreateQuery, Explain, DropQuery, Checkpoint, ResumeRows, ResumeGiven, ResumeCell, ResumeTuple, Lock, Unlock}
use Rattle.sql_parser.specs.declared.draft.Draft.{Draft}
use Rattle.sql_parser.specs.declared.draft.DraftList.{DraftList}
use Rattle.sql_parser.specs.declared.draft.Form.{Form}
use Rattle.sql_parser.specs.declared.draft.Form.TheVariants as forms

-- a word that is too long for a name is kept as `_`
abbrev pub kept : List ℕ → List ℕ
kept w = if is_name w then w else 95 ∷ []

-- an integer of more than 64 bits is kept as the greatest one
abbrev pub or_far : Option ℤ → ℤ
or_far None = pos 9223372036854775807
or_far (Some z) = z

-- one item more, where there is room
abbrev pub put : {T : Type 0} → (n : ℕ) → T → DraftList T n → DraftList T n
put n x k = if nat_lt (length k.list.items) n then record k { list = record { items = k.list.items ++ x ∷ [] } } else record k { over = true }

-- an empty list
abbrev pub no_items : {T : Type 0} {n : ℕ} → DraftList T n
no_items = record { list = record { items = [] }; over = false }

-- the column of this name in the stream that was named last
abbrev pub column_with : Draft → List ℕ → ColumnAst
column_with d w = record { stream = d.stream; column = kept w }

-- the atom that this side ends
abbrev pub atom_with : Draft → OperandAst → AtomAst
atom_with d right = record { left = d.left; op = d.op; right = right }

-- what an action makes of a draft, by the text of its token
abbrev pub drafted : Action → List ℕ → Draft → Draft
drafted actions.Nothing w d = d
drafted actions.BeginExplain w d = record d { form = forms.Explain }
drafted actions.BeginDrop w d = record d { form = forms.Drop }
drafted actions.BeginStream w d = record d { form = forms.Stream }
drafted actions.BeginQuery w d = record d { form = forms.Query; shared = false; compact = false }
drafted actions.BeginShared w d = record d { form = forms.Query; shared = true; compact = false }
drafted actions.BeginCompact w d = record d { form = forms.Query; shared = false; compact = true }
drafted actions.BeginSharedCompact w d = record d { form = forms.Query; shared = true; compact = true }
drafted actions.Named w d = record d { name = kept w }
drafted actions.BeginColumns w d = record d { columns = no_items }
drafted actions.ColumnIs w d = record d { column = kept w }
drafted actions.AddColumn w d = record d { columns = put 8 (record { name = d.column; domain = None }) d.columns }
drafted actions.LowIs w d = record d { low = or_far (value_of w) }
drafted actions.AddBounded w d = record d { columns = put 8 (record { name = d.column; domain = Some (d.low, or_far (value_of w)) }) d.columns }
drafted actions.BeginSelect w d = record d { distinct = false; select = no_items }
drafted actions.SetDistinct w d = record d { distinct = true }
drafted actions.StreamIs w d = record d { stream = kept w }
drafted actions.AddSelected w d = record d { select = put 8 (column_with d w) d.select }
drafted actions.BeginFrom w d = record d { from = no_items; atoms = no_items }
drafted actions.AddFrom w d = record d { from = put 4 (kept w) d.from }
drafted actions.LeftInteger w d = record d { left = Integer (or_far (value_of w)) }
drafted actions.LeftColumnIs w d = record d { left = Column (column_with d w) }
drafted (actions.OpIs o) w d = record d { op = o }
drafted actions.AddIntegerAtom w d = record d { atoms = put 16 (atom_with d (Integer (or_far (value_of w)))) d.atoms }
drafted actions.AddColumnAtom w d = record d { atoms = put 16 (atom_with d (Column (column_with d w))) d.atoms }
drafted actions.BeginCheckpoint w d = record d { form = forms.Checkpoint }
drafted actions.RowsAre w d = record d { form = forms.Rows; count = or_far (value_of w) }
drafted actions.BeginGiven w d = record d { form = forms.Given }
drafted actions.BeginCell w d = record d { form = forms.Cell }
drafted actions.IndexIs w d = record d { index = or_far (value_of w) }
drafted actions.CountIs w d = record d { count = or_far (value_of w) }
drafted actions.BeginTuple w d = record d { form = forms.Tuple; values = no_items }
drafted actions.AddValue w d = record d { values = put 8 (or_far (value_of w)) d.values }
drafted actions.BeginLock w d = record d { form = forms.Lock; lock_key = None; lock_streams = no_items }
drafted actions.LockKeyIs w d = record d { lock_key = Some (or_far (value_of w)) }
drafted actions.BeginTo w d = d
drafted actions.AddLockStream w d = record d { lock_streams = put 16 (kept w) d.lock_streams }
drafted actions.BeginUnlock w d = record d { form = forms.Unlock }

-- the statement of a form that a draft is
abbrev pub statement_by : Form → Draft → Statement
statement_by forms.Stream d = CreateStream d.name d.columns.list
statement_by forms.Query d = CreateQuery d.name (record { compact = d.compact; distinct = d.distinct; select = d.select.list; from = d.from.list; atoms = d.atoms.list }) d.shared
statement_by forms.Explain d = Explain d.name
statement_by forms.Drop d = DropQuery d.name
statement_by forms.Checkpoint d = Checkpoint
statement_by forms.Rows d = ResumeRows d.count
statement_by forms.Given d = ResumeGiven d.name d.count
statement_by forms.Cell d = ResumeCell d.name d.index d.count
statement_by forms.Tuple d = ResumeTuple d.name d.values.list
statement_by forms.Lock d = Lock d.lock_key d.lock_streams.list
statement_by forms.Unlock d = Unlock d.count

-- the statement that a whole draft is
abbrev pub statement_of : Draft → Statement
statement_of d = statement_by d.form d
