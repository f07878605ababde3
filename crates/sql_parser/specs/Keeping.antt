-- What is kept of the parts of a statement.
use Rattle.std.specs.Prelude.{◌≡◌, ◌≤◌, ℕ, ℤ, pos, nat_lt, if◌then◌else◌, List, length, map, take, slice_range, Option, Some, None, Ok}
use Rattle.sql_text.specs.Value.{value_of, fits_i64}
use Rattle.sql_parser.specs.declared.transitions.State.{State}
use Rattle.sql_parser.specs.declared.transitions.State.TheVariants.{Start}
use Rattle.sql_parser.specs.Syntax.{lexemes}
use Rattle.sql_lexer.specs.declared.token.Token.{Token}
use Rattle.sql_lexer.specs.Tokens.{kind_of}
use Rattle.sql_parser.specs.declared.transitions.Action.{Action}
use Rattle.sql_parser.specs.declared.transitions.Action.TheVariants as actions
use Rattle.sql_catalog.specs.declared.column.ColumnDef.{ColumnDef}
use Rattle.sql_parser.specs.declared.tree.ColumnAst.{ColumnAst}
use Rattle.sql_parser.specs.declared.tree.OperandAst.{OperandAst}
use Rattle.sql_parser.specs.declared.tree.OperandAst.TheVariants.{Column, Integer}
use Rattle.sql_parser.specs.declared.tree.AtomAst.{AtomAst}
use Rattle.sql_parser.specs.declared.draft.Draft.{Draft}
use Rattle.sql_parser.specs.declared.draft.DraftList.{DraftList}
use Rattle.sql_parser.specs.DraftSteps.{kept, or_far}
use Rattle.sql_parser.specs.Grammar.{Lexeme}
use Rattle.sql_parser.specs.Reading.{Parts, text_of, number_of, walk, no_parts}

-- the first n of a list, and whether there are more
abbrev pub keep : {X T : Type 0} → (X → T) → (n : ℕ) → List X → DraftList T n
keep f n xs = record { list = record { items = take n (map f xs) }; over = nat_lt n (length xs) }

-- a column by the names that are kept
abbrev pub kept_column : ColumnAst → ColumnAst
kept_column c = record { stream = kept c.stream; column = kept c.column }

-- an integer of 64 bits, or the greatest one
abbrev pub kept_number : ℤ → ℤ
kept_number z = if fits_i64 z then z else pos 9223372036854775807

-- a domain by the integers that are kept
abbrev pub kept_domain : Option (ℤ × ℤ) → Option (ℤ × ℤ)
kept_domain None = None
kept_domain (Some ends) = Some (kept_number ends.0, kept_number ends.1)

-- the key of a lock, as it is kept
abbrev pub kept_key : Option ℤ → Option ℤ
kept_key None = None
kept_key (Some z) = Some (kept_number z)

-- a column of a stream, as it is kept
abbrev pub kept_def : ColumnDef → ColumnDef
kept_def c = record { name = kept c.name; domain = kept_domain c.domain }

-- a side of an atom, as it is kept
abbrev pub kept_operand : OperandAst → OperandAst
kept_operand (Column c) = Column (kept_column c)
kept_operand (Integer z) = Integer (kept_number z)

-- an atom, as it is kept
abbrev pub kept_atom : AtomAst → AtomAst
kept_atom a = record { left = kept_operand a.left; op = a.op; right = kept_operand a.right }

-- what a draft keeps of the parts
abbrev pub kept_parts : Parts → Draft
kept_parts p = record {
  form = p.form;
  name = kept p.name;
  columns = keep kept_def 8 p.columns;
  column = kept p.column;
  low = kept_number p.low;
  shared = p.shared;
  compact = p.compact;
  distinct = p.distinct;
  select = keep kept_column 8 p.select;
  from = keep kept 4 p.from;
  atoms = keep kept_atom 16 p.atoms;
  stream = kept p.stream;
  left = kept_operand p.left;
  op = p.op;
  index = kept_number p.index;
  count = kept_number p.count;
  values = keep kept_number 8 p.values;
  lock_key = kept_key p.lock_key;
  lock_streams = keep kept 16 p.lock_streams;
}

-- what the text of a token has to say for an action
abbrev pub SaysFor : Action → Lexeme → List ℕ → Type 0
SaysFor actions.LeftInteger l w = or_far (value_of w) ≡ kept_number (number_of l)
SaysFor actions.AddIntegerAtom l w = or_far (value_of w) ≡ kept_number (number_of l)
SaysFor actions.RowsAre l w = or_far (value_of w) ≡ kept_number (number_of l)
SaysFor actions.IndexIs l w = or_far (value_of w) ≡ kept_number (number_of l)
SaysFor actions.CountIs l w = or_far (value_of w) ≡ kept_number (number_of l)
SaysFor actions.AddValue l w = or_far (value_of w) ≡ kept_number (number_of l)
SaysFor actions.LockKeyIs l w = or_far (value_of w) ≡ kept_number (number_of l)
SaysFor actions.Named l w = w ≡ text_of l
SaysFor actions.LowIs l w = or_far (value_of w) ≡ kept_number (number_of l)
SaysFor actions.AddBounded l w = or_far (value_of w) ≡ kept_number (number_of l)
SaysFor actions.ColumnIs l w = w ≡ text_of l
SaysFor actions.StreamIs l w = w ≡ text_of l
SaysFor actions.AddSelected l w = w ≡ text_of l
SaysFor actions.AddFrom l w = w ≡ text_of l
SaysFor actions.AddLockStream l w = w ≡ text_of l
SaysFor actions.LeftColumnIs l w = w ≡ text_of l
SaysFor actions.AddColumnAtom l w = w ≡ text_of l
SaysFor _ l w = Unit {0}

-- the token is cut out of the line, and its text is of its kind
pub record IsCut (line : List ℕ) (t : Token) : Type 0 where
  pub order : t.from ≤ t.to
  pub inside : t.to ≤ length line
  pub kind : kind_of (slice_range line t.from t.to) ≡ Some t.kind

-- the tokens lead to the state, and the draft keeps the parts that they make
pub record IsRead (line : List ℕ) (ts : List Token) (place : State) (d : Draft) : Type 0 where
  pub parts : Parts
  pub read : walk Start no_parts (lexemes line ts) ≡ Ok (place, parts)
  pub keeps : d ≡ kept_parts parts
