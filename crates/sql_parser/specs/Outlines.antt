-- What is read of a line without its lists.
use Rattle.std.specs.Prelude.{◌≡◌, ℕ, Bool, false, ◌||◌, if◌then◌else◌, List, slice_range, None, Result, Ok, Err}
use Rattle.std.specs.List.{list_any}
use Rattle.sql_text.specs.Value.{value_of}
use Rattle.sql_lexer.specs.declared.token.Token.{Token}
use Rattle.sql_lexer.specs.Tokens.{tokens}
use Rattle.sql_parser.specs.declared.parsing.ParseError.TheVariants.{Limit}
use Rattle.sql_parser.specs.declared.parsing.What.TheVariants as limits
use Rattle.sql_parser.specs.declared.transitions.State.{State}
use Rattle.sql_parser.specs.declared.transitions.State.TheVariants.{Start}
use Rattle.sql_parser.specs.declared.transitions.Action.{Action}
use Rattle.sql_parser.specs.declared.transitions.Action.TheVariants as actions
use Rattle.sql_parser.specs.declared.draft.Draft.{Draft}
use Rattle.sql_parser.specs.declared.draft.Form.{Form}
use Rattle.sql_parser.specs.declared.draft.Form.TheVariants as forms
use Rattle.sql_parser.specs.declared.head.Head.{Head}
use Rattle.sql_parser.specs.declared.outline.Outline.{Outline}
use Rattle.sql_parser.specs.declared.plain.PlainStatement.{PlainStatement}
use Rattle.sql_parser.specs.declared.plain.PlainStatement.TheVariants as plain
use Rattle.sql_parser.specs.declared.plain.PlainReading.{PlainReading}
use Rattle.sql_parser.specs.declared.plain.PlainReading.TheVariants.{Plain, Listed, Refused}
use Rattle.sql_parser.specs.declared.tree.Statement.{Statement}
use Rattle.sql_parser.specs.declared.tree.Statement.TheVariants.{Explain, DropQuery, Checkpoint, ResumeRows, ResumeGiven, ResumeCell, Unlock}
use Rattle.sql_parser.specs.DraftLimits.{is_long_token, is_wide_token}
use Rattle.sql_parser.specs.DraftSteps.{kept, or_far}
use Rattle.sql_parser.specs.Keeping.{IsRead, kept_parts}
use Rattle.sql_parser.specs.Limits.{limit_of}
use Rattle.sql_parser.specs.Reading.{no_parts}
use Rattle.sql_parser.specs.Refusal.{IsRefusal}
use Rattle.sql_parser.specs.Syntax.{IsStatement}

-- what a draft says apart from its lists
abbrev pub head_in : Draft → Head
head_in d = record { form = d.form; name = d.name; index = d.index; count = d.count }

-- what an action makes of a head, by the text of its token
abbrev pub headed : Action → List ℕ → Head → Head
headed actions.BeginExplain w h = record h { form = forms.Explain }
headed actions.BeginDrop w h = record h { form = forms.Drop }
headed actions.BeginStream w h = record h { form = forms.Stream }
headed actions.BeginQuery w h = record h { form = forms.Query }
headed actions.BeginShared w h = record h { form = forms.Query }
headed actions.BeginCompact w h = record h { form = forms.Query }
headed actions.BeginSharedCompact w h = record h { form = forms.Query }
headed actions.Named w h = record h { name = kept w }
headed actions.BeginCheckpoint w h = record h { form = forms.Checkpoint }
headed actions.RowsAre w h = record h { form = forms.Rows; count = or_far (value_of w) }
headed actions.BeginGiven w h = record h { form = forms.Given }
headed actions.BeginCell w h = record h { form = forms.Cell }
headed actions.IndexIs w h = record h { index = or_far (value_of w) }
headed actions.CountIs w h = record h { count = or_far (value_of w) }
headed actions.BeginTuple w h = record h { form = forms.Tuple }
headed actions.BeginLock w h = record h { form = forms.Lock }
headed actions.BeginUnlock w h = record h { form = forms.Unlock }
headed _ w h = h

-- nothing is read
abbrev pub no_outline : Outline
no_outline = record { state = Start; head = head_in (kept_parts no_parts); long = false; wide = false }

-- what a token of a line adds, which leads to a state by an action
abbrev pub outlined : List ℕ → Token → State → Action → Outline → Outline
outlined line t to a o = record { state = to; head = headed a (slice_range line t.from t.to) o.head; long = o.long || is_long_token t; wide = o.wide || is_wide_token line t }

-- the place at which no token begins, or else another place
abbrev pub fault_or : Result (List Token) ℕ → ℕ → ℕ
fault_or (Ok ts) at = at
fault_or (Err place) at = place

-- the tokens of the line lead to the state, and the head and the tests are those of a draft of all of them
pub record IsOutline (line : List ℕ) (o : Outline) : Type 0 where
  pub its_tokens : List Token
  pub lexed : tokens line ≡ Ok its_tokens
  pub draft : Draft
  pub read : IsRead line its_tokens o.state draft
  pub head : o.head ≡ head_in draft
  pub long : o.long ≡ list_any is_long_token its_tokens
  pub wide : o.wide ≡ list_any (is_wide_token line) its_tokens

-- the line has the outline, and the draft is that of all its tokens
abbrev pub IsDraft : List ℕ → Outline → Draft → Type 0
IsDraft line o d = (i : IsOutline line o) × (i.draft ≡ d)

-- the statement that one without lists is
abbrev pub whole_of : PlainStatement → Statement
whole_of (plain.Explain name) = Explain name
whole_of (plain.DropQuery name) = DropQuery name
whole_of plain.Checkpoint = Checkpoint
whole_of (plain.ResumeRows rows) = ResumeRows rows
whole_of (plain.ResumeGiven name rows) = ResumeGiven name rows
whole_of (plain.ResumeCell name index content) = ResumeCell name index content
whole_of (plain.Unlock key) = Unlock key

-- a statement with no integer of more than 64 bits
abbrev pub unless_wide : Bool → PlainStatement → PlainReading
unless_wide wide s = if wide then Refused (Limit limits.Value) else Plain s

-- what a line of a form is that has no word too long for a name
abbrev pub reading_by : Bool → Form → Head → PlainReading
reading_by wide forms.Explain h = Plain (plain.Explain h.name)
reading_by wide forms.Drop h = Plain (plain.DropQuery h.name)
reading_by wide forms.Checkpoint h = Plain plain.Checkpoint
reading_by wide forms.Rows h = unless_wide wide (plain.ResumeRows h.count)
reading_by wide forms.Given h = unless_wide wide (plain.ResumeGiven h.name h.count)
reading_by wide forms.Cell h = unless_wide wide (plain.ResumeCell h.name h.index h.count)
reading_by wide forms.Unlock h = unless_wide wide (plain.Unlock h.count)
reading_by wide forms.Stream h = Listed
reading_by wide forms.Query h = Listed
reading_by wide forms.Tuple h = Listed
reading_by wide forms.Lock h = Listed

-- what a line is within the grammar, by its outline
abbrev pub reading_in : Outline → PlainReading
reading_in o = if o.long then Refused (Limit limits.Name) else reading_by o.wide o.head.form o.head

-- the line is a statement without lists and within its limits, or is none that is within its limits and has no lists, or is refused
abbrev pub IsReading : List ℕ → PlainReading → Type 0
IsReading line (Plain s) = IsStatement line (whole_of s) × (limit_of (whole_of s) ≡ None)
IsReading line Listed = (s : PlainStatement) → IsStatement line (whole_of s) → limit_of (whole_of s) ≡ None → ⊥
IsReading line (Refused e) = IsRefusal line e
