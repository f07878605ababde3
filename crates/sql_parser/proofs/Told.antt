-- The tokens that lead to a place, and each step adds one.
use Rattle.std.proofs.Common.{◌≡◌, ℕ, ◌<◌, Bool, true, false, cond, List, [], ◌∷◌, ◌++◌, length, map, Option, Some, None, ℤ, IfSome, refl, ap, sym, ◌∙◌, append_assoc, arith, inl, inr, length-append, append-nil, subst}
use Rattle.std.specs.List.{AllByRecursion}
use Rattle.std.proofs.lemmas.List.{map-append}
use Rattle.sql_text.specs.declared.key.Key.TheVariants.{CreateKey, StreamKey, QueryKey, AsKey, SelectKey, DistinctKey, FromKey, WhereKey, AndKey, ExplainKey, DropKey, InKey, SharedKey, CheckpointKey, ResumeKey}
use Rattle.sql_parser.specs.declared.transitions.State.{State}
use Rattle.sql_parser.specs.declared.transitions.State.TheVariants.{Start, AfterCreate, AfterShared, AfterCompact, StreamName, OpenColumns, ColumnName, AfterColumn, DomainLow, FirstPoint, SecondPoint, DomainHigh, AfterDomain, QueryName, QueryAs, QuerySelect, FirstSelected, SelectedStream, SelectedPoint, SelectedColumn, AfterSelected, FromName, AfterFrom, AtomLeft, LeftPoint, LeftColumn, ColumnOp, RightAny, IntegerOp, RightStream, RightPoint, RightColumn, AfterAtom, ExplainName, AfterDrop, DropName, AfterResume, ResumeWhat, GivenRows, CellIndex, CellContent, TupleValue, AfterValue, AfterLock, AfterLockKey, LockStream, AfterLockStream, UnlockKey, Complete, Ended}
use Rattle.sql_parser.specs.declared.transitions.Action.TheVariants.{BeginCompact, BeginSharedCompact, BeginLock, BeginTo, BeginUnlock}
use Rattle.sql_catalog.specs.declared.column.ColumnDef.{ColumnDef}
use Rattle.sql_parser.specs.declared.tree.OperandAst.TheVariants.{Column, Integer}
use Rattle.sql_parser.specs.declared.tree.AtomAst.{AtomAst}
use Rattle.sql_parser.specs.declared.tree.SelectAst.{SelectAst}
use Rattle.sql_parser.specs.Steps.{step_of}
use Rattle.sql_parser.specs.Grammar.{Lexeme, word, number, key, comma, point, opening, closing, less, equal, greater, less_equal, greater_equal, unequal, semicolon, separated, name_tokens, coldef_tokens, column_tokens, operand_tokens, op_token, atom_tokens, where_tokens, distinct_tokens, shared_tokens, compact_tokens, key_tokens, to_tokens, tokens_with, written, is_compact, is_lock, is_unlock, is_to, IsColumn, HasColumn, IsWhole}
use Rattle.sql_parser.specs.declared.draft.Form.{Form}
use Rattle.sql_parser.specs.declared.draft.Form.TheVariants as forms
use Rattle.sql_parser.specs.Reading.{Parts, act, text_of, kind_at, built}
use Rattle.sql_parser.proofs.Compact.{where_either}
use Rattle.sql_parser.proofs.Said.{select_grouped}

-- each of xs as its tokens, and a separator behind each
abbrev pub ended_by : {X : Type 0} → Lexeme → (X → List Lexeme) → List X → List Lexeme
ended_by sep f [] = []
ended_by sep f (x ∷ xs) = f x ++ sep ∷ ended_by sep f xs

-- one more, at the end
pub separated_more : {X : Type 0} (sep : Lexeme) (f : X → List Lexeme) (xs : List X) (y : X) → separated sep f (xs ++ y ∷ []) ≡ ended_by sep f xs ++ f y
separated_more sep f [] y = refl
separated_more sep f (x ∷ []) y = sym (append_assoc (f x) (sep ∷ []) (f y))
separated_more sep f (x ∷ z ∷ xs) y = ap (λ r. f x ++ sep ∷ r) (separated_more sep f (z ∷ xs) y) ∙ sym (append_assoc (f x) (sep ∷ ended_by sep f (z ∷ xs)) (f y))

-- one more, and a separator behind it
pub ended_more : {X : Type 0} (sep : Lexeme) (f : X → List Lexeme) (xs : List X) (y : X) → ended_by sep f (xs ++ y ∷ []) ≡ ended_by sep f xs ++ (f y ++ sep ∷ [])
ended_more sep f [] y = refl
ended_more sep f (x ∷ xs) y = ap (λ r. f x ++ sep ∷ r) (ended_more sep f xs y) ∙ sym (append_assoc (f x) (sep ∷ ended_by sep f xs) (f y ++ sep ∷ []))

-- a separator behind the last
pub ended_last : {X : Type 0} (sep : Lexeme) (f : X → List Lexeme) (xs : List X) → 0 < length xs → separated sep f xs ++ sep ∷ [] ≡ ended_by sep f xs
ended_last sep f [] h = absurd (omega arith)
ended_last sep f (x ∷ []) h = refl
ended_last sep f (x ∷ z ∷ xs) h = append_assoc (f x) (sep ∷ separated sep f (z ∷ xs)) (sep ∷ []) ∙ ap (λ r. f x ++ sep ∷ r) (ended_last sep f (z ∷ xs) (omega arith))

abbrev pub stream_head : Parts → List Lexeme
stream_head p = key CreateKey ∷ key StreamKey ∷ word p.name ∷ opening ∷ []

abbrev pub create_head : Parts → List Lexeme
create_head p = key CreateKey ∷ shared_tokens p.shared ++ compact_tokens (word p.spelling.compact ∷ []) p.compact

abbrev pub query_head : Parts → List Lexeme
query_head p = create_head p ++ key QueryKey ∷ word p.name ∷ key AsKey ∷ key SelectKey ∷ distinct_tokens p.distinct

abbrev pub from_head : Parts → List Lexeme
from_head p = query_head p ++ separated comma column_tokens p.select ++ key FromKey ∷ []

abbrev pub where_head : Parts → List Lexeme
where_head p = from_head p ++ separated comma name_tokens p.from ++ key WhereKey ∷ ended_by (key AndKey) atom_tokens p.atoms

abbrev pub where_all : Parts → List Lexeme
where_all p = from_head p ++ separated comma name_tokens p.from ++ where_tokens p.atoms

abbrev pub tuple_head : Parts → List Lexeme
tuple_head p = key ResumeKey ∷ word p.name ∷ key SelectKey ∷ []

abbrev pub lock_head : Parts → List Lexeme
lock_head p = word p.spelling.lock ∷ key_tokens p.lock_key

abbrev pub to_head : Parts → List Lexeme
to_head p = lock_head p ++ word p.spelling.to ∷ []

-- the tokens before a place
abbrev pub told : State → Parts → List Lexeme
told Start p = []
told AfterCreate p = key CreateKey ∷ []
told AfterShared p = key CreateKey ∷ key SharedKey ∷ []
told AfterCompact p = create_head p
told StreamName p = key CreateKey ∷ key StreamKey ∷ []
told OpenColumns p = key CreateKey ∷ key StreamKey ∷ word p.name ∷ []
told ColumnName p = stream_head p ++ ended_by comma coldef_tokens p.columns
told AfterColumn p = stream_head p ++ ended_by comma coldef_tokens p.columns ++ word p.column ∷ []
told DomainLow p = stream_head p ++ ended_by comma coldef_tokens p.columns ++ word p.column ∷ key InKey ∷ []
told FirstPoint p = stream_head p ++ ended_by comma coldef_tokens p.columns ++ word p.column ∷ key InKey ∷ number p.low ∷ []
told SecondPoint p = stream_head p ++ ended_by comma coldef_tokens p.columns ++ word p.column ∷ key InKey ∷ number p.low ∷ point ∷ []
told DomainHigh p = stream_head p ++ ended_by comma coldef_tokens p.columns ++ word p.column ∷ key InKey ∷ number p.low ∷ point ∷ point ∷ []
told AfterDomain p = stream_head p ++ separated comma coldef_tokens p.columns
told QueryName p = create_head p ++ key QueryKey ∷ []
told QueryAs p = create_head p ++ key QueryKey ∷ word p.name ∷ []
told QuerySelect p = create_head p ++ key QueryKey ∷ word p.name ∷ key AsKey ∷ []
told FirstSelected p = create_head p ++ key QueryKey ∷ word p.name ∷ key AsKey ∷ key SelectKey ∷ []
told SelectedStream p = query_head p ++ ended_by comma column_tokens p.select
told SelectedPoint p = query_head p ++ ended_by comma column_tokens p.select ++ word p.stream ∷ []
told SelectedColumn p = query_head p ++ ended_by comma column_tokens p.select ++ word p.stream ∷ point ∷ []
told AfterSelected p = query_head p ++ separated comma column_tokens p.select
told FromName p = from_head p ++ ended_by comma name_tokens p.from
told AfterFrom p = from_head p ++ separated comma name_tokens p.from
told AtomLeft p = where_head p
told LeftPoint p = where_head p ++ word p.stream ∷ []
told LeftColumn p = where_head p ++ word p.stream ∷ point ∷ []
told ColumnOp p = where_head p ++ operand_tokens p.left
told IntegerOp p = where_head p ++ operand_tokens p.left
told RightAny p = where_head p ++ operand_tokens p.left ++ op_token p.op ∷ []
told RightStream p = where_head p ++ operand_tokens p.left ++ op_token p.op ∷ []
told RightPoint p = where_head p ++ operand_tokens p.left ++ op_token p.op ∷ word p.stream ∷ []
told RightColumn p = where_head p ++ operand_tokens p.left ++ op_token p.op ∷ word p.stream ∷ point ∷ []
told AfterAtom p = where_all p
told ExplainName p = key ExplainKey ∷ []
told AfterDrop p = key DropKey ∷ []
told DropName p = key DropKey ∷ key QueryKey ∷ []
told AfterResume p = key ResumeKey ∷ []
told ResumeWhat p = key ResumeKey ∷ word p.name ∷ []
told GivenRows p = key ResumeKey ∷ word p.name ∷ key AsKey ∷ []
told CellIndex p = key ResumeKey ∷ word p.name ∷ key FromKey ∷ []
told CellContent p = key ResumeKey ∷ word p.name ∷ key FromKey ∷ number p.index ∷ []
told TupleValue p = tuple_head p
told AfterValue p = tuple_head p ++ map number p.values
told AfterLock p = word p.spelling.lock ∷ []
told AfterLockKey p = lock_head p
told LockStream p = to_head p ++ ended_by comma name_tokens p.lock_streams
told AfterLockStream p = to_head p ++ separated comma name_tokens p.lock_streams
told UnlockKey p = word p.spelling.unlock ∷ []
told Complete p = tokens_with (written p.spelling) (built p.form p)
told Ended p = tokens_with (written p.spelling) (built p.form p) ++ semicolon ∷ []

-- what holds of the parts at a place
pub record Selected (p : Parts) : Type 0 where
  pub form : p.form ≡ forms.Query
  pub select : 0 < length p.select

pub record Sourced (p : Parts) : Type 0 where
  pub form : p.form ≡ forms.Query
  pub select : 0 < length p.select
  pub from : 0 < length p.from
  pub atoms : AllByRecursion HasColumn p.atoms

abbrev pub Fine : State → Parts → Type 0
Fine StreamName p = p.form ≡ forms.Stream
Fine OpenColumns p = p.form ≡ forms.Stream
Fine ColumnName p = p.form ≡ forms.Stream
Fine AfterColumn p = p.form ≡ forms.Stream
Fine DomainLow p = p.form ≡ forms.Stream
Fine FirstPoint p = p.form ≡ forms.Stream
Fine SecondPoint p = p.form ≡ forms.Stream
Fine DomainHigh p = p.form ≡ forms.Stream
Fine AfterDomain p = (p.form ≡ forms.Stream) × (0 < length p.columns)
Fine ExplainName p = p.form ≡ forms.Explain
Fine AfterDrop p = p.form ≡ forms.Drop
Fine DropName p = p.form ≡ forms.Drop
Fine GivenRows p = p.form ≡ forms.Given
Fine CellIndex p = p.form ≡ forms.Cell
Fine CellContent p = p.form ≡ forms.Cell
Fine TupleValue p = (p.form ≡ forms.Tuple) × (p.values ≡ [])
Fine AfterValue p = (p.form ≡ forms.Tuple) × (0 < length p.values)
Fine AfterLock p = (p.form ≡ forms.Lock) × (p.lock_key ≡ None) × (p.lock_streams ≡ [])
Fine AfterLockKey p = (p.form ≡ forms.Lock) × (p.lock_streams ≡ [])
Fine LockStream p = p.form ≡ forms.Lock
Fine AfterLockStream p = (p.form ≡ forms.Lock) × (0 < length p.lock_streams)
Fine UnlockKey p = p.form ≡ forms.Unlock
Fine Complete p = IsWhole (built p.form p)
Fine Ended p = IsWhole (built p.form p)
Fine AfterCompact p = p.form ≡ forms.Query
Fine QueryName p = p.form ≡ forms.Query
Fine QueryAs p = p.form ≡ forms.Query
Fine QuerySelect p = p.form ≡ forms.Query
Fine FirstSelected p = (p.form ≡ forms.Query) × (p.distinct ≡ false) × (p.select ≡ [])
Fine SelectedStream p = p.form ≡ forms.Query
Fine SelectedPoint p = p.form ≡ forms.Query
Fine SelectedColumn p = p.form ≡ forms.Query
Fine AfterSelected p = Selected p
Fine FromName p = Selected p × (p.atoms ≡ [])
Fine AfterFrom p = Sourced p × (p.atoms ≡ [])
Fine AtomLeft p = Sourced p
Fine LeftPoint p = Sourced p
Fine LeftColumn p = Sourced p
Fine ColumnOp p = Sourced p × IsColumn p.left
Fine RightAny p = Sourced p × IsColumn p.left
Fine IntegerOp p = Sourced p
Fine RightStream p = Sourced p
Fine RightPoint p = Sourced p
Fine RightColumn p = Sourced p
Fine AfterAtom p = Sourced p × (0 < length p.atoms)
Fine _ p = Unit {0}

-- one more atom, and a separator behind the last
where_more : (atoms : List AtomAst) (a : AtomAst) → where_tokens (atoms ++ a ∷ []) ≡ key WhereKey ∷ ended_by (key AndKey) atom_tokens atoms ++ atom_tokens a
where_more [] a = refl
where_more (x ∷ xs) a = ap (λ r. key WhereKey ∷ r) (separated_more (key AndKey) atom_tokens (x ∷ xs) a)

where_last : (atoms : List AtomAst) → 0 < length atoms → where_tokens atoms ++ key AndKey ∷ [] ≡ key WhereKey ∷ ended_by (key AndKey) atom_tokens atoms
where_last [] h = absurd (omega arith)
where_last (x ∷ xs) h = ap (λ r. key WhereKey ∷ r) (ended_last (key AndKey) atom_tokens (x ∷ xs) h)

all_more : {X : Type 0} (P : X → Type 0) (xs : List X) (x : X) → AllByRecursion P xs → P x → AllByRecursion P (xs ++ x ∷ [])
all_more P [] x h here = (here, tt)
all_more P (y ∷ ys) x h here = (h.0, all_more P ys x h.1 here)

more_than_none : {X : Type 0} (xs : List X) (x : X) → 0 < length (xs ++ x ∷ [])
more_than_none xs x = omega (arith, length-append xs (x ∷ []))

-- what is built is spelled by what was told
regroup : (a b c d e f g : List Lexeme) → a ++ (b ++ (c ++ (d ++ (e ++ (f ++ g))))) ≡ ((((a ++ (b ++ c)) ++ d) ++ e) ++ f) ++ g
regroup a b c d e f g = simp append_assoc

pub query_spelled : (p : Parts) → tokens_with (written p.spelling) (built forms.Query p) ≡ where_all p
query_spelled p =
    let s : SelectAst = record { compact = p.compact; distinct = p.distinct; select = record { items = p.select }; from = record { items = p.from }; atoms = record { items = p.atoms } } in
    ap (λ ls. create_head p ++ (key QueryKey ∷ word p.name ∷ key AsKey ∷ ls)) (select_grouped s)
    ∙ regroup (create_head p) (key QueryKey ∷ word p.name ∷ key AsKey ∷ key SelectKey ∷ []) (distinct_tokens p.distinct) (separated comma column_tokens p.select) (key FromKey ∷ []) (separated comma name_tokens p.from) (where_tokens p.atoms)

pub query_told : (p : Parts) → p.form ≡ forms.Query → tokens_with (written p.spelling) (built p.form p) ≡ where_all p
query_told p f = ap (λ m. tokens_with (written p.spelling) (built m p)) f ∙ query_spelled p

pub none_told : (p : Parts) → p.atoms ≡ [] → where_all p ≡ from_head p ++ separated comma name_tokens p.from
none_told p e = ap (λ atoms. from_head p ++ separated comma name_tokens p.from ++ where_tokens atoms) e ∙ append-nil (from_head p ++ separated comma name_tokens p.from)

pub whole_query : (p : Parts) → Sourced p → IsWhole (built p.form p)
whole_query p s = let P : Form → Type 0 = λ m. IsWhole (built m p) in subst P (sym s.form) (s.select, s.from, s.atoms)

pub no_atoms : (p : Parts) → p.atoms ≡ [] → AllByRecursion HasColumn p.atoms
no_atoms p e = let P : List AtomAst → Type 0 = λ atoms. AllByRecursion HasColumn atoms in subst P (sym e) tt

-- the column that was named last, with a domain or with none
abbrev pub column_of : Parts → Option (ℤ × ℤ) → ColumnDef
column_of p domain = record { name = p.column; domain = domain }

-- a stream whose columns are all there
stream_told : (p : Parts) (columns : List ColumnDef) → p.form ≡ forms.Stream → tokens_with (written p.spelling) (built p.form (record p { columns = columns })) ≡ stream_head p ++ (separated comma coldef_tokens columns ++ closing ∷ [])
stream_told p columns f = ap (λ m. tokens_with (written p.spelling) (built m (record p { columns = columns }))) f

whole_stream : (p : Parts) (columns : List ColumnDef) → p.form ≡ forms.Stream → 0 < length columns → IsWhole (built p.form (record p { columns = columns }))
whole_stream p columns f some = let P : Form → Type 0 = λ m. IsWhole (built m (record p { columns = columns })) in subst P (sym f) some

-- a line of a checkpoint with one integer, or with two
given_told : (p : Parts) (z : ℤ) → p.form ≡ forms.Given → (tokens_with (written p.spelling) (built p.form (record p { count = z })) ≡ key ResumeKey ∷ word p.name ∷ key AsKey ∷ number z ∷ []) × IsWhole (built p.form (record p { count = z }))
given_told p z f = let P : Form → Type 0 = λ m. IsWhole (built m (record p { count = z })) in (ap (λ m. tokens_with (written p.spelling) (built m (record p { count = z }))) f, subst P (sym f) tt)

cell_told : (p : Parts) (z : ℤ) → p.form ≡ forms.Cell → (tokens_with (written p.spelling) (built p.form (record p { count = z })) ≡ key ResumeKey ∷ word p.name ∷ key FromKey ∷ number p.index ∷ number z ∷ []) × IsWhole (built p.form (record p { count = z }))
cell_told p z f = let P : Form → Type 0 = λ m. IsWhole (built m (record p { count = z })) in (ap (λ m. tokens_with (written p.spelling) (built m (record p { count = z }))) f, subst P (sym f) tt)

-- the tuple of a checkpoint
pub tuple_told : (p : Parts) → p.form ≡ forms.Tuple → tokens_with (written p.spelling) (built p.form p) ≡ tuple_head p ++ map number p.values
tuple_told p f = ap (λ m. tokens_with (written p.spelling) (built m p)) f

pub whole_tuple : (p : Parts) → p.form ≡ forms.Tuple → 0 < length p.values → IsWhole (built p.form p)
whole_tuple p f some = let P : Form → Type 0 = λ m. IsWhole (built m p) in subst P (sym f) some

-- a lock with its key and streams
lock_grouped : (p : Parts) (names : List (List ℕ)) → 0 < length names → lock_head p ++ to_tokens (word p.spelling.to ∷ []) names ≡ to_head p ++ separated comma name_tokens names
lock_grouped p [] h = absurd (omega arith)
lock_grouped p (n ∷ ns) h = sym (append_assoc (lock_head p) (word p.spelling.to ∷ []) (separated comma name_tokens (n ∷ ns)))

pub lock_spelled : (p : Parts) → 0 < length p.lock_streams → tokens_with (written p.spelling) (built forms.Lock p) ≡ to_head p ++ separated comma name_tokens p.lock_streams
lock_spelled p h = lock_grouped p p.lock_streams h

-- a lock without streams
pub keyed_spelled : (p : Parts) → p.lock_streams ≡ [] → tokens_with (written p.spelling) (built forms.Lock p) ≡ lock_head p
keyed_spelled p e = ap (λ names. lock_head p ++ to_tokens (word p.spelling.to ∷ []) names) e ∙ append-nil (lock_head p)

-- a lock of neither
pub bare_spelled : (p : Parts) → p.lock_key ≡ None → p.lock_streams ≡ [] → tokens_with (written p.spelling) (built forms.Lock p) ≡ word p.spelling.lock ∷ []
bare_spelled p k e = keyed_spelled p e ∙ ap (λ o. word p.spelling.lock ∷ key_tokens o) k

lock_ended : (p : Parts) (ls : List Lexeme) → p.form ≡ forms.Lock → tokens_with (written p.spelling) (built forms.Lock p) ≡ ls → (tokens_with (written p.spelling) (built p.form p) ++ semicolon ∷ [] ≡ ls ++ semicolon ∷ []) × IsWhole (built p.form p)
lock_ended p ls f e = let P : Form → Type 0 = λ m. IsWhole (built m p) in (ap (λ m. tokens_with (written p.spelling) (built m p) ++ semicolon ∷ []) f ∙ ap (λ r. r ++ semicolon ∷ []) e, subst P (sym f) tt)

unlock_told : (p : Parts) (z : ℤ) → p.form ≡ forms.Unlock → (tokens_with (written p.spelling) (built p.form (record p { count = z })) ≡ word p.spelling.unlock ∷ number z ∷ []) × IsWhole (built p.form (record p { count = z }))
unlock_told p z f = let P : Form → Type 0 = λ m. IsWhole (built m (record p { count = z })) in (ap (λ m. tokens_with (written p.spelling) (built m (record p { count = z }))) f, subst P (sym f) tt)

-- what may be found holds where it is found
pub where_some : {X : Type 0} (b : Bool) (x : X) (P : X → Type 0) → P x → IfSome (cond b (Some x) None) P
where_some true x P h = h
where_some false x P h = tt

-- each step adds its token
pub told_step : (place : State) (p : Parts) (l : Lexeme) → Fine place p → IfSome (step_of place (kind_at l) (text_of l)) (λ m. (told m.0 (act m.1 l p) ≡ told place p ++ l ∷ []) × Fine m.0 (act m.1 l p))
told_step Start p (key CreateKey) f = (refl, tt)
told_step Start p (key ExplainKey) f = (refl, refl)
told_step Start p (key DropKey) f = (refl, refl)
told_step Start p (key CheckpointKey) f = (refl, tt)
told_step Start p (key ResumeKey) f = (refl, tt)
told_step AfterCreate p (key StreamKey) f = (refl, refl)
told_step AfterCreate p (key QueryKey) f = (refl, refl)
told_step AfterCreate p (key SharedKey) f = (refl, tt)
told_step AfterCreate p (word w) f = where_some (is_compact w) (AfterCompact, BeginCompact) (λ m. (told m.0 (act m.1 (word w) p) ≡ told AfterCreate p ++ word w ∷ []) × Fine m.0 (act m.1 (word w) p)) (refl, refl)
told_step AfterShared p (word w) f = where_some (is_compact w) (AfterCompact, BeginSharedCompact) (λ m. (told m.0 (act m.1 (word w) p) ≡ told AfterShared p ++ word w ∷ []) × Fine m.0 (act m.1 (word w) p)) (refl, refl)
told_step AfterShared p (key QueryKey) f = (refl, refl)
told_step AfterCompact p (key QueryKey) f = (refl, f)
told_step StreamName p (word w) f = (refl, f)
told_step OpenColumns p opening f = (refl, f)
told_step ColumnName p (word w) f = (refl, f)
told_step AfterColumn p comma f = (ap (λ r. stream_head p ++ r) (ended_more comma coldef_tokens p.columns (column_of p None)) ∙ simp append_assoc, f)
told_step AfterColumn p closing f =
    let c = column_of p None in (
      stream_told p (p.columns ++ c ∷ []) f ∙ ap (λ r. stream_head p ++ (r ++ closing ∷ [])) (separated_more comma coldef_tokens p.columns c) ∙ simp append_assoc,
      whole_stream p (p.columns ++ c ∷ []) f (more_than_none p.columns c),
    )
told_step AfterColumn p (key InKey) f = (simp append_assoc, f)
told_step DomainLow p (number z) f = (simp append_assoc, f)
told_step FirstPoint p point f = (simp append_assoc, f)
told_step SecondPoint p point f = (simp append_assoc, f)
told_step DomainHigh p (number z) f =
    let c = column_of p (Some (p.low, z)) in (
      ap (λ r. stream_head p ++ r) (separated_more comma coldef_tokens p.columns c) ∙ simp append_assoc,
      (f, more_than_none p.columns c),
    )
told_step AfterDomain p comma f = (ap (λ r. stream_head p ++ r) (sym (ended_last comma coldef_tokens p.columns f.1)), f.0)
told_step AfterDomain p closing f = (stream_told p p.columns f.0, whole_stream p p.columns f.0 f.1)
told_step QueryName p (word w) f = (sym (append_assoc (create_head p) (key QueryKey ∷ []) (word w ∷ [])), f)
told_step QueryAs p (key AsKey) f = (sym (append_assoc (create_head p) (key QueryKey ∷ word p.name ∷ []) (key AsKey ∷ [])), f)
told_step QuerySelect p (key SelectKey) f = (sym (append_assoc (create_head p) (key QueryKey ∷ word p.name ∷ key AsKey ∷ []) (key SelectKey ∷ [])), (f, refl, refl))
told_step FirstSelected p (key DistinctKey) f = (
  ap (λ xs. query_head (record p { distinct = true }) ++ ended_by comma column_tokens xs) f.2
      ∙ append-nil (query_head (record p { distinct = true }))
      ∙ sym (append_assoc (create_head p) (key QueryKey ∷ word p.name ∷ key AsKey ∷ key SelectKey ∷ []) (key DistinctKey ∷ [])),
  f.0,
)
told_step FirstSelected p (word w) f = (
  ap (λ d. query_head (record p { distinct = d }) ++ ended_by comma column_tokens p.select ++ word w ∷ []) f.1
      ∙ ap (λ xs. query_head (record p { distinct = false }) ++ ended_by comma column_tokens xs ++ word w ∷ []) f.2
      ∙ ap (λ r. r ++ word w ∷ []) (append-nil (query_head (record p { distinct = false }))),
  f.0,
)
told_step SelectedStream p (word w) f = (refl, f)
told_step SelectedPoint p point f = (simp append_assoc, f)
told_step SelectedColumn p (word w) f = (ap (λ r. query_head p ++ r) (separated_more comma column_tokens p.select (record { stream = p.stream; column = w })) ∙ simp append_assoc, record { form = f; select = more_than_none p.select (record { stream = p.stream; column = w }) })
told_step AfterSelected p comma f = (ap (λ r. query_head p ++ r) (sym (ended_last comma column_tokens p.select f.select)) ∙ sym (append_assoc (query_head p) (separated comma column_tokens p.select) (comma ∷ [])), f.form)
told_step AfterSelected p (key FromKey) f = (append-nil (from_head p), (record { form = f.form; select = f.select }, refl))
told_step FromName p (word w) f = (
  ap (λ r. from_head p ++ r) (separated_more comma name_tokens p.from w) ∙ sym (append_assoc (from_head p) (ended_by comma name_tokens p.from) (word w ∷ [])),
  (record { form = f.0.form; select = f.0.select; from = more_than_none p.from w; atoms = no_atoms p f.1 }, f.1),
)
told_step AfterFrom p comma f = (
  ap (λ r. from_head p ++ r) (sym (ended_last comma name_tokens p.from f.0.from)) ∙ sym (append_assoc (from_head p) (separated comma name_tokens p.from) (comma ∷ [])),
  (record { form = f.0.form; select = f.0.select }, f.1),
)
told_step AfterFrom p (key WhereKey) f = (ap (λ atoms. from_head p ++ separated comma name_tokens p.from ++ key WhereKey ∷ ended_by (key AndKey) atom_tokens atoms) f.1, f.0)
told_step AfterFrom p semicolon f = (ap (λ r. r ++ semicolon ∷ []) (query_told p f.0.form ∙ none_told p f.1), whole_query p f.0)
told_step AtomLeft p (word w) f = (refl, record { form = f.form; select = f.select; from = f.from; atoms = f.atoms })
told_step AtomLeft p (number z) f = (refl, record { form = f.form; select = f.select; from = f.from; atoms = f.atoms })
told_step LeftPoint p point f = (simp append_assoc, f)
told_step LeftColumn p (word w) f = (simp append_assoc, (record { form = f.form; select = f.select; from = f.from; atoms = f.atoms }, tt))
told_step ColumnOp p less f = (refl, (record { form = f.0.form; select = f.0.select; from = f.0.from; atoms = f.0.atoms }, f.1))
told_step ColumnOp p equal f = (refl, (record { form = f.0.form; select = f.0.select; from = f.0.from; atoms = f.0.atoms }, f.1))
told_step ColumnOp p greater f = (refl, (record { form = f.0.form; select = f.0.select; from = f.0.from; atoms = f.0.atoms }, f.1))
told_step ColumnOp p less_equal f = (refl, (record { form = f.0.form; select = f.0.select; from = f.0.from; atoms = f.0.atoms }, f.1))
told_step ColumnOp p greater_equal f = (refl, (record { form = f.0.form; select = f.0.select; from = f.0.from; atoms = f.0.atoms }, f.1))
told_step ColumnOp p unequal f = (refl, (record { form = f.0.form; select = f.0.select; from = f.0.from; atoms = f.0.atoms }, f.1))
told_step IntegerOp p less f = (refl, record { form = f.form; select = f.select; from = f.from; atoms = f.atoms })
told_step IntegerOp p equal f = (refl, record { form = f.form; select = f.select; from = f.from; atoms = f.atoms })
told_step IntegerOp p greater f = (refl, record { form = f.form; select = f.select; from = f.from; atoms = f.atoms })
told_step IntegerOp p less_equal f = (refl, record { form = f.form; select = f.select; from = f.from; atoms = f.atoms })
told_step IntegerOp p greater_equal f = (refl, record { form = f.form; select = f.select; from = f.from; atoms = f.atoms })
told_step IntegerOp p unequal f = (refl, record { form = f.form; select = f.select; from = f.from; atoms = f.atoms })
told_step RightAny p (word w) f = (simp append_assoc, record { form = f.0.form; select = f.0.select; from = f.0.from; atoms = f.0.atoms })
told_step RightAny p (number z) f =
    let a : AtomAst = record { left = p.left; op = p.op; right = Integer z } in (
      ap (λ r. from_head p ++ separated comma name_tokens p.from ++ r) (where_more p.atoms a) ∙ simp append_assoc,
      (record { form = f.0.form; select = f.0.select; from = f.0.from; atoms = all_more HasColumn p.atoms a f.0.atoms (inl f.1) }, more_than_none p.atoms a),
    )
told_step RightStream p (word w) f = (simp append_assoc, record { form = f.form; select = f.select; from = f.from; atoms = f.atoms })
told_step RightPoint p point f = (simp append_assoc, f)
told_step RightColumn p (word w) f =
    let a : AtomAst = record { left = p.left; op = p.op; right = Column (record { stream = p.stream; column = w }) } in (
      ap (λ r. from_head p ++ separated comma name_tokens p.from ++ r) (where_more p.atoms a) ∙ simp append_assoc,
      (record { form = f.form; select = f.select; from = f.from; atoms = all_more HasColumn p.atoms a f.atoms (inr tt) }, more_than_none p.atoms a),
    )
told_step AfterAtom p (key AndKey) f = (ap (λ r. from_head p ++ separated comma name_tokens p.from ++ r) (sym (where_last p.atoms f.1)) ∙ simp append_assoc, f.0)
told_step AfterAtom p semicolon f = (ap (λ r. r ++ semicolon ∷ []) (query_told p f.0.form), whole_query p f.0)
told_step ExplainName p (word w) f = (ap (λ m. tokens_with (written p.spelling) (built m (record p { name = w }))) f, (let P : Form → Type 0 = λ m. IsWhole (built m (record p { name = w })) in subst P (sym f) tt))
told_step AfterDrop p (key QueryKey) f = (refl, f)
told_step DropName p (word w) f = (ap (λ m. tokens_with (written p.spelling) (built m (record p { name = w }))) f, (let P : Form → Type 0 = λ m. IsWhole (built m (record p { name = w })) in subst P (sym f) tt))
told_step AfterResume p (number z) f = (refl, tt)
told_step AfterResume p (word w) f = (refl, tt)
told_step ResumeWhat p (key AsKey) f = (refl, refl)
told_step ResumeWhat p (key FromKey) f = (refl, refl)
told_step ResumeWhat p (key SelectKey) f = (refl, (refl, refl))
told_step GivenRows p (number z) f = given_told p z f
told_step CellIndex p (number z) f = (refl, f)
told_step CellContent p (number z) f = cell_told p z f
told_step TupleValue p (number z) f = (ap (λ zs. tuple_head p ++ map number (zs ++ z ∷ [])) f.1, (f.0, more_than_none p.values z))
told_step AfterValue p (number z) f = (ap (λ ls. tuple_head p ++ ls) (map-append number p.values (z ∷ [])), (f.0, more_than_none p.values z))
told_step AfterValue p semicolon f = (ap (λ ls. ls ++ semicolon ∷ []) (tuple_told p f.0), whole_tuple p f.0 f.1)
told_step Start p (word w) f =
    where_either (is_lock w) (is_unlock w) (AfterLock, BeginLock) (UnlockKey, BeginUnlock) (λ m. (told m.0 (act m.1 (word w) p) ≡ told Start p ++ word w ∷ []) × Fine m.0 (act m.1 (word w) p)) (λ e. (refl, (refl, refl, refl))) (λ e. (refl, refl))
told_step AfterLock p (number z) f = (refl, (f.0, f.2))
told_step AfterLock p (word w) f =
    where_some (is_to w) (LockStream, BeginTo) (λ m. (told m.0 (act m.1 (word w) p) ≡ told AfterLock p ++ word w ∷ []) × Fine m.0 (act m.1 (word w) p))
    (ap (λ o. ((word p.spelling.lock ∷ key_tokens o) ++ word w ∷ []) ++ ended_by comma name_tokens p.lock_streams) f.1 ∙ ap (λ names. (word p.spelling.lock ∷ word w ∷ []) ++ ended_by comma name_tokens names) f.2, f.0)
told_step AfterLock p semicolon f = lock_ended p (told AfterLock p) f.0 (bare_spelled p f.1 f.2)
told_step AfterLockKey p (word w) f =
    where_some (is_to w) (LockStream, BeginTo) (λ m. (told m.0 (act m.1 (word w) p) ≡ told AfterLockKey p ++ word w ∷ []) × Fine m.0 (act m.1 (word w) p))
    (ap (λ names. (lock_head p ++ word w ∷ []) ++ ended_by comma name_tokens names) f.1 ∙ append-nil (lock_head p ++ word w ∷ []), f.0)
told_step AfterLockKey p semicolon f = lock_ended p (told AfterLockKey p) f.0 (keyed_spelled p f.1)
told_step LockStream p (word w) f = (
  ap (λ r. to_head p ++ r) (separated_more comma name_tokens p.lock_streams w) ∙ sym (append_assoc (to_head p) (ended_by comma name_tokens p.lock_streams) (word w ∷ [])),
  (f, more_than_none p.lock_streams w),
)
told_step AfterLockStream p comma f = (
  ap (λ r. to_head p ++ r) (sym (ended_last comma name_tokens p.lock_streams f.1)) ∙ sym (append_assoc (to_head p) (separated comma name_tokens p.lock_streams) (comma ∷ [])),
  f.0,
)
told_step AfterLockStream p semicolon f = lock_ended p (told AfterLockStream p) f.0 (lock_spelled p f.1)
told_step UnlockKey p (number z) f = unlock_told p z f
told_step Complete p semicolon f = (refl, f)
told_step Ended p (word w) f = tt
told_step _ _ _ _ = tt
