-- At each place some statement may go on.
use Rattle.std.proofs.Common.{◌≡◌, pos, List, [], ◌∷◌, ◌++◌, refl, ap, sym, ◌∙◌, append_assoc, append-nil, subst}
use Rattle.sql_text.specs.declared.key.Key.TheVariants.{CreateKey, StreamKey, QueryKey, AsKey, SelectKey, FromKey}
use Rattle.sql_parser.specs.declared.transitions.State.{State}
use Rattle.sql_parser.specs.declared.transitions.State.TheVariants.{Start, AfterCreate, AfterShared, AfterCompact, StreamName, OpenColumns, ColumnName, AfterColumn, DomainLow, FirstPoint, SecondPoint, DomainHigh, AfterDomain, QueryName, QueryAs, QuerySelect, FirstSelected, SelectedStream, SelectedPoint, SelectedColumn, AfterSelected, FromName, AfterFrom, AtomLeft, LeftPoint, LeftColumn, ColumnOp, RightAny, IntegerOp, RightStream, RightPoint, RightColumn, AfterAtom, ExplainName, AfterDrop, DropName, AfterResume, ResumeWhat, GivenRows, CellIndex, CellContent, TupleValue, AfterValue, AfterLock, AfterLockKey, LockStream, AfterLockStream, UnlockKey, Complete, Ended}
use Rattle.sql_parser.specs.declared.tree.Statement.{Statement}
use Rattle.sql_parser.specs.Grammar.{Lexeme, word, number, key, point, opening, closing, less, Spells, Begins}
use Rattle.sql_parser.specs.declared.draft.Form.TheVariants as forms
use Rattle.sql_parser.specs.Reading.{Parts, act, built}
use Rattle.sql_parser.specs.declared.transitions.Action.TheVariants as actions
use Rattle.sql_parser.proofs.Compact.{IsSpelt}
use Rattle.sql_parser.proofs.Told.{told, Fine, told_step}
use Rattle.sql_parser.proofs.WalkLaws.{finished_spells}
use Rattle.sem_query.specs.declared.atom.Op.TheVariants.{Lt}

-- what begins a statement with one more token begins one
begun_by : (ts longer : List Lexeme) (l : Lexeme) → longer ≡ ts ++ l ∷ [] → Begins longer → Begins ts
begun_by ts longer l e (more, s, spells) = let P : List Lexeme → Type 0 = λ r. Spells r s in (l ∷ more, s, subst P (ap (λ r. r ++ more) e ∙ append_assoc ts (l ∷ []) more) spells)

-- a statement begins itself
begun_whole : (ts : List Lexeme) (s : Statement) → Spells ts s → Begins ts
begun_whole ts s spells = let P : List Lexeme → Type 0 = λ r. Spells r s in ([], s, subst P (sym (append-nil ts)) spells)

begun_Complete : (p : Parts) → Fine Complete p → IsSpelt p → Begins (told Complete p)
begun_Complete p f h = begun_whole (told Complete p) (built p.form p) (finished_spells Complete p (built p.form p) f h refl)

begun_AfterColumn : (p : Parts) → Fine AfterColumn p → IsSpelt p → Begins (told AfterColumn p)
begun_AfterColumn p f h = let next = told_step AfterColumn p closing f in begun_by (told AfterColumn p) _ closing next.0 (begun_Complete (act actions.AddColumn closing p) next.1 h)

begun_AfterDomain : (p : Parts) → Fine AfterDomain p → IsSpelt p → Begins (told AfterDomain p)
begun_AfterDomain p f h = let next = told_step AfterDomain p closing f in begun_by (told AfterDomain p) _ closing next.0 (begun_Complete (act actions.Nothing closing p) next.1 h)

begun_DomainHigh : (p : Parts) → Fine DomainHigh p → IsSpelt p → Begins (told DomainHigh p)
begun_DomainHigh p f h = let next = told_step DomainHigh p (number (pos 0)) f in begun_by (told DomainHigh p) _ (number (pos 0)) next.0 (begun_AfterDomain (act actions.AddBounded (number (pos 0)) p) next.1 h)

begun_SecondPoint : (p : Parts) → Fine SecondPoint p → IsSpelt p → Begins (told SecondPoint p)
begun_SecondPoint p f h = let next = told_step SecondPoint p point f in begun_by (told SecondPoint p) _ point next.0 (begun_DomainHigh (act actions.Nothing point p) next.1 h)

begun_FirstPoint : (p : Parts) → Fine FirstPoint p → IsSpelt p → Begins (told FirstPoint p)
begun_FirstPoint p f h = let next = told_step FirstPoint p point f in begun_by (told FirstPoint p) _ point next.0 (begun_SecondPoint (act actions.Nothing point p) next.1 h)

begun_DomainLow : (p : Parts) → Fine DomainLow p → IsSpelt p → Begins (told DomainLow p)
begun_DomainLow p f h = let next = told_step DomainLow p (number (pos 0)) f in begun_by (told DomainLow p) _ (number (pos 0)) next.0 (begun_FirstPoint (act actions.LowIs (number (pos 0)) p) next.1 h)

begun_ColumnName : (p : Parts) → Fine ColumnName p → IsSpelt p → Begins (told ColumnName p)
begun_ColumnName p f h = let next = told_step ColumnName p (word (97 ∷ [])) f in begun_by (told ColumnName p) _ (word (97 ∷ [])) next.0 (begun_AfterColumn (act actions.ColumnIs (word (97 ∷ [])) p) next.1 h)

begun_OpenColumns : (p : Parts) → Fine OpenColumns p → IsSpelt p → Begins (told OpenColumns p)
begun_OpenColumns p f h = let next = told_step OpenColumns p opening f in begun_by (told OpenColumns p) _ opening next.0 (begun_ColumnName (act actions.BeginColumns opening p) next.1 h)

begun_StreamName : (p : Parts) → Fine StreamName p → IsSpelt p → Begins (told StreamName p)
begun_StreamName p f h = let next = told_step StreamName p (word (97 ∷ [])) f in begun_by (told StreamName p) _ (word (97 ∷ [])) next.0 (begun_OpenColumns (act actions.Named (word (97 ∷ [])) p) next.1 h)

begun_AfterFrom : (p : Parts) → Fine AfterFrom p → IsSpelt p → Begins (told AfterFrom p)
begun_AfterFrom p f h = begun_whole (told AfterFrom p) (built forms.Query p) (finished_spells AfterFrom p (built forms.Query p) f h refl)

begun_AfterAtom : (p : Parts) → Fine AfterAtom p → IsSpelt p → Begins (told AfterAtom p)
begun_AfterAtom p f h = begun_whole (told AfterAtom p) (built forms.Query p) (finished_spells AfterAtom p (built forms.Query p) f h refl)

begun_Ended : (p : Parts) → Fine Ended p → IsSpelt p → Begins (told Ended p)
begun_Ended p f h = begun_whole (told Ended p) (built p.form p) (finished_spells Ended p (built p.form p) f h refl)

begun_FromName : (p : Parts) → Fine FromName p → IsSpelt p → Begins (told FromName p)
begun_FromName p f h = let next = told_step FromName p (word (97 ∷ [])) f in begun_by (told FromName p) _ (word (97 ∷ [])) next.0 (begun_AfterFrom (act actions.AddFrom (word (97 ∷ [])) p) next.1 h)

begun_AfterSelected : (p : Parts) → Fine AfterSelected p → IsSpelt p → Begins (told AfterSelected p)
begun_AfterSelected p f h = let next = told_step AfterSelected p (key FromKey) f in begun_by (told AfterSelected p) _ (key FromKey) next.0 (begun_FromName (act actions.BeginFrom (key FromKey) p) next.1 h)

begun_SelectedColumn : (p : Parts) → Fine SelectedColumn p → IsSpelt p → Begins (told SelectedColumn p)
begun_SelectedColumn p f h = let next = told_step SelectedColumn p (word (97 ∷ [])) f in begun_by (told SelectedColumn p) _ (word (97 ∷ [])) next.0 (begun_AfterSelected (act actions.AddSelected (word (97 ∷ [])) p) next.1 h)

begun_SelectedPoint : (p : Parts) → Fine SelectedPoint p → IsSpelt p → Begins (told SelectedPoint p)
begun_SelectedPoint p f h = let next = told_step SelectedPoint p point f in begun_by (told SelectedPoint p) _ point next.0 (begun_SelectedColumn (act actions.Nothing point p) next.1 h)

begun_SelectedStream : (p : Parts) → Fine SelectedStream p → IsSpelt p → Begins (told SelectedStream p)
begun_SelectedStream p f h = let next = told_step SelectedStream p (word (97 ∷ [])) f in begun_by (told SelectedStream p) _ (word (97 ∷ [])) next.0 (begun_SelectedPoint (act actions.StreamIs (word (97 ∷ [])) p) next.1 h)

begun_FirstSelected : (p : Parts) → Fine FirstSelected p → IsSpelt p → Begins (told FirstSelected p)
begun_FirstSelected p f h = let next = told_step FirstSelected p (word (97 ∷ [])) f in begun_by (told FirstSelected p) _ (word (97 ∷ [])) next.0 (begun_SelectedPoint (act actions.StreamIs (word (97 ∷ [])) p) next.1 h)

begun_QuerySelect : (p : Parts) → Fine QuerySelect p → IsSpelt p → Begins (told QuerySelect p)
begun_QuerySelect p f h = let next = told_step QuerySelect p (key SelectKey) f in begun_by (told QuerySelect p) _ (key SelectKey) next.0 (begun_FirstSelected (act actions.BeginSelect (key SelectKey) p) next.1 h)

begun_QueryAs : (p : Parts) → Fine QueryAs p → IsSpelt p → Begins (told QueryAs p)
begun_QueryAs p f h = let next = told_step QueryAs p (key AsKey) f in begun_by (told QueryAs p) _ (key AsKey) next.0 (begun_QuerySelect (act actions.Nothing (key AsKey) p) next.1 h)

begun_QueryName : (p : Parts) → Fine QueryName p → IsSpelt p → Begins (told QueryName p)
begun_QueryName p f h = let next = told_step QueryName p (word (97 ∷ [])) f in begun_by (told QueryName p) _ (word (97 ∷ [])) next.0 (begun_QueryAs (act actions.Named (word (97 ∷ [])) p) next.1 h)

begun_RightColumn : (p : Parts) → Fine RightColumn p → IsSpelt p → Begins (told RightColumn p)
begun_RightColumn p f h = let next = told_step RightColumn p (word (97 ∷ [])) f in begun_by (told RightColumn p) _ (word (97 ∷ [])) next.0 (begun_AfterAtom (act actions.AddColumnAtom (word (97 ∷ [])) p) next.1 h)

begun_RightPoint : (p : Parts) → Fine RightPoint p → IsSpelt p → Begins (told RightPoint p)
begun_RightPoint p f h = let next = told_step RightPoint p point f in begun_by (told RightPoint p) _ point next.0 (begun_RightColumn (act actions.Nothing point p) next.1 h)

begun_RightStream : (p : Parts) → Fine RightStream p → IsSpelt p → Begins (told RightStream p)
begun_RightStream p f h = let next = told_step RightStream p (word (97 ∷ [])) f in begun_by (told RightStream p) _ (word (97 ∷ [])) next.0 (begun_RightPoint (act actions.StreamIs (word (97 ∷ [])) p) next.1 h)

begun_RightAny : (p : Parts) → Fine RightAny p → IsSpelt p → Begins (told RightAny p)
begun_RightAny p f h = let next = told_step RightAny p (number (pos 0)) f in begun_by (told RightAny p) _ (number (pos 0)) next.0 (begun_AfterAtom (act actions.AddIntegerAtom (number (pos 0)) p) next.1 h)

begun_ColumnOp : (p : Parts) → Fine ColumnOp p → IsSpelt p → Begins (told ColumnOp p)
begun_ColumnOp p f h = let next = told_step ColumnOp p less f in begun_by (told ColumnOp p) _ less next.0 (begun_RightAny (act (actions.OpIs Lt) less p) next.1 h)

begun_LeftColumn : (p : Parts) → Fine LeftColumn p → IsSpelt p → Begins (told LeftColumn p)
begun_LeftColumn p f h = let next = told_step LeftColumn p (word (97 ∷ [])) f in begun_by (told LeftColumn p) _ (word (97 ∷ [])) next.0 (begun_ColumnOp (act actions.LeftColumnIs (word (97 ∷ [])) p) next.1 h)

begun_LeftPoint : (p : Parts) → Fine LeftPoint p → IsSpelt p → Begins (told LeftPoint p)
begun_LeftPoint p f h = let next = told_step LeftPoint p point f in begun_by (told LeftPoint p) _ point next.0 (begun_LeftColumn (act actions.Nothing point p) next.1 h)

begun_IntegerOp : (p : Parts) → Fine IntegerOp p → IsSpelt p → Begins (told IntegerOp p)
begun_IntegerOp p f h = let next = told_step IntegerOp p less f in begun_by (told IntegerOp p) _ less next.0 (begun_RightStream (act (actions.OpIs Lt) less p) next.1 h)

begun_AtomLeft : (p : Parts) → Fine AtomLeft p → IsSpelt p → Begins (told AtomLeft p)
begun_AtomLeft p f h = let next = told_step AtomLeft p (word (97 ∷ [])) f in begun_by (told AtomLeft p) _ (word (97 ∷ [])) next.0 (begun_LeftPoint (act actions.StreamIs (word (97 ∷ [])) p) next.1 h)

begun_DropName : (p : Parts) → Fine DropName p → IsSpelt p → Begins (told DropName p)
begun_DropName p f h = let next = told_step DropName p (word (97 ∷ [])) f in begun_by (told DropName p) _ (word (97 ∷ [])) next.0 (begun_Complete (act actions.Named (word (97 ∷ [])) p) next.1 h)

begun_AfterDrop : (p : Parts) → Fine AfterDrop p → IsSpelt p → Begins (told AfterDrop p)
begun_AfterDrop p f h = let next = told_step AfterDrop p (key QueryKey) f in begun_by (told AfterDrop p) _ (key QueryKey) next.0 (begun_DropName (act actions.Nothing (key QueryKey) p) next.1 h)

begun_ExplainName : (p : Parts) → Fine ExplainName p → IsSpelt p → Begins (told ExplainName p)
begun_ExplainName p f h = let next = told_step ExplainName p (word (97 ∷ [])) f in begun_by (told ExplainName p) _ (word (97 ∷ [])) next.0 (begun_Complete (act actions.Named (word (97 ∷ [])) p) next.1 h)

begun_AfterCreate : (p : Parts) → Fine AfterCreate p → IsSpelt p → Begins (told AfterCreate p)
begun_AfterCreate p f h = let next = told_step AfterCreate p (key StreamKey) f in begun_by (told AfterCreate p) _ (key StreamKey) next.0 (begun_StreamName (act actions.BeginStream (key StreamKey) p) next.1 h)

begun_AfterShared : (p : Parts) → Fine AfterShared p → IsSpelt p → Begins (told AfterShared p)
begun_AfterShared p f h = let next = told_step AfterShared p (key QueryKey) f in begun_by (told AfterShared p) _ (key QueryKey) next.0 (begun_QueryName (act actions.BeginShared (key QueryKey) p) next.1 h)

begun_AfterCompact : (p : Parts) → Fine AfterCompact p → IsSpelt p → Begins (told AfterCompact p)
begun_AfterCompact p f h = let next = told_step AfterCompact p (key QueryKey) f in begun_by (told AfterCompact p) _ (key QueryKey) next.0 (begun_QueryName (act actions.Nothing (key QueryKey) p) next.1 h)

begun_AfterValue : (p : Parts) → Fine AfterValue p → IsSpelt p → Begins (told AfterValue p)
begun_AfterValue p f h = begun_whole (told AfterValue p) (built forms.Tuple p) (finished_spells AfterValue p (built forms.Tuple p) f h refl)

begun_TupleValue : (p : Parts) → Fine TupleValue p → IsSpelt p → Begins (told TupleValue p)
begun_TupleValue p f h = let next = told_step TupleValue p (number (pos 0)) f in begun_by (told TupleValue p) _ (number (pos 0)) next.0 (begun_AfterValue (act actions.AddValue (number (pos 0)) p) next.1 h)

begun_CellContent : (p : Parts) → Fine CellContent p → IsSpelt p → Begins (told CellContent p)
begun_CellContent p f h = let next = told_step CellContent p (number (pos 0)) f in begun_by (told CellContent p) _ (number (pos 0)) next.0 (begun_Complete (act actions.CountIs (number (pos 0)) p) next.1 h)

begun_CellIndex : (p : Parts) → Fine CellIndex p → IsSpelt p → Begins (told CellIndex p)
begun_CellIndex p f h = let next = told_step CellIndex p (number (pos 0)) f in begun_by (told CellIndex p) _ (number (pos 0)) next.0 (begun_CellContent (act actions.IndexIs (number (pos 0)) p) next.1 h)

begun_GivenRows : (p : Parts) → Fine GivenRows p → IsSpelt p → Begins (told GivenRows p)
begun_GivenRows p f h = let next = told_step GivenRows p (number (pos 0)) f in begun_by (told GivenRows p) _ (number (pos 0)) next.0 (begun_Complete (act actions.CountIs (number (pos 0)) p) next.1 h)

begun_ResumeWhat : (p : Parts) → Fine ResumeWhat p → IsSpelt p → Begins (told ResumeWhat p)
begun_ResumeWhat p f h = let next = told_step ResumeWhat p (key AsKey) f in begun_by (told ResumeWhat p) _ (key AsKey) next.0 (begun_GivenRows (act actions.BeginGiven (key AsKey) p) next.1 h)

begun_AfterResume : (p : Parts) → Fine AfterResume p → IsSpelt p → Begins (told AfterResume p)
begun_AfterResume p f h = let next = told_step AfterResume p (number (pos 0)) f in begun_by (told AfterResume p) _ (number (pos 0)) next.0 (begun_Complete (act actions.RowsAre (number (pos 0)) p) next.1 h)

begun_AfterLock : (p : Parts) → Fine AfterLock p → IsSpelt p → Begins (told AfterLock p)
begun_AfterLock p f h = begun_whole (told AfterLock p) (built forms.Lock p) (finished_spells AfterLock p (built forms.Lock p) f h refl)

begun_AfterLockKey : (p : Parts) → Fine AfterLockKey p → IsSpelt p → Begins (told AfterLockKey p)
begun_AfterLockKey p f h = begun_whole (told AfterLockKey p) (built forms.Lock p) (finished_spells AfterLockKey p (built forms.Lock p) f h refl)

begun_AfterLockStream : (p : Parts) → Fine AfterLockStream p → IsSpelt p → Begins (told AfterLockStream p)
begun_AfterLockStream p f h = begun_whole (told AfterLockStream p) (built forms.Lock p) (finished_spells AfterLockStream p (built forms.Lock p) f h refl)

begun_LockStream : (p : Parts) → Fine LockStream p → IsSpelt p → Begins (told LockStream p)
begun_LockStream p f h = let next = told_step LockStream p (word (97 ∷ [])) f in begun_by (told LockStream p) _ (word (97 ∷ [])) next.0 (begun_AfterLockStream (act actions.AddLockStream (word (97 ∷ [])) p) next.1 h)

begun_UnlockKey : (p : Parts) → Fine UnlockKey p → IsSpelt p → Begins (told UnlockKey p)
begun_UnlockKey p f h = let next = told_step UnlockKey p (number (pos 0)) f in begun_by (told UnlockKey p) _ (number (pos 0)) next.0 (begun_Complete (act actions.CountIs (number (pos 0)) p) next.1 h)

begun_Start : (p : Parts) → Fine Start p → IsSpelt p → Begins (told Start p)
begun_Start p f h = let next = told_step Start p (key CreateKey) f in begun_by (told Start p) _ (key CreateKey) next.0 (begun_AfterCreate (act actions.Nothing (key CreateKey) p) next.1 h)

-- at each place some statement goes on
pub begun : (place : State) (p : Parts) → Fine place p → IsSpelt p → Begins (told place p)
begun Start p f h = begun_Start p f h
begun AfterCreate p f h = begun_AfterCreate p f h
begun AfterShared p f h = begun_AfterShared p f h
begun AfterCompact p f h = begun_AfterCompact p f h
begun StreamName p f h = begun_StreamName p f h
begun OpenColumns p f h = begun_OpenColumns p f h
begun ColumnName p f h = begun_ColumnName p f h
begun AfterColumn p f h = begun_AfterColumn p f h
begun DomainLow p f h = begun_DomainLow p f h
begun FirstPoint p f h = begun_FirstPoint p f h
begun SecondPoint p f h = begun_SecondPoint p f h
begun DomainHigh p f h = begun_DomainHigh p f h
begun AfterDomain p f h = begun_AfterDomain p f h
begun QueryName p f h = begun_QueryName p f h
begun QueryAs p f h = begun_QueryAs p f h
begun QuerySelect p f h = begun_QuerySelect p f h
begun FirstSelected p f h = begun_FirstSelected p f h
begun SelectedStream p f h = begun_SelectedStream p f h
begun SelectedPoint p f h = begun_SelectedPoint p f h
begun SelectedColumn p f h = begun_SelectedColumn p f h
begun AfterSelected p f h = begun_AfterSelected p f h
begun FromName p f h = begun_FromName p f h
begun AfterFrom p f h = begun_AfterFrom p f h
begun AtomLeft p f h = begun_AtomLeft p f h
begun LeftPoint p f h = begun_LeftPoint p f h
begun LeftColumn p f h = begun_LeftColumn p f h
begun ColumnOp p f h = begun_ColumnOp p f h
begun RightAny p f h = begun_RightAny p f h
begun IntegerOp p f h = begun_IntegerOp p f h
begun RightStream p f h = begun_RightStream p f h
begun RightPoint p f h = begun_RightPoint p f h
begun RightColumn p f h = begun_RightColumn p f h
begun AfterAtom p f h = begun_AfterAtom p f h
begun ExplainName p f h = begun_ExplainName p f h
begun AfterDrop p f h = begun_AfterDrop p f h
begun DropName p f h = begun_DropName p f h
begun AfterResume p f h = begun_AfterResume p f h
begun ResumeWhat p f h = begun_ResumeWhat p f h
begun GivenRows p f h = begun_GivenRows p f h
begun CellIndex p f h = begun_CellIndex p f h
begun CellContent p f h = begun_CellContent p f h
begun TupleValue p f h = begun_TupleValue p f h
begun AfterValue p f h = begun_AfterValue p f h
begun AfterLock p f h = begun_AfterLock p f h
begun AfterLockKey p f h = begun_AfterLockKey p f h
begun LockStream p f h = begun_LockStream p f h
begun AfterLockStream p f h = begun_AfterLockStream p f h
begun UnlockKey p f h = begun_UnlockKey p f h
begun Complete p f h = begun_Complete p f h
begun Ended p f h = begun_Ended p f h
