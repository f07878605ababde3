-- What is kept of the parts is what the drafts keep, where names are copied and not moved.
use Rattle.std.proofs.Common.{◌≡◌, ℕ, ℤ, Bool, true, false, cond, List, [], ◌∷◌, ◌++◌, length, map, Option, Some, None, refl, ap, sym, ◌∙◌, ◌+◌, ◌≤◌, ◌<◌, inl, inr, nat_lt, take, pos, length-append, lt-ltb, arith}
use Rattle.std.proofs.Common.{IfSome, ◌&&◌, subst}
use Rattle.sql_text.specs.Value.{value_of, fits_i64, integer, is_integer}
use Rattle.sql_text.specs.declared.key.Key.TheVariants.{CreateKey, StreamKey, QueryKey, AsKey, SelectKey, DistinctKey, FromKey, WhereKey, AndKey, InKey, CheckpointKey, ResumeKey}
use Rattle.sql_lexer.specs.declared.token.TokenKind.{TokenKind}
use Rattle.sql_lexer.specs.declared.token.TokenKind.TheVariants as kinds
use Rattle.sql_parser.specs.declared.transitions.State.{State}
use Rattle.sql_parser.specs.declared.transitions.State.TheVariants.{Start, AfterCreate, AfterShared, AfterCompact, StreamName, OpenColumns, ColumnName, AfterColumn, DomainLow, FirstPoint, SecondPoint, DomainHigh, AfterDomain, QueryName, QueryAs, QuerySelect, FirstSelected, SelectedStream, SelectedPoint, SelectedColumn, AfterSelected, FromName, AfterFrom, AtomLeft, LeftPoint, LeftColumn, ColumnOp, RightAny, IntegerOp, RightStream, RightPoint, RightColumn, AfterAtom, ExplainName, AfterDrop, DropName, AfterResume, ResumeWhat, GivenRows, CellIndex, CellContent, TupleValue, AfterValue, AfterLock, AfterLockKey, LockStream, AfterLockStream, UnlockKey, Complete, Ended}
use Rattle.sql_parser.specs.Steps.{step_of}
use Rattle.sql_parser.specs.Grammar.{is_compact, is_lock, is_unlock, is_to}
use Rattle.sql_parser.specs.Syntax.{lexeme_as, lexeme_of, lexemes}
use Rattle.sql_parser.proofs.WalkLaws.{walk_append}
use Rattle.sql_parser.proofs.Verdict.{step_same}
use Rattle.sql_parser.proofs.Compact.{where_either}
use Rattle.sql_parser.proofs.Told.{where_some}
use Rattle.sql_lexer.specs.declared.token.Token.{Token}
use Rattle.sql_lexer.proofs.TextKinds.{integer_text}
use Rattle.std.proofs.lemmas.List.{take_all, take-append-le, length-take-le}
use Rattle.std.proofs.lemmas.Bool.Decides.{nat_tests}
use Rattle.std.proofs.lemmas.List.{map-append, length-map}
use Rattle.std.proofs.lemmas.Bool.{cases_lt}
use Rattle.std.specs.Prelude.{slice_range}
use Rattle.sql_parser.specs.declared.transitions.Action.{Action}
use Rattle.sql_parser.specs.declared.transitions.Action.TheVariants as actions
use Rattle.sql_parser.specs.declared.tree.OperandAst.TheVariants.{Column, Integer}
use Rattle.sql_parser.specs.declared.draft.Draft.{Draft}
use Rattle.sql_parser.specs.declared.draft.DraftList.{DraftList}
use Rattle.sql_parser.specs.declared.draft.Form.TheVariants as forms
use Rattle.sql_parser.specs.DraftSteps.{kept, or_far, put, drafted}
use Rattle.sql_parser.specs.Grammar.{Lexeme}
use Rattle.sql_parser.specs.Keeping.{keep, kept_column, kept_number, kept_def, kept_operand, kept_atom, kept_parts, SaysFor, IsCut, IsRead}
use Rattle.sql_parser.specs.Reading.{Parts, act, text_of, number_of, walk, walk_on, no_parts}

-- one item more is kept
less_more : (m n : ℕ) → m < n → nat_lt n m ≡ nat_lt n (m + 1)
less_more m n h = grind (arith, nat_tests)

over_more : (m n : ℕ) → n ≤ m → true ≡ nat_lt n (m + 1)
over_more m n h = grind (arith, nat_tests)

abbrev pub with_items : {T : Type 0} {n : ℕ} → List T → Bool → DraftList T n
with_items xs over = record { list = record { items = xs }; over = over }

put_room : {X T : Type 0} (f : X → T) (n : ℕ) (xs : List X) (x : X) → length xs < n → put n (f x) (keep f n xs) ≡ keep f n (xs ++ x ∷ [])
put_room f n xs x h =
    let len : length (map f xs) ≡ length xs = length-map xs f in
    let all : take n (map f xs) ≡ map f xs = take_all n (map f xs) (omega (arith, len)) in
    let more : take n (map f (xs ++ x ∷ [])) ≡ map f (xs ++ x ∷ []) = take_all n (map f (xs ++ x ∷ [])) (omega (arith, length-map (xs ++ x ∷ []) f, length-append xs (x ∷ []))) in
    let room : length (take n (map f xs)) < n = omega (arith, ap length all, len) in
    ap (λ t. cond t (with_items (take n (map f xs) ++ f x ∷ []) (nat_lt n (length xs))) (with_items (take n (map f xs)) true)) (lt-ltb (length (take n (map f xs))) n room)
    ∙ ap (λ ys. with_items (ys ++ f x ∷ []) (nat_lt n (length xs))) all
    ∙ ap (λ ys. with_items ys (nat_lt n (length xs))) (sym (map-append f xs (x ∷ [])) ∙ sym more)
    ∙ ap (λ t. with_items (take n (map f (xs ++ x ∷ []))) t) (less_more (length xs) n h ∙ ap (nat_lt n) (sym (length-append xs (x ∷ []))))

not_less : (m : ℕ) → nat_lt m m ≡ false
not_less m = grind (arith, nat_tests)

put_full : {X T : Type 0} (f : X → T) (n : ℕ) (xs : List X) (x : X) → n ≤ length xs → put n (f x) (keep f n xs) ≡ keep f n (xs ++ x ∷ [])
put_full f n xs x h =
    let len : length (map f xs) ≡ length xs = length-map xs f in
    let le : n ≤ length (map f xs) = omega (arith, len) in
    let full : length (take n (map f xs)) ≡ n = length-take-le n (map f xs) le in
    let same : take n (map f (xs ++ x ∷ [])) ≡ take n (map f xs) = ap (take n) (map-append f xs (x ∷ [])) ∙ take-append-le n (map f xs) (f x ∷ []) le in
    ap (λ m. cond (nat_lt m n) (with_items (take n (map f xs) ++ f x ∷ []) (nat_lt n (length xs))) (with_items (take n (map f xs)) true)) full
    ∙ ap (λ t. cond t (with_items (take n (map f xs) ++ f x ∷ []) (nat_lt n (length xs))) (with_items (take n (map f xs)) true)) (not_less n)
    ∙ ap (λ ys. with_items ys true) (sym same)
    ∙ ap (λ t. with_items (take n (map f (xs ++ x ∷ []))) t) (over_more (length xs) n h ∙ ap (nat_lt n) (sym (length-append xs (x ∷ []))))

put_last : {X T : Type 0} (f : X → T) (n : ℕ) (xs : List X) (x : X) → put n (f x) (keep f n xs) ≡ keep f n (xs ++ x ∷ [])
put_last f n xs x = elim (cases_lt (length xs) n) [
  | inl h ↦ put_room f n xs x h
  | inr h ↦ put_full f n xs x h
]

pub kept_act : (a : Action) (l : Lexeme) (w : List ℕ) (p : Parts) → SaysFor a l w → drafted a w (kept_parts p) ≡ kept_parts (act a l p)
kept_act actions.Nothing l w p e = refl
kept_act actions.BeginExplain l w p e = refl
kept_act actions.BeginDrop l w p e = refl
kept_act actions.BeginStream l w p e = refl
kept_act actions.BeginQuery l w p e = refl
kept_act actions.BeginShared l w p e = refl
kept_act actions.BeginCompact l w p e = refl
kept_act actions.BeginSharedCompact l w p e = refl
kept_act actions.Named l w p e = ap (λ x. record (kept_parts p) { name = kept x }) e
kept_act actions.BeginColumns l w p e = refl
kept_act actions.ColumnIs l w p e = ap (λ x. record (kept_parts p) { column = kept x }) e
kept_act actions.AddColumn l w p e = ap (λ k. record (kept_parts p) { columns = k }) (put_last kept_def 8 p.columns (record { name = p.column; domain = None }))
kept_act actions.LowIs l w p e = ap (λ z. record (kept_parts p) { low = z }) e
kept_act actions.AddBounded l w p e = ap (λ z. record (kept_parts p) { columns = put 8 (record { name = kept p.column; domain = Some (kept_number p.low, z) }) (keep kept_def 8 p.columns) }) e ∙ ap (λ k. record (kept_parts p) { columns = k }) (put_last kept_def 8 p.columns (record { name = p.column; domain = Some (p.low, number_of l) }))
kept_act actions.BeginSelect l w p e = refl
kept_act actions.SetDistinct l w p e = refl
kept_act actions.StreamIs l w p e = ap (λ x. record (kept_parts p) { stream = kept x }) e
kept_act actions.AddSelected l w p e = ap (λ x. record (kept_parts p) { select = put 8 (record { stream = kept p.stream; column = kept x }) (keep kept_column 8 p.select) }) e ∙ ap (λ k. record (kept_parts p) { select = k }) (put_last kept_column 8 p.select (record { stream = p.stream; column = text_of l }))
kept_act actions.BeginFrom l w p e = refl
kept_act actions.AddFrom l w p e = ap (λ x. record (kept_parts p) { from = put 4 (kept x) (keep kept 4 p.from) }) e ∙ ap (λ k. record (kept_parts p) { from = k }) (put_last kept 4 p.from (text_of l))
kept_act actions.LeftInteger l w p e = ap (λ z. record (kept_parts p) { left = Integer z }) e
kept_act actions.LeftColumnIs l w p e = ap (λ x. record (kept_parts p) { left = Column (record { stream = kept p.stream; column = kept x }) }) e
kept_act (actions.OpIs o) l w p e = refl
kept_act actions.AddIntegerAtom l w p e = ap (λ z. record (kept_parts p) { atoms = put 16 (record { left = kept_operand p.left; op = p.op; right = Integer z }) (keep kept_atom 16 p.atoms) }) e ∙ ap (λ k. record (kept_parts p) { atoms = k }) (put_last kept_atom 16 p.atoms (record { left = p.left; op = p.op; right = Integer (number_of l) }))
kept_act actions.AddColumnAtom l w p e = ap (λ x. record (kept_parts p) { atoms = put 16 (record { left = kept_operand p.left; op = p.op; right = Column (record { stream = kept p.stream; column = kept x }) }) (keep kept_atom 16 p.atoms) }) e ∙ ap (λ k. record (kept_parts p) { atoms = k }) (put_last kept_atom 16 p.atoms (record { left = p.left; op = p.op; right = Column (record { stream = p.stream; column = text_of l }) }))
kept_act actions.BeginCheckpoint l w p e = refl
kept_act actions.RowsAre l w p e = ap (λ z. record (kept_parts p) { form = forms.Rows; count = z }) e
kept_act actions.BeginGiven l w p e = refl
kept_act actions.BeginCell l w p e = refl
kept_act actions.IndexIs l w p e = ap (λ z. record (kept_parts p) { index = z }) e
kept_act actions.CountIs l w p e = ap (λ z. record (kept_parts p) { count = z }) e
kept_act actions.BeginTuple l w p e = refl
kept_act actions.BeginLock l w p e = refl
kept_act actions.LockKeyIs l w p e = ap (λ z. record (kept_parts p) { lock_key = Some z }) e
kept_act actions.BeginTo l w p e = refl
kept_act actions.AddLockStream l w p e = ap (λ x. record (kept_parts p) { lock_streams = put 16 (kept x) (keep kept 16 p.lock_streams) }) e ∙ ap (λ k. record (kept_parts p) { lock_streams = k }) (put_last kept 16 p.lock_streams (text_of l))
kept_act actions.BeginUnlock l w p e = refl
kept_act actions.AddValue l w p e = ap (λ z. record (kept_parts p) { values = put 8 z (keep kept_number 8 p.values) }) e ∙ ap (λ k. record (kept_parts p) { values = k }) (put_last kept_number 8 p.values (number_of l))

-- the text of each token says what its action takes
far_cond : (b : Bool) (z : ℤ) → or_far (cond b (Some z) None) ≡ cond b z (pos 9223372036854775807)
far_cond true z = refl
far_cond false z = refl

says_value : (w : List ℕ) → is_integer w ≡ true → or_far (value_of w) ≡ kept_number (integer w)
unfolding value_of
says_value w h = ap (λ t. or_far (cond (t && fits_i64 (integer w)) (Some (integer w)) None)) h ∙ far_cond (fits_i64 (integer w)) (integer w)

pub says : (place : State) (k : TokenKind) (w : List ℕ) → (k ≡ kinds.Integer → is_integer w ≡ true) → IfSome (step_of place k w) (λ m. SaysFor m.1 (lexeme_as k w) w)
says AtomLeft kinds.Integer w h = says_value w (h refl)
says RightAny kinds.Integer w h = says_value w (h refl)
says DomainLow kinds.Integer w h = says_value w (h refl)
says DomainHigh kinds.Integer w h = says_value w (h refl)
says AfterResume kinds.Integer w h = says_value w (h refl)
says GivenRows kinds.Integer w h = says_value w (h refl)
says CellIndex kinds.Integer w h = says_value w (h refl)
says CellContent kinds.Integer w h = says_value w (h refl)
says TupleValue kinds.Integer w h = says_value w (h refl)
says AfterValue kinds.Integer w h = says_value w (h refl)
says AfterLock kinds.Integer w h = says_value w (h refl)
says UnlockKey kinds.Integer w h = says_value w (h refl)
says LockStream kinds.Word w h = refl
says Start kinds.Word w h = where_either (is_lock w) (is_unlock w) (AfterLock, actions.BeginLock) (UnlockKey, actions.BeginUnlock) (λ m. SaysFor m.1 (lexeme_as kinds.Word w) w) (λ e. tt) (λ e. tt)
says AfterLock kinds.Word w h = where_some (is_to w) (LockStream, actions.BeginTo) (λ m. SaysFor m.1 (lexeme_as kinds.Word w) w) tt
says AfterLockKey kinds.Word w h = where_some (is_to w) (LockStream, actions.BeginTo) (λ m. SaysFor m.1 (lexeme_as kinds.Word w) w) tt
says AfterLock kinds.Semi w h = tt
says AfterLockKey kinds.Semi w h = tt
says AfterLockStream kinds.Comma w h = tt
says AfterLockStream kinds.Semi w h = tt
says AfterResume kinds.Word w h = refl
says StreamName kinds.Word w h = refl
says ColumnName kinds.Word w h = refl
says QueryName kinds.Word w h = refl
says FirstSelected kinds.Word w h = refl
says SelectedStream kinds.Word w h = refl
says SelectedColumn kinds.Word w h = refl
says FromName kinds.Word w h = refl
says AtomLeft kinds.Word w h = refl
says LeftColumn kinds.Word w h = refl
says RightAny kinds.Word w h = refl
says RightStream kinds.Word w h = refl
says RightColumn kinds.Word w h = refl
says ExplainName kinds.Word w h = refl
says DropName kinds.Word w h = refl
says Start (kinds.Reserved CreateKey) w h = tt
says Start (kinds.Reserved CheckpointKey) w h = tt
says Start (kinds.Reserved ResumeKey) w h = tt
says ResumeWhat (kinds.Reserved AsKey) w h = tt
says ResumeWhat (kinds.Reserved FromKey) w h = tt
says ResumeWhat (kinds.Reserved SelectKey) w h = tt
says AfterValue kinds.Semi w h = tt
says AfterCreate (kinds.Reserved StreamKey) w h = tt
says AfterShared (kinds.Reserved QueryKey) w h = tt
says AfterCreate kinds.Word w h = where_some (is_compact w) (AfterCompact, actions.BeginCompact) (λ m. SaysFor m.1 (lexeme_as kinds.Word w) w) tt
says AfterShared kinds.Word w h = where_some (is_compact w) (AfterCompact, actions.BeginSharedCompact) (λ m. SaysFor m.1 (lexeme_as kinds.Word w) w) tt
says AfterCompact (kinds.Reserved QueryKey) w h = tt
says Ended kinds.Word w h = tt
says OpenColumns kinds.Open w h = tt
says AfterColumn kinds.Comma w h = tt
says AfterColumn (kinds.Reserved InKey) w h = tt
says FirstPoint kinds.Point w h = tt
says SecondPoint kinds.Point w h = tt
says AfterDomain kinds.Comma w h = tt
says QueryAs (kinds.Reserved AsKey) w h = tt
says QuerySelect (kinds.Reserved SelectKey) w h = tt
says SelectedPoint kinds.Point w h = tt
says AfterSelected kinds.Comma w h = tt
says AfterFrom kinds.Comma w h = tt
says LeftPoint kinds.Point w h = tt
says ColumnOp kinds.Less w h = tt
says IntegerOp kinds.Less w h = tt
says RightPoint kinds.Point w h = tt
says AfterAtom kinds.Semi w h = tt
says AfterDrop (kinds.Reserved QueryKey) w h = tt
says Complete kinds.Semi w h = tt
says FirstSelected (kinds.Reserved DistinctKey) w h = tt
says AfterSelected (kinds.Reserved FromKey) w h = tt
says AfterFrom (kinds.Reserved WhereKey) w h = tt
says AfterAtom (kinds.Reserved AndKey) w h = tt
says _ _ _ _ = tt

-- one token more is read
pub read_more : (line : List ℕ) (ts : List Token) (t : Token) (place to : State) (a : Action) (d : Draft) (w : List ℕ) → IsRead line ts place d → step_of place t.kind (slice_range line t.from t.to) ≡ Some (to, a) → w ≡ slice_range line t.from t.to → IsCut line t → IsRead line (ts ++ t ∷ []) to (drafted a w d)
read_more line ts t place to a d w r e same cut =
    let l = lexeme_of line t in
    let P : Option (State × Action) → Type 0 = λ o. IfSome o (λ m. SaysFor m.1 l (slice_range line t.from t.to)) in
    let says_it = subst P e (says place t.kind (slice_range line t.from t.to) (λ e. integer_text (slice_range line t.from t.to) (cut.kind ∙ ap Some e))) in
    record {
      parts = act a l r.parts;
      read = ap (walk Start no_parts) (map-append (lexeme_of line) ts (t ∷ []))
          ∙ walk_append Start no_parts (lexemes line ts) (l ∷ []) place r.parts r.read
          ∙ ap (λ o. walk_on o r.parts l [] (λ pl q. walk pl q [])) (step_same place t.kind (slice_range line t.from t.to) ∙ e);
      keeps = ap (λ x. drafted a x d) same ∙ ap (drafted a (slice_range line t.from t.to)) r.keeps ∙ kept_act a l (slice_range line t.from t.to) r.parts says_it;
    }
