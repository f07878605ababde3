-- The words that are reserved nowhere: where they are read, how long they are, and that the tokens of a statement differ in them alone.
use Rattle.std.proofs.Common.{◌≡◌, ◌≢◌, ℕ, Bool, true, false, cond, ◌||◌, List, [], ◌∷◌, ◌++◌, length, codes, flat_map, Option, Some, None, Ok, IfSome, ℤ, ◌≤◌, refl, ap, sym, ◌∙◌, subst, arith}
use Rattle.std.specs.Char.{to_ascii_lowercase}
use Rattle.std.specs.List.{list_any, AllByRecursion}
use Rattle.std.specs.Str.{str_eq_ignore_ascii_case, str_to_ascii_lowercase}
use Rattle.std.proofs.lemmas.Bool.Decides.{nat_tests}
use Rattle.std.proofs.lemmas.List.{length-map}
use Rattle.std.proofs.lemmas.Slice.Eq.{bytes_eq-Decides}
use Rattle.sql_text.specs.Key.{key_of}
use Rattle.sql_text.specs.Name.{is_name}
use Rattle.sql_text.specs.declared.key.Key.TheVariants.{CreateKey, StreamKey, QueryKey, AsKey, SelectKey, DistinctKey, FromKey, WhereKey, AndKey, ExplainKey, DropKey, InKey, SharedKey, CheckpointKey, ResumeKey}
use Rattle.sql_lexer.specs.declared.token.TokenKind.TheVariants.{Word}
use Rattle.sql_parser.specs.declared.transitions.Action.{Action}
use Rattle.sql_parser.specs.declared.transitions.Action.TheVariants.{BeginCompact, BeginSharedCompact, BeginLock, BeginTo, BeginUnlock}
use Rattle.sql_parser.specs.declared.transitions.State.{State}
use Rattle.sql_parser.specs.declared.transitions.State.TheVariants.{Start, AfterCreate, AfterShared, AfterCompact, StreamName, OpenColumns, ColumnName, AfterColumn, DomainLow, FirstPoint, SecondPoint, DomainHigh, AfterDomain, QueryName, QueryAs, QuerySelect, FirstSelected, SelectedStream, SelectedPoint, SelectedColumn, AfterSelected, FromName, AfterFrom, AtomLeft, LeftPoint, LeftColumn, ColumnOp, RightAny, IntegerOp, RightStream, RightPoint, RightColumn, AfterAtom, ExplainName, AfterDrop, DropName, AfterResume, ResumeWhat, GivenRows, CellIndex, CellContent, TupleValue, AfterValue, AfterLock, AfterLockKey, LockStream, AfterLockStream, UnlockKey, Complete, Ended}
use Rattle.sql_parser.specs.declared.tree.Statement.{Statement}
use Rattle.sql_parser.specs.declared.tree.Statement.TheVariants.{CreateStream, CreateQuery, Explain, DropQuery, Checkpoint, ResumeRows, ResumeGiven, ResumeCell, ResumeTuple, Lock, Unlock}
use Rattle.sql_parser.specs.Grammar.{Lexeme, key_tokens, word, number, key, comma, point, opening, closing, less, equal, greater, less_equal, greater_equal, unequal, semicolon, FreeWords, shared_tokens, compact_tokens, select_tokens, to_tokens, tokens_with, no_words, written, capitals, is_compact, is_lock, is_unlock, is_to, IsSpelling}
use Rattle.sql_parser.specs.Limits.{word_in, number_in, names_of, integers_of, is_long}
use Rattle.sql_parser.specs.Reading.{Parts, act, text_of, kind_at, walk, walk_on}
use Rattle.sql_parser.specs.Steps.{step, word_step, step_of}

-- elsewhere a word is one by its kind alone
pub other_word : (place : State) (w : List ℕ) → place ≢ Start → place ≢ AfterLock → place ≢ AfterLockKey → place ≢ AfterCreate → place ≢ AfterShared → step place Word ≡ word_step place w
other_word Start w h k l m n = absurd (h refl)
other_word AfterLock w h k l m n = absurd (k refl)
other_word AfterLockKey w h k l m n = absurd (l refl)
other_word AfterCreate w h k l m n = absurd (m refl)
other_word AfterShared w h k l m n = absurd (n refl)
other_word _ w h k l m n = refl

-- each word is one of its spellings, and a name
pub in_capitals : IsSpelling capitals
unfolding is_compact is_lock is_unlock is_to
in_capitals = record { compact = refl; lock = refl; unlock = refl; to = refl }

-- what holds of the words as they are spelled
abbrev pub OfWords : (Lexeme → Type 0) → FreeWords (List ℕ) → Type 0
OfWords P w = P (word w.compact) × P (word w.lock) × P (word w.unlock) × P (word w.to)

abbrev pub IsNameToken : Lexeme → Type 0
IsNameToken (word w) = is_name w ≡ true
IsNameToken _ = Unit {0}

pub are_names : OfWords IsNameToken capitals
unfolding is_name key_of
are_names = (refl, refl, refl, refl)

-- each spelling has as many bytes
same_length : (w c : List ℕ) → str_eq_ignore_ascii_case w c ≡ true → length w ≡ length c
same_length w c h =
    let e : str_to_ascii_lowercase w ≡ str_to_ascii_lowercase c = (bytes_eq-Decides (str_to_ascii_lowercase w) (str_to_ascii_lowercase c)).0 h in
    omega (arith, ap length e, length-map w to_ascii_lowercase, length-map c to_ascii_lowercase)

pub spelling_length : (w : List ℕ) → is_compact w ≡ true → length w ≡ length (codes "COMPACT")
unfolding is_compact
spelling_length w h = same_length w (codes "COMPACT") h

pub lock_length : (w : List ℕ) → is_lock w ≡ true → length w ≡ length (codes "LOCK")
unfolding is_lock
lock_length w h = same_length w (codes "LOCK") h

pub unlock_length : (w : List ℕ) → is_unlock w ≡ true → length w ≡ length (codes "UNLOCK")
unfolding is_unlock
unlock_length w h = same_length w (codes "UNLOCK") h

pub to_length : (w : List ℕ) → is_to w ≡ true → length w ≡ length (codes "TO")
unfolding is_to
to_length w h = same_length w (codes "TO") h

-- no word is both LOCK and UNLOCK
pub no_lock : (w : List ℕ) → is_unlock w ≡ true → is_lock w ≡ false
no_lock w h = by (is_lock w) refl
  where
    by : (b : Bool) → is_lock w ≡ b → b ≡ false
    by false e = refl
    by true e = absurd (omega (arith, lock_length w e, unlock_length w h))

not_long : (w : List ℕ) → length w ≤ 7 → is_long w ≡ false
not_long w e = grind (arith, nat_tests)

-- the spelling that is kept is one of the words
abbrev pub IsSpelt : Parts → Type 0
IsSpelt p = IsSpelling p.spelling

where_true : {X : Type 0} (b : Bool) (x : X) (P : X → Type 0) → (b ≡ true → P x) → IfSome (cond b (Some x) None) P
where_true true x P h = h refl
where_true false x P h = tt

-- what may be one of two things holds where it is found
pub where_either : {X : Type 0} (b c : Bool) (x y : X) (P : X → Type 0) → (b ≡ true → P x) → (c ≡ true → P y) → IfSome (cond b (Some x) (cond c (Some y) None)) P
where_either true c x y P h k = h refl
where_either false true x y P h k = k refl
where_either false false x y P h k = tt

spelt_step : (place : State) (p : Parts) (l : Lexeme) → IsSpelt p → IfSome (step_of place (kind_at l) (text_of l)) (λ m. IsSpelt (act m.1 l p))
spelt_step AfterCreate p (word w) h = where_true (is_compact w) (AfterCompact, BeginCompact) (λ m. IsSpelt (act m.1 (word w) p)) (λ e. record { compact = e; lock = h.lock; unlock = h.unlock; to = h.to })
spelt_step AfterShared p (word w) h = where_true (is_compact w) (AfterCompact, BeginSharedCompact) (λ m. IsSpelt (act m.1 (word w) p)) (λ e. record { compact = e; lock = h.lock; unlock = h.unlock; to = h.to })
spelt_step AfterLock p (word w) h = where_true (is_to w) (LockStream, BeginTo) (λ m. IsSpelt (act m.1 (word w) p)) (λ e. record { compact = h.compact; lock = h.lock; unlock = h.unlock; to = e })
spelt_step AfterLockKey p (word w) h = where_true (is_to w) (LockStream, BeginTo) (λ m. IsSpelt (act m.1 (word w) p)) (λ e. record { compact = h.compact; lock = h.lock; unlock = h.unlock; to = e })
spelt_step Start p (word w) h =
    where_either (is_lock w) (is_unlock w) (AfterLock, BeginLock) (UnlockKey, BeginUnlock) (λ m. IsSpelt (act m.1 (word w) p))
    (λ e. record { compact = h.compact; lock = e; unlock = h.unlock; to = h.to })
    (λ e. record { compact = h.compact; lock = h.lock; unlock = e; to = h.to })
spelt_step Start p (key CreateKey) h = h
spelt_step Start p (key ExplainKey) h = h
spelt_step Start p (key DropKey) h = h
spelt_step Start p (key CheckpointKey) h = h
spelt_step Start p (key ResumeKey) h = h
spelt_step AfterCreate p (key StreamKey) h = h
spelt_step AfterCreate p (key QueryKey) h = h
spelt_step AfterCreate p (key SharedKey) h = h
spelt_step AfterShared p (key QueryKey) h = h
spelt_step AfterCompact p (key QueryKey) h = h
spelt_step StreamName p (word w) h = h
spelt_step OpenColumns p opening h = h
spelt_step ColumnName p (word w) h = h
spelt_step AfterColumn p comma h = h
spelt_step AfterColumn p closing h = h
spelt_step AfterColumn p (key InKey) h = h
spelt_step DomainLow p (number z) h = h
spelt_step FirstPoint p point h = h
spelt_step SecondPoint p point h = h
spelt_step DomainHigh p (number z) h = h
spelt_step AfterDomain p comma h = h
spelt_step AfterDomain p closing h = h
spelt_step QueryName p (word w) h = h
spelt_step QueryAs p (key AsKey) h = h
spelt_step QuerySelect p (key SelectKey) h = h
spelt_step FirstSelected p (key DistinctKey) h = h
spelt_step FirstSelected p (word w) h = h
spelt_step SelectedStream p (word w) h = h
spelt_step SelectedPoint p point h = h
spelt_step SelectedColumn p (word w) h = h
spelt_step AfterSelected p comma h = h
spelt_step AfterSelected p (key FromKey) h = h
spelt_step FromName p (word w) h = h
spelt_step AfterFrom p comma h = h
spelt_step AfterFrom p (key WhereKey) h = h
spelt_step AfterFrom p semicolon h = h
spelt_step AtomLeft p (word w) h = h
spelt_step AtomLeft p (number z) h = h
spelt_step LeftPoint p point h = h
spelt_step LeftColumn p (word w) h = h
spelt_step ColumnOp p less h = h
spelt_step ColumnOp p equal h = h
spelt_step ColumnOp p greater h = h
spelt_step ColumnOp p less_equal h = h
spelt_step ColumnOp p greater_equal h = h
spelt_step ColumnOp p unequal h = h
spelt_step IntegerOp p less h = h
spelt_step IntegerOp p equal h = h
spelt_step IntegerOp p greater h = h
spelt_step IntegerOp p less_equal h = h
spelt_step IntegerOp p greater_equal h = h
spelt_step IntegerOp p unequal h = h
spelt_step RightAny p (word w) h = h
spelt_step RightAny p (number z) h = h
spelt_step RightStream p (word w) h = h
spelt_step RightPoint p point h = h
spelt_step RightColumn p (word w) h = h
spelt_step AfterAtom p (key AndKey) h = h
spelt_step AfterAtom p semicolon h = h
spelt_step ExplainName p (word w) h = h
spelt_step AfterDrop p (key QueryKey) h = h
spelt_step DropName p (word w) h = h
spelt_step AfterResume p (number z) h = h
spelt_step AfterResume p (word w) h = h
spelt_step ResumeWhat p (key AsKey) h = h
spelt_step ResumeWhat p (key FromKey) h = h
spelt_step ResumeWhat p (key SelectKey) h = h
spelt_step GivenRows p (number z) h = h
spelt_step CellIndex p (number z) h = h
spelt_step CellContent p (number z) h = h
spelt_step TupleValue p (number z) h = h
spelt_step AfterValue p (number z) h = h
spelt_step AfterValue p semicolon h = h
spelt_step AfterLock p (number z) h = h
spelt_step AfterLock p semicolon h = h
spelt_step AfterLockKey p semicolon h = h
spelt_step LockStream p (word w) h = h
spelt_step AfterLockStream p comma h = h
spelt_step AfterLockStream p semicolon h = h
spelt_step UnlockKey p (number z) h = h
spelt_step Complete p semicolon h = h
spelt_step Ended p (word w) h = tt
spelt_step _ _ _ _ = tt

spelt_on : (p : Parts) (l : Lexeme) (ts : List Lexeme) (o : Option (State × Action)) (to : State) (q : Parts) → ((pl : State) (r : Parts) → IsSpelt r → walk pl r ts ≡ Ok (to, q) → IsSpelt q) → IfSome o (λ m. IsSpelt (act m.1 l p)) → walk_on o p l ts (λ pl r. walk pl r ts) ≡ Ok (to, q) → IsSpelt q
spelt_on p l ts None to q ih h e = cc
spelt_on p l ts (Some m) to q ih h e = ih m.0 (act m.1 l p) h e

-- and so it is after reading
pub spelt_walk : (place : State) (p : Parts) (ts : List Lexeme) (to : State) (q : Parts) → IsSpelt p → walk place p ts ≡ Ok (to, q) → IsSpelt q
spelt_walk place p [] to q h e =
    let same : (place, p) ≡ (to, q) = cc in
    let P : State × Parts → Type 0 = λ m. IsSpelt m.1 in
    subst P same h
spelt_walk place p (l ∷ ts) to q h e = spelt_on p l ts (step_of place (kind_at l) (text_of l)) to q (λ pl r. spelt_walk pl r ts to q) (spelt_step place p l h) e

-- the tokens of a query, which is shared or not, and compact or not, before its name and from there on
abbrev pub create_tokens : List Lexeme → Bool → Bool → List Lexeme → List Lexeme
create_tokens mark shared k more = key CreateKey ∷ shared_tokens shared ++ compact_tokens mark k ++ key QueryKey ∷ more

-- the tokens of a lock
abbrev pub lock_tokens : FreeWords (List Lexeme) → Option ℤ → List (List ℕ) → List Lexeme
lock_tokens mark k names = mark.lock ++ key_tokens k ++ to_tokens mark.to names

long_word : (w : List ℕ) (names : List (List ℕ)) → is_compact w ≡ true → list_any is_long (w ∷ names) ≡ list_any is_long names
long_word w names h = ap (λ b. b || list_any is_long names) (not_long w (omega (arith, spelling_length w h)))

long_query : (w : List ℕ) (shared k : Bool) (more : List Lexeme) → is_compact w ≡ true → list_any is_long (flat_map word_in (create_tokens (word w ∷ []) shared k more)) ≡ list_any is_long (flat_map word_in (create_tokens [] shared k more))
long_query w true true more h = long_word w (flat_map word_in more) h
long_query w false true more h = long_word w (flat_map word_in more) h
long_query w true false more h = refl
long_query w false false more h = refl

-- the names behind TO
long_to : (w : FreeWords (List ℕ)) (names : List (List ℕ)) → is_to w.to ≡ true → list_any is_long (flat_map word_in (to_tokens (word w.to ∷ []) names)) ≡ list_any is_long (flat_map word_in (to_tokens [] names))
long_to w [] h = refl
long_to w (n ∷ ns) h = ap (λ b. b || list_any is_long (flat_map word_in (to_tokens [] (n ∷ ns)))) (not_long w.to (omega (arith, to_length w.to h)))

long_lock : (w : FreeWords (List ℕ)) (k : Option ℤ) (names : List (List ℕ)) → IsSpelling w → list_any is_long (flat_map word_in (lock_tokens (written w) k names)) ≡ list_any is_long (flat_map word_in (lock_tokens no_words k names))
long_lock w None names h = ap (λ b. b || list_any is_long (flat_map word_in (to_tokens (word w.to ∷ []) names))) (not_long w.lock (omega (arith, lock_length w.lock h.lock))) ∙ long_to w names h.to
long_lock w (Some z) names h = ap (λ b. b || list_any is_long (flat_map word_in (to_tokens (word w.to ∷ []) names))) (not_long w.lock (omega (arith, lock_length w.lock h.lock))) ∙ long_to w names h.to

-- none of them is too long for a name
pub long_with : (w : FreeWords (List ℕ)) (s : Statement) → IsSpelling w → list_any is_long (flat_map word_in (tokens_with (written w) s)) ≡ list_any is_long (names_of s)
long_with w (CreateQuery name select shared) h = long_query w.compact shared select.compact (word name ∷ key AsKey ∷ select_tokens select) h.compact
long_with w (Lock k streams) h = long_lock w k streams.items h
long_with w (Unlock k) h = ap (λ b. b || false) (not_long w.unlock (omega (arith, unlock_length w.unlock h.unlock)))
long_with w (CreateStream name columns) h = refl
long_with w (Explain name) h = refl
long_with w (DropQuery name) h = refl
long_with w Checkpoint h = refl
long_with w (ResumeRows rows) h = refl
long_with w (ResumeGiven name rows) h = refl
long_with w (ResumeCell name index content) h = refl
long_with w (ResumeTuple name values) h = refl

numbers_by : (w : List ℕ) (shared k : Bool) (more : List Lexeme) → flat_map number_in (create_tokens (word w ∷ []) shared k more) ≡ flat_map number_in (create_tokens [] shared k more)
numbers_by w true true more = refl
numbers_by w false true more = refl
numbers_by w true false more = refl
numbers_by w false false more = refl

numbers_lock : (w : FreeWords (List ℕ)) (k : Option ℤ) (names : List (List ℕ)) → flat_map number_in (lock_tokens (written w) k names) ≡ flat_map number_in (lock_tokens no_words k names)
numbers_lock w None [] = refl
numbers_lock w None (n ∷ ns) = refl
numbers_lock w (Some z) [] = refl
numbers_lock w (Some z) (n ∷ ns) = refl

numbers_but : (w : FreeWords (List ℕ)) (s : Statement) → flat_map number_in (tokens_with (written w) s) ≡ flat_map number_in (tokens_with no_words s)
numbers_but w (CreateQuery name select shared) = numbers_by w.compact shared select.compact (word name ∷ key AsKey ∷ select_tokens select)
numbers_but w (Lock k streams) = numbers_lock w k streams.items
numbers_but w (Unlock k) = refl
numbers_but w (CreateStream name columns) = refl
numbers_but w (Explain name) = refl
numbers_but w (DropQuery name) = refl
numbers_but w Checkpoint = refl
numbers_but w (ResumeRows rows) = refl
numbers_but w (ResumeGiven name rows) = refl
numbers_but w (ResumeCell name index content) = refl
numbers_but w (ResumeTuple name values) = refl

-- they say nothing of integers
pub numbers_without : (s : Statement) → flat_map number_in (tokens_with no_words s) ≡ integers_of s
numbers_without s = sym (numbers_but capitals s)

pub numbers_with : (w : FreeWords (List ℕ)) (s : Statement) → flat_map number_in (tokens_with (written w) s) ≡ integers_of s
numbers_with w s = numbers_but w s ∙ numbers_without s

all_by : (P : Lexeme → Type 0) (w : List ℕ) (shared k : Bool) (more : List Lexeme) → P (word w) → AllByRecursion P (create_tokens [] shared k more) → AllByRecursion P (create_tokens (word w ∷ []) shared k more)
all_by P w true true more here h = (h.0, (h.1.0, (here, h.1.1)))
all_by P w false true more here h = (h.0, (here, h.1))
all_by P w true false more here h = h
all_by P w false false more here h = h

all_to : (P : Lexeme → Type 0) (w : List ℕ) (names : List (List ℕ)) → P (word w) → AllByRecursion P (to_tokens [] names) → AllByRecursion P (to_tokens (word w ∷ []) names)
all_to P w [] here h = h
all_to P w (n ∷ ns) here h = (here, h)

all_lock : (P : Lexeme → Type 0) (w : FreeWords (List ℕ)) (k : Option ℤ) (names : List (List ℕ)) → OfWords P w → AllByRecursion P (lock_tokens no_words k names) → AllByRecursion P (lock_tokens (written w) k names)
all_lock P w None names here h = (here.1, all_to P w.to names here.3 h)
all_lock P w (Some z) names here h = (here.1, (h.0, all_to P w.to names here.3 h.1))

-- what holds of the other tokens and of the words holds of all
pub all_with : (P : Lexeme → Type 0) (w : FreeWords (List ℕ)) (s : Statement) → OfWords P w → AllByRecursion P (tokens_with no_words s) → AllByRecursion P (tokens_with (written w) s)
all_with P w (CreateQuery name select shared) here h = all_by P w.compact shared select.compact (word name ∷ key AsKey ∷ select_tokens select) here.0 h
all_with P w (Lock k streams) here h = all_lock P w k streams.items here h
all_with P w (Unlock k) here h = (here.2, h)
all_with P w (CreateStream name columns) here h = h
all_with P w (Explain name) here h = h
all_with P w (DropQuery name) here h = h
all_with P w Checkpoint here h = h
all_with P w (ResumeRows rows) here h = h
all_with P w (ResumeGiven name rows) here h = h
all_with P w (ResumeCell name index content) here h = h
all_with P w (ResumeTuple name values) here h = h
