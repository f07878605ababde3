-- The outline of the tokens so far.
use Rattle.std.proofs.Common.{◌≡◌, ◌≢◌, ℕ, ◌<◌, Bool, true, false, ◌||◌, List, [], ◌∷◌, ◌++◌, Option, Some, None, Result, Ok, Err, refl, ap, sym, ◌∙◌, subst, arith, inl}
use Rattle.std.specs.Prelude.{slice_range}
use Rattle.std.specs.List.{list_any}
use Rattle.std.proofs.lemmas.List.Folds.{list_any-append}
use Rattle.sql_lexer.specs.declared.token.Token.{Token}
use Rattle.sql_lexer.specs.Standing.{IsNextToken, IsNext}
use Rattle.sql_lexer.specs.Tokens.{tokens, tokens_at, with_first}
use Rattle.sql_lexer.proofs.TokenLists.{after, after_one, after_end, after_err}
use Rattle.sql_parser.specs.declared.draft.Draft.{Draft}
use Rattle.sql_parser.specs.declared.head.Head.{Head}
use Rattle.sql_parser.specs.declared.outline.Outline.{Outline}
use Rattle.sql_parser.specs.declared.transitions.Action.{Action}
use Rattle.sql_parser.specs.declared.transitions.Action.TheVariants as actions
use Rattle.sql_parser.specs.declared.transitions.State.{State}
use Rattle.sql_parser.specs.DraftLimits.{is_long_token, is_wide_token}
use Rattle.sql_parser.specs.DraftSteps.{drafted}
use Rattle.sql_parser.specs.Keeping.{IsCut, IsRead, kept_parts}
use Rattle.sql_parser.specs.Outlines.{head_in, headed, no_outline, outlined, fault_or, IsOutline, IsDraft}
use Rattle.sql_parser.specs.Reading.{no_parts, kind_at, text_of}
use Rattle.sql_parser.specs.Steps.{step_of}
use Rattle.sql_parser.specs.Syntax.{lexemes, lexeme_of, IsFault, IsFaultOf, StopsAt}
use Rattle.sql_parser.proofs.KeptLaw.{read_more}
use Rattle.sql_parser.proofs.Verdict.{begins_read, stopped_begins, step_same}

-- an action makes of the head of a draft what it makes of the draft
head_drafted : (a : Action) (w : List ℕ) (d : Draft) → headed a w (head_in d) ≡ head_in (drafted a w d)
head_drafted actions.Nothing w d = refl
head_drafted actions.BeginExplain w d = refl
head_drafted actions.BeginDrop w d = refl
head_drafted actions.BeginStream w d = refl
head_drafted actions.BeginQuery w d = refl
head_drafted actions.BeginShared w d = refl
head_drafted actions.BeginCompact w d = refl
head_drafted actions.BeginSharedCompact w d = refl
head_drafted actions.Named w d = refl
head_drafted actions.BeginColumns w d = refl
head_drafted actions.ColumnIs w d = refl
head_drafted actions.AddColumn w d = refl
head_drafted actions.LowIs w d = refl
head_drafted actions.AddBounded w d = refl
head_drafted actions.BeginSelect w d = refl
head_drafted actions.SetDistinct w d = refl
head_drafted actions.StreamIs w d = refl
head_drafted actions.AddSelected w d = refl
head_drafted actions.BeginFrom w d = refl
head_drafted actions.AddFrom w d = refl
head_drafted actions.LeftInteger w d = refl
head_drafted actions.LeftColumnIs w d = refl
head_drafted (actions.OpIs o) w d = refl
head_drafted actions.AddIntegerAtom w d = refl
head_drafted actions.AddColumnAtom w d = refl
head_drafted actions.BeginCheckpoint w d = refl
head_drafted actions.RowsAre w d = refl
head_drafted actions.BeginGiven w d = refl
head_drafted actions.BeginCell w d = refl
head_drafted actions.IndexIs w d = refl
head_drafted actions.CountIs w d = refl
head_drafted actions.BeginTuple w d = refl
head_drafted actions.AddValue w d = refl
head_drafted actions.BeginLock w d = refl
head_drafted actions.LockKeyIs w d = refl
head_drafted actions.BeginTo w d = refl
head_drafted actions.AddLockStream w d = refl
head_drafted actions.BeginUnlock w d = refl

or_false : (b : Bool) → (b || false) ≡ b
or_false true = refl
or_false false = refl

any_more : {X : Type 0} (f : X → Bool) (xs : List X) (x : X) (b : Bool) → b ≡ list_any f xs → (b || f x) ≡ list_any f (xs ++ x ∷ [])
any_more f xs x b e = ap (λ c. c || f x) e ∙ ap (λ c. list_any f xs || c) (sym (or_false (f x))) ∙ sym (list_any-append f xs (x ∷ []))

-- the tokens up to a place lead to the state, and the head and the tests are those of a draft of them
pub record Outlined (line : List ℕ) (place : ℕ) (o : Outline) : Type 0 where
  pub before : List Token
  pub told : tokens line ≡ after before (tokens_at line place)
  pub draft : Draft
  pub read : IsRead line before o.state draft
  pub head : o.head ≡ head_in draft
  pub long : o.long ≡ list_any is_long_token before
  pub wide : o.wide ≡ list_any (is_wide_token line) before

pub outlined_none : (line : List ℕ) → Outlined line 0 no_outline
outlined_none line = record {
  before = [];
  told = refl;
  draft = kept_parts no_parts;
  read = record { parts = no_parts; read = refl; keeps = refl };
  head = refl;
  long = refl;
  wide = refl;
}

cut_of : (line : List ℕ) (place : ℕ) (t : Token) → IsNextToken line place t → IsCut line t
cut_of line place t n = let lt : t.from < t.to = n.has_bytes in record { order = omega (arith, lt); inside = n.inside; kind = n.kind }

-- one token more is read
pub outlined_more : (line : List ℕ) (place : ℕ) (t : Token) (to : State) (a : Action) (o : Outline) → IsNextToken line place t → tokens_at line place ≡ with_first t (tokens_at line t.to)
    → step_of o.state t.kind (slice_range line t.from t.to) ≡ Some (to, a) → Outlined line place o → Outlined line t.to (outlined line t to a o)
outlined_more line place t to a o n e leads s =
    let w = slice_range line t.from t.to in
    record {
      before = s.before ++ t ∷ [];
      told = s.told ∙ ap (after s.before) e ∙ sym (after_one s.before t (tokens_at line t.to));
      draft = drafted a w s.draft;
      read = read_more line s.before t o.state to a s.draft w s.read leads refl (cut_of line place t n);
      head = ap (headed a w) s.head ∙ head_drafted a w s.draft;
      long = any_more is_long_token s.before t o.long s.long;
      wide = any_more (is_wide_token line) s.before t o.wide s.wide;
    }

-- what stands next, where it is known to be a token or none
pub token_there : (line : List ℕ) (place : ℕ) (o : Option Token) (t : Token) → o ≡ Some t → IsNext line place (Ok o) → IsNextToken line place t × (tokens_at line place ≡ with_first t (tokens_at line t.to))
token_there line place o t e n =
    let P : Option Token → Type 0 = λ x. IsNext line place (Ok x) in
    subst P e n

pub none_there : (line : List ℕ) (place : ℕ) (o : Option Token) → o ≡ None → IsNext line place (Ok o) → tokens_at line place ≡ Ok []
none_there line place o e n =
    let P : Option Token → Type 0 = λ x. IsNext line place (Ok x) in
    subst P e n

-- no token is left
pub outlined_all : (line : List ℕ) (place : ℕ) (o : Outline) → tokens_at line place ≡ Ok [] → Outlined line place o → IsOutline line o
outlined_all line place o e s = record {
  its_tokens = s.before;
  lexed = s.told ∙ ap (after s.before) e ∙ after_end s.before;
  draft = s.draft;
  read = s.read;
  head = s.head;
  long = s.long;
  wide = s.wide;
}

-- no token begins
pub outlined_stuck : (line : List ℕ) (place at : ℕ) (o : Outline) → tokens_at line place ≡ Err at → Outlined line place o → IsFault line at
outlined_stuck line place at o e s =
    let P : Result (List Token) ℕ → Type 0 = λ r. IsFaultOf line r at in
    subst P (sym (s.told ∙ ap (after s.before) e ∙ after_err s.before at)) refl

after_ok : (ts us : List Token) → after ts (Ok us) ≡ Ok (ts ++ us)
after_ok [] us = refl
after_ok (t ∷ ts) us = ap (with_first t) (after_ok ts us)

stops_by : (line : List ℕ) (t : Token) (place : ℕ) (o : Outline) (s : Outlined line place o) (r : Result (List Token) ℕ) → step_of o.state t.kind (slice_range line t.from t.to) ≡ None → IsFaultOf line (after s.before (with_first t r)) (fault_or r t.from)
stops_by line t place o s (Ok ts) none =
    let P : Result (List Token) ℕ → Type 0 = λ r. IsFaultOf line r t.from in
    let stuck : step_of o.state (kind_at (lexeme_of line t)) (text_of (lexeme_of line t)) ≡ None = step_same o.state t.kind (slice_range line t.from t.to) ∙ none in
    let stop : StopsAt line (s.before ++ t ∷ ts) t.from = record {
      front = s.before;
      stop = t;
      after = ts;
      whole = refl;
      place = refl;
      begins = begins_read (lexemes line s.before) o.state s.read.parts s.read.read;
      no_more = λ b. stopped_begins (lexemes line s.before) (lexeme_of line t) o.state s.read.parts s.read.read stuck b;
    } in
    subst P (sym (after_ok s.before (t ∷ ts))) (inl stop)
stops_by line t place o s (Err at) none =
    let P : Result (List Token) ℕ → Type 0 = λ r. IsFaultOf line r at in
    subst P (sym (after_err s.before at)) refl

-- a token goes on nowhere
pub outlined_stops : (line : List ℕ) (place : ℕ) (t : Token) (o : Outline) → tokens_at line place ≡ with_first t (tokens_at line t.to) → step_of o.state t.kind (slice_range line t.from t.to) ≡ None → Outlined line place o → IsFault line (fault_or (tokens_at line t.to) t.from)
outlined_stops line place t o e none s =
    let P : Result (List Token) ℕ → Type 0 = λ r. IsFaultOf line r (fault_or (tokens_at line t.to) t.from) in
    subst P (sym (s.told ∙ ap (after s.before) e)) (stops_by line t place o s (tokens_at line t.to) none)

-- the same, and the draft is that of the tokens
abbrev pub Drafted : List ℕ → ℕ → Outline → Draft → Type 0
Drafted line place o d = (s : Outlined line place o) × (s.draft ≡ d)

pub drafted_none : (line : List ℕ) (d : Draft) → d ≡ kept_parts no_parts → Drafted line 0 no_outline d
unfolding outlined_none
drafted_none line d e = (outlined_none line, sym e)

pub drafted_more : (line : List ℕ) (place : ℕ) (t : Token) (to : State) (a : Action) (o : Outline) (d : Draft) → IsNextToken line place t → tokens_at line place ≡ with_first t (tokens_at line t.to)
    → step_of o.state t.kind (slice_range line t.from t.to) ≡ Some (to, a) → Drafted line place o d → Drafted line t.to (outlined line t to a o) (drafted a (slice_range line t.from t.to) d)
unfolding outlined_more
drafted_more line place t to a o d n e leads s = (outlined_more line place t to a o n e leads s.0, ap (drafted a (slice_range line t.from t.to)) s.1)

pub drafted_all : (line : List ℕ) (place : ℕ) (o : Outline) (d : Draft) → tokens_at line place ≡ Ok [] → Drafted line place o d → IsDraft line o d
unfolding outlined_all
drafted_all line place o d e s = (outlined_all line place o e s.0, s.1)
