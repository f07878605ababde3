-- The place after a line's tokens tells whether the line is a statement.
use Rattle.std.proofs.Common.{◌≡◌, ℕ, true, false, List, [], ◌∷◌, ◌++◌, length, Option, Some, None, Result, Ok, Err, refl, ap, sym, ◌∙◌, append_assoc, subst}
use Rattle.sql_lexer.specs.declared.token.TokenKind.{TokenKind}
use Rattle.sql_lexer.specs.declared.token.TokenKind.TheVariants.{Word, Reserved, Integer, Comma, Point, Open, Close, Less, Equal, Greater, LessEqual, GreaterEqual, Unequal, Semi}
use Rattle.sql_lexer.specs.declared.token.Token.{Token}
use Rattle.sql_parser.specs.declared.transitions.State.{State}
use Rattle.sql_parser.specs.declared.transitions.State.TheVariants.{Start, AfterFrom, AfterAtom, AfterValue, AfterLock, AfterLockKey, AfterLockStream, Complete, Ended}
use Rattle.sql_parser.specs.declared.transitions.Action.{Action}
use Rattle.sql_parser.specs.declared.tree.Statement.{Statement}
use Rattle.std.specs.Prelude.{slice_range}
use Rattle.sql_parser.specs.Steps.{step_of}
use Rattle.sql_parser.specs.Grammar.{Lexeme, Spells, Begins}
use Rattle.sql_parser.specs.declared.draft.Form.TheVariants as forms
use Rattle.sql_parser.specs.Reading.{Parts, no_parts, act, text_of, kind_at, built, finished, walk, walk_on, may_end}
use Rattle.sql_parser.specs.Syntax.{lexeme_as, lexeme_of, lexemes, StopsAt, EndsEarly, after_step, state_after}
use Rattle.sql_parser.proofs.Compact.{in_capitals, spelt_walk}
use Rattle.sql_parser.proofs.WalkLaws.{walk_told, stopped_always}
use Rattle.sql_parser.proofs.Begun.{begun}
use Rattle.sql_parser.proofs.Again.{spelled_read}

-- a token leads where its kind and text do
pub step_same : (place : State) (k : TokenKind) (w : List ℕ) → step_of place (kind_at (lexeme_as k w)) (text_of (lexeme_as k w)) ≡ step_of place k w
step_same place Word w = refl
step_same place (Reserved k) w = refl
step_same place Integer w = refl
step_same place Comma w = refl
step_same place Point w = refl
step_same place Open w = refl
step_same place Close w = refl
step_same place Less w = refl
step_same place Equal w = refl
step_same place Greater w = refl
step_same place LessEqual w = refl
step_same place GreaterEqual w = refl
step_same place Unequal w = refl
step_same place Semi w = refl

-- a walk that stops at a token
pub record StopsIn (line : List ℕ) (place : State) (p : Parts) (ts : List Token) (at : ℕ) : Type 0 where
  pub front : List Token
  pub stop : Token
  pub after : List Token
  pub to : State
  pub parts : Parts
  pub whole : ts ≡ front ++ stop ∷ after
  pub place_is : at ≡ stop.from
  pub read : walk place p (lexemes line front) ≡ Ok (to, parts)
  pub none : step_of to (kind_at (lexeme_of line stop)) (text_of (lexeme_of line stop)) ≡ None

stops_on : (line : List ℕ) (place : State) (p : Parts) (t : Token) (ts : List Token) (at : ℕ) (o : Option (State × Action)) → step_of place t.kind (slice_range line t.from t.to) ≡ o → ((pl : State) (r : Parts) → state_after line pl ts ≡ Err at → StopsIn line pl r ts at) → after_step o t (λ pl. state_after line pl ts) ≡ Err at → StopsIn line place p (t ∷ ts) at
stops_on line place p t ts at None is ih e = record { front = []; stop = t; after = ts; to = place; parts = p; whole = refl; place_is = cc; read = refl; none = step_same place t.kind (slice_range line t.from t.to) ∙ is }
stops_on line place p t ts at (Some m) is ih e =
    let l = lexeme_of line t in
    let s = ih m.0 (act m.1 l p) e in
    record {
      front = t ∷ s.front;
      stop = s.stop;
      after = s.after;
      to = s.to;
      parts = s.parts;
      whole = ap (λ r. t ∷ r) s.whole;
      place_is = s.place_is;
      read = ap (λ o. walk_on o p l (lexemes line s.front) (λ pl r. walk pl r (lexemes line s.front))) (step_same place t.kind (slice_range line t.from t.to) ∙ is) ∙ s.read;
      none = s.none;
    }

stops : (line : List ℕ) (place : State) (p : Parts) (ts : List Token) (at : ℕ) → state_after line place ts ≡ Err at → StopsIn line place p ts at
stops line place p [] at e = cc
stops line place p (t ∷ ts) at e = stops_on line place p t ts at (step_of place t.kind (slice_range line t.from t.to)) refl (λ pl r. stops line pl r ts at) e

-- what is read so far begins a statement
pub begins_read : (ts : List Lexeme) (to : State) (q : Parts) → walk Start no_parts ts ≡ Ok (to, q) → Begins ts
begins_read ts to q e = let t = walk_told Start no_parts ts to q tt e in subst Begins t.0 (begun to q t.1 (spelt_walk Start no_parts ts to q in_capitals e))

pub stopped_begins : (front : List Lexeme) (stop : Lexeme) (to : State) (q : Parts) → walk Start no_parts front ≡ Ok (to, q) → step_of to (kind_at stop) (text_of stop) ≡ None → Begins (front ++ stop ∷ []) → ⊥
stopped_begins front stop to q read none (more, s, spells) =
    let r = spelled_read ((front ++ stop ∷ []) ++ more) s spells in
    let stuck = ap (walk Start no_parts) (append_assoc front (stop ∷ []) more) ∙ stopped_always Start no_parts front stop more to q read none in
    cc (r.read, stuck)

pub stops_at : (line : List ℕ) (ts : List Token) (at : ℕ) → state_after line Start ts ≡ Err at → StopsAt line ts at
stops_at line ts at e =
    let s = stops line Start no_parts ts at e in
    record {
      front = s.front;
      stop = s.stop;
      after = s.after;
      whole = s.whole;
      place = s.place_is;
      begins = begins_read (lexemes line s.front) s.to s.parts s.read;
      no_more = λ b. stopped_begins (lexemes line s.front) (lexeme_of line s.stop) s.to s.parts s.read s.none b;
    }

-- where no statement may end, nothing is finished, and where one may, one is
not_finished : (place : State) (p : Parts) → may_end place ≡ false → finished place p ≡ None
not_finished AfterFrom p e = cc
not_finished AfterAtom p e = cc
not_finished AfterValue p e = cc
not_finished AfterLock p e = cc
not_finished AfterLockKey p e = cc
not_finished AfterLockStream p e = cc
not_finished Complete p e = cc
not_finished Ended p e = cc
not_finished _ p e = refl

pub is_finished : (place : State) (p : Parts) → may_end place ≡ true → (s : Statement) × (finished place p ≡ Some s)
is_finished AfterFrom p e = (built forms.Query p, refl)
is_finished AfterAtom p e = (built forms.Query p, refl)
is_finished AfterValue p e = (built forms.Tuple p, refl)
is_finished AfterLock p e = (built forms.Lock p, refl)
is_finished AfterLockKey p e = (built forms.Lock p, refl)
is_finished AfterLockStream p e = (built forms.Lock p, refl)
is_finished Complete p e = (built p.form p, refl)
is_finished Ended p e = (built p.form p, refl)
is_finished _ p e = cc

same_ok : (a b : State × Parts) (r : Result (State × Parts) (List Lexeme)) → r ≡ Ok a → r ≡ Ok b → a ≡ b
same_ok a b r e f = cc

unfinished : (ts : List Lexeme) (to : State) (q : Parts) → walk Start no_parts ts ≡ Ok (to, q) → finished to q ≡ None → (s : Statement) → Spells ts s → ⊥
unfinished ts to q read none s spells =
    let r = spelled_read ts s spells in
    let same = same_ok (r.to, r.parts) (to, q) (walk Start no_parts ts) r.read read in
    let there : finished to q ≡ Some s = ap (λ (m : State × Parts). finished m.0 m.1) (sym same) ∙ r.finished_there in
    cc (there, none)

pub ends_early : (line : List ℕ) (ts : List Token) (to : State) (q : Parts) → walk Start no_parts (lexemes line ts) ≡ Ok (to, q) → may_end to ≡ false → EndsEarly line ts (length line)
ends_early line ts to q read never = record {
  place = refl;
  begins = begins_read (lexemes line ts) to q read;
  no_statement = λ s spells. unfinished (lexemes line ts) to q read (not_finished to q never) s spells;
}
