-- What reading tells of the grammar.
use Rattle.std.proofs.Common.{◌≡◌, List, [], ◌∷◌, ◌++◌, Option, Some, None, IfSome, refl, ap, sym, ◌∙◌, append_assoc, inl, inr, append-nil, subst, Ok, Err}
use Rattle.sql_parser.specs.declared.transitions.State.{State}
use Rattle.sql_parser.specs.declared.transitions.State.TheVariants.{AfterFrom, AfterAtom, AfterValue, AfterLock, AfterLockKey, AfterLockStream, Complete, Ended}
use Rattle.sql_parser.specs.declared.tree.Statement.{Statement}
use Rattle.sql_parser.specs.Steps.{step_of}
use Rattle.sql_parser.specs.Grammar.{Lexeme, Spells}
use Rattle.sql_parser.specs.declared.draft.Form.TheVariants as forms
use Rattle.sql_parser.specs.Reading.{Parts, act, text_of, kind_at, built, finished, walk, walk_on}
use Rattle.sql_parser.specs.declared.transitions.Action.{Action}
use Rattle.sql_parser.proofs.Compact.{IsSpelt}
use Rattle.sql_parser.proofs.Told.{told, Fine, told_step, none_told, query_spelled, no_atoms, lock_spelled, keyed_spelled, bare_spelled}

-- what one step and the rest of a walk tell
abbrev pub WalkTold : State → Parts → List Lexeme → State → Parts → Type 0
WalkTold place p ts to q = (told to q ≡ told place p ++ ts) × Fine to q

told_on : (place : State) (p : Parts) (l : Lexeme) (ts : List Lexeme) (o : Option (State × Action)) (to : State) (q : Parts) → ((pl : State) (r : Parts) → Fine pl r → walk pl r ts ≡ Ok (to, q) → WalkTold pl r ts to q) → IfSome o (λ m. (told m.0 (act m.1 l p) ≡ told place p ++ l ∷ []) × Fine m.0 (act m.1 l p)) → walk_on o p l ts (λ pl r. walk pl r ts) ≡ Ok (to, q) → WalkTold place p (l ∷ ts) to q
told_on place p l ts None to q ih h e = cc
told_on place p l ts (Some m) to q ih h e =
    let rest = ih m.0 (act m.1 l p) h.1 e in
    (rest.0 ∙ ap (λ r. r ++ ts) h.0 ∙ append_assoc (told place p) (l ∷ []) ts, rest.1)

-- reading goes on: the tokens so far and those read are the tokens then
pub walk_told : (place : State) (p : Parts) (ts : List Lexeme) (to : State) (q : Parts) → Fine place p → walk place p ts ≡ Ok (to, q) → WalkTold place p ts to q
walk_told place p [] to q f e =
    let same : (place, p) ≡ (to, q) = cc in
    let P : State × Parts → Type 0 = λ m. WalkTold place p [] m.0 m.1 in
    subst P same (sym (append-nil (told place p)), f)
walk_told place p (l ∷ ts) to q f e = told_on place p l ts (step_of place (kind_at l) (text_of l)) to q (λ pl r. walk_told pl r ts to q) (told_step place p l f) e

-- where reading stops: a front that is read, and a token that goes on nowhere
pub record Stopped (place : State) (p : Parts) (ts rest : List Lexeme) : Type 0 where
  pub front : List Lexeme
  pub stop : Lexeme
  pub after : List Lexeme
  pub to : State
  pub parts : Parts
  pub left : rest ≡ stop ∷ after
  pub whole : ts ≡ front ++ stop ∷ after
  pub read : walk place p front ≡ Ok (to, parts)
  pub none : step_of to (kind_at stop) (text_of stop) ≡ None

walk_append_on : (o : Option (State × Action)) (p : Parts) (l : Lexeme) (ts more : List Lexeme) (to : State) (q : Parts) → ((pl : State) (r : Parts) → walk pl r ts ≡ Ok (to, q) → walk pl r (ts ++ more) ≡ walk to q more) → walk_on o p l ts (λ pl r. walk pl r ts) ≡ Ok (to, q) → walk_on o p l (ts ++ more) (λ pl r. walk pl r (ts ++ more)) ≡ walk to q more
walk_append_on None p l ts more to q ih e = cc
walk_append_on (Some m) p l ts more to q ih e = ih m.0 (act m.1 l p) e

-- a walk goes on from where it came to
pub walk_append : (place : State) (p : Parts) (ts more : List Lexeme) (to : State) (q : Parts) → walk place p ts ≡ Ok (to, q) → walk place p (ts ++ more) ≡ walk to q more
walk_append place p [] more to q e =
    let same : (place, p) ≡ (to, q) = cc in
    ap (λ (m : State × Parts). walk m.0 m.1 more) same
walk_append place p (l ∷ ts) more to q e = walk_append_on (step_of place (kind_at l) (text_of l)) p l ts more to q (λ pl r. walk_append pl r ts more to q) e

-- what stops a walk stops each that begins so
pub stopped_always : (place : State) (p : Parts) (front : List Lexeme) (stop : Lexeme) (more : List Lexeme) (to : State) (q : Parts) → walk place p front ≡ Ok (to, q) → step_of to (kind_at stop) (text_of stop) ≡ None → walk place p (front ++ stop ∷ more) ≡ Err (stop ∷ more)
stopped_always place p front stop more to q e none = walk_append place p front (stop ∷ more) to q e ∙ ap (λ o. walk_on o q stop more (λ pl r. walk pl r more)) none

-- where a statement may end, the tokens are one's
pub finished_spells : (place : State) (p : Parts) (s : Statement) → Fine place p → IsSpelt p → finished place p ≡ Some s → Spells (told place p) s
finished_spells AfterFrom p s f h e =
    let same : built forms.Query p ≡ s = cc in
    let P : Statement → Type 0 = λ s. Spells (told AfterFrom p) s in
    subst P same ((f.0.select, f.0.from, no_atoms p f.1), p.spelling, h, inl (sym (query_spelled p ∙ none_told p f.1)))
finished_spells AfterAtom p s f h e =
    let same : built forms.Query p ≡ s = cc in
    let P : Statement → Type 0 = λ s. Spells (told AfterAtom p) s in
    subst P same ((f.0.select, f.0.from, f.0.atoms), p.spelling, h, inl (sym (query_spelled p)))
finished_spells AfterValue p s f h e =
    let same : built forms.Tuple p ≡ s = cc in
    let P : Statement → Type 0 = λ s. Spells (told AfterValue p) s in
    subst P same (f.1, p.spelling, h, inl refl)
finished_spells AfterLock p s f h e =
    let same : built forms.Lock p ≡ s = cc in
    let P : Statement → Type 0 = λ s. Spells (told AfterLock p) s in
    subst P same (tt, p.spelling, h, inl (sym (bare_spelled p f.1 f.2)))
finished_spells AfterLockKey p s f h e =
    let same : built forms.Lock p ≡ s = cc in
    let P : Statement → Type 0 = λ s. Spells (told AfterLockKey p) s in
    subst P same (tt, p.spelling, h, inl (sym (keyed_spelled p f.1)))
finished_spells AfterLockStream p s f h e =
    let same : built forms.Lock p ≡ s = cc in
    let P : Statement → Type 0 = λ s. Spells (told AfterLockStream p) s in
    subst P same (tt, p.spelling, h, inl (sym (lock_spelled p f.1)))
finished_spells Complete p s f h e =
    let same : built p.form p ≡ s = cc in
    let P : Statement → Type 0 = λ s. Spells (told Complete p) s in
    subst P same (f, p.spelling, h, inl refl)
finished_spells Ended p s f h e =
    let same : built p.form p ≡ s = cc in
    let P : Statement → Type 0 = λ s. Spells (told Ended p) s in
    subst P same (f, p.spelling, h, inr refl)
finished_spells _ _ _ _ _ e = cc
