-- A script comes to one end.
use Rattle.std.proofs.Common.{◌≡◌, ℕ, suc, Bool, List, [], ◌∷◌, ◌++◌, length, refl, sym, ap, ◌∙◌, subst, Some, None, arith}
use Rattle.sem_query.specs.Query.{QueryValue}
use Rattle.sql_catalog.specs.Streams.{Shape}
use Rattle.sql_parser.specs.declared.line.LineKind.{LineKind}
use Rattle.sql_parser.specs.declared.line.LineKind.TheVariants as kinds
use Rattle.sql_parser.specs.declared.parsing.What.{What}
use Rattle.sql_parser.specs.declared.tree.SelectAst.{SelectAst}
use Rattle.sql_parser.specs.declared.tree.Statement.{Statement}
use Rattle.sql_parser.specs.declared.tree.Statement.TheVariants as statements
use Rattle.sql_parser.specs.LineKind.{stripped, kind_of_line}
use Rattle.sql_parser.specs.Limits.{limit_of}
use Rattle.sql_printer.proofs.ReadBack.{one_statement}
use Rattle.sql_replies.specs.declared.refusal.Refusal.{Refusal}
use Rattle.sql_replies.specs.declared.refusal.Refusal.TheVariants.{Syntax}
use Rattle.sql_script.specs.Script as scripts
use Rattle.sql_script.specs.Script.{ScriptLine, nothing, stream, query, refused, statement_line, Creates, IsScriptStatement, outside, misplaced, limited, stated, IsScriptText, IsScriptLine, fits, CreateStreams, Asks, IsRefusedAt, at_line, at_end}
use Rattle.sql_script.specs.Laws.{HasOneEnd}

-- a limit is passed or none is
limits-differ : (s t : Statement) (what : What) → s ≡ t → limit_of s ≡ Some what → limit_of t ≡ None → ⊥
limits-differ s t what e p q =
    let same : limit_of s ≡ limit_of t = ap limit_of e in
    let bad : Some what ≡ None = cc in
    cc

-- a statement that creates nothing has no place
no-place : (streams : List Shape) (s : Statement) → ¬ (Creates s) → statement_line streams s ≡ refused Syntax
no-place streams (statements.CreateStream name columns) c = absurd (c tt)
no-place streams (statements.CreateQuery name select shared) c = absurd (c tt)
no-place streams _ c = refl

misplaced-stated : (streams : List Shape) (s t : Statement) → s ≡ t → ¬ (Creates s) → refused Syntax ≡ statement_line streams t
misplaced-stated streams s t e c = sym (no-place streams t (subst (λ x. ¬ (Creates x)) e c))

one_of_statement : (streams : List Shape) (text : List ℕ) (a b : ScriptLine) → IsScriptStatement streams text a → IsScriptStatement streams text b → a ≡ b
one_of_statement streams text a b (outside n p) (outside m q) = p ∙ sym q
one_of_statement streams text a b (outside n p) (misplaced t i d q) = p ∙ sym q
one_of_statement streams text a b (outside n p) (limited t w i d l q) = absurd (n t i)
one_of_statement streams text a b (outside n p) (stated t i l q) = absurd (n t i)
one_of_statement streams text a b (misplaced s h c p) (outside m q) = p ∙ sym q
one_of_statement streams text a b (misplaced s h c p) (misplaced t i d q) = p ∙ sym q
one_of_statement streams text a b (misplaced s h c p) (limited t w i d l q) = absurd (c (subst Creates (one_statement text t s i h) d))
one_of_statement streams text a b (misplaced s h c p) (stated t i l q) = p ∙ misplaced-stated streams s t (one_statement text s t h i) c ∙ sym q
one_of_statement streams text a b (limited s v h c k p) (outside m q) = absurd (m s h)
one_of_statement streams text a b (limited s v h c k p) (misplaced t i d q) = absurd (d (subst Creates (one_statement text s t h i) c))
one_of_statement streams text a b (limited s v h c k p) (limited t w i d l q) = p ∙ sym q
one_of_statement streams text a b (limited s v h c k p) (stated t i l q) = absurd (limits-differ s t v (one_statement text s t h i) k l)
one_of_statement streams text a b (stated s h k p) (outside m q) = absurd (m s h)
one_of_statement streams text a b (stated s h k p) (misplaced t i d q) = p ∙ sym (misplaced-stated streams t s (one_statement text t s i h) d) ∙ sym q
one_of_statement streams text a b (stated s h k p) (limited t w i d l q) = absurd (limits-differ t s w (one_statement text t s i h) l k)
one_of_statement streams text a b (stated s h k p) (stated t i l q) = p ∙ ap (statement_line streams) (one_statement text s t h i) ∙ sym q

one_of_text : (streams : List Shape) (kind : LineKind) (text : List ℕ) (a b : ScriptLine) → IsScriptText streams kind text a → IsScriptText streams kind text b → a ≡ b
one_of_text streams kinds.Nothing text a b p q = p ∙ sym q
one_of_text streams kinds.RowLine text a b p q = p ∙ sym q
one_of_text streams kinds.StatementLine text a b p q = one_of_statement streams text a b p q

one_line : (streams : List Shape) (line : List ℕ) (a b : ScriptLine) → IsScriptLine streams line a → IsScriptLine streams line b → a ≡ b
one_line streams line a b (scripts.IsScriptLine.too_long m p) (scripts.IsScriptLine.too_long n q) = p ∙ sym q
one_line streams line a b (scripts.IsScriptLine.too_long m p) (fits n q) = absurd (omega arith)
one_line streams line a b (fits m p) (scripts.IsScriptLine.too_long n q) = absurd (omega arith)
one_line streams line a b (fits m p) (fits n q) = one_of_text streams (kind_of_line (stripped line)) (stripped line) a b p q

-- what ends a script
abbrev IsEnd : ScriptLine → Type 0
IsEnd nothing = ⊥
IsEnd (stream shape) = ⊥
IsEnd (query name select shared q) = Unit {0}
IsEnd (refused word) = Unit {0}

-- What lines come to behind some that created streams, and the streams then: the first that creates no stream is this, at this number;
-- behind all of them the script is refused.
data Stop : List Shape → List (List ℕ) → List Shape → ScriptLine → ℕ → Type 0 where
  behind : {s : List Shape} {r : ScriptLine} {n : ℕ} → r ≡ refused Syntax → n ≡ 1 → Stop s [] s r n
  here : {s : List Shape} {line : List ℕ} {lines : List (List ℕ)} {r : ScriptLine} {n : ℕ} → IsScriptLine s line r → IsEnd r → n ≡ 1 → Stop s (line ∷ lines) s r n
  passes : {s all : List Shape} {line : List ℕ} {lines : List (List ℕ)} {r : ScriptLine} {m n : ℕ} → IsScriptLine s line nothing → Stop s lines all r m → n ≡ suc m → Stop s (line ∷ lines) all r n
  adds : {s all : List Shape} {line : List ℕ} {lines : List (List ℕ)} {r : ScriptLine} {m n : ℕ} (shape : Shape) → IsScriptLine s line (stream shape) → Stop (s ++ shape ∷ []) lines all r m → n ≡ suc m → Stop s (line ∷ lines) all r n

same-shape : (a b : Shape) → stream a ≡ stream b → a ≡ b
same-shape a b e = cc

not-stream : (a : Shape) → nothing ≡ stream a → ⊥
not-stream a e = cc

one_stop : {s all others : List Shape} {lines : List (List ℕ)} {r t : ScriptLine} {m n : ℕ} → Stop s lines all r m → Stop s lines others t n → (all ≡ others) × (r ≡ t) × (m ≡ n)
one_stop (behind e f) (behind g h) = (refl, e ∙ sym g, f ∙ sym h)
one_stop (here p e f) (here q g h) = (refl, one_line _ _ _ _ p q, f ∙ sym h)
one_stop (here p e f) (passes q other h) = absurd (subst IsEnd (one_line _ _ _ _ p q) e)
one_stop (here p e f) (adds form q other h) = absurd (subst IsEnd (one_line _ _ _ _ p q) e)
one_stop (passes p rest f) (here q g h) = absurd (subst IsEnd (one_line _ _ _ _ q p) g)
one_stop (passes p rest f) (passes q other h) = let i = one_stop rest other in (i.0, i.1, f ∙ ap suc i.2 ∙ sym h)
one_stop (passes p rest f) (adds form q other h) = absurd (not-stream form (one_line _ _ _ _ p q))
one_stop (adds shape p rest f) (here q g h) = absurd (subst IsEnd (one_line _ _ _ _ q p) g)
one_stop (adds shape p rest f) (passes q other h) = absurd (not-stream shape (one_line _ _ _ _ q p))
one_stop {s = s} {others = others} {t = t} (adds shape p rest f) (adds {lines = lines} {m = k} form q other h) =
    let same : shape ≡ form = same-shape shape form (one_line _ _ _ _ p q) in
    let i = one_stop rest (subst (λ x. Stop (s ++ x ∷ []) lines others t k) (sym same) other) in
    (i.0, i.1, f ∙ ap suc i.2 ∙ sym h)

stop-line : {s all : List Shape} {before : List (List ℕ)} (line : List ℕ) (others : List (List ℕ)) (r : ScriptLine) → CreateStreams s before all → IsScriptLine all line r → IsEnd r → Stop s (before ++ line ∷ others) all r (suc (length before))
stop-line line others r scripts.none is end = here is end refl
stop-line line others r (scripts.blank p rest) is end = passes p (stop-line line others r rest is end) refl
stop-line line others r (scripts.one shape p rest) is end = adds shape p (stop-line line others r rest is end) refl

stop-behind : {s all : List Shape} {lines : List (List ℕ)} → CreateStreams s lines all → Stop s lines all (refused Syntax) (suc (length lines))
stop-behind scripts.none = behind refl refl
stop-behind (scripts.blank p rest) = passes p (stop-behind rest) refl
stop-behind (scripts.one shape p rest) = adds shape p (stop-behind rest) refl

-- what a script comes to
abbrev Comes : List (List ℕ) → List Shape → ScriptLine → ℕ → Type 0
Comes lines streams r n = Stop [] lines streams r n

asked : (lines : List (List ℕ)) (streams : List Shape) (name : List ℕ) (select : SelectAst) (shared : Bool) (q : QueryValue) (n : ℕ) → Asks lines streams name select shared q n → Comes lines streams (query name select shared q) n
asked lines streams name select shared q n a =
    subst (λ l. Comes l streams (query name select shared q) n) (sym a.whole)
    (subst (λ k. Comes (a.before ++ a.line ∷ a.behind) streams (query name select shared q) k) (sym a.number_is) (stop-line a.line a.behind (query name select shared q) a.create a.is tt))

-- the streams behind which a script is refused
abbrev streams-of : {lines : List (List ℕ)} {n : ℕ} {word : Refusal} → IsRefusedAt lines n word → List Shape
streams-of (at_line before line others streams whole create is number_is) = streams
streams-of (at_end streams create word_is number_is) = streams

was_refused : (lines : List (List ℕ)) (n : ℕ) (word : Refusal) → (a : IsRefusedAt lines n word) → Comes lines (streams-of a) (refused word) n
was_refused lines n word (at_line before line others streams whole create is number_is) =
    subst (λ l. Comes l streams (refused word) n) (sym whole)
    (subst (λ k. Comes (before ++ line ∷ others) streams (refused word) k) (sym number_is) (stop-line line others (refused word) create is tt))
was_refused lines n word (at_end streams create word_is number_is) =
    subst (λ w. Comes lines streams (refused w) n) (sym word_is) (subst (λ k. Comes lines streams (refused Syntax) k) (sym number_is) (stop-behind create))

same-query : (name title : List ℕ) (select choice : SelectAst) (shared joint : Bool) (q r : QueryValue) → query name select shared q ≡ query title choice joint r → (name ≡ title) × (select ≡ choice) × (shared ≡ joint) × (q ≡ r)
same-query name title select choice shared joint q r e = (cc, cc, cc, cc)

same-word : (v w : Refusal) → refused v ≡ refused w → v ≡ w
same-word v w e = cc

not-refused : (name : List ℕ) (select : SelectAst) (shared : Bool) (q : QueryValue) (word : Refusal) → query name select shared q ≡ refused word → ⊥
not-refused name select shared q word e = cc

pub one_end : HasOneEnd
one_end lines = (
  (λ streams others name title select choice shared joint q r m n a b.
      let i = one_stop (asked lines streams name select shared q m a) (asked lines others title choice joint r n b) in
      let same = same-query name title select choice shared joint q r i.1 in
      (i.0, same.0, same.1, same.2, same.3, i.2)),
  (λ m n v w a b.
      let i = one_stop (was_refused lines m v a) (was_refused lines n w b) in
      (i.2, same-word v w i.1)),
  (λ streams name select shared q m n word a b.
      let i = one_stop (asked lines streams name select shared q m a) (was_refused lines n word b) in
      not-refused name select shared q word i.1),
)
