-- A line asks for one thing, and comes to one answer.
use Rattle.std.proofs.Common.{◌≡◌, ℕ, Bool, false, List, [], ◌∷◌, refl, sym, ap, ◌∙◌, Some, None, IsTrue, IsFalse, arith, subst}
use Rattle.sql_text.specs.Lines.{lines}
use Rattle.sql_parser.specs.declared.line.LineKind.{LineKind}
use Rattle.sql_parser.specs.declared.line.LineKind.TheVariants as kinds
use Rattle.sql_parser.specs.declared.parsing.What.{What}
use Rattle.sql_parser.specs.declared.tree.Statement.{Statement}
use Rattle.sql_parser.specs.LineKind.{stripped, kind_of_line}
use Rattle.sql_parser.specs.Limits.{limit_of}
use Rattle.sql_printer.proofs.ReadBack.{one_statement}
use Rattle.sem_query.specs.Query.{QueryValue}
use Rattle.sem_query.specs.Violation.{Failure}
use Rattle.sem_query.specs.Verdict as verdicts
use Rattle.sem_query.specs.declared.decision.Which.TheVariants.{Parts}
use Rattle.sem_query.specs.declared.plan.Numbers.{Numbers}
use Rattle.sem_query.specs.declared.plan.Plan.{Plan}
use Rattle.sem_query.specs.declared.plan.Plan.TheVariants as plans
use Rattle.sem_query.specs.Verdict.{Verdict}
use Rattle.sem_forms.specs.Parts.{form_numbers, HasTooManyParts, IsFormViolation, IsPartsVerdict, of_filter, of_many_parts, of_violation, of_plan}
use Rattle.sem_forms.specs.Forms.{MeetsForm, IsFormPlanOf, IsFormVerdict}
use Rattle.sem_forms.specs.Forms as forms
use Rattle.sem_forms.proofs.Forms.{has_one_form_plan, has_one_form_verdict}
use Rattle.exec_registry.specs.Live.{free_pages}
use Rattle.cmd_session.specs.Request.{Request, silent, created, asked, explained, dropped, taken, saved, resumed, based, locked, unlocked, refused}
use Rattle.cmd_session.specs.Requests.{statement_request, IsStatementRequest, outside, limited, stated, IsTextRequest, IsRequest, too_long, barred, fits}
use Rattle.cmd_session.specs.Answer.{Answer, registered, decided}
use Rattle.cmd_session.specs.Answers.{IsDecided, accepted, rejected, acceptance, is_refusal, Settles, IsAnswer}
use Rattle.cmd_session.specs.State.{State, empty, next_of}
use Rattle.cmd_session.specs.Replies.{replies, AreAnswers}
use Rattle.cmd_session.specs.Laws.{HasOneText}

-- a limit is passed or none is
limits-differ : (s t : Statement) (what : What) → s ≡ t → limit_of s ≡ Some what → limit_of t ≡ None → ⊥
limits-differ s t what e p q =
    let same : limit_of s ≡ limit_of t = ap limit_of e in
    let bad : Some what ≡ None = cc in
    cc

one_of_statement : (state : State) (text : List ℕ) (a b : Request) → IsStatementRequest state text a → IsStatementRequest state text b → a ≡ b
one_of_statement state text a b (outside n p) (outside m q) = p ∙ sym q
one_of_statement state text a b (outside n p) (limited t w i l q) = absurd (n t i)
one_of_statement state text a b (outside n p) (stated t i l q) = absurd (n t i)
one_of_statement state text a b (limited s v h k p) (outside m q) = absurd (m s h)
one_of_statement state text a b (limited s v h k p) (limited t w i l q) = p ∙ sym q
one_of_statement state text a b (limited s v h k p) (stated t i l q) = absurd (limits-differ s t v (one_statement text s t h i) k l)
one_of_statement state text a b (stated s h k p) (outside m q) = absurd (m s h)
one_of_statement state text a b (stated s h k p) (limited t w i l q) = absurd (limits-differ t s w (one_statement text t s i h) l k)
one_of_statement state text a b (stated s h k p) (stated t i l q) = p ∙ ap (statement_request state) (one_statement text s t h i) ∙ sym q

one_of_text : (s : State) (kind : LineKind) (text : List ℕ) (a b : Request) → IsTextRequest s kind text a → IsTextRequest s kind text b → a ≡ b
one_of_text s kinds.Nothing text a b p q = p ∙ sym q
one_of_text s kinds.RowLine text a b p q = p ∙ sym q
one_of_text s kinds.StatementLine text a b p q = one_of_statement s text a b p q

one_request : (s : State) (line : List ℕ) (a b : Request) → IsRequest s line a → IsRequest s line b → a ≡ b
one_request s line a b (too_long m p) (too_long n q) = p ∙ sym q
one_request s line a b (too_long m p) (barred n x q) = absurd (omega arith)
one_request s line a b (too_long m p) (fits n l q) = absurd (omega arith)
one_request s line a b (barred m x p) (too_long n q) = absurd (omega arith)
one_request s line a b (barred m x p) (barred n y q) = p ∙ sym q
one_request s line a b (barred m x p) (fits n l q) = absurd (x l)
one_request s line a b (fits m k p) (too_long n q) = absurd (omega arith)
one_request s line a b (fits m k p) (barred n y q) = absurd (y k)
one_request s line a b (fits m k p) (fits n l q) = one_of_text s (kind_of_line (stripped line)) (stripped line) a b p q

-- a query is a filter or none
both : {b : Bool} → IsTrue b → IsFalse b → ⊥
both {b} t f = cc

no_refusal : (v w : Verdict) → v ≡ w → is_refusal v ≡ false → IsTrue (is_refusal w) → ⊥
no_refusal v w e f t = cc

not_filter : (n : Numbers) → verdicts.accepted n ≡ verdicts.filter → ⊥
not_filter n e = cc

not_limit : (n : Numbers) → verdicts.accepted n ≡ verdicts.limit Parts → ⊥
not_limit n e = cc

not_violation : (n : Numbers) (w : Failure) → verdicts.accepted n ≡ verdicts.violation w → ⊥
not_violation n w e = cc

-- an accepted query is not refused
accepts : (plan : Plan) (verdict : Verdict) → acceptance plan ≡ verdict → IsTrue (is_refusal verdict) → ⊥
accepts plans.Filter verdict e t = absurd (no_refusal verdicts.filter verdict e refl t)
accepts (plans.Parts ps numbers) verdict e t = absurd (no_refusal (verdicts.accepted numbers) verdict e refl t)

-- the parts of a query with cells are not too many, and none breaks a condition
parts_meet : (shared : Bool) (q : QueryValue) (free : ℕ) (numbers : Numbers) → IsPartsVerdict shared q free (verdicts.accepted numbers) → (¬ HasTooManyParts q) × IsFormViolation q None
parts_meet shared q free numbers (of_filter f e) = absurd (not_filter numbers e)
parts_meet shared q free numbers (of_many_parts f m e) = absurd (not_limit numbers e)
parts_meet shared q free numbers (of_violation f m w v e) = absurd (not_violation numbers w e)
parts_meet shared q free numbers (of_plan f m v ps p e) = (m, v)

-- a query with cells breaks no condition, whichever form it has
meets : (shared : Bool) (q : QueryValue) (free : ℕ) (numbers : Numbers) → IsFormVerdict shared q free (verdicts.accepted numbers) → MeetsForm q
meets shared q free numbers (forms.whole plain c part whole follow e) = λ f none. absurd (none (c, part, whole))
meets shared q free numbers (forms.parts m is) = λ f none. parts_meet shared q free numbers is

-- a query is accepted with one plan
same_plan : (shared : Bool) (q : QueryValue) (free : ℕ) (p o : Plan) → IsFormPlanOf shared q p → IsFormPlanOf shared q o → IsFormVerdict shared q free (acceptance p) → IsFormVerdict shared q free (acceptance o) → p ≡ o
same_plan shared q free plans.Filter plans.Filter a b v w = refl
same_plan shared q free plans.Filter (plans.Parts ps m) a b v w = absurd (both a b.0)
same_plan shared q free (plans.Parts ps n) plans.Filter a b v w = absurd (both b a.0)
same_plan shared q free (plans.Parts ps n) (plans.Parts os m) a b v w =
    let e : ps ≡ os = has_one_form_plan shared q ps os a.0 (meets shared q free n v) a.1 b.1 in
    let f : n ≡ m = a.2 ∙ ap (form_numbers shared q) e ∙ sym b.2 in
    ap (λ x. plans.Parts x n) e ∙ ap (λ x. plans.Parts os x) f

-- there is one verdict on a query
one_decided : (name : List ℕ) (q : QueryValue) (shared : Bool) (free : ℕ) (a b : Answer) → IsDecided name q shared free a → IsDecided name q shared free b → a ≡ b
one_decided name q shared free a b (accepted p i v e) (accepted o j w f) = e ∙ ap (registered name q shared) (same_plan shared q free p o i j v w) ∙ sym f
one_decided name q shared free a b (accepted p i v e) (rejected d w t f) = absurd (accepts p d (has_one_form_verdict shared q free (acceptance p) d v w) t)
one_decided name q shared free a b (rejected d w t e) (accepted p i v f) = absurd (accepts p d (has_one_form_verdict shared q free (acceptance p) d v w) t)
one_decided name q shared free a b (rejected d w t e) (rejected c v u f) = e ∙ ap (decided name q) (has_one_form_verdict shared q free d c w v) ∙ sym f

one_settled : (s : State) (request : Request) (a b : Answer) → Settles s request a → Settles s request b → a ≡ b
one_settled s silent a b p q = p ∙ sym q
one_settled s (created name columns) a b p q = p ∙ sym q
one_settled s (asked name query shared) a b p q = one_decided name query shared (free_pages s.pages s.queries) a b p q
one_settled s (explained name) a b p q = p ∙ sym q
one_settled s (dropped name) a b p q = p ∙ sym q
one_settled s (taken stream values) a b p q = p ∙ sym q
one_settled s saved a b p q = p ∙ sym q
one_settled s (resumed n) a b p q = p ∙ sym q
one_settled s (based name base) a b p q = p ∙ sym q
one_settled s (locked lock) a b p q = p ∙ sym q
one_settled s unlocked a b p q = p ∙ sym q
one_settled s (refused word) a b p q = p ∙ sym q

pub one_answer : (s : State) (line : List ℕ) (a b : Answer) → IsAnswer s line a → IsAnswer s line b → a ≡ b
one_answer s line a b p q =
    one_settled s p.request a b p.settles (subst (λ r. Settles s r b) (sym (one_request s line p.request q.request p.asks q.asks)) q.settles)

pub one_list : (s : State) (lines : List (List ℕ)) (xs ys : List Answer) → AreAnswers s lines xs → AreAnswers s lines ys → xs ≡ ys
one_list s [] [] [] p q = refl
one_list s [] [] (b ∷ ys) p q = absurd q
one_list s [] (a ∷ xs) ys p q = absurd p
one_list s (l ∷ lines) [] ys p q = absurd p
one_list s (l ∷ lines) (a ∷ xs) [] p q = absurd q
one_list s (l ∷ lines) (a ∷ xs) (b ∷ ys) p q =
    let same : a ≡ b = one_answer s l a b p.0 q.0 in
    let rest : AreAnswers (next_of s a) lines ys = subst (λ x. AreAnswers (next_of s x) lines ys) (sym same) q.1 in
    let tail : xs ≡ ys = one_list (next_of s a) lines xs ys p.1 rest in
    ap (λ x. x ∷ xs) same ∙ ap (λ l. b ∷ l) tail

pub one_text : HasOneText
one_text limit text written other p q =
    p.replied ∙ ap (replies (empty limit)) (one_list (empty limit) (lines text) p.answers q.answers p.answered q.answered) ∙ sym q.replied
