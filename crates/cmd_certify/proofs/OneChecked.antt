-- The lines determine what `check` comes to.
use Rattle.std.proofs.Common.{◌≡◌, ℕ, Bool, None, List, [], refl, sym, ap, ap₂, ◌∙◌, subst, arith}
use Rattle.sem_query.specs.Query.{QueryValue}
use Rattle.sql_catalog.specs.Streams.{Shape}
use Rattle.sql_parser.specs.declared.tree.SelectAst.{SelectAst}
use Rattle.sql_replies.specs.declared.refusal.Refusal.{Refusal}
use Rattle.cert_format.specs.declared.line.Line.{Line}
use Rattle.cert_checker.specs.declared.answer.CheckAnswer.{CheckAnswer}
use Rattle.cert_checker.specs.declared.answer.CheckAnswer.TheVariants.{Yes, No}
use Rattle.cert_format.specs.Nodes.{nodes_of}
use Rattle.cert_checker.specs.Shown.{IsCheckAnswer}
use Rattle.cert_checker.proofs.OneAnswer as answers
use Rattle.sql_script.specs.Script.{Asks}
use Rattle.sql_script.proofs.OneEnd.{one_end}
use Rattle.sql_script.specs.Commands.{Outcome, SettleNothing, refusal}
use Rattle.cmd_certify.specs.Checking as checking
use Rattle.cmd_certify.specs.Checking.{Collect, answered, Checks}
use Rattle.cmd_certify.specs.Laws.{HasOneAnswer}
use Rattle.sql_script.proofs.OneRefusal.{behind-same, early-same}
use Rattle.cmd_certify.proofs.OneFinding.{one-refused, one-collected, collected-stays}

answer-same : (streams shapes : List Shape) (name title : List ℕ) (q r : QueryValue) (c d : List Line) (answer other : CheckAnswer) → streams ≡ shapes → name ≡ title → q ≡ r → c ≡ d
    → IsCheckAnswer q (nodes_of c) answer → IsCheckAnswer r (nodes_of d) other → answered streams name q answer ≡ answered shapes title r other
answer-same streams shapes name title q r c d answer other e f g h is it =
    let back : IsCheckAnswer q (nodes_of c) other = subst (λ l. IsCheckAnswer q (nodes_of l) other) (sym h) (subst (λ x. IsCheckAnswer x (nodes_of d) other) (sym g) it) in
    ap (λ s. answered s name q answer) e ∙ ap (λ n. answered shapes n q answer) f ∙ ap (λ x. answered shapes title x answer) g ∙ ap (answered shapes title r) (answers.one_answer q (nodes_of c) answer other is back)

pub one-checked : HasOneAnswer
one-checked all o p (checking.early m v a e) (checking.early n w b f) = e ∙ early-same all m n v w a b ∙ sym f
one-checked all o p (checking.early m v a e) (checking.later streams name select shared q n asks before text others c w is collect refused f) = absurd ((one_end all).2 streams name select shared q n m v asks a)
one-checked all o p (checking.early m v a e) (checking.whole streams name select shared q n asks c answer collect is f) = absurd ((one_end all).2 streams name select shared q n m v asks a)
one-checked all o p (checking.later streams name select shared q n asks before text others c w is collect refused e) (checking.early m v a f) = absurd ((one_end all).2 streams name select shared q n m v asks a)
one-checked all o p (checking.later streams name select shared q m asks before text others c v is collect refused e) (checking.later shapes title choice joint r n also front line more d w it gather denied f) =
    let same = (one_end all).0 streams shapes name title select choice shared joint q r m n asks also in
    let behind : asks.behind ≡ also.behind = behind-same all streams shapes name title select choice shared joint q r m n asks also same.5 in
    let i = one-refused asks.behind before front text line others more c d v w is (behind ∙ it) collect gather refused denied in
    e ∙ ap₂ (λ (k : ℕ) (x : Refusal). refusal k x) (omega (arith, same.5, i.0)) i.1 ∙ sym f
one-checked all o p (checking.later streams name select shared q m asks before text others c v is collect refused e) (checking.whole shapes title choice joint r n also d answer gather it f) =
    let same = (one_end all).0 streams shapes name title select choice shared joint q r m n asks also in
    let behind : asks.behind ≡ also.behind = behind-same all streams shapes name title select choice shared joint q r m n asks also same.5 in
    absurd (collected-stays also.behind before text others c d v (sym behind ∙ is) collect refused gather)
one-checked all o p (checking.whole streams name select shared q n asks c answer collect is e) (checking.early m v a f) = absurd ((one_end all).2 streams name select shared q n m v asks a)
one-checked all o p (checking.whole streams name select shared q m asks c answer collect is e) (checking.later shapes title choice joint r n also front line more d w it gather denied f) =
    let same = (one_end all).0 streams shapes name title select choice shared joint q r m n asks also in
    let behind : asks.behind ≡ also.behind = behind-same all streams shapes name title select choice shared joint q r m n asks also same.5 in
    absurd (collected-stays asks.behind front line more d c w (behind ∙ it) gather denied collect)
one-checked all o p (checking.whole streams name select shared q m asks c answer collect is e) (checking.whole shapes title choice joint r n also d other gather it f) =
    let same = (one_end all).0 streams shapes name title select choice shared joint q r m n asks also in
    let behind : asks.behind ≡ also.behind = behind-same all streams shapes name title select choice shared joint q r m n asks also same.5 in
    let lines : c ≡ d = one-collected also.behind c d (subst (λ l. Collect [] l c) behind collect) gather in
    e ∙ answer-same streams shapes name title q r c d answer other same.0 same.1 same.4 lines is it ∙ sym f

-- where one outcome needs all lines, each does
pub checks-alike : (all : List (List ℕ)) (o p : Outcome) → Checks all o → Checks all p → p.needs ≡ None → o.needs ≡ None
checks-alike all o p a b none = ap (λ (x : Outcome). x.needs) (one-checked all o p a b) ∙ none

-- the answer to a certificate needs all lines
pub answered-needs : (streams : List Shape) (name : List ℕ) (q : QueryValue) (answer : CheckAnswer) → (answered streams name q answer).needs ≡ None
answered-needs streams name q (Yes decision parts) = refl
answered-needs streams name q (No place why) = refl

-- lines of a certificate behind a query settle nothing
pub collected-unsettled : (all : List (List ℕ)) (streams : List Shape) (name : List ℕ) (select : SelectAst) (shared : Bool) (q : QueryValue) (number : ℕ) (asks : Asks all streams name select shared q number) (certificate : List Line)
    → Collect [] asks.behind certificate → SettleNothing Checks all
collected-unsettled all streams name select shared q n asks c collect o (checking.early m v a e) = absurd ((one_end all).2 streams name select shared q n m v asks a)
collected-unsettled all streams name select shared q m asks c collect o (checking.later shapes title choice joint r n also front line more d w it gather denied f) =
    let same = (one_end all).0 streams shapes name title select choice shared joint q r m n asks also in
    let behind : asks.behind ≡ also.behind = behind-same all streams shapes name title select choice shared joint q r m n asks also same.5 in
    absurd (collected-stays asks.behind front line more d c w (behind ∙ it) gather denied collect)
collected-unsettled all streams name select shared q m asks c collect o (checking.whole shapes title choice joint r n also d answer gather it f) =
    ap (λ (x : Outcome). x.needs) f ∙ answered-needs shapes title r answer
