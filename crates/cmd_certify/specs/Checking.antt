-- What `check` comes to over the lines of a script with a certificate.
use Rattle.std.specs.Prelude.{◌≡◌, ℕ, ◌+◌, ◌<◌, ◌≤◌, Bool, None, List, [], ◌∷◌, ◌++◌, length, codes, decimal}
use Rattle.io_streams.specs.declared.status.Status.TheVariants as status
use Rattle.sem_query.specs.declared.decision.Decision.{Decision}
use Rattle.sem_query.specs.declared.decision.Decision.TheVariants as decision
use Rattle.sem_query.specs.Query.{QueryValue}
use Rattle.sql_catalog.specs.Streams.{Shape}
use Rattle.sql_parser.specs.declared.tree.SelectAst.{SelectAst}
use Rattle.sql_parser.specs.Resolution.{column_named}
use Rattle.sql_parser.specs.LineKind.{stripped}
use Rattle.sql_parser.specs.Naming.{column_text}
use Rattle.sql_replies.specs.Texts.{condition_text}
use Rattle.sql_replies.specs.declared.refusal.Refusal.{Refusal}
use Rattle.sql_replies.specs.declared.refusal.Refusal.TheVariants.{LineTooLong, Syntax, Limit}
use Rattle.cert_format.specs.declared.line.Line.{Line}
use Rattle.cert_checker.specs.declared.answer.Reason.{Reason}
use Rattle.cert_checker.specs.declared.answer.Reason.TheVariants as reason
use Rattle.cert_checker.specs.declared.answer.CheckAnswer.{CheckAnswer}
use Rattle.cert_checker.specs.declared.answer.CheckAnswer.TheVariants.{Yes, No}
use Rattle.cert_format.specs.Nodes.{nodes_of}
use Rattle.cert_format.specs.Certificate.{IsNext, IsNoNextText, IsTooMany, HasRoom, last_of}
use Rattle.cert_format.specs.Text.{IsLine}
use Rattle.cert_checker.specs.Shown.{IsCheckAnswer}
use Rattle.sql_script.specs.Script.{Asks, IsRefusedAt, IsBlank}
use Rattle.sql_script.specs.Commands.{Outcome, refusal, early_refusal}

-- lines of a certificate, stripped, and blank ones between them: behind the first list of its lines they make the second
pub data Collect : List Line → List (List ℕ) → List Line → Type 0 where
  none : {certificate : List Line} → Collect certificate [] certificate
  blank : {certificate all : List Line} {text : List ℕ} {texts : List (List ℕ)} → IsBlank text → Collect certificate texts all → Collect certificate (text ∷ texts) all
  one : {certificate all : List Line} {text : List ℕ} {texts : List (List ℕ)} (l : Line) → length text ≤ 1024 → ¬ IsBlank text
      → IsLine (stripped text) l → IsNext (last_of certificate) l → HasRoom certificate l → Collect (certificate ++ l ∷ []) texts all → Collect certificate (text ∷ texts) all

-- why a line is refused behind those of a certificate
pub data IsRefusedLine (certificate : List Line) (text : List ℕ) (word : Refusal) : Type 0 where
  too_long : 1024 < length text → word ≡ LineTooLong → IsRefusedLine certificate text word
  no_line : length text ≤ 1024 → ¬ IsBlank text → IsNoNextText certificate (stripped text) → word ≡ Syntax → IsRefusedLine certificate text word
  too_many : (l : Line) → length text ≤ 1024 → ¬ IsBlank text → IsLine (stripped text) l → IsNext (last_of certificate) l → IsTooMany certificate l
      → word ≡ Limit → IsRefusedLine certificate text word

abbrev pub reason_text : Reason → List ℕ
reason_text reason.Shape = codes "Shape"
reason_text reason.Cycle = codes "Cycle"
reason_text reason.Path = codes "Path"
reason_text reason.Bound = codes "Bound"

-- what a decision says of a query with so many parts, over these streams
abbrev pub decision_text : List Shape → List ℕ → QueryValue → Decision → ℕ → List ℕ
decision_text streams name q decision.Bounded parts = codes "certified " ++ name ++ codes " bounded parts " ++ decimal parts ++ 10 ∷ []
decision_text streams name q (decision.Violation part condition attr) parts =
    codes "certified " ++ name ++ codes " part " ++ decimal part ++ 32 ∷ condition_text condition ++ 32 ∷ column_text (column_named streams q.from attr) ++ 10 ∷ []

-- what the answer of the check comes to
abbrev pub answered : List Shape → List ℕ → QueryValue → CheckAnswer → Outcome
answered streams name q (Yes decision parts) = record { status = status.Done; text = decision_text streams name q decision parts; needs = None }
answered streams name q (No place why) = record { status = status.Invalid; text = codes "no " ++ decimal place ++ 32 ∷ reason_text why ++ 10 ∷ []; needs = None }

-- What it comes to: the first line that is refused before the query; the first line of the certificate that is refused; or else the answer to the
-- certificate, whichever form of the query it shows.
pub data Checks (lines : List (List ℕ)) (o : Outcome) : Type 0 where
  early : (number : ℕ) (word : Refusal) (refused : IsRefusedAt lines number word) → o ≡ early_refusal number word refused → Checks lines o
  later : (streams : List Shape) (name : List ℕ) (select : SelectAst) (shared : Bool) (q : QueryValue) (number : ℕ) (asks : Asks lines streams name select shared q number)
      → (before : List (List ℕ)) (text : List ℕ) (others : List (List ℕ)) (certificate : List Line) (word : Refusal) → asks.behind ≡ before ++ text ∷ others
      → Collect [] before certificate → IsRefusedLine certificate text word → o ≡ refusal (number + length before + 1) word → Checks lines o
  whole : (streams : List Shape) (name : List ℕ) (select : SelectAst) (shared : Bool) (q : QueryValue) (number : ℕ) (asks : Asks lines streams name select shared q number)
      → (certificate : List Line) (answer : CheckAnswer) → Collect [] asks.behind certificate → IsCheckAnswer q (nodes_of certificate) answer
      → o ≡ answered streams name q answer → Checks lines o
