-- What `certify` comes to over the lines of a script.
use Rattle.std.specs.Prelude.{◌≡◌, ℕ, ◌+◌, Bool, None, List, ◌∷◌, ◌++◌, length}
use Rattle.std.specs.List.{All}
use Rattle.io_streams.specs.declared.status.Status.TheVariants as status
use Rattle.sem_query.specs.Query.{QueryValue}
use Rattle.sql_catalog.specs.Streams.{Shape}
use Rattle.sql_parser.specs.declared.tree.SelectAst.{SelectAst}
use Rattle.sql_parser.specs.declared.tree.Statement.TheVariants.{CreateQuery}
use Rattle.sql_replies.specs.declared.refusal.Refusal.{Refusal}
use Rattle.cert_format.specs.declared.line.Line.{Line}
use Rattle.cert_format.specs.Nodes.{nodes_of}
use Rattle.cert_format.specs.Certificate.{AreLines}
use Rattle.cert_format.specs.Text.{certificate_text}
use Rattle.sql_script.specs.Script.{Asks, IsRefusedAt, IsBlank, IsMisplaced}
use Rattle.sql_script.specs.Texts.{script_text}
use Rattle.sql_script.specs.Commands.{Outcome, refusal, early_refusal}
use Rattle.cmd_certify.specs.Judged.{IsGoodOf, IsUncertified, IsCertified}

-- the statements of a script in printed form, and a certificate
abbrev pub certified : List Shape → List ℕ → SelectAst → Bool → List Line → Outcome
certified streams name select shared lines = record { status = status.Done; text = script_text streams (CreateQuery name select shared) ++ certificate_text lines; needs = None }

-- What it comes to: the first line that is refused before the query; the line of a query of which no certificate is written; the first
-- line behind it that says something; or else the script with a good certificate, whichever it is.
pub data Certifies (lines : List (List ℕ)) (o : Outcome) : Type 0 where
  early : (number : ℕ) (word : Refusal) (refused : IsRefusedAt lines number word) → o ≡ early_refusal number word refused → Certifies lines o
  uncertified : (streams : List Shape) (name : List ℕ) (select : SelectAst) (shared : Bool) (q : QueryValue) (number : ℕ) → Asks lines streams name select shared q number
      → (word : Refusal) → IsUncertified q word → o ≡ refusal number word → Certifies lines o
  misplaced : (streams : List Shape) (name : List ℕ) (select : SelectAst) (shared : Bool) (q : QueryValue) (number : ℕ) (asks : Asks lines streams name select shared q number)
      → IsCertified q → (blanks : List (List ℕ)) (line : List ℕ) (others : List (List ℕ)) (word : Refusal) → asks.behind ≡ blanks ++ line ∷ others → All IsBlank blanks
      → IsMisplaced line word → o ≡ refusal (number + length blanks + 1) word → Certifies lines o
  whole : (streams : List Shape) (name : List ℕ) (select : SelectAst) (shared : Bool) (q : QueryValue) (number : ℕ) (asks : Asks lines streams name select shared q number)
      → IsCertified q → All IsBlank asks.behind → (certificate : List Line) → AreLines certificate → IsGoodOf q (nodes_of certificate)
      → o ≡ certified streams name select shared certificate → Certifies lines o
