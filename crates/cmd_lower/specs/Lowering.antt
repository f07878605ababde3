-- What `lower` comes to over the lines of a script.
use Rattle.std.specs.Prelude.{◌≡◌, ℕ, ◌+◌, Bool, None, List, ◌∷◌, ◌++◌, length}
use Rattle.std.specs.List.{All}
use Rattle.io_streams.specs.declared.status.Status.TheVariants as status
use Rattle.sem_query.specs.Query.{QueryValue}
use Rattle.sql_catalog.specs.Streams.{Shape}
use Rattle.sql_parser.specs.declared.tree.SelectAst.{SelectAst}
use Rattle.sql_replies.specs.declared.refusal.Refusal.{Refusal}
use Rattle.sql_replies.specs.declared.refusal.Refusal.TheVariants.{Limit}
use Rattle.sql_script.specs.Script.{Asks, IsRefusedAt, IsBlank, IsMisplaced}
use Rattle.sql_script.specs.Commands.{Outcome, refusal, early_refusal}
use Rattle.cmd_lower.specs.declared.form.LowerForm.{LowerForm}
use Rattle.cmd_lower.specs.declared.finding.LowerFinding.{LowerFinding}
use Rattle.cmd_lower.specs.Formed.{IsTooLarge}
use Rattle.cmd_lower.specs.Finding.{IsFinding}
use Rattle.cmd_lower.specs.Text.{finding_text}

-- the text of what is found, with all lines read
abbrev pub found : List Shape → List ℕ → QueryValue → LowerForm → LowerFinding → Outcome
found streams name q form finding = record { status = status.Done; text = finding_text streams name q form.rows finding; needs = None }

-- What it comes to: the first line that is refused before the query; the line of a query of too many parts; the first line behind it that says something;
-- or else what is found for the query, whichever family it is.
pub data Lowers (form : LowerForm) (lines : List (List ℕ)) (o : Outcome) : Type 0 where
  early : (number : ℕ) (word : Refusal) (refused : IsRefusedAt lines number word) → o ≡ early_refusal number word refused → Lowers form lines o
  large : (streams : List Shape) (name : List ℕ) (select : SelectAst) (shared : Bool) (q : QueryValue) (number : ℕ) → Asks lines streams name select shared q number
      → IsTooLarge q → o ≡ refusal number Limit → Lowers form lines o
  misplaced : (streams : List Shape) (name : List ℕ) (select : SelectAst) (shared : Bool) (q : QueryValue) (number : ℕ) (asks : Asks lines streams name select shared q number)
      → ¬ IsTooLarge q → (blanks : List (List ℕ)) (line : List ℕ) (others : List (List ℕ)) (word : Refusal) → asks.behind ≡ blanks ++ line ∷ others → All IsBlank blanks
      → IsMisplaced line word → o ≡ refusal (number + length blanks + 1) word → Lowers form lines o
  whole : (streams : List Shape) (name : List ℕ) (select : SelectAst) (shared : Bool) (q : QueryValue) (number : ℕ) (asks : Asks lines streams name select shared q number)
      → ¬ IsTooLarge q → All IsBlank asks.behind → (finding : LowerFinding) → IsFinding streams q form finding → o ≡ found streams name q form finding → Lowers form lines o
