-- The laws of the commands on certificates.
use Rattle.std.specs.Prelude.{◌≡◌, ℕ, Bool, Some, List, ◌++◌}
use Rattle.sql_catalog.specs.Streams.{Shape}
use Rattle.sql_parser.specs.declared.tree.SelectAst.{SelectAst}
use Rattle.cert_format.specs.declared.line.Line.{Line}
use Rattle.sql_script.specs.Commands.{Outcome}
use Rattle.cmd_certify.specs.Certifying.{Certifies, certified}
use Rattle.cmd_certify.specs.Checking.{Checks}

-- the lines determine what `check` comes to
abbrev pub HasOneAnswer : Type 0
HasOneAnswer = (all : List (List ℕ)) → (o p : Outcome) → Checks all o → Checks all p → o ≡ p

-- two outcomes are the same, or the same script with a certificate each
pub data AreAlike (o p : Outcome) : Type 0 where
  same : o ≡ p → AreAlike o p
  both : (streams : List Shape) (name : List ℕ) (select : SelectAst) (shared : Bool) (c d : List Line) → o ≡ certified streams name select shared c → p ≡ certified streams name select shared d → AreAlike o p

-- the lines determine what `certify` comes to, but for the certificate that is written
abbrev pub CertifiesOnce : Type 0
CertifiesOnce = (all : List (List ℕ)) → (o p : Outcome) → Certifies all o → Certifies all p → AreAlike o p

-- what a command comes to where a number of lines is enough, it comes to as well when more lines follow
abbrev pub StaysWhenMoreFollows : (List (List ℕ) → Outcome → Type 0) → Type 0
StaysWhenMoreFollows IsOutcome = (all more : List (List ℕ)) → (o : Outcome) → (n : ℕ) → IsOutcome all o → o.needs ≡ Some n → IsOutcome (all ++ more) o
