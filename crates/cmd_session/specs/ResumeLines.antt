-- RESUME lines that are read in one pass.
use Rattle.std.specs.Prelude.{◌≡◌, ℕ, ℤ, List, None, IsTrue}
use Rattle.std.specs.List.{AllByRecursion}
use Rattle.sql_text.specs.Value.{fits_i64}
use Rattle.sql_parser.specs.declared.tree.Statement.{Statement}
use Rattle.sql_parser.specs.declared.tree.Statement.TheVariants as statements
use Rattle.sql_parser.specs.Limits.{limit_of}
use Rattle.sql_parser.specs.Syntax.{IsStatement}
use Rattle.cmd_session.specs.declared.resume_line.ResumeLine.{ResumeLine}
use Rattle.cmd_session.specs.declared.resume_line.ResumeLine.TheVariants.{Cell, Tuple}

-- all integers have 64 bits
abbrev pub AllFit : List ℤ → Type 0
AllFit zs = AllByRecursion (λ z. IsTrue (fits_i64 z)) zs

-- the statement that the line is
abbrev pub statement_in : ResumeLine → Statement
statement_in (Cell name index content) = statements.ResumeCell name index content
statement_in (Tuple name values) = statements.ResumeTuple name values

-- the text is read as the statement that the line is, within the limits
pub record IsResumeText (text : List ℕ) (line : ResumeLine) : Type 0 where
  pub is : IsStatement text (statement_in line)
  pub within : limit_of (statement_in line) ≡ None
