-- What a line is, by what is left of it.
use Rattle.std.proofs.Common.{◌≡◌, ℕ, ◌≤◌, List, length, sym, subst}
use Rattle.sql_catalog.specs.Streams.{Shape}
use Rattle.sql_parser.specs.declared.line.LineKind.{LineKind}
use Rattle.sql_parser.specs.LineKind.{stripped, kind_of_line}
use Rattle.sql_script.specs.Script.{ScriptLine, IsScriptText, IsScriptLine, fits}

pub of_kind : (streams : List Shape) (bytes text : List ℕ) (kind : LineKind) (line : ScriptLine) → length bytes ≤ 1024 → kind_of_line (stripped bytes) ≡ kind → stripped bytes ≡ text → IsScriptText streams kind text line
    → IsScriptLine streams bytes line
of_kind streams bytes text kind line short k e is =
    fits short (subst (λ x. IsScriptText streams x (stripped bytes) line) (sym k) (subst (λ x. IsScriptText streams kind x line) (sym e) is))
