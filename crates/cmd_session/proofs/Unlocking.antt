-- Texts that unlock nothing.
use Rattle.std.proofs.Common.{◌≡◌, ℕ, ℤ, List, Some, None, ap}
use Rattle.sql_parser.specs.declared.parsing.ParseError.{ParseError}
use Rattle.sql_parser.specs.declared.parsing.ParseError.TheVariants as parse_errors
use Rattle.sql_parser.specs.declared.parsing.What.{What}
use Rattle.sql_parser.specs.declared.tree.Statement.{Statement}
use Rattle.sql_parser.specs.declared.tree.Statement.TheVariants.{Unlock}
use Rattle.sql_parser.specs.Limits.{limit_of}
use Rattle.sql_parser.specs.Refusal.{IsRefusal}
use Rattle.sql_printer.proofs.ReadBack.{one_statement}
use Rattle.sql_printer.proofs.RoundTrip.{faults_are_none}
use Rattle.cmd_session.specs.Lock.{IsUnlock}

limits_differ : (x y : Statement) (what : What) → x ≡ y → limit_of x ≡ Some what → limit_of y ≡ None → ⊥
limits_differ x y what e p q =
    let same : limit_of x ≡ limit_of y = ap limit_of e in
    let bad : Some what ≡ None = cc in
    cc

-- a text that is no statement within the limits
pub none_unlocked : (text : List ℕ) (error : ParseError) (key : ℤ) → IsRefusal text error → IsUnlock text key → ⊥
none_unlocked text (parse_errors.Syntax at) key fault u = faults_are_none text at (Unlock key) fault u.says
none_unlocked text (parse_errors.Limit what) key passed u = limits_differ passed.0 (Unlock key) what (one_statement text passed.0 (Unlock key) passed.1 u.says) passed.2 u.within
