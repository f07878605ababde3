-- What is found for a line, by what is found for its text, for its statement and for its row.
use Rattle.std.proofs.Common.{◌≡◌, ℕ, ◌≤◌, List, length, None, Result, Ok, Err, sym, subst}
use Rattle.sql_catalog.specs.Streams.{Shape}
use Rattle.sql_parser.specs.declared.line.LineKind.{LineKind}
use Rattle.sql_parser.specs.declared.line.LineKind.TheVariants as kinds
use Rattle.sql_parser.specs.declared.tree.Statement.{Statement}
use Rattle.sql_parser.specs.LineKind.{stripped, kind_of_line}
use Rattle.sql_parser.specs.Syntax.{IsStatement}
use Rattle.sql_parser.specs.Limits.{limit_of}
use Rattle.sql_replies.specs.declared.refusal.Refusal.{Refusal}
use Rattle.adv_diagnosis.specs.declared.fault.Asks.{Asks}
use Rattle.adv_diagnosis.specs.declared.fault.Fault.{Fault}
use Rattle.adv_diagnosis.specs.declared.fault.Fault.TheVariants.{LineTooLong, Syntax, Limit, DuplicateStream, DuplicateColumn, DuplicateQuery, TooManyStreams, TooManyQueries, NoStream, NotInFrom, NoColumn, SelfJoin, NoQuery, Locked, LockTwice, LockNoStream, NoLock, RowKey, RowName, RowStream, Arity, Value, Domain}
use Rattle.adv_diagnosis.specs.Asked.{IsAsked, IsTextAsked, fits, stated}
use Rattle.adv_diagnosis.specs.Faults.{IsOfStatement, IsTrueOf, IsTrueOfText, IsDiagnosis, IsTextDiagnosis, IsStatementDiagnosis}
use Rattle.adv_diagnosis.specs.FaultWords.{word_of}
use Rattle.adv_diagnosis.specs.Locked.{IsRowDiagnosis}
use Rattle.adv_diagnosis.specs.RowFaults.{IsOfRow}

-- what is said of a statement is said of a text that is this statement
of_statement : (streams : List Shape) (live : List (List ℕ)) (text : List ℕ) (s : Statement) (fault : Fault) → IsStatement text s → limit_of s ≡ None → IsOfStatement streams live s fault → IsTrueOfText streams live text fault
of_statement streams live text s (Syntax at next) is within h = absurd h
of_statement streams live text s (Limit what found) is within h = absurd h
of_statement streams live text s LineTooLong is within h = (s, is, within, h)
of_statement streams live text s (DuplicateStream name) is within h = (s, is, within, h)
of_statement streams live text s (DuplicateColumn name) is within h = (s, is, within, h)
of_statement streams live text s (DuplicateQuery name) is within h = (s, is, within, h)
of_statement streams live text s TooManyStreams is within h = (s, is, within, h)
of_statement streams live text s TooManyQueries is within h = (s, is, within, h)
of_statement streams live text s (NoStream name) is within h = (s, is, within, h)
of_statement streams live text s (NotInFrom column) is within h = (s, is, within, h)
of_statement streams live text s (NoColumn column) is within h = (s, is, within, h)
of_statement streams live text s (SelfJoin name) is within h = (s, is, within, h)
of_statement streams live text s (NoQuery name) is within h = (s, is, within, h)
of_statement streams live text s (Locked line) is within h = (s, is, within, h)
of_statement streams live text s (LockTwice name) is within h = (s, is, within, h)
of_statement streams live text s (LockNoStream name) is within h = (s, is, within, h)
of_statement streams live text s NoLock is within h = (s, is, within, h)
of_statement streams live text s RowKey is within h = (s, is, within, h)
of_statement streams live text s (RowName bytes) is within h = (s, is, within, h)
of_statement streams live text s RowStream is within h = (s, is, within, h)
of_statement streams live text s (Arity stream wanted found) is within h = (s, is, within, h)
of_statement streams live text s (Value field) is within h = (s, is, within, h)
of_statement streams live text s (Domain stream field) is within h = (s, is, within, h)

-- what is said of a text that is read as a statement is said of its line
of_text : (streams : List Shape) (live : List (List ℕ)) (line : List ℕ) (fault : Fault) → IsTrueOfText streams live (stripped line) fault → IsTrueOf streams live line fault
of_text streams live line LineTooLong h = absurd h.3
of_text streams live line (Syntax at next) h = h
of_text streams live line (Limit what found) h = h
of_text streams live line (DuplicateStream name) h = h
of_text streams live line (DuplicateColumn name) h = h
of_text streams live line (DuplicateQuery name) h = h
of_text streams live line TooManyStreams h = h
of_text streams live line TooManyQueries h = h
of_text streams live line (NoStream name) h = h
of_text streams live line (NotInFrom column) h = h
of_text streams live line (NoColumn column) h = h
of_text streams live line (SelfJoin name) h = h
of_text streams live line (NoQuery name) h = h
of_text streams live line (Locked number) h = absurd h.3
of_text streams live line (LockTwice name) h = h
of_text streams live line (LockNoStream name) h = h
of_text streams live line NoLock h = h
of_text streams live line RowKey h = absurd h.3
of_text streams live line (RowName bytes) h = absurd h.3
of_text streams live line RowStream h = absurd h.3
of_text streams live line (Arity stream wanted found) h = absurd h.3
of_text streams live line (Value field) h = absurd h.3
of_text streams live line (Domain stream field) h = absurd h.3

-- what is said of a row line is said of its line
pub of_row : (streams : List Shape) (live : List (List ℕ)) (line : List ℕ) (fault : Fault) → IsOfRow streams (stripped line) fault → IsTrueOf streams live line fault
of_row streams live line LineTooLong h = absurd h.2
of_row streams live line (Syntax at next) h = absurd h.2
of_row streams live line (Limit what found) h = absurd h.2
of_row streams live line (DuplicateStream name) h = absurd h.2
of_row streams live line (DuplicateColumn name) h = absurd h.2
of_row streams live line (DuplicateQuery name) h = absurd h.2
of_row streams live line TooManyStreams h = absurd h.2
of_row streams live line TooManyQueries h = absurd h.2
of_row streams live line (NoStream name) h = absurd h.2
of_row streams live line (NotInFrom column) h = absurd h.2
of_row streams live line (NoColumn column) h = absurd h.2
of_row streams live line (SelfJoin name) h = absurd h.2
of_row streams live line (NoQuery name) h = absurd h.2
of_row streams live line (Locked number) h = absurd h.2
of_row streams live line (LockTwice name) h = absurd h.2
of_row streams live line (LockNoStream name) h = absurd h.2
of_row streams live line NoLock h = absurd h.2
of_row streams live line RowKey h = h
of_row streams live line (RowName bytes) h = h
of_row streams live line RowStream h = h
of_row streams live line (Arity stream wanted found) h = h
of_row streams live line (Value field) h = h
of_row streams live line (Domain stream field) h = h

-- a line of a kind asks for what its text does
of_kind : (streams : List Shape) (live : List (List ℕ)) (kind : LineKind) (line text : List ℕ) (asked : Result Asks Refusal) → length line ≤ 1024 → kind_of_line (stripped line) ≡ kind → stripped line ≡ text
    → IsTextAsked streams live kind text asked → IsAsked streams live line asked
of_kind streams live kind line text asked short k t h =
    fits short (subst (λ x. IsTextAsked streams live x (stripped line) asked) (sym k) (subst (λ x. IsTextAsked streams live kind x asked) (sym t) h))

-- what is found for a text, by its statement
pub found_statement : (streams : List Shape) (live : List (List ℕ)) (text : List ℕ) (s : Statement) (result : Result Asks Fault) → IsStatement text s → limit_of s ≡ None
    → IsStatementDiagnosis streams live s result → IsTextDiagnosis streams live text result
found_statement streams live text s (Ok asked) is within h = record { asked = stated s is within h.asked; facts = h.facts }
found_statement streams live text s (Err fault) is within h = record { asked = stated s is within h.asked; facts = of_statement streams live text s fault is within h.facts }

-- a line that is read as a statement
pub found_text : (streams : List Shape) (live : List (List ℕ)) (line text : List ℕ) (result : Result Asks Fault) → length line ≤ 1024 → kind_of_line (stripped line) ≡ kinds.StatementLine → text ≡ stripped line
    → IsTextDiagnosis streams live text result → IsDiagnosis streams live line result
found_text streams live line text (Ok asked) short k t h = record { asked = of_kind streams live kinds.StatementLine line text (Ok asked) short k (sym t) h.asked; facts = tt }
found_text streams live line text (Err fault) short k t h = record {
  asked = of_kind streams live kinds.StatementLine line text (Err (word_of fault)) short k (sym t) h.asked;
  facts = of_text streams live line fault (subst (λ x. IsTrueOfText streams live x fault) t h.facts);
}

-- a line that is read as a row
pub found_row : (streams : List Shape) (live : List (List ℕ)) (line text : List ℕ) (result : Result Asks Fault) → length line ≤ 1024 → kind_of_line (stripped line) ≡ kinds.RowLine → text ≡ stripped line
    → IsRowDiagnosis streams text result → IsDiagnosis streams live line result
found_row streams live line text (Ok asked) short k t h = record { asked = of_kind streams live kinds.RowLine line text (Ok asked) short k (sym t) h.asked; facts = tt }
found_row streams live line text (Err fault) short k t h = record {
  asked = of_kind streams live kinds.RowLine line text (Err (word_of fault)) short k (sym t) h.asked;
  facts = of_row streams live line fault (subst (λ x. IsOfRow streams x fault) t h.facts);
}
