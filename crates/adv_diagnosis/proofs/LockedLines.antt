-- What is found for a line of a locked session, by what the lock lets.
use Rattle.std.proofs.Common.{◌≡◌, ℕ, ◌≤◌, Bool, true, false, ℤ, List, length, Option, Some, None, Result, Ok, Err, refl, ap, sym, ◌∙◌, subst, arith}
use Rattle.std.specs.Ordering.{int_eq}
use Rattle.std.proofs.lemmas.Bool.Decides.{Decides-int_eq}
use Rattle.std.proofs.lemmas.Int.{ints}
use Rattle.sql_text.specs.Word.{word_of}
use Rattle.sql_catalog.specs.Streams.{Shape}
use Rattle.sql_catalog.specs.Rows.{row_of}
use Rattle.sql_parser.specs.declared.line.LineKind.TheVariants as kinds
use Rattle.sql_parser.specs.declared.parsing.ParseError.{ParseError}
use Rattle.sql_parser.specs.declared.parsing.ParseError.TheVariants as parse_errors
use Rattle.sql_parser.specs.declared.tree.Statement.{Statement}
use Rattle.sql_parser.specs.declared.tree.Statement.TheVariants.{Unlock}
use Rattle.sql_parser.specs.LineKind.{stripped, kind_of_line}
use Rattle.sql_parser.specs.Syntax.{IsStatement}
use Rattle.sql_parser.specs.Limits.{limit_of}
use Rattle.sql_parser.specs.Refusal.{IsRefusal}
use Rattle.sql_printer.proofs.RoundTrip.{faults_are_none}
use Rattle.sql_printer.proofs.ReadBack.{one_statement}
use Rattle.adv_diagnosis.specs.declared.fault.Asks.{Asks}
use Rattle.adv_diagnosis.specs.declared.fault.Asks.TheVariants as asks
use Rattle.adv_diagnosis.specs.declared.fault.Fault.{Fault}
use Rattle.adv_diagnosis.specs.declared.fault.Fault.TheVariants.{LineTooLong, Syntax, Limit, DuplicateStream, DuplicateColumn, DuplicateQuery, TooManyStreams, TooManyQueries, NoStream, NotInFrom, NoColumn, SelfJoin, NoQuery, Locked, LockTwice, LockNoStream, NoLock, RowKey, RowName, RowStream, Arity, Value, Domain}
use Rattle.adv_diagnosis.specs.Asked.{row_asked}
use Rattle.adv_diagnosis.specs.Locked.{HoldsIf, lets_row, IsUnlock, Unlocks, LetsText, let_asked, barred, fits, IsTrueLocked, IsLockedDiagnosis, IsRowDiagnosis}
use Rattle.adv_diagnosis.specs.RowFaults.{IsOfRow, IsRowFault}
use Rattle.adv_diagnosis.proofs.Diagnoses.{of_row}

decided : (P : Type 0) (b : Bool) → (b ≡ true → P) → (b ≡ false → P → ⊥) → HoldsIf b P
decided P true f g = f refl
decided P false f g = g refl

apart : (y z : ℤ) → int_eq y z ≡ false → y ≡ z → ⊥
apart y z e f = grind (arith, ints)

same_key : (y z : ℤ) → Unlock y ≡ Unlock z → y ≡ z
same_key y z e = cc

-- a statement that unlocks by a key unlocks by another where the two are equal
pub unlock_is : (s : Statement) (own k : ℤ) → s ≡ Unlock own → HoldsIf (int_eq own k) (s ≡ Unlock k)
unlock_is s own k is = decided (s ≡ Unlock k) (int_eq own k) (λ e. is ∙ ap Unlock ((Decides-int_eq own k).0 e)) (λ e f. apart own k e (same_key own k (sym is ∙ f)))

-- a text unlocks where its statement does
pub text_unlocks : (text : List ℕ) (s : Statement) (k : ℤ) (b : Bool) → IsStatement text s → limit_of s ≡ None → HoldsIf b (s ≡ Unlock k) → HoldsIf b (IsUnlock text k)
text_unlocks text s k true is within h = (subst (IsStatement text) h is, subst (λ x. limit_of x ≡ None) h within)
text_unlocks text s k false is within h = λ u. h (one_statement text s (Unlock k) is u.0)

-- a text that is no statement within the limits unlocks nothing
pub none_unlocks : (text : List ℕ) (error : ParseError) (k : ℤ) → IsRefusal text error → IsUnlock text k → ⊥
none_unlocks text (parse_errors.Syntax at) k fault u = faults_are_none text at (Unlock k) fault u.0
none_unlocks text (parse_errors.Limit what) k (s, is, passed) u = let same = one_statement text s (Unlock k) is u.0 in cc (passed, ap limit_of same, u.1)

pub key_unlocks : (text : List ℕ) (key : Option ℤ) (k : ℤ) (b : Bool) → key ≡ Some k → HoldsIf b (IsUnlock text k) → HoldsIf b (Unlocks key text)
key_unlocks text key k b e h = subst (λ o. HoldsIf b (Unlocks o text)) (sym e) h

pub no_key_unlocks : (text : List ℕ) (key : Option ℤ) → key ≡ None → Unlocks key text → ⊥
no_key_unlocks text key e h = subst (λ o. Unlocks o text) e h

-- what is found for a row
pub row_found : (streams : List Shape) (text : List ℕ) (fault : Fault) → IsRowFault streams text (Some fault) → IsRowDiagnosis streams text (Err fault)
row_found streams text fault h = record { asked = ap Err (sym h.word) ∙ ap row_asked (sym h.refused); facts = h.fact }

pub row_there : (streams : List Shape) (text : List ℕ) → IsRowFault streams text None → IsRowDiagnosis streams text (Ok asks.Row)
row_there streams text h = record { asked = ap row_asked (sym h.1); facts = tt }

module _ (streams : List Shape) (live : List (List ℕ)) (number : ℕ) (key : Option ℤ) (names : List (List ℕ)) (line : List ℕ) where
  row_true : (fault : Fault) → IsOfRow streams (stripped line) fault → IsTrueLocked streams live number line fault
  row_true (Locked by) h = absurd h.2
  row_true LineTooLong h = of_row streams live line LineTooLong h
  row_true (Syntax at next) h = of_row streams live line (Syntax at next) h
  row_true (Limit what found) h = of_row streams live line (Limit what found) h
  row_true (DuplicateStream name) h = of_row streams live line (DuplicateStream name) h
  row_true (DuplicateColumn name) h = of_row streams live line (DuplicateColumn name) h
  row_true (DuplicateQuery name) h = of_row streams live line (DuplicateQuery name) h
  row_true TooManyStreams h = of_row streams live line TooManyStreams h
  row_true TooManyQueries h = of_row streams live line TooManyQueries h
  row_true (NoStream name) h = of_row streams live line (NoStream name) h
  row_true (NotInFrom column) h = of_row streams live line (NotInFrom column) h
  row_true (NoColumn column) h = of_row streams live line (NoColumn column) h
  row_true (SelfJoin name) h = of_row streams live line (SelfJoin name) h
  row_true (NoQuery name) h = of_row streams live line (NoQuery name) h
  row_true (LockTwice name) h = of_row streams live line (LockTwice name) h
  row_true (LockNoStream name) h = of_row streams live line (LockNoStream name) h
  row_true NoLock h = of_row streams live line NoLock h
  row_true RowKey h = of_row streams live line RowKey h
  row_true (RowName bytes) h = of_row streams live line (RowName bytes) h
  row_true RowStream h = of_row streams live line RowStream h
  row_true (Arity stream wanted found) h = of_row streams live line (Arity stream wanted found) h
  row_true (Value field) h = of_row streams live line (Value field) h
  row_true (Domain stream field) h = of_row streams live line (Domain stream field) h

  -- a line with nothing in it
  pub lock_nothing : length line ≤ 1024 → kind_of_line (stripped line) ≡ kinds.Nothing → IsLockedDiagnosis streams live number key names line (Ok asks.Nothing)
  lock_nothing short e = record {
    asked = fits short (subst (λ k. LetsText key names k (stripped line)) (sym e) tt) (sym (ap (λ k. let_asked streams k (stripped line)) e));
    facts = tt;
  }

  row_let : (text : List ℕ) → kind_of_line (stripped line) ≡ kinds.RowLine → text ≡ stripped line → lets_row names (word_of text) ≡ true → LetsText key names (kind_of_line (stripped line)) (stripped line)
  row_let text e t h = subst (λ k. LetsText key names k (stripped line)) (sym e) (ap (λ x. lets_row names (word_of x)) (sym t) ∙ h)

  row_asks : (text : List ℕ) → kind_of_line (stripped line) ≡ kinds.RowLine → text ≡ stripped line → row_asked (row_of streams text) ≡ let_asked streams (kind_of_line (stripped line)) (stripped line)
  row_asks text e t = ap (λ x. row_asked (row_of streams x)) t ∙ sym (ap (λ k. let_asked streams k (stripped line)) e)

  -- a row line that is let
  pub lock_row : (text : List ℕ) (result : Result Asks Fault) → length line ≤ 1024 → kind_of_line (stripped line) ≡ kinds.RowLine → text ≡ stripped line → lets_row names (word_of text) ≡ true
      → IsRowDiagnosis streams text result → IsLockedDiagnosis streams live number key names line result
  lock_row text (Ok a) short e t h d = record { asked = fits short (row_let text e t h) (d.asked ∙ row_asks text e t); facts = tt }
  lock_row text (Err fault) short e t h d = record {
    asked = fits short (row_let text e t h) (d.asked ∙ row_asks text e t);
    facts = row_true fault (subst (λ x. IsOfRow streams x fault) t d.facts);
  }

  -- a row line that is not
  pub lock_bars_row : (text : List ℕ) → length line ≤ 1024 → kind_of_line (stripped line) ≡ kinds.RowLine → text ≡ stripped line → lets_row names (word_of text) ≡ false
      → IsLockedDiagnosis streams live number key names line (Err (Locked number))
  lock_bars_row text short e t h = record {
    asked = barred short (λ l. let yes : lets_row names (word_of (stripped line)) ≡ true = subst (λ k. LetsText key names k (stripped line)) e l in cc (yes, h, ap (λ x. lets_row names (word_of x)) t)) refl;
    facts = refl;
  }

  -- a statement that unlocks, and one that does not
  pub lock_unlocks : (text : List ℕ) → length line ≤ 1024 → kind_of_line (stripped line) ≡ kinds.StatementLine → text ≡ stripped line → Unlocks key text → IsLockedDiagnosis streams live number key names line (Ok asks.Unlock)
  lock_unlocks text short e t h = record {
    asked = fits short (subst (λ k. LetsText key names k (stripped line)) (sym e) (subst (Unlocks key) t h)) (sym (ap (λ k. let_asked streams k (stripped line)) e));
    facts = tt;
  }

  pub lock_bars_text : (text : List ℕ) → length line ≤ 1024 → kind_of_line (stripped line) ≡ kinds.StatementLine → text ≡ stripped line → (Unlocks key text → ⊥) → IsLockedDiagnosis streams live number key names line (Err (Locked number))
  lock_bars_text text short e t h = record {
    asked = barred short (λ l. h (subst (Unlocks key) (sym t) (subst (λ k. LetsText key names k (stripped line)) e l))) refl;
    facts = refl;
  }
