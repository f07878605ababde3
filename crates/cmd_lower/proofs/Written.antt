-- The text of a family, from its first line to its last one.
use Rattle.std.proofs.Common.{◌≡◌, ℕ, List, ◌++◌, length, decimal, Result, sym, subst}
use Rattle.io_streams.specs.Sink.{SinkState, Wrote, BrokeOff, Writes}
use Rattle.io_streams.proofs.Writing.{BrokeOff-stop}
use Rattle.sem_query.specs.declared.atom.Attr.{Attr}
use Rattle.sem_query.specs.declared.condition.Condition.{Condition}
use Rattle.sem_query.specs.Query.{QueryValue}
use Rattle.sql_catalog.specs.Streams.{Shape}
use Rattle.sql_parser.specs.declared.tree.ColumnAst.{ColumnAst}
use Rattle.sql_parser.specs.Resolution.{HasNamed, IsColumnOf, column_named}
use Rattle.sql_parser.specs.Naming.{column_text}
use Rattle.sql_replies.specs.Texts.{condition_text}
use Rattle.fam_fooling_sets.specs.Family.{FamilyValue, IsFamily}
use Rattle.fam_text.specs.Answer.{AreTakenRows}
use Rattle.fam_text.specs.Text.{rows_text}
use Rattle.cmd_lower.specs.declared.finding.LowerFinding.{LowerFinding}
use Rattle.cmd_lower.specs.declared.finding.LowerFinding.TheVariants.{Rows}
use Rattle.cmd_lower.specs.declared.form.Families.{Families}
use Rattle.cmd_lower.specs.declared.form.LowerForm.{LowerForm}
use Rattle.cmd_lower.specs.Finding.{AreMadeFor, IsShown, by_plain, moved, by_form, IsFinding}
use Rattle.cmd_lower.specs.Text.{head_text, end_text, finding_text}
use Rattle.sql_replies.proofs.Named.{violation_is_named}
use Rattle.sql_printer.proofs.WritesBehind.{writes_behind}

-- a family that is found is one for what is broken first
pub rows-found : (streams : List Shape) (q : QueryValue) (wanted : LowerForm) (finding : LowerFinding) (part : ℕ) (condition : Condition) (a : Attr) (f : FamilyValue) → finding ≡ Rows part condition a f → IsFinding streams q wanted finding
    → AreMadeFor wanted.families condition × IsShown streams q wanted.families wanted.rows part condition a f
rows-found streams q wanted finding part condition a f e is = subst (IsFinding streams q wanted) e is

module _ (streams : List Shape) (q : QueryValue) (asked : Families) (n part : ℕ) (condition : Condition) (a : Attr) (f : FamilyValue) where
  -- it is a family for the column that is named
  pub shown-family : IsShown streams q asked n part condition a f → IsFamily q condition a n f
  shown-family (by_plain judged is h) = h.family
  shown-family (moved all judged b is h) = h.family
  shown-family (by_form judged b is h) = h.family

  -- which the streams have
  pub shown-column : HasNamed streams q → IsShown streams q asked n part condition a f → IsColumnOf streams q.from a
  shown-column named (by_plain judged is h) = violation_is_named streams q _ named is
  shown-column named (moved all judged b is h) = h.column
  shown-column named (by_form judged b is h) = h.column

  -- its rows are rows of the streams
  pub shown-taken : IsShown streams q asked n part condition a f → AreTakenRows streams (length f.rows) f
  shown-taken is = subst (λ (m : ℕ). AreTakenRows streams m f) (sym (shown-family is).size) (by is)
    where
      by : IsShown streams q asked n part condition a f → AreTakenRows streams n f
      by (by_plain judged is h) = h.taken
      by (moved all judged b is h) = h.taken
      by (by_form judged b is h) = h.taken

module _ (streams : List Shape) (q : QueryValue) (name title : List ℕ) (n part : ℕ) (condition : Condition) (a : Attr) (column : ColumnAst) (f : FamilyValue)
    (named : title ≡ name) (is : column ≡ column_named streams q.from a) (size : length f.rows ≡ n) where
  abbrev first : List ℕ → ColumnAst → List ℕ
  first t c = head_text t (decimal part) (condition_text condition) (column_text c) (decimal n)

  abbrev behind : List ℕ → ℕ → List ℕ
  behind t m = rows_text streams m f ++ end_text t

  pub family-written : {T E : Type 0} (r : Result T E) (x y z : SinkState) → Wrote x y (first title column) → Writes r y z (behind title (length f.rows)) → Writes r x z (finding_text streams name q n (Rows part condition a f))
  family-written r x y z p o =
      subst (λ (t : List ℕ). Writes r x z (first t (column_named streams q.from a) ++ behind t n)) named
      (subst (λ (c : ColumnAst). Writes r x z (first title c ++ behind title n)) is
      (subst (λ (m : ℕ). Writes r x z (first title column ++ behind title m)) size
      (writes_behind r x y z (first title column) (behind title (length f.rows)) p o)))

  pub family-stopped : (x y : SinkState) → BrokeOff x y (first title column) → BrokeOff x y (finding_text streams name q n (Rows part condition a f))
  family-stopped x y p =
      subst (λ (t : List ℕ). BrokeOff x y (first t (column_named streams q.from a) ++ behind t n)) named
      (subst (λ (c : ColumnAst). BrokeOff x y (first title c ++ behind title n)) is
      (BrokeOff-stop x y (first title column) (behind title n) p))
