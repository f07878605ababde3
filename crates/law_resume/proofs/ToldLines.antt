-- The lines that tell what is kept are statements within the limits.
use Rattle.std.proofs.Common.{◌≡◌, ℕ, ◌≤◌, false, cond, not, ◌||◌, nat_lt, ℤ, List, [], ◌∷◌, map, flat_map, length, Some, None, refl, ap, ◌∙◌, arith, IsTrue}
use Rattle.std.specs.List.{list_any, AllByRecursion}
use Rattle.sql_text.specs.Value.{fits_i64}
use Rattle.sql_text.specs.declared.key.Key.TheVariants.{AsKey, SelectKey, FromKey, ResumeKey}
use Rattle.sql_catalog.specs.Streams.{IsName}
use Rattle.sql_parser.specs.declared.parsing.What.TheVariants as limits
use Rattle.sql_parser.specs.declared.tree.Statement.{Statement}
use Rattle.sql_parser.specs.declared.tree.Statement.TheVariants.{ResumeRows, ResumeGiven, ResumeCell, ResumeTuple}
use Rattle.sql_parser.specs.Grammar.{word, number, key, statement_tokens}
use Rattle.sql_parser.specs.Limits.{limit_of, is_wide, number_in}
use Rattle.sql_parser.specs.Syntax.{IsStatement}
use Rattle.sql_printer.specs.Printed.{printed_form, joins}
use Rattle.sql_printer.proofs.Spaced.{IsSound}
use Rattle.sql_printer.proofs.ReadBack.{printed_statement}
use Rattle.cmd_session.proofs.ResumeTexts.{numbers_sound, none_wide, few}
use Rattle.law_resume.proofs.PrintedLines.{IsStatementText, line_text}
use Rattle.law_resume.proofs.Leading.{names_short}

-- the printed form of a statement is a line that says it, within the limits
pub record IsTold (x : Statement) : Type 0 where
  pub text : IsStatementText (printed_form x)
  pub is : IsStatement (printed_form x) x
  pub within : limit_of x ≡ None

pub rows_told : (z : ℤ) → IsTrue (fits_i64 z) → IsTold (ResumeRows z)
rows_told z fits = record {
  text = line_text joins ResumeKey (number z) [] tt refl tt (tt, (fits, tt));
  is = printed_statement (ResumeRows z) tt (tt, (fits, tt));
  within = ap (λ b. cond (not b || false) (Some limits.Value) None) fits;
}

pub given_told : (name : List ℕ) (z : ℤ) → IsName name → IsTrue (fits_i64 z) → IsTold (ResumeGiven name z)
given_told name z own fits =
    let sound : AllByRecursion IsSound (statement_tokens (ResumeGiven name z)) = (tt, (own, (tt, (fits, tt)))) in
    record {
      text = line_text joins ResumeKey (word name) (key AsKey ∷ number z ∷ []) tt refl tt sound;
      is = printed_statement (ResumeGiven name z) tt sound;
      within = ap (λ b. cond b (Some limits.Name) (cond (not (fits_i64 z) || false) (Some limits.Value) None)) (names_short (statement_tokens (ResumeGiven name z)) sound)
          ∙ ap (λ b. cond (not b || false) (Some limits.Value) None) fits;
    }

pub cell_told : (name : List ℕ) (i v : ℤ) → IsName name → IsTrue (fits_i64 i) → IsTrue (fits_i64 v) → IsTold (ResumeCell name i v)
cell_told name i v own place fits =
    let sound : AllByRecursion IsSound (statement_tokens (ResumeCell name i v)) = (tt, (own, (tt, (place, (fits, tt))))) in
    record {
      text = line_text joins ResumeKey (word name) (key FromKey ∷ number i ∷ number v ∷ []) tt refl tt sound;
      is = printed_statement (ResumeCell name i v) tt sound;
      within = ap (λ b. cond b (Some limits.Name) (cond (not (fits_i64 i) || (not (fits_i64 v) || false)) (Some limits.Value) None)) (names_short (statement_tokens (ResumeCell name i v)) sound)
          ∙ ap (λ b. cond (not b || (not (fits_i64 v) || false)) (Some limits.Value) None) place
          ∙ ap (λ b. cond (not b || false) (Some limits.Value) None) fits;
    }

abbrev pub tuple_line : List ℕ → List ℤ → Statement
tuple_line name zs = ResumeTuple name (record { items = zs })

pub tuple_told : (name : List ℕ) (z : ℤ) (zs : List ℤ) → IsName name → length (z ∷ zs) ≤ 8 → AllByRecursion (λ v. IsTrue (fits_i64 v)) (z ∷ zs) → IsTold (tuple_line name (z ∷ zs))
tuple_told name z zs own most fits =
    let x : Statement = tuple_line name (z ∷ zs) in
    let sound : AllByRecursion IsSound (statement_tokens x) = (tt, (own, (tt, numbers_sound (z ∷ zs) fits))) in
    record {
      text = line_text joins ResumeKey (word name) (key SelectKey ∷ map number (z ∷ zs)) tt refl tt sound;
      is = printed_statement x (omega arith) sound;
      within = ap (λ b. cond b (Some limits.Name) (cond (list_any is_wide (flat_map number_in (map number (z ∷ zs)))) (Some limits.Value) (cond (nat_lt 8 (length (z ∷ zs))) (Some limits.Tuple) None)))
          (names_short (statement_tokens x) sound)
          ∙ ap (λ b. cond b (Some limits.Value) (cond (nat_lt 8 (length (z ∷ zs))) (Some limits.Tuple) None)) (none_wide (z ∷ zs) fits)
          ∙ ap (λ b. cond b (Some limits.Tuple) None) (few 8 (length (z ∷ zs)) most);
    }
