-- The names of columns differ where that of the first is not among the others, and those differ.
use Rattle.std.proofs.Common.{◌≡◌, ℕ, ◌-◌, ◌≤◌, not, ◌&&◌, ◌||◌, List, [], ◌∷◌, length, get_or, take, drop, refl, ap, sym, ◌∙◌, arith}
use Rattle.std.specs.List.{list_any}
use Rattle.std.specs.Str.{bytes_eq}
use Rattle.std.proofs.lemmas.List.{take_rest}
use Rattle.sql_catalog.specs.declared.column.ColumnDef.{ColumnDef}
use Rattle.sql_catalog.specs.Streams.{all_differ, column_names}

-- the columns behind the first
abbrev pub others : List ColumnDef → List ColumnDef
others columns = take (length columns - 1) (drop 1 columns)

any_named : (name : List ℕ) (columns : List ColumnDef) → list_any (bytes_eq name) (column_names columns) ≡ list_any (λ c. bytes_eq name c.name) columns
any_named name [] = refl
any_named name (c ∷ columns) = ap (λ b. bytes_eq name c.name || b) (any_named name columns)

differ_cons : (columns : List ColumnDef) (d : ColumnDef) → 1 ≤ length columns
    → all_differ (column_names columns) ≡ (not (list_any (λ c. bytes_eq (get_or columns 0 d).name c.name) (drop 1 columns)) && all_differ (column_names (drop 1 columns)))
differ_cons [] d h = absurd (omega arith)
differ_cons (x ∷ columns) d h = ap (λ b. not b && all_differ (column_names columns)) (any_named x.name columns)

pub differ_first : (columns : List ColumnDef) (x : ColumnDef) → 1 ≤ length columns → x ≡ get_or columns 0 x
    → all_differ (column_names columns) ≡ (not (list_any (λ c. bytes_eq x.name c.name) (others columns)) && all_differ (column_names (others columns)))
differ_first columns x h is =
    rw take_rest (differ_cons columns x h ∙ ap (λ (y : ColumnDef). not (list_any (λ c. bytes_eq y.name c.name) (drop 1 columns)) && all_differ (column_names (drop 1 columns))) (sym is))
