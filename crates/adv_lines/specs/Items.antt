-- The lines that name columns of a query: changes with its numbers, sets of columns, and ranges.
use Rattle.std.specs.Prelude.{ℕ, List, [], ◌∷◌, ◌++◌, codes}
use Rattle.std.specs.List.{flat_map}
use Rattle.std.specs.declared.option.Option.{Option}
use Rattle.std.specs.declared.option.Option.TheVariants.{None, Some}
use Rattle.sem_query.specs.declared.atom.Attr.{Attr}
use Rattle.sem_query.specs.declared.atom.Atom.{Atom}
use Rattle.sem_query.specs.declared.atom.Element.{Element}
use Rattle.sem_query.specs.declared.plan.Dim.{Dim}
use Rattle.sem_query.specs.declared.plan.Numbers.{Numbers}
use Rattle.sql_catalog.specs.Streams.{Shape}
use Rattle.sql_parser.specs.Resolution.{column_named}
use Rattle.sql_printer.specs.PrintedParts.{op_text}
use Rattle.sql_explain.specs.Text.{element_text}
use Rattle.adv_lines.specs.declared.items.Remedy.{Remedy}
use Rattle.adv_lines.specs.declared.items.Remedy.TheVariants.{Comparisons, Domains}
use Rattle.adv_lines.specs.declared.items.TheConstants.{WITH_AND}
use Rattle.adv_lines.specs.Lines.{numbers_text, change_head, bounds_item, domain_item, range_text}

-- a column or an integer behind a text
unfoldable pub behind : List Shape → List ℕ → List ℕ → Element → List ℕ
behind streams from lead e = lead ++ element_text streams from e

-- the first item by one text, and the others by another
abbrev pub headed : {X : Type 0} → (X → List ℕ) → (X → List ℕ) → List X → List ℕ
headed first other [] = []
headed first other (x ∷ others) = first x ++ flat_map other others

-- with a change that has a name, where it is told
abbrev pub change_line : List ℕ → Option Numbers → List ℕ
change_line change None = []
change_line change (Some numbers) = change_head change ++ numbers_text numbers

-- with one comparison more, written behind the others, and the numbers of the query that has it
abbrev pub comparison_line : List Shape → List ℕ → Atom → Numbers → List ℕ
comparison_line streams from t numbers = behind streams from WITH_AND.now t.left ++ (behind streams from (op_text t.op) t.right ++ numbers_text numbers)

-- two comparisons on a column
abbrev pub bounded : List Shape → List ℕ → Attr → List ℕ
bounded streams from a = bounds_item (column_named streams from a)

-- two comparisons on each column of a set
abbrev pub bounds_items : List Shape → List ℕ → List Attr → List ℕ
bounds_items streams from set = flat_map (bounded streams from) set

-- how a line of a set of columns begins
unfoldable pub remedy_text : Remedy → List ℕ
remedy_text Comparisons = codes "    mended by"
remedy_text Domains = codes "    mended at CREATE STREAM by"

-- two comparisons or a domain on a column
abbrev pub remedy_on : Remedy → List Shape → List ℕ → Attr → List ℕ
remedy_on Comparisons streams from a = bounded streams from a
remedy_on Domains streams from a = domain_item (column_named streams from a)

-- mended by two comparisons on each column of a set, or by a domain on each where its stream is created
abbrev pub set_line : Remedy → List Shape → List ℕ → List Attr → List ℕ
set_line remedy streams from set = remedy_text remedy ++ (flat_map (remedy_on remedy streams from) set ++ 10 ∷ [])

-- a column with its least and greatest value, behind a text
abbrev pub range_item : List Shape → List ℕ → List ℕ → Dim → List ℕ
range_item streams from lead d = range_text lead (column_named streams from d.attr) d.lo d.hi

-- the first range, and one behind another
abbrev pub first_range : List Shape → List ℕ → Dim → List ℕ
first_range streams from d = range_item streams from (codes " by ") d

abbrev pub next_range : List Shape → List ℕ → Dim → List ℕ
next_range streams from d = range_item streams from (codes ", ") d

-- the ranges of some columns, as ` by S.a 1..37, S.b 3..39`
abbrev pub ranges_text : List Shape → List ℕ → List Dim → List ℕ
ranges_text streams from dims = headed (first_range streams from) (next_range streams from) dims
