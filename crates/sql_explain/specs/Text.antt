-- The text of a plan: the query, and per part its signs, its links, and what is kept of each stream.
use Rattle.std.specs.Prelude.{ℕ, List, [], ◌∷◌, ◌++◌, codes, decimal}
use Rattle.std.specs.List.{flat_map, enumerate_from, zip}
use Rattle.std.specs.Fmt.{signed_decimal}
use Rattle.sem_query.specs.declared.atom.Attr.{Attr}
use Rattle.sem_query.specs.declared.atom.Element.{Element}
use Rattle.sem_query.specs.declared.atom.Element.TheVariants as element
use Rattle.sem_query.specs.declared.atom.Op.{Op}
use Rattle.sem_query.specs.declared.part.Pair.{Pair}
use Rattle.sem_query.specs.declared.part.Sign.{Sign}
use Rattle.sem_query.specs.declared.plan.Dim.{Dim}
use Rattle.sem_query.specs.declared.plan.Kind.{Kind}
use Rattle.sem_query.specs.declared.plan.Link.{Link}
use Rattle.sem_query.specs.declared.plan.PartPlan.{PartPlan}
use Rattle.sem_query.specs.declared.plan.SoftLink.{SoftLink}
use Rattle.sem_query.specs.declared.plan.StreamPlan.{StreamPlan}
use Rattle.sem_query.specs.declared.plan.Plan.{Plan}
use Rattle.sem_query.specs.declared.plan.Plan.TheVariants as plan
use Rattle.sem_query.specs.Query.{QueryValue}
use Rattle.sem_query.specs.Parts.{pairs}
use Rattle.sql_catalog.specs.Streams.{Shape}
use Rattle.sql_parser.specs.Grammar.{select_tokens}
use Rattle.sql_printer.specs.Printed.{printed}
use Rattle.sql_printer.specs.PrintedParts.{op_text}
use Rattle.sql_parser.specs.Resolution.{column_named, named_select}
use Rattle.sql_parser.specs.Naming.{column_text}

-- a column of a query with these streams of FROM, by its names
abbrev pub attr_text : List Shape → List ℕ → Attr → List ℕ
attr_text streams from a = column_text (column_named streams from a)

-- the right side of a pair
abbrev pub element_text : List Shape → List ℕ → Element → List ℕ
element_text streams from (element.Attr a) = attr_text streams from a
element_text streams from (element.Const k) = signed_decimal k

-- a sign between two spaces
abbrev pub sign_text : Sign → List ℕ
sign_text Sign.Lt = codes " < "
sign_text Sign.Eq = codes " = "
sign_text Sign.Gt = codes " > "

-- a pair with its sign, as `sign S.a > 10`
abbrev pub sign_line : List Shape → List ℕ → Pair → Sign → List ℕ
sign_line streams from p s = codes "sign " ++ attr_text streams from p.left ++ sign_text s ++ element_text streams from p.right ++ 10 ∷ []

-- the pairs with their signs, in order; no lines where the part has no signs
abbrev pub signs_text : List Shape → List ℕ → List Pair → List Sign → List ℕ
signs_text streams from ps signs = flat_map (λ x. sign_line streams from x.0 x.1) (zip ps signs)

-- a link behind a word, as `equal S.a = T.c`
abbrev pub link_line : List Shape → List ℕ → List ℕ → Sign → Link → List ℕ
link_line streams from word s l = word ++ attr_text streams from l.left ++ sign_text s ++ attr_text streams from l.right ++ 10 ∷ []

-- the word of a link that is neither `=` nor `<`
abbrev pub soft_word : Op → List ℕ
soft_word Op.Ne = codes "unlike "
soft_word o = codes "most "

-- such a link with its operator, as `most S.a <= T.c` or `unlike S.b <> T.d`
abbrev pub soft_line : List Shape → List ℕ → SoftLink → List ℕ
soft_line streams from l = soft_word l.op ++ attr_text streams from l.left ++ op_text l.op ++ attr_text streams from l.right ++ 10 ∷ []

-- the inequalities between streams, and then the links that are neither these nor equalities
abbrev pub unequal_text : List Shape → List ℕ → PartPlan → List ℕ
unequal_text streams from part =
    flat_map (link_line streams from (codes "less ") Sign.Lt) part.less.items
    ++ flat_map (soft_line streams from) part.soft.items

-- the equalities between streams, and then the others
abbrev pub links_text : List Shape → List ℕ → PartPlan → List ℕ
links_text streams from part = flat_map (link_line streams from (codes "equal ") Sign.Eq) part.equal.items ++ unequal_text streams from part

-- a dim with its least and greatest value, as `dim S.a 11 12`
abbrev pub dim_line : List Shape → List ℕ → Dim → List ℕ
dim_line streams from d = codes "dim " ++ attr_text streams from d.attr ++ 32 ∷ signed_decimal d.lo ++ 32 ∷ signed_decimal d.hi ++ 10 ∷ []

-- the column whose least or greatest value a cell keeps, as `least S.b`; no line where it keeps none
abbrev pub kind_text : List Shape → List ℕ → Kind → List ℕ
kind_text streams from Kind.Count = []
kind_text streams from Kind.Present = []
kind_text streams from (Kind.Least a) = codes "least " ++ attr_text streams from a ++ 10 ∷ []
kind_text streams from (Kind.Greatest a) = codes "greatest " ++ attr_text streams from a ++ 10 ∷ []

-- what is kept of a stream
abbrev pub stream_text : List Shape → List ℕ → StreamPlan → List ℕ
stream_text streams from s = flat_map (dim_line streams from) s.dims.items ++ kind_text streams from s.kind

-- the number of a part, as `part 1`
unfoldable pub part_line : ℕ → List ℕ
part_line number = codes "part " ++ decimal number ++ 10 ∷ []

-- a part by its number: its signs, its links between streams, and what is kept of each stream
abbrev pub part_text : List Shape → QueryValue → ℕ → PartPlan → List ℕ
part_text streams q number part =
    part_line number
    ++ signs_text streams q.from (pairs q) part.signs.items
    ++ links_text streams q.from part
    ++ flat_map (stream_text streams q.from) part.streams.items

-- the parts of a query, by number from 1
abbrev pub parts_text : List Shape → QueryValue → List PartPlan → List ℕ
parts_text streams q parts = flat_map (λ x. part_text streams q x.0 x.1) (enumerate_from 1 parts)

-- the parts of a plan; a filter has none
abbrev pub plan_text : List Shape → QueryValue → Plan → List ℕ
plan_text streams q plan.Filter = codes "filter" ++ 10 ∷ []
plan_text streams q (plan.Parts parts numbers) = parts_text streams q parts

-- the query in its printed form, from SELECT on
abbrev pub query_line : List Shape → QueryValue → List ℕ
query_line streams q = printed (select_tokens (named_select streams q)) ++ 10 ∷ []

-- a word and a name, as `end q`
unfoldable pub name_line : List ℕ → List ℕ → List ℕ
name_line word name = word ++ name ++ 10 ∷ []

-- the text of the plan of a query, between its name and its name
abbrev pub explain_text : List Shape → List ℕ → QueryValue → Plan → List ℕ
explain_text streams name q p =
    name_line (codes "explain ") name
    ++ query_line streams q
    ++ plan_text streams q p
    ++ name_line (codes "end ") name
