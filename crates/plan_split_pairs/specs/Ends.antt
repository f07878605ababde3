-- Columns that have both ends by the text of a query: a domain, or comparisons with integers on both sides.
use Rattle.std.specs.Prelude.{Bool, true, false, ◌&&◌, ◌||◌}
use Rattle.std.specs.List.{list_any}
use Rattle.sem_query.specs.declared.atom.Attr.{Attr}
use Rattle.sem_query.specs.declared.atom.Element.{Element}
use Rattle.sem_query.specs.declared.atom.Element.TheVariants as element
use Rattle.sem_query.specs.declared.atom.Op.{Op}
use Rattle.sem_query.specs.Query.{QueryValue, attr_eq}
use Rattle.plan_split_pairs.specs.Outer.{flipped}

-- whether an operator bounds its left side above by its right side
abbrev pub is_upper : Op → Bool
is_upper Op.Lt = true
is_upper Op.Eq = true
is_upper Op.Gt = false
is_upper Op.Le = true
is_upper Op.Ge = false
is_upper Op.Ne = false

-- whether a comparison, by its sides and its operator, bounds a column above by an integer
abbrev pub bounds_above : Attr → Element → Op → Element → Bool
bounds_above a (element.Attr b) o (element.Const k) = attr_eq a b && is_upper o
bounds_above a (element.Const k) o (element.Attr b) = attr_eq a b && is_upper (flipped o)
bounds_above a (element.Attr b) o (element.Attr c) = false
bounds_above a (element.Const j) o (element.Const k) = false

-- and below: with the operator the other way round it bounds it above
abbrev pub bounds_below : Attr → Element → Op → Element → Bool
bounds_below a x o y = bounds_above a x (flipped o) y

-- whether a column has a domain
abbrev pub has_domain : QueryValue → Attr → Bool
has_domain q a = list_any (λ d. attr_eq a d.attr) q.domains

-- whether a column has both ends by the text: a domain, or comparisons with integers that bound it above and below
abbrev pub has_both_ends : QueryValue → Attr → Bool
has_both_ends q a =
    has_domain q a
    || (list_any (λ t. bounds_above a t.left t.op t.right) q.atoms && list_any (λ t. bounds_below a t.left t.op t.right) q.atoms)
