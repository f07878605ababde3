-- The split pairs of a query: the sides of each `<>`, and each column that lacks an end with its outer integers and the columns of its stream.
use Rattle.std.specs.Prelude.{◌<◌, Bool, false, true, ◌&&◌, if◌then◌else◌, List, [], ◌∷◌, ◌++◌, map, filter, length}
use Rattle.std.specs.List.{flat_map}
use Rattle.sem_query.specs.declared.atom.Attr.{Attr}
use Rattle.sem_query.specs.declared.atom.Atom.{Atom}
use Rattle.sem_query.specs.declared.atom.Element.TheVariants as element
use Rattle.sem_query.specs.declared.atom.Op.{Op}
use Rattle.sem_query.specs.declared.part.Pair.{Pair}
use Rattle.sem_query.specs.Query.{QueryValue, attrs_of}
use Rattle.sem_query.specs.Groups.{same_group}
use Rattle.sem_query.specs.Parts.{same_stream, pair, pair_of, each_once}
use Rattle.plan_split_pairs.specs.Outer.{outer_integers}
use Rattle.plan_split_pairs.specs.Ends.{has_both_ends}

-- whether an operator is `<>`
abbrev pub is_unlike : Op → Bool
is_unlike Op.Lt = false
is_unlike Op.Eq = false
is_unlike Op.Gt = false
is_unlike Op.Le = false
is_unlike Op.Ge = false
is_unlike Op.Ne = true

-- the pair of the sides of a comparison, where it is `<>`
abbrev pub unlike_pair : Atom → List Pair
unlike_pair t = if is_unlike t.op then pair_of t.left t.right else []

-- those of a query, each once
abbrev pub unlike_pairs : QueryValue → List Pair
unlike_pairs q = each_once (flat_map unlike_pair q.atoms)

-- whether two columns are of one stream and of one group
abbrev pub are_beside : QueryValue → Attr → Attr → Bool
are_beside q a b = same_stream a b && same_group q.atoms a b

-- a column that lacks an end with each of its outer integers, and then with each of some later attributes that is of its stream and group
abbrev pub column_pairs : QueryValue → Attr → List Attr → List Pair
column_pairs q a later =
    if has_both_ends q a then []
    else (map (λ k. pair a (element.Const k)) (outer_integers q a) ++ map (λ b. pair a (element.Attr b)) (filter (are_beside q a) later))

-- the same of each of some attributes
abbrev pub own_pairs : QueryValue → List Attr → List Pair
own_pairs q [] = []
own_pairs q (a ∷ later) = column_pairs q a later ++ own_pairs q later

-- the split pairs, each where it stands first: those of `<>`, in the order of the comparisons, and then those of the attributes
abbrev pub split_pairs : QueryValue → List Pair
split_pairs q = each_once (flat_map unlike_pair q.atoms ++ own_pairs q (attrs_of q.atoms))

-- there are more than 114
abbrev pub HasManyPairs : QueryValue → Type 0
HasManyPairs q = 114 < length (split_pairs q)
