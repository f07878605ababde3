-- The outer integers of a column: beyond them no comparison with an integer, and no domain, tells two values of its group apart.
use Rattle.std.specs.Prelude.{ℤ, pos, neg_ℤ, ◌+ℤ◌, ◌-ℤ◌, int_lt, if◌then◌else◌, List, [], ◌∷◌, ◌++◌, map}
use Rattle.std.specs.List.{flat_map, fold}
use Rattle.sem_query.specs.declared.atom.Attr.{Attr}
use Rattle.sem_query.specs.declared.atom.Atom.{Atom}
use Rattle.sem_query.specs.declared.atom.Domain.{Domain}
use Rattle.sem_query.specs.declared.atom.Element.{Element}
use Rattle.sem_query.specs.declared.atom.Element.TheVariants as element
use Rattle.sem_query.specs.declared.atom.Op.{Op}
use Rattle.sem_query.specs.Query.{QueryValue, with_new}
use Rattle.sem_query.specs.Groups.{same_group}

-- an operator with its sides exchanged
abbrev pub flipped : Op → Op
flipped Op.Lt = Op.Gt
flipped Op.Eq = Op.Eq
flipped Op.Gt = Op.Lt
flipped Op.Le = Op.Ge
flipped Op.Ge = Op.Le
flipped Op.Ne = Op.Ne

-- the integer beyond which a comparison with k, on its right, says the same of all values: k, and one further for `<=` and `>=`
abbrev pub outer_of : Op → ℤ → ℤ
outer_of Op.Lt k = k
outer_of Op.Eq k = k
outer_of Op.Gt k = k
outer_of Op.Le k = k +ℤ pos 1
outer_of Op.Ge k = k -ℤ pos 1
outer_of Op.Ne k = k

-- that of a comparison of a column, on the left or on the right, with an integer, where the column is of the group of a
abbrev pub outer_in : List Atom → Attr → Element → Op → Element → List ℤ
outer_in atoms a (element.Attr b) o (element.Const k) = if same_group atoms a b then outer_of o k ∷ [] else []
outer_in atoms a (element.Const k) o (element.Attr b) = if same_group atoms a b then outer_of (flipped o) k ∷ [] else []
outer_in atoms a (element.Attr b) o (element.Attr c) = []
outer_in atoms a (element.Const j) o (element.Const k) = []

-- the integers just outside of a domain, where its column is of the group of a
abbrev pub outside : List Atom → Attr → Domain → List ℤ
outside atoms a d = if same_group atoms a d.attr then (d.lo -ℤ pos 1) ∷ (d.hi +ℤ pos 1) ∷ [] else []

-- what the comparisons give to the group of a, and then the domains
abbrev pub given_integers : QueryValue → Attr → List ℤ
given_integers q a = flat_map (λ t. outer_in q.atoms a t.left t.op t.right) q.atoms ++ flat_map (outside q.atoms a) q.domains

-- the nearest integer of at most 15 digits
abbrev pub nearest_short : ℤ → ℤ
nearest_short k = if int_lt k (neg_ℤ (pos 999999999999999)) then neg_ℤ (pos 999999999999999) else (if int_lt (pos 999999999999999) k then pos 999999999999999 else k)

-- integers ascending, each once
abbrev pub ascending_once : List ℤ → List ℤ
ascending_once ks = fold (λ list k. with_new int_lt k list) [] ks

-- the outer integers of a column: those given, in place of one of more than 15 digits the nearest that may be written, ascending, each once
abbrev pub outer_integers : QueryValue → Attr → List ℤ
outer_integers q a = ascending_once (map nearest_short (given_integers q a))
