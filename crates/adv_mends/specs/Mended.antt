-- Changes to a query, and when one of them mends it.
use Rattle.std.specs.Prelude.{◌≡◌, ◌≤◌, ◌≤ℤ◌, ℤ, Bool, true, pos, neg_ℤ, List, [], ◌∷◌, ◌++◌, filter, length, Contains, ◌⊎◌}
use Rattle.std.specs.List.{flat_map}
use Rattle.std.specs.declared.option.Option.{Option}
use Rattle.std.specs.declared.option.Option.TheVariants.{None, Some}
use Rattle.sem_query.specs.declared.atom.Attr.{Attr}
use Rattle.sem_query.specs.declared.atom.Atom.{Atom}
use Rattle.sem_query.specs.declared.atom.Domain.{Domain}
use Rattle.sem_query.specs.declared.atom.Element.TheVariants as element
use Rattle.sem_query.specs.declared.atom.Op.{Op}
use Rattle.sem_query.specs.declared.atom.Op.TheVariants.{Lt, Gt}
use Rattle.sem_query.specs.Query.{QueryValue, attr_lt, attrs_of, consts_of, is_soft, with_new, IsShort, IsWithinLimits}
use Rattle.adv_mends.specs.declared.mend.Ends.{Ends}
use Rattle.adv_mends.specs.declared.mend.Mend.{Mend}
use Rattle.adv_mends.specs.declared.mend.Mend.TheVariants.{Distinct, Domains, Bounds, Comparison, Compact, Shared}
use Rattle.adv_mends.specs.declared.mend.ChangeKind.{ChangeKind}
use Rattle.adv_mends.specs.declared.mend.ChangeKind.TheVariants as kind
use Rattle.adv_mends.specs.Meeting.{Stands}

-- the widest domain that a column may be given: all integers of at most 15 digits
abbrev pub widest : Attr → Domain
widest a = record { attr = a; lo = neg_ℤ (pos 999999999999999); hi = pos 999999999999999 }

-- the ends of all these
abbrev pub widest_ends : Ends
widest_ends = record { lo = neg_ℤ (pos 999999999999999); hi = pos 999999999999999 }

-- integers of at most 15 digits, of which the first is not greater
pub record AreEnds (ends : Ends) : Type 0 where
  pub low : IsShort ends.lo
  pub high : IsShort ends.hi
  pub some : ends.lo ≤ℤ ends.hi

-- the integers between two ends, both included, as the domain of a column
abbrev pub domain_on : Ends → Attr → Domain
domain_on ends a = record { attr = a; lo = ends.lo; hi = ends.hi }

-- domains are ordered by their columns
abbrev pub domain_lt : Domain → Domain → Bool
domain_lt d e = attr_lt d.attr e.attr

-- the domains, and one between two ends for each of the columns that has none among them
abbrev pub domains_with : Ends → List Domain → List Attr → List Domain
domains_with ends domains [] = domains
domains_with ends domains (a ∷ others) = domains_with ends (with_new domain_lt (domain_on ends a) domains) others

-- a column compared with an integer
abbrev pub compared : Attr → Op → ℤ → Atom
compared a op k = record { left = element.Attr a; op = op; right = element.Const k }

-- a column above the first of two integers, and below the second
abbrev pub bounds_of : Ends → Attr → List Atom
bounds_of ends a = compared a Gt ends.lo ∷ compared a Lt ends.hi ∷ []

-- the same of each of some columns
abbrev pub bounds_on : Ends → List Attr → List Atom
bounds_on ends columns = flat_map (bounds_of ends) columns

-- the query with more comparisons behind its own
abbrev pub with_atoms : List Atom → QueryValue → QueryValue
with_atoms more q = record q { atoms = q.atoms ++ more }

-- the query with a change: with DISTINCT; with a domain on each of some columns; with two comparisons of each of them; with one comparison more; compact. Shared
-- cells do not change it.
abbrev pub mended : Mend → QueryValue → QueryValue
mended Distinct q = record q { distinct = true }
mended (Domains columns ends) q = record q { domains = domains_with ends q.domains columns }
mended (Bounds columns ends) q = with_atoms (bounds_on ends columns) q
mended (Comparison t) q = with_atoms (t ∷ []) q
mended Compact q = record q { compact = true }
mended Shared q = q

-- the columns of a set bounded in one of two ways
abbrev pub on : ChangeKind → Ends → List Attr → Mend
on kind.Bounds ends columns = Bounds columns ends
on kind.Domains ends columns = Domains columns ends

-- a change mends a query where the query with it is within the limits of a statement, meets all conditions, and has a part
pub record Mends (mend : Mend) (q : QueryValue) : Type 0 where
  pub limits : IsWithinLimits (mended mend q)
  pub stands : Stands (mended mend q)

-- a query, or that it would pass a limit of a statement
abbrev pub IsWrittenAs : QueryValue → Option QueryValue → Type 0
IsWrittenAs q None = ¬ IsWithinLimits q
IsWrittenAs q (Some written) = written ≡ q

-- the query with a change, or that it would pass a limit of a statement
abbrev pub IsWritten : Mend → QueryValue → Option QueryValue → Type 0
IsWritten mend q written = IsWrittenAs (mended mend q) written

-- a comparison of a column that the query reads with an integer of at most 15 digits
pub record IsBound (q : QueryValue) (t : Atom) : Type 0 where
  pub attr : Attr
  pub value : ℤ
  pub left : t.left ≡ element.Attr attr
  pub right : t.right ≡ element.Const value
  pub reads : Contains (attrs_of q.atoms) attr ⊎ Contains q.select attr
  pub short : IsShort value

-- comparisons of which there are few enough for a statement, as there are of the columns and the integers that they name
pub record Fit (atoms : List Atom) : Type 0 where
  pub comparisons : length atoms ≤ 16
  pub few_soft : length (filter (λ t. is_soft t.op) atoms) ≤ 8
  pub few_attrs : length (attrs_of atoms) ≤ 12
  pub few_consts : length (consts_of atoms) ≤ 6
