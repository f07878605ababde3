-- What clauses see of a query, the columns and integers that it names, and the limits that it is within.
use Rattle.std.specs.Prelude.{◌≡◌, ◌≢◌, ℕ, ◌<◌, ◌≤◌, ℤ, pos, neg_ℤ, ◌≤ℤ◌, int_lt, Bool, true, false, not, ◌&&◌, ◌⊎◌, IsTrue, nat_lt, nat_eq, if◌then◌else◌, List, [], ◌∷◌, filter, length, All, AllPairs, Contains}
use Rattle.sem_query.specs.declared.atom.Attr.{Attr}
use Rattle.sem_query.specs.declared.atom.Domain.{Domain}
use Rattle.sem_query.specs.declared.atom.Element.{Element}
use Rattle.sem_query.specs.declared.atom.Element.TheVariants as element
use Rattle.sem_query.specs.declared.atom.Op.{Op}
use Rattle.sem_query.specs.declared.atom.Op.TheVariants.{Lt, Eq, Gt, Le, Ge, Ne}
use Rattle.sem_query.specs.declared.atom.Atom.{Atom}

-- whether an answer counts once, the streams of FROM by their numbers, the selected columns, the comparisons, the domains of the
-- columns that it names, and whether it is compact: read by the groups of its columns
pub record QueryValue : Type 0 where
  pub distinct : Bool
  pub from : List ℕ
  pub select : List Attr
  pub atoms : List Atom
  pub domains : List Domain
  pub compact : Bool

-- a filter: one stream, and each answer as often as it is found
abbrev pub is_filter : QueryValue → Bool
is_filter q = not q.distinct && nat_eq (length q.from) 1

-- FROM order, then column order
abbrev pub attr_lt : Attr → Attr → Bool
attr_lt a b = if nat_lt a.stream b.stream then true else nat_eq a.stream b.stream && nat_lt a.column b.column

-- whether two columns are the same
abbrev pub attr_eq : Attr → Attr → Bool
attr_eq a b = nat_eq a.stream b.stream && nat_eq a.column b.column

-- x among the ascending xs, once
abbrev pub with_new : {X : Type 0} → (X → X → Bool) → X → List X → List X
with_new lt x [] = x ∷ []
with_new lt x (y ∷ ys) = if lt x y then x ∷ y ∷ ys else (if lt y x then y ∷ with_new lt x ys else y ∷ ys)

abbrev pub attrs_with : Element → List Attr → List Attr
attrs_with (element.Attr a) attrs = with_new attr_lt a attrs
attrs_with (element.Const k) attrs = attrs

abbrev pub consts_with : Element → List ℤ → List ℤ
consts_with (element.Attr a) consts = consts
consts_with (element.Const k) consts = with_new int_lt k consts

-- the attributes of a query: the columns that its atoms name, in FROM order and then column order
abbrev pub attrs_of : List Atom → List Attr
attrs_of [] = []
attrs_of (t ∷ ts) = attrs_with t.left (attrs_with t.right (attrs_of ts))

-- the constants of a query: the integers that its atoms name, ascending
abbrev pub consts_of : List Atom → List ℤ
consts_of [] = []
consts_of (t ∷ ts) = consts_with t.left (consts_with t.right (consts_of ts))

-- the lists are the attributes and the constants
pub record AreNamed (atoms : List Atom) (columns : List Attr) (integers : List ℤ) : Type 0 where
  pub attrs : columns ≡ attrs_of atoms
  pub consts : integers ≡ consts_of atoms

-- a column of a stream of FROM, of which there are so many
pub record IsColumn (streams : ℕ) (a : Attr) : Type 0 where
  pub stream : a.stream < streams
  pub column : a.column < 8

-- an integer of at most 15 digits
pub record IsShort (k : ℤ) : Type 0 where
  pub low : neg_ℤ (pos 999999999999999) ≤ℤ k
  pub high : k ≤ℤ pos 999999999999999

abbrev pub is_attr : Element → Bool
is_attr (element.Attr a) = true
is_attr (element.Const k) = false

-- a domain of an attribute or a selected column, with at least one integer
pub record IsDomain (q : QueryValue) (d : Domain) : Type 0 where
  pub column : Contains (attrs_of q.atoms) d.attr ⊎ Contains q.select d.attr
  pub low : IsShort d.lo
  pub high : IsShort d.hi
  pub some : d.lo ≤ℤ d.hi

-- at least one side is a column
abbrev pub HasAttr : Atom → Type 0
HasAttr t = IsTrue (is_attr t.left) ⊎ IsTrue (is_attr t.right)

-- a comparison is soft where it leaves open which of two signs its sides have
abbrev pub is_soft : Op → Bool
is_soft Lt = false
is_soft Eq = false
is_soft Gt = false
is_soft Le = true
is_soft Ge = true
is_soft Ne = true

-- the limits of a statement
pub record IsWithinLimits (q : QueryValue) : Type 0 where
  pub streams : (0 < length q.from) × (length q.from ≤ 4)
  pub different : AllPairs (λ s t. s ≢ t) q.from
  pub selected : (0 < length q.select) × (length q.select ≤ 8)
  pub select : All (IsColumn (length q.from)) q.select
  pub comparisons : length q.atoms ≤ 16
  pub few_soft : length (filter (λ t. is_soft t.op) q.atoms) ≤ 8
  pub sides : All HasAttr q.atoms
  pub few_attrs : length (attrs_of q.atoms) ≤ 12
  pub attrs : All (IsColumn (length q.from)) (attrs_of q.atoms)
  pub few_consts : length (consts_of q.atoms) ≤ 6
  pub consts : All IsShort (consts_of q.atoms)
  pub few_domains : length q.domains ≤ 20
  pub domains : All (IsDomain q) q.domains
  pub ascending : AllPairs (λ d e. IsTrue (attr_lt d.attr e.attr)) q.domains
