-- Narrower ranges of single columns that lift a limit.
use Rattle.std.specs.Prelude.{◌≡◌, ℕ, zero, suc, ◌+◌, ◌/◌, ℤ, pos, neg_ℤ, ◌+ℤ◌, ◌-ℤ◌, int_lt, nat_abs, nat_eq, Bool, ◌&&◌, if◌then◌else◌, List, [], ◌∷◌, ◌++◌, take, ⊤}
use Rattle.std.specs.Int.{int_max, int_min}
use Rattle.std.specs.declared.option.Option.{Option}
use Rattle.std.specs.declared.option.Option.TheVariants.{None, Some}
use Rattle.sem_query.specs.declared.atom.Attr.{Attr}
use Rattle.sem_query.specs.declared.atom.Atom.{Atom}
use Rattle.sem_query.specs.declared.atom.Domain.{Domain}
use Rattle.sem_query.specs.declared.atom.Element.{Element}
use Rattle.sem_query.specs.declared.atom.Element.TheVariants as element
use Rattle.sem_query.specs.declared.atom.Op.{Op}
use Rattle.sem_query.specs.declared.atom.Op.TheVariants.{Lt, Eq, Gt, Le, Ge, Ne}
use Rattle.sem_query.specs.declared.plan.Numbers.{Numbers}
use Rattle.sem_query.specs.Query.{QueryValue, attr_eq, attrs_of, IsShort}
use Rattle.adv_mends.specs.declared.judging.Judgement.{Judgement}
use Rattle.adv_mends.specs.declared.comparing.Cheaper.{Cheaper}
use Rattle.adv_mends.specs.Mended.{compared, widest}
use Rattle.adv_mends.specs.Comparisons.{IsTried, placed, best_of}

-- the operator of a comparison that is written the other way round
abbrev pub turned : Op → Op
turned Lt = Gt
turned Eq = Eq
turned Gt = Lt
turned Le = Ge
turned Ge = Le
turned Ne = Ne

-- what is left of a range from an integer on
abbrev pub from_on : Domain → ℤ → Domain
from_on d k = record d { lo = int_max d.lo k }

-- what is left of a range up to an integer
abbrev pub up_to : Domain → ℤ → Domain
up_to d k = record d { hi = int_min d.hi k }

-- what a comparison with an integer leaves of a range
abbrev pub cut : Op → ℤ → Domain → Domain
cut Lt k d = up_to d (k -ℤ pos 1)
cut Eq k d = up_to (from_on d k) k
cut Gt k d = from_on d (k +ℤ pos 1)
cut Le k d = up_to d k
cut Ge k d = from_on d k
cut Ne k d = d

-- what a comparison with these sides leaves of the range of a column: all, where it does not compare the column with an integer
abbrev pub cut_sides : Domain → Element → Op → Element → Domain
cut_sides d (element.Attr a) op (element.Const k) = if attr_eq a d.attr then cut op k d else d
cut_sides d (element.Const k) op (element.Attr a) = if attr_eq a d.attr then cut (turned op) k d else d
cut_sides d (element.Attr a) op (element.Attr b) = d
cut_sides d (element.Const j) op (element.Const k) = d

abbrev pub cut_by : Domain → Atom → Domain
cut_by d t = cut_sides d t.left t.op t.right

-- what some comparisons leave of the range of a column
abbrev pub range_by : Domain → List Atom → Domain
range_by d [] = d
range_by d (t ∷ ts) = range_by (cut_by d t) ts

-- the domain of a column, or else the widest
abbrev pub domain_or : List Domain → Attr → Domain
domain_or [] a = widest a
domain_or (d ∷ others) a = if attr_eq d.attr a then d else domain_or others a

-- the range of a column by its domain and its comparisons with integers
unfoldable pub range_of : QueryValue → Attr → Domain
range_of q a = range_by (domain_or q.domains a) q.atoms

-- whether a range has two integers at least and lies between the least and the greatest integer of 15 digits
abbrev pub is_enclosed : Domain → Bool
is_enclosed d = int_lt (neg_ℤ (pos 999999999999999)) d.lo && int_lt d.lo d.hi && int_lt d.hi (pos 999999999999999)

-- the comparisons that leave the lower half of a range of such a width, the lower half of that, and so on, so many times
abbrev pub halvings_from : Domain → ℕ → ℕ → List Atom
halvings_from d width zero = []
halvings_from d width (suc more) = if nat_eq width 0 then [] else compared d.attr Lt (d.lo +ℤ pos (width / 2 + 1)) ∷ halvings_from d (width / 2) more

-- the same of the range of a column, up to 20 times, where it has one
unfoldable pub halvings_of : QueryValue → Attr → List Atom
halvings_of q a = let d = range_of q a in if is_enclosed d then halvings_from d (nat_abs (d.hi -ℤ d.lo)) 20 else []

-- the first of some comparisons with which the query is accepted with at least one part, with its numbers
pub data IsFirst (shared : Bool) (q : QueryValue) (own : Judgement) : List Atom → Option Cheaper → Type 0 where
  none : IsFirst shared q own [] None
  found : {ts : List Atom} (t : Atom) (numbers : Numbers) → IsTried shared q own t (Some numbers) → IsFirst shared q own (t ∷ ts) (Some record { atom = t; numbers = numbers })
  behind : {ts : List Atom} {first : Option Cheaper} (t : Atom) → IsTried shared q own t None → IsFirst shared q own ts first → IsFirst shared q own (t ∷ ts) first

-- of each of some columns the widest lower half of its range with which the query is accepted, in the order of the columns
pub data AreHalved (shared : Bool) (q : QueryValue) (own : Judgement) : List Attr → List Cheaper → Type 0 where
  none : AreHalved shared q own [] []
  kept : {columns : List Attr} {list : List Cheaper} (a : Attr) (c : Cheaper) → AreHalved shared q own columns list → IsFirst shared q own (halvings_of q a) (Some c) → AreHalved shared q own (columns ++ a ∷ []) (list ++ c ∷ [])
  dropped : {columns : List Attr} {list : List Cheaper} (a : Attr) → AreHalved shared q own columns list → IsFirst shared q own (halvings_of q a) None → AreHalved shared q own (columns ++ a ∷ []) list

-- the best of them
pub record AreNarrowed (shared : Bool) (q : QueryValue) (own : Judgement) (columns : List Attr) (list : List Cheaper) : Type 0 where
  pub all : List Cheaper
  pub halved : AreHalved shared q own columns all
  pub are : list ≡ best_of all

-- the best of those of all columns
abbrev pub AreNarrowings : Bool → QueryValue → Judgement → List Cheaper → Type 0
AreNarrowings shared q own list = AreNarrowed shared q own (attrs_of q.atoms) list

-- the first of some comparisons with which the query is accepted is put among the best ones
pub data PutsFirst (shared : Bool) (q : QueryValue) (own : Judgement) (ts : List Atom) (before after : List Cheaper) : Type 0 where
  put : (c : Cheaper) → IsFirst shared q own ts (Some c) → after ≡ take 5 (placed c before) → PutsFirst shared q own ts before after
  left_out : IsFirst shared q own ts None → after ≡ before → PutsFirst shared q own ts before after

-- a side that is an integer of at most 15 digits, or a column
abbrev pub IsShortSide : Element → Type 0
IsShortSide (element.Attr a) = ⊤
IsShortSide (element.Const k) = IsShort k

pub record AreShortSides (t : Atom) : Type 0 where
  pub left : IsShortSide t.left
  pub right : IsShortSide t.right
