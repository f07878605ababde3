-- Worked queries that are refused, one for each condition.
use Rattle.std.specs.Prelude.{Bool, true, false, List, [], ◌∷◌, pos}
use Rattle.std.specs.declared.option.Option.TheVariants.{None, Some}
use Rattle.sem_query.specs.declared.atom.Attr.{Attr}
use Rattle.sem_query.specs.declared.atom.Atom.{Atom}
use Rattle.sem_query.specs.declared.atom.Op.{Op}
use Rattle.sem_query.specs.declared.atom.Element.TheVariants as element
use Rattle.sem_query.specs.declared.condition.Condition.{Condition}
use Rattle.sem_query.specs.declared.condition.Condition.TheVariants.{C1, C2, C3}
use Rattle.sem_query.specs.Query.{QueryValue, IsWithinLimits}
use Rattle.sem_query.specs.Violation.{Failure, IsViolation}
use Rattle.sem_laws.specs.Cases.{col, atom}
use Rattle.sem_laws.specs.HotRooms.{hot_rooms}
use Rattle.sem_lower_bounds.specs.Plain.{IsPlain}
use Rattle.sem_lower_bounds.specs.States.{NeedsStates}

-- the columns S.a, S.b, T.c and T.d
abbrev pub s_a : Attr
s_a = col 0 0

abbrev pub s_b : Attr
s_b = col 0 1

abbrev pub t_c : Attr
t_c = col 1 0

abbrev pub t_d : Attr
t_d = col 1 1

-- S.b = 5
abbrev pub b_is_five : Atom
b_is_five = atom (element.Attr s_b) Op.Eq (element.Const (pos 5))

-- a column is above 5
abbrev pub above_five : Attr → Atom
above_five a = atom (element.Attr a) Op.Gt (element.Const (pos 5))

-- a query over S and T
abbrev pub over_two : Bool → Attr → List Atom → QueryValue
over_two distinct selected atoms = record { distinct = distinct; from = 0 ∷ 1 ∷ []; select = selected ∷ []; atoms = atoms; domains = []; compact = false }

-- SELECT [DISTINCT] S.a FROM S, T WHERE S.a > 5
abbrev pub seen : Bool → QueryValue
seen distinct = over_two distinct s_a (above_five s_a ∷ [])

-- SELECT [DISTINCT] S.b FROM S, T WHERE S.b = 5 AND S.a > 5 AND S.a = T.c
abbrev pub paid : Bool → QueryValue
paid distinct = over_two distinct s_b (b_is_five ∷ above_five s_a ∷ atom (element.Attr s_a) Op.Eq (element.Attr t_c) ∷ [])

-- SELECT [DISTINCT] S.b FROM S, T WHERE S.b = 5 AND S.a > 5 AND S.a < T.c
abbrev pub under : Bool → QueryValue
under distinct = over_two distinct s_b (b_is_five ∷ above_five s_a ∷ atom (element.Attr s_a) Op.Lt (element.Attr t_c) ∷ [])

-- SELECT [DISTINCT] S.b FROM S, T WHERE S.b = 5 AND T.c > 5 AND T.c < S.a AND S.a < T.d
abbrev pub window : Bool → QueryValue
window distinct = over_two distinct s_b (
    b_is_five
    ∷ above_five t_c
    ∷ atom (element.Attr t_c) Op.Lt (element.Attr s_a)
    ∷ atom (element.Attr s_a) Op.Lt (element.Attr t_d)
    ∷ []
    )

-- SELECT DISTINCT R.room FROM R, L WHERE R.room = L.room AND R.temp > L.lim, which is hot-rooms without bounds
abbrev pub hot_unbounded : QueryValue
hot_unbounded = over_two true s_a (atom (element.Attr s_a) Op.Eq (element.Attr t_c) ∷ atom (element.Attr s_b) Op.Gt (element.Attr t_d) ∷ [])

-- SELECT R.room FROM R, L WHERE R.room = L.room AND R.room > 0 AND R.room < 4 AND R.temp > L.lim, which is hot-rooms without DISTINCT
abbrev pub hot_counted : QueryValue
hot_counted = record hot_rooms { distinct = false }

-- the first part breaks a condition at the first column of the first stream
abbrev pub at_first : Condition → Failure
at_first condition = record { part = 1; condition = condition; attr = s_a }

-- the query is within limits and plain, and this is its violation: so it needs many states
pub record IsRefused (q : QueryValue) (f : Failure) : Type 0 where
  pub limits : IsWithinLimits q
  pub plain : IsPlain q
  pub violation : IsViolation q (Some f)
  pub needs : NeedsStates q

-- with and without DISTINCT the first two conditions refuse the same; the third refuses one link without it, and with it only two; hot-rooms needs its bounds, and DISTINCT
pub record RefusalsAreThese : Type 0 where
  pub selected : (distinct : Bool) → IsRefused (seen distinct) (at_first C1)
  pub equal : (distinct : Bool) → IsRefused (paid distinct) (at_first C2)
  pub link : IsRefused (under false) (at_first C3)
  pub extreme : IsViolation (under true) None
  pub two_links : (distinct : Bool) → IsRefused (window distinct) (at_first C3)
  pub unbounded : IsRefused hot_unbounded (at_first C1)
  pub counted : IsRefused hot_counted record { part = 13; condition = C3; attr = col 0 1 }
