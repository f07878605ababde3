-- Worked queries over S (a IN 1..2, b) and T (c).
use Rattle.std.specs.Prelude.{◌≡◌, ℕ, Bool, true, false, IsFalse, List, [], ◌∷◌, ℤ, pos}
use Rattle.std.specs.declared.option.Option.TheVariants.{None}
use Rattle.sem_query.specs.declared.atom.Atom.{Atom}
use Rattle.sem_query.specs.declared.atom.Attr.{Attr}
use Rattle.sem_query.specs.declared.atom.Op.{Op}
use Rattle.sem_query.specs.declared.atom.Element.TheVariants as element
use Rattle.sem_query.specs.declared.plan.Dim.{Dim}
use Rattle.sem_query.specs.declared.plan.Kind.{Kind}
use Rattle.sem_query.specs.declared.plan.Link.{Link}
use Rattle.sem_query.specs.declared.plan.PartPlan.{PartPlan}
use Rattle.sem_query.specs.Query.{QueryValue, IsWithinLimits, is_filter}
use Rattle.sem_query.specs.Violation.{IsViolation}
use Rattle.sem_query.specs.Meaning.{Arrival}
use Rattle.sem_query.specs.Domains.{RowKeeps}
use Rattle.sem_query.specs.Plan.{IsPlan, link}
use Rattle.sem_query.specs.Numbers.{numbers_of}
use Rattle.sem_laws.specs.Cases.{col, atom, arrival}
use Rattle.sem_laws.specs.SoftCases.{told, meant}

-- SELECT S.a FROM S, T WHERE this comparison
abbrev pub selects : Bool → Atom → QueryValue
selects distinct t = record {
  distinct = distinct;
  from = 0 ∷ 1 ∷ [];
  select = col 0 0 ∷ [];
  atoms = t ∷ [];
  domains = record { attr = col 0 0; lo = pos 1; hi = pos 2 } ∷ [];
  compact = false;
}

abbrev pub one_or_two : Attr → Dim
one_or_two a = record { attr = a; lo = pos 1; hi = pos 2 }

-- the one part of such a query, which has no pairs
abbrev pub one_part : List Dim → Kind → ℕ → List Dim → Kind → ℕ → List Link → List Link → List PartPlan
one_part dims kind size others other_kind other_size equal less = record {
  signs = record { items = [] };
  streams = record { items = record { dims = record { items = dims }; kind = kind; base = 0; size = size } ∷ record { dims = record { items = others }; kind = other_kind; base = size; size = other_size } ∷ [] };
  equal = record { items = equal };
  less = record { items = less };
  local = [];
  soft = record { items = [] };
} ∷ []

-- SELECT S.a FROM S, T WHERE S.a = T.c: the domain bounds both sides
abbrev pub equals : QueryValue
equals = selects false (atom (element.Attr (col 0 0)) Op.Eq (element.Attr (col 1 0)))

abbrev pub equals_plan : List PartPlan
equals_plan = one_part (one_or_two (col 0 0) ∷ []) Kind.Count 2 (one_or_two (col 1 0) ∷ []) Kind.Count 2 (link (col 0 0) (col 1 0) ∷ []) []

-- SELECT DISTINCT S.a FROM S, T WHERE S.b < T.c: the selected column is no attribute, and is a dim by its domain
abbrev pub beside : QueryValue
beside = selects true (atom (element.Attr (col 0 1)) Op.Lt (element.Attr (col 1 0)))

abbrev pub beside_plan : List PartPlan
beside_plan = one_part (one_or_two (col 0 0) ∷ []) (Kind.Least (col 0 1)) 2 [] (Kind.Greatest (col 1 0)) 1 [] (link (col 0 1) (col 1 0) ∷ [])

-- SELECT DISTINCT S.a FROM S, T WHERE S.a < T.c: one side of the inequality is bounded, and the other is not
abbrev pub below : QueryValue
below = selects true (atom (element.Attr (col 0 0)) Op.Lt (element.Attr (col 1 0)))

abbrev pub below_plan : List PartPlan
below_plan = one_part (one_or_two (col 0 0) ∷ []) Kind.Present 2 [] (Kind.Greatest (col 1 0)) 1 [] (link (col 0 0) (col 1 0) ∷ [])

abbrev pub row_s : ℤ → ℤ → Arrival
row_s a b = arrival 0 (a ∷ b ∷ [])

abbrev pub row_t : ℤ → Arrival
row_t c = arrival 1 (c ∷ [])

abbrev pub nothing : List (List ℤ)
nothing = []

abbrev pub only : ℤ → List (List ℤ)
only z = (z ∷ []) ∷ []

-- what their plans announce, and what rows are answered, by cells and by the rows themselves
pub record DomainsBound : Type 0 where
  pub equals_numbers : numbers_of equals equals_plan ≡ record { parts = 1; cells = 4; answers = 2; work = 1 }
  pub equals_cells : told equals equals_plan [] (row_s (pos 2) (pos 0) ∷ row_t (pos 2) ∷ row_t (pos 9) ∷ []) ≡ nothing ∷ only (pos 2) ∷ nothing ∷ []
  pub equals_rows : meant equals [] (row_s (pos 2) (pos 0) ∷ row_t (pos 2) ∷ row_t (pos 9) ∷ []) ≡ nothing ∷ only (pos 2) ∷ nothing ∷ []
  pub beside_numbers : numbers_of beside beside_plan ≡ record { parts = 1; cells = 3; answers = 2; work = 2 }
  pub beside_cells : told beside beside_plan [] (row_s (pos 1) (pos 5) ∷ row_t (pos 5) ∷ row_t (pos 6) ∷ row_s (pos 2) (pos 9) ∷ row_t (pos 10) ∷ [])
      ≡ nothing ∷ nothing ∷ only (pos 1) ∷ nothing ∷ only (pos 2) ∷ []
  pub beside_rows : meant beside [] (row_s (pos 1) (pos 5) ∷ row_t (pos 5) ∷ row_t (pos 6) ∷ row_s (pos 2) (pos 9) ∷ row_t (pos 10) ∷ [])
      ≡ nothing ∷ nothing ∷ only (pos 1) ∷ nothing ∷ only (pos 2) ∷ []
  pub below_numbers : numbers_of below below_plan ≡ record { parts = 1; cells = 3; answers = 2; work = 2 }
  pub below_cells : told below below_plan [] (row_t (pos 2) ∷ row_s (pos 1) (pos 0) ∷ row_s (pos 2) (pos 0) ∷ row_t (pos 3) ∷ []) ≡ nothing ∷ only (pos 1) ∷ nothing ∷ only (pos 2) ∷ []
  pub below_rows : meant below [] (row_t (pos 2) ∷ row_s (pos 1) (pos 0) ∷ row_s (pos 2) (pos 0) ∷ row_t (pos 3) ∷ []) ≡ nothing ∷ only (pos 1) ∷ nothing ∷ only (pos 2) ∷ []

-- the query whose selected column is no attribute, and its plan, meet all that the laws ask
pub record DomainsArePlanned : Type 0 where
  pub within : IsWithinLimits beside
  pub no_filter : IsFalse (is_filter beside)
  pub plan : IsPlan beside beside_plan
  pub violation : IsViolation beside None

-- A row of S keeps to the domains where its first value is 1 or 2, and not where it is 0 or 3; a row of T always does. A row outside them is answered by
-- the rows and not by the cells, so the laws ask for rows that keep to them.
pub record RowsMustKeep : Type 0 where
  pub least : (b : ℤ) → RowKeeps beside (row_s (pos 1) b)
  pub greatest : (b : ℤ) → RowKeeps beside (row_s (pos 2) b)
  pub too_low : (b : ℤ) → ¬ RowKeeps beside (row_s (pos 0) b)
  pub too_high : (b : ℤ) → ¬ RowKeeps beside (row_s (pos 3) b)
  pub any : (c : ℤ) → RowKeeps beside (row_t c)
  pub cells : told beside beside_plan [] (row_s (pos 3) (pos 5) ∷ row_t (pos 6) ∷ []) ≡ nothing ∷ nothing ∷ []
  pub rows : meant beside [] (row_s (pos 3) (pos 5) ∷ row_t (pos 6) ∷ []) ≡ nothing ∷ only (pos 3) ∷ []
