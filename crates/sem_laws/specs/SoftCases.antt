-- Worked queries with soft comparisons.
use Rattle.std.specs.Prelude.{◌≡◌, true, false, List, [], ◌∷◌, ◌++◌, ℤ, pos}
use Rattle.std.specs.declared.option.Option.TheVariants.{None}
use Rattle.sem_query.specs.declared.atom.Op.{Op}
use Rattle.sem_query.specs.declared.atom.Element.TheVariants as element
use Rattle.sem_query.specs.declared.part.Sign.{Sign}
use Rattle.sem_query.specs.declared.plan.Kind.{Kind}
use Rattle.sem_query.specs.declared.plan.PartPlan.{PartPlan}
use Rattle.sem_query.specs.Query.{QueryValue, IsWithinLimits}
use Rattle.sem_query.specs.Violation.{IsViolation}
use Rattle.sem_query.specs.Parts.{pair, pairs}
use Rattle.sem_query.specs.Meaning.{Arrival, new_answers}
use Rattle.sem_query.specs.Plan.{IsPlan, link}
use Rattle.sem_query.specs.Cells.{synopsis, printed}
use Rattle.sem_query.specs.Combinations.{read_from}
use Rattle.sem_query.specs.Numbers.{numbers_of}
use Rattle.sem_query.specs.Future.{future}
use Rattle.sem_laws.specs.Cases.{col, atom, dim, one_cell, arrival}

-- what cells and table tell of the answers to rows, one after another
abbrev pub told : QueryValue → List PartPlan → List Arrival → List Arrival → List (List (List ℤ))
told q plan h [] = []
told q plan h (r ∷ rs) = future q plan (read_from (synopsis q plan h)) (printed q h) r ∷ told q plan (h ++ r ∷ []) rs

-- the answers to rows, one after another
abbrev pub meant : QueryValue → List Arrival → List Arrival → List (List (List ℤ))
meant q h [] = []
meant q h (r ∷ rs) = new_answers q h r ∷ meant q (h ++ r ∷ []) rs

-- SELECT DISTINCT S.a FROM S WHERE S.a >= 1 AND S.a <= 3
abbrev pub one_to_three : QueryValue
one_to_three = record {
  distinct = true;
  from = 0 ∷ [];
  select = col 0 0 ∷ [];
  atoms =
      atom (element.Attr (col 0 0)) Op.Ge (element.Const (pos 1))
      ∷ atom (element.Attr (col 0 0)) Op.Le (element.Const (pos 3))
      ∷ [];
  domains = [];
  compact = false;
}

-- one of its parts: S.a has this value
abbrev pub part_at : ℤ → Sign → Sign → PartPlan
part_at k low high = record {
  signs = record { items = low ∷ high ∷ [] };
  streams = record { items = record { dims = record { items = dim (col 0 0) k ∷ [] }; kind = Kind.Present; base = 0; size = 0 } ∷ [] };
  equal = record { items = [] };
  less = record { items = [] };
  local = [];
  soft = record { items = [] };
}

-- its three parts
abbrev pub one_to_three_plan : List PartPlan
one_to_three_plan = part_at (pos 1) Sign.Eq Sign.Lt ∷ part_at (pos 2) Sign.Gt Sign.Lt ∷ part_at (pos 3) Sign.Gt Sign.Eq ∷ []

-- SELECT DISTINCT S.a FROM S, T WHERE S.a <> T.c AND S.a > 0 AND S.a < 3 AND T.c > 0 AND T.c < 3
abbrev pub unlike : QueryValue
unlike = record {
  distinct = true;
  from = 0 ∷ 1 ∷ [];
  select = col 0 0 ∷ [];
  atoms =
      atom (element.Attr (col 0 0)) Op.Ne (element.Attr (col 1 0))
      ∷ atom (element.Attr (col 0 0)) Op.Gt (element.Const (pos 0))
      ∷ atom (element.Attr (col 0 0)) Op.Lt (element.Const (pos 3))
      ∷ atom (element.Attr (col 1 0)) Op.Gt (element.Const (pos 0))
      ∷ atom (element.Attr (col 1 0)) Op.Lt (element.Const (pos 3))
      ∷ [];
  domains = [];
  compact = false;
}

-- its two parts: 1 and 2, and 2 and 1
abbrev pub unlike_plan : List PartPlan
unlike_plan =
    record {
      signs = record { items = Sign.Lt ∷ Sign.Gt ∷ Sign.Lt ∷ Sign.Gt ∷ Sign.Lt ∷ [] };
      streams = record { items = one_cell (dim (col 0 0) (pos 1) ∷ []) Kind.Present 0 ∷ one_cell (dim (col 1 0) (pos 2) ∷ []) Kind.Present 1 ∷ [] };
      equal = record { items = [] };
      less = record { items = link (col 0 0) (col 1 0) ∷ [] };
      local = [];
      soft = record { items = [] };
    }
    ∷ record {
      signs = record { items = Sign.Gt ∷ Sign.Gt ∷ Sign.Lt ∷ Sign.Gt ∷ Sign.Lt ∷ [] };
      streams = record { items = one_cell (dim (col 0 0) (pos 2) ∷ []) Kind.Present 2 ∷ one_cell (dim (col 1 0) (pos 1) ∷ []) Kind.Present 3 ∷ [] };
      equal = record { items = [] };
      less = record { items = link (col 1 0) (col 0 0) ∷ [] };
      local = [];
      soft = record { items = [] };
    }
    ∷ []

-- S,1,0 then T,1 then T,2 then S,2,0
abbrev pub unlike_rows : List Arrival
unlike_rows = arrival 0 (pos 1 ∷ pos 0 ∷ []) ∷ arrival 1 (pos 1 ∷ []) ∷ arrival 1 (pos 2 ∷ []) ∷ arrival 0 (pos 2 ∷ pos 0 ∷ []) ∷ []

-- A pair that a soft comparison names comes first, also between streams, and admission does not ask for its sign. The first query
-- meets all that the laws ask.
pub record SoftComparisons : Type 0 where
  pub within : IsWithinLimits one_to_three
  pub plan : IsPlan one_to_three one_to_three_plan
  pub violation : IsViolation one_to_three None
  pub bounds : numbers_of one_to_three one_to_three_plan ≡ record { parts = 3; cells = 0; answers = 3; work = 3 }
  pub listed : pairs unlike
      ≡ pair (col 0 0) (element.Attr (col 1 0)) ∷ pair (col 0 0) (element.Const (pos 0)) ∷ pair (col 0 0) (element.Const (pos 3)) ∷ pair (col 1 0) (element.Const (pos 0)) ∷ pair (col 1 0) (element.Const (pos 3)) ∷ []
  pub once : pairs one_to_three ≡ pair (col 0 0) (element.Const (pos 1)) ∷ pair (col 0 0) (element.Const (pos 3)) ∷ []
  pub numbers : numbers_of unlike unlike_plan ≡ record { parts = 2; cells = 4; answers = 2; work = 2 }
  pub cells : told unlike unlike_plan [] unlike_rows ≡ [] ∷ [] ∷ ((pos 1 ∷ []) ∷ []) ∷ ((pos 2 ∷ []) ∷ []) ∷ []
  pub rows : meant unlike [] unlike_rows ≡ [] ∷ [] ∷ ((pos 1 ∷ []) ∷ []) ∷ ((pos 2 ∷ []) ∷ []) ∷ []
