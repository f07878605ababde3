-- Worked queries with their plans, by which the definitions are tried.
use Rattle.std.specs.Prelude.{◌≡◌, ℕ, true, false, [], ◌∷◌, ◌++◌, ℤ, pos, List, IsFalse}
use Rattle.std.specs.declared.option.Option.TheVariants.{None}
use Rattle.sem_query.specs.declared.atom.Attr.{Attr}
use Rattle.sem_query.specs.declared.atom.Atom.{Atom}
use Rattle.sem_query.specs.declared.atom.Op.{Op}
use Rattle.sem_query.specs.declared.atom.Element.{Element}
use Rattle.sem_query.specs.declared.atom.Element.TheVariants as element
use Rattle.sem_query.specs.declared.cell.Cell.{Cell}
use Rattle.sem_query.specs.declared.part.Sign.{Sign}
use Rattle.sem_query.specs.declared.plan.Dim.{Dim}
use Rattle.sem_query.specs.declared.plan.Kind.{Kind}
use Rattle.sem_query.specs.declared.plan.Link.{Link}
use Rattle.sem_query.specs.declared.plan.StreamPlan.{StreamPlan}
use Rattle.sem_query.specs.declared.plan.PartPlan.{PartPlan}
use Rattle.sem_query.specs.Query.{QueryValue, IsWithinLimits, is_filter}
use Rattle.sem_query.specs.Meaning.{Arrival, new_answers}
use Rattle.sem_query.specs.Violation.{IsViolation}
use Rattle.sem_query.specs.Plan.{IsPlan, link}
use Rattle.sem_query.specs.Cells.{synopsis, printed}
use Rattle.sem_query.specs.Combinations.{read_from}
use Rattle.sem_query.specs.declared.decision.Which.TheVariants.{Work}
use Rattle.sem_query.specs.Numbers.{numbers_of, page_count}
use Rattle.sem_query.specs.Verdict.{IsVerdict, verdict_by, limit, pool, accepted}
use Rattle.sem_query.specs.Future.{future}
use Rattle.sem_query.specs.Sharing.{shared_numbers}

-- a column, by its place of FROM and its place in the stream
abbrev pub col : ℕ → ℕ → Attr
col stream column = record { stream = stream; column = column }

-- a comparison
abbrev pub atom : Element → Op → Element → Atom
atom left op right = record { left = left; op = op; right = right }

-- a dim with one value
abbrev pub dim : Attr → ℤ → Dim
dim a k = record { attr = a; lo = k; hi = k }

-- one cell for a stream of which every dim has one value
abbrev pub one_cell : List Dim → Kind → ℕ → StreamPlan
one_cell dims kind base = record { dims = record { items = dims }; kind = kind; base = base; size = 1 }

-- a row of a stream
abbrev pub arrival : ℕ → List ℤ → Arrival
arrival stream values = record { stream = stream; values = values }

-- SELECT R.a FROM R, L WHERE R.a = 5 AND R.a = L.a
abbrev pub fives : QueryValue
fives = record {
  distinct = false;
  from = 7 ∷ 4 ∷ [];
  select = col 0 0 ∷ [];
  atoms = atom (element.Attr (col 0 0)) Op.Eq (element.Const (pos 5)) ∷ atom (element.Attr (col 0 0)) Op.Eq (element.Attr (col 1 0)) ∷ [];
  domains = [];
  compact = false;
}

-- its one part: both columns are 5
abbrev pub fives_part : PartPlan
fives_part = record {
  signs = record { items = Sign.Eq ∷ Sign.Eq ∷ [] };
  streams = record { items = one_cell (dim (col 0 0) (pos 5) ∷ []) Kind.Count 0 ∷ one_cell (dim (col 1 0) (pos 5) ∷ []) Kind.Count 1 ∷ [] };
  equal = record { items = link (col 0 0) (col 1 0) ∷ [] };
  less = record { items = [] };
  local = [];
  soft = record { items = [] };
}

-- all that the laws ask of a query and its plan is met by this one
pub record PremisesAreMet : Type 0 where
  pub within : IsWithinLimits fives
  pub no_filter : IsFalse (is_filter fives)
  pub plan : IsPlan fives (fives_part ∷ [])
  pub violation : IsViolation fives None

-- SELECT DISTINCT R.room FROM R, L WHERE R.room = 2 AND R.room = L.room AND L.lim > 9 AND L.lim < R.temp
abbrev pub hot_room : QueryValue
hot_room = record {
  distinct = true;
  from = 7 ∷ 4 ∷ [];
  select = col 0 0 ∷ [];
  atoms =
      atom (element.Attr (col 0 0)) Op.Eq (element.Const (pos 2))
      ∷ atom (element.Attr (col 0 0)) Op.Eq (element.Attr (col 1 0))
      ∷ atom (element.Attr (col 1 1)) Op.Gt (element.Const (pos 9))
      ∷ atom (element.Attr (col 1 1)) Op.Lt (element.Attr (col 0 1))
      ∷ [];
  domains = [];
  compact = false;
}

-- its one part: temperature and limit are above 9
abbrev pub hot_room_plan : List PartPlan
hot_room_plan = record {
  signs = record { items = Sign.Eq ∷ Sign.Lt ∷ Sign.Lt ∷ Sign.Gt ∷ Sign.Gt ∷ Sign.Eq ∷ Sign.Lt ∷ Sign.Lt ∷ Sign.Gt ∷ Sign.Gt ∷ [] };
  streams = record { items = one_cell (dim (col 0 0) (pos 2) ∷ []) (Kind.Greatest (col 0 1)) 0 ∷ one_cell (dim (col 1 0) (pos 2) ∷ []) (Kind.Least (col 1 1)) 1 ∷ [] };
  equal = record { items = link (col 0 0) (col 1 0) ∷ [] };
  less = record { items = link (col 1 1) (col 0 1) ∷ [] };
  local = [];
  soft = record { items = [] };
} ∷ []

-- temperatures of 30 and 20 and a limit of 40 in room 2, and 90 in room 3
abbrev pub warm : List Arrival
warm = arrival 7 (pos 2 ∷ pos 30 ∷ []) ∷ arrival 7 (pos 2 ∷ pos 20 ∷ []) ∷ arrival 7 (pos 3 ∷ pos 90 ∷ []) ∷ arrival 4 (pos 2 ∷ pos 40 ∷ []) ∷ []

-- the greatest temperature and the least limit are kept, and decide the answers to a limit of 25 and of 30: a query with DISTINCT of which all holds that the laws ask
pub record ExtremesDecide : Type 0 where
  pub within : IsWithinLimits hot_room
  pub no_filter : IsFalse (is_filter hot_room)
  pub plan : IsPlan hot_room hot_room_plan
  pub violation : IsViolation hot_room None
  pub verdict : IsVerdict false hot_room 1 (accepted (numbers_of hot_room hot_room_plan))
  pub cells : synopsis hot_room hot_room_plan warm ≡ Cell.Extreme (pos 30) ∷ Cell.Extreme (pos 40) ∷ []
  pub under : future hot_room hot_room_plan (read_from (synopsis hot_room hot_room_plan warm)) (printed hot_room warm) (arrival 4 (pos 2 ∷ pos 25 ∷ [])) ≡ (pos 2 ∷ []) ∷ []
  pub meant_under : new_answers hot_room warm (arrival 4 (pos 2 ∷ pos 25 ∷ [])) ≡ (pos 2 ∷ []) ∷ []
  pub over : future hot_room hot_room_plan (read_from (synopsis hot_room hot_room_plan warm)) (printed hot_room warm) (arrival 4 (pos 2 ∷ pos 30 ∷ [])) ≡ []
  pub meant_over : new_answers hot_room warm (arrival 4 (pos 2 ∷ pos 30 ∷ [])) ≡ []
  pub numbers : numbers_of hot_room hot_room_plan ≡ record { parts = 1; cells = 2; answers = 1; work = 1 }

-- SELECT S.a FROM S, T, U WHERE S.a = 1 AND T.c = 2 AND U.d = 3
abbrev pub three_ways : QueryValue
three_ways = record {
  distinct = false;
  from = 0 ∷ 1 ∷ 2 ∷ [];
  select = col 0 0 ∷ [];
  atoms =
      atom (element.Attr (col 0 0)) Op.Eq (element.Const (pos 1))
      ∷ atom (element.Attr (col 1 0)) Op.Eq (element.Const (pos 2))
      ∷ atom (element.Attr (col 2 0)) Op.Eq (element.Const (pos 3))
      ∷ [];
  domains = [];
  compact = false;
}

-- its one part: a cell for each stream
abbrev pub three_ways_plan : List PartPlan
three_ways_plan = record {
  signs = record { items = Sign.Eq ∷ Sign.Lt ∷ Sign.Lt ∷ Sign.Gt ∷ Sign.Eq ∷ Sign.Lt ∷ Sign.Gt ∷ Sign.Gt ∷ Sign.Eq ∷ [] };
  streams = record { items = one_cell (dim (col 0 0) (pos 1) ∷ []) Kind.Count 0 ∷ one_cell [] Kind.Count 1 ∷ one_cell [] Kind.Count 2 ∷ [] };
  equal = record { items = [] };
  less = record { items = [] };
  local = [];
  soft = record { items = [] };
} ∷ []

-- one row of S, two of T and two of U
abbrev pub five_rows : List Arrival
five_rows = arrival 0 (pos 1 ∷ pos 0 ∷ []) ∷ arrival 1 (pos 2 ∷ []) ∷ arrival 1 (pos 2 ∷ []) ∷ arrival 2 (pos 3 ∷ []) ∷ arrival 2 (pos 3 ∷ []) ∷ []

-- counts multiply: one more row of S answers four times
pub record CountsMultiply : Type 0 where
  pub plan : IsPlan three_ways three_ways_plan
  pub cells : synopsis three_ways three_ways_plan five_rows ≡ Cell.Count 1 ∷ Cell.Count 2 ∷ Cell.Count 2 ∷ []
  pub answers : future three_ways three_ways_plan (read_from (synopsis three_ways three_ways_plan five_rows)) [] (arrival 0 (pos 1 ∷ pos 9 ∷ [])) ≡ (pos 1 ∷ []) ∷ (pos 1 ∷ []) ∷ (pos 1 ∷ []) ∷ (pos 1 ∷ []) ∷ []
  pub meant : new_answers three_ways five_rows (arrival 0 (pos 1 ∷ pos 9 ∷ [])) ≡ (pos 1 ∷ []) ∷ (pos 1 ∷ []) ∷ (pos 1 ∷ []) ∷ (pos 1 ∷ []) ∷ []
  pub numbers : numbers_of three_ways three_ways_plan ≡ record { parts = 1; cells = 3; answers = 1; work = 1 }

-- SELECT DISTINCT S.a FROM S, T WHERE S.b < T.c AND S.a > 10 AND S.a < 12
abbrev pub two_ways : QueryValue
two_ways = record {
  distinct = true;
  from = 0 ∷ 1 ∷ [];
  select = col 0 0 ∷ [];
  atoms =
      atom (element.Attr (col 0 1)) Op.Lt (element.Attr (col 1 0))
      ∷ atom (element.Attr (col 0 0)) Op.Gt (element.Const (pos 10))
      ∷ atom (element.Attr (col 0 0)) Op.Lt (element.Const (pos 12))
      ∷ [];
  domains = [];
  compact = false;
}

-- a part of it, by how S.b stands to 10, 12 and S.a, and T.c to 10 and 12
abbrev pub way : List Sign → List Sign → StreamPlan → StreamPlan → List Link → List Link → PartPlan
way b c of_s of_t equal less = record {
  signs = record { items = Sign.Gt ∷ Sign.Lt ∷ b ++ c };
  streams = record { items = of_s ∷ of_t ∷ [] };
  equal = record { items = equal };
  less = record { items = less };
  local = [];
  soft = record { items = [] };
}

-- its twelve parts: the inequality stays where S.b and T.c are both above 12, and where both are below 10
abbrev pub two_ways_plan : List PartPlan
two_ways_plan =
    way (Sign.Lt ∷ Sign.Gt ∷ Sign.Eq ∷ []) (Sign.Gt ∷ Sign.Gt ∷ []) (one_cell (dim (col 0 0) (pos 11) ∷ []) Kind.Present 0) (one_cell [] Kind.Present 1) [] []
    ∷ way (Sign.Lt ∷ Sign.Gt ∷ Sign.Gt ∷ []) (Sign.Gt ∷ Sign.Gt ∷ []) (one_cell (dim (col 0 0) (pos 11) ∷ []) (Kind.Least (col 0 1)) 2) (one_cell [] (Kind.Greatest (col 1 0)) 3) [] (link (col 0 1) (col 1 0) ∷ [])
    ∷ way (Sign.Eq ∷ Sign.Gt ∷ Sign.Lt ∷ []) (Sign.Gt ∷ Sign.Eq ∷ []) (one_cell (dim (col 0 0) (pos 11) ∷ []) Kind.Present 4) (one_cell [] Kind.Present 5) [] []
    ∷ way (Sign.Eq ∷ Sign.Gt ∷ Sign.Lt ∷ []) (Sign.Gt ∷ Sign.Gt ∷ []) (one_cell (dim (col 0 0) (pos 11) ∷ []) Kind.Present 6) (one_cell [] Kind.Present 7) [] []
    ∷ way (Sign.Gt ∷ Sign.Lt ∷ Sign.Lt ∷ []) (Sign.Lt ∷ Sign.Lt ∷ []) (one_cell (dim (col 0 0) (pos 11) ∷ []) (Kind.Least (col 0 1)) 8) (one_cell [] (Kind.Greatest (col 1 0)) 9) [] (link (col 0 1) (col 1 0) ∷ [])
    ∷ way (Sign.Gt ∷ Sign.Lt ∷ Sign.Lt ∷ []) (Sign.Eq ∷ Sign.Lt ∷ []) (one_cell (dim (col 0 0) (pos 11) ∷ []) Kind.Present 10) (one_cell [] Kind.Present 11) [] []
    ∷ way (Sign.Gt ∷ Sign.Lt ∷ Sign.Lt ∷ []) (Sign.Gt ∷ Sign.Lt ∷ []) (one_cell (dim (col 0 0) (pos 11) ∷ []) Kind.Present 12) (one_cell (dim (col 1 0) (pos 11) ∷ []) Kind.Present 13) (link (col 0 0) (col 1 0) ∷ []) []
    ∷ way (Sign.Gt ∷ Sign.Lt ∷ Sign.Lt ∷ []) (Sign.Gt ∷ Sign.Eq ∷ []) (one_cell (dim (col 0 0) (pos 11) ∷ []) Kind.Present 14) (one_cell [] Kind.Present 15) [] []
    ∷ way (Sign.Gt ∷ Sign.Lt ∷ Sign.Lt ∷ []) (Sign.Gt ∷ Sign.Gt ∷ []) (one_cell (dim (col 0 0) (pos 11) ∷ []) Kind.Present 16) (one_cell [] Kind.Present 17) [] []
    ∷ way (Sign.Gt ∷ Sign.Eq ∷ Sign.Lt ∷ []) (Sign.Gt ∷ Sign.Lt ∷ []) (one_cell (dim (col 0 0) (pos 11) ∷ []) Kind.Present 18) (one_cell (dim (col 1 0) (pos 11) ∷ []) Kind.Present 19) (link (col 0 0) (col 1 0) ∷ []) []
    ∷ way (Sign.Gt ∷ Sign.Eq ∷ Sign.Lt ∷ []) (Sign.Gt ∷ Sign.Eq ∷ []) (one_cell (dim (col 0 0) (pos 11) ∷ []) Kind.Present 20) (one_cell [] Kind.Present 21) [] []
    ∷ way (Sign.Gt ∷ Sign.Eq ∷ Sign.Lt ∷ []) (Sign.Gt ∷ Sign.Gt ∷ []) (one_cell (dim (col 0 0) (pos 11) ∷ []) Kind.Present 22) (one_cell [] Kind.Present 23) [] []
    ∷ []

-- a row of S that is below 10, a row of T that it answers with 11, and a row of S that is at 11
abbrev pub met_before : List Arrival
met_before = arrival 0 (pos 11 ∷ pos 5 ∷ []) ∷ arrival 1 (pos 7 ∷ []) ∷ arrival 0 (pos 11 ∷ pos 11 ∷ []) ∷ []

-- a tuple that was answered through one part is not answered again through another
pub record OneTableForAllParts : Type 0 where
  pub plan : IsPlan two_ways two_ways_plan
  pub cells : synopsis two_ways two_ways_plan met_before ≡ Cell.Empty ∷ Cell.Empty ∷ Cell.Empty ∷ Cell.Empty ∷ Cell.Present ∷ Cell.Empty ∷ Cell.Present ∷ Cell.Empty ∷ Cell.Extreme (pos 5) ∷ Cell.Extreme (pos 7) ∷ Cell.Present ∷ Cell.Empty ∷ Cell.Present ∷ Cell.Empty ∷ Cell.Present ∷ Cell.Empty ∷ Cell.Present ∷ Cell.Empty ∷ Cell.Empty ∷ Cell.Empty ∷ Cell.Empty ∷ Cell.Empty ∷ Cell.Empty ∷ Cell.Empty ∷ []
  pub table : printed two_ways met_before ≡ (pos 11 ∷ []) ∷ []
  pub without : future two_ways two_ways_plan (read_from (synopsis two_ways two_ways_plan met_before)) [] (arrival 1 (pos 12 ∷ [])) ≡ (pos 11 ∷ []) ∷ []
  pub answers : future two_ways two_ways_plan (read_from (synopsis two_ways two_ways_plan met_before)) (printed two_ways met_before) (arrival 1 (pos 12 ∷ [])) ≡ []
  pub meant : new_answers two_ways met_before (arrival 1 (pos 12 ∷ [])) ≡ []
  pub numbers : numbers_of two_ways two_ways_plan ≡ record { parts = 12; cells = 24; answers = 12; work = 12 }
  -- with shared cells the parts that keep the same of a stream keep it once
  pub shared : shared_numbers two_ways two_ways_plan ≡ record { parts = 12; cells = 12; answers = 12; work = 12 }

-- SELECT S.a FROM S, T WHERE S.a = T.c AND S.a > 10 AND S.a < 13
abbrev pub equal_columns : QueryValue
equal_columns = record {
  distinct = false;
  from = 0 ∷ 1 ∷ [];
  select = col 0 0 ∷ [];
  atoms =
      atom (element.Attr (col 0 0)) Op.Eq (element.Attr (col 1 0))
      ∷ atom (element.Attr (col 0 0)) Op.Gt (element.Const (pos 10))
      ∷ atom (element.Attr (col 0 0)) Op.Lt (element.Const (pos 13))
      ∷ [];
  domains = [];
  compact = false;
}

-- its one part: both columns are 11 or 12, and equal
abbrev pub equal_columns_plan : List PartPlan
equal_columns_plan = record {
  signs = record { items = Sign.Gt ∷ Sign.Lt ∷ Sign.Gt ∷ Sign.Lt ∷ [] };
  streams = record {
    items =
        record { dims = record { items = record { attr = col 0 0; lo = pos 11; hi = pos 12 } ∷ [] }; kind = Kind.Count; base = 0; size = 2 }
        ∷ record { dims = record { items = record { attr = col 1 0; lo = pos 11; hi = pos 12 } ∷ [] }; kind = Kind.Count; base = 2; size = 2 }
        ∷ [];
  };
  equal = record { items = link (col 0 0) (col 1 0) ∷ [] };
  less = record { items = [] };
  local = [];
  soft = record { items = [] };
} ∷ []

-- SELECT S.a FROM S, T, U WHERE S.a = 0 AND T.c < U.d AND T.c > 0 AND T.c < 3000 AND U.d > 0 AND U.d < 3000
abbrev pub wide_join : QueryValue
wide_join = record {
  distinct = false;
  from = 0 ∷ 1 ∷ 2 ∷ [];
  select = col 0 0 ∷ [];
  atoms =
      atom (element.Attr (col 0 0)) Op.Eq (element.Const (pos 0))
      ∷ atom (element.Attr (col 1 0)) Op.Lt (element.Attr (col 2 0))
      ∷ atom (element.Attr (col 1 0)) Op.Gt (element.Const (pos 0))
      ∷ atom (element.Attr (col 1 0)) Op.Lt (element.Const (pos 3000))
      ∷ atom (element.Attr (col 2 0)) Op.Gt (element.Const (pos 0))
      ∷ atom (element.Attr (col 2 0)) Op.Lt (element.Const (pos 3000))
      ∷ [];
  domains = [];
  compact = false;
}

-- its one part: T.c goes from 1 to 2998, and U.d from 2 to 2999
abbrev pub wide_join_plan : List PartPlan
wide_join_plan = record {
  signs = record { items = Sign.Eq ∷ Sign.Lt ∷ Sign.Gt ∷ Sign.Lt ∷ Sign.Gt ∷ Sign.Lt ∷ [] };
  streams = record {
    items =
        one_cell (dim (col 0 0) (pos 0) ∷ []) Kind.Count 0
        ∷ record { dims = record { items = record { attr = col 1 0; lo = pos 1; hi = pos 2998 } ∷ [] }; kind = Kind.Count; base = 1; size = 2998 }
        ∷ record { dims = record { items = record { attr = col 2 0; lo = pos 2; hi = pos 2999 } ∷ [] }; kind = Kind.Count; base = 2999; size = 2998 }
        ∷ [];
  };
  equal = record { items = [] };
  less = record { items = link (col 1 0) (col 2 0) ∷ [] };
  local = [];
  soft = record { items = [] };
} ∷ []

-- an equality leaves a row one cell to meet; without one a row meets all combinations, and the worst arriving stream counts
pub record NumbersAreThese : Type 0 where
  pub joined_plan : IsPlan equal_columns equal_columns_plan
  pub wide_plan : IsPlan wide_join wide_join_plan
  pub joined : numbers_of equal_columns equal_columns_plan ≡ record { parts = 1; cells = 4; answers = 2; work = 1 }
  pub wide : numbers_of wide_join wide_join_plan ≡ record { parts = 1; cells = 5997; answers = 1; work = 8988004 }
  pub pages : page_count 5997 ≡ 94
  pub refused : verdict_by (numbers_of wide_join wide_join_plan) 16384 ≡ limit Work
  pub accepted : verdict_by (numbers_of equal_columns equal_columns_plan) 1 ≡ accepted (numbers_of equal_columns equal_columns_plan)
  pub full : verdict_by (numbers_of equal_columns equal_columns_plan) 0 ≡ pool
