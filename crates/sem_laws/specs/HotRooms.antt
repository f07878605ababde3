-- The worked query hot-rooms, with all its parts.
use Rattle.std.specs.Prelude.{◌≡◌, ℕ, true, false, [], ◌∷◌, ◌++◌, ℤ, pos, List}
use Rattle.sem_query.specs.declared.atom.Attr.{Attr}
use Rattle.sem_query.specs.declared.atom.Op.{Op}
use Rattle.sem_query.specs.declared.atom.Element.TheVariants as element
use Rattle.sem_query.specs.declared.part.Sign.{Sign}
use Rattle.sem_query.specs.declared.plan.Dim.{Dim}
use Rattle.sem_query.specs.declared.plan.Kind.{Kind}
use Rattle.sem_query.specs.declared.plan.Link.{Link}
use Rattle.sem_query.specs.declared.plan.StreamPlan.{StreamPlan}
use Rattle.sem_query.specs.declared.plan.PartPlan.{PartPlan}
use Rattle.sem_query.specs.Query.{QueryValue, IsWithinLimits}
use Rattle.sem_query.specs.Meaning.{Arrival, new_answers}
use Rattle.sem_query.specs.Plan.{IsPlan, link}
use Rattle.sem_query.specs.Cells.{synopsis, printed}
use Rattle.sem_query.specs.Combinations.{read_from}
use Rattle.sem_query.specs.Numbers.{numbers_of}
use Rattle.sem_query.specs.Future.{future}
use Rattle.sem_query.specs.Sharing.{shared_numbers}
use Rattle.sem_query.specs.Verdict.{IsVerdict, accepted}
use Rattle.sem_query.specs.Violation.{IsViolation}
use Rattle.std.specs.declared.option.Option.TheVariants.{None}
use Rattle.sem_laws.specs.Cases.{col, atom, arrival}

-- SELECT DISTINCT R.room FROM R, L WHERE R.room = L.room AND R.room > 0 AND R.room < 4 AND R.temp > L.lim
abbrev pub hot_rooms : QueryValue
hot_rooms = record {
  distinct = true;
  from = 0 ∷ 1 ∷ [];
  select = col 0 0 ∷ [];
  atoms =
      atom (element.Attr (col 0 0)) Op.Eq (element.Attr (col 1 0))
      ∷ atom (element.Attr (col 0 0)) Op.Gt (element.Const (pos 0))
      ∷ atom (element.Attr (col 0 0)) Op.Lt (element.Const (pos 4))
      ∷ atom (element.Attr (col 0 1)) Op.Gt (element.Attr (col 1 1))
      ∷ [];
  domains = [];
  compact = false;
}

-- a value below 0: how the room stands to 0, to 4 and to the value, and the value to 0 and to 4
abbrev pub under_zero : List Sign
under_zero = Sign.Gt ∷ Sign.Lt ∷ Sign.Gt ∷ Sign.Lt ∷ Sign.Lt ∷ []

-- a value at 0: how the room stands to 0, to 4 and to the value, and the value to 0 and to 4
abbrev pub at_zero : List Sign
at_zero = Sign.Gt ∷ Sign.Lt ∷ Sign.Gt ∷ Sign.Eq ∷ Sign.Lt ∷ []

-- a value between 0 and the room: how the room stands to 0, to 4 and to the value, and the value to 0 and to 4
abbrev pub under_room : List Sign
under_room = Sign.Gt ∷ Sign.Lt ∷ Sign.Gt ∷ Sign.Gt ∷ Sign.Lt ∷ []

-- a value at the room: how the room stands to 0, to 4 and to the value, and the value to 0 and to 4
abbrev pub at_room : List Sign
at_room = Sign.Gt ∷ Sign.Lt ∷ Sign.Eq ∷ Sign.Gt ∷ Sign.Lt ∷ []

-- a value between the room and 4: how the room stands to 0, to 4 and to the value, and the value to 0 and to 4
abbrev pub over_room : List Sign
over_room = Sign.Gt ∷ Sign.Lt ∷ Sign.Lt ∷ Sign.Gt ∷ Sign.Lt ∷ []

-- a value at 4: how the room stands to 0, to 4 and to the value, and the value to 0 and to 4
abbrev pub at_four : List Sign
at_four = Sign.Gt ∷ Sign.Lt ∷ Sign.Lt ∷ Sign.Gt ∷ Sign.Eq ∷ []

-- a value above 4: how the room stands to 0, to 4 and to the value, and the value to 0 and to 4
abbrev pub over_four : List Sign
over_four = Sign.Gt ∷ Sign.Lt ∷ Sign.Lt ∷ Sign.Gt ∷ Sign.Gt ∷ []

-- a dim
abbrev pub range : Attr → ℕ → ℕ → Dim
range a lo hi = record { attr = a; lo = pos lo; hi = pos hi }

-- what is kept of a stream
abbrev pub box_of : List Dim → Kind → ℕ → ℕ → StreamPlan
box_of dims kind base size = record { dims = record { items = dims }; kind = kind; base = base; size = size }

-- the part in which temperature and limit stand so
abbrev pub hot_part : List Sign → List Sign → StreamPlan → StreamPlan → List Link → List Link → PartPlan
hot_part temp lim of_r of_l equal less = record {
  signs = record { items = temp ++ lim };
  streams = record { items = of_r ∷ of_l ∷ [] };
  equal = record { items = equal };
  less = record { items = less };
  local = [];
  soft = record { items = [] };
}

-- the 25 parts, by the place of the temperature and then of the limit
abbrev pub hot_rooms_plan : List PartPlan
hot_rooms_plan =
    hot_part over_room over_room
    (box_of (range (col 0 0) 1 1 ∷ range (col 0 1) 3 3 ∷ []) (Kind.Present) 0 1) (box_of (range (col 1 0) 1 1 ∷ range (col 1 1) 2 2 ∷ []) (Kind.Present) 1 1)
    (link (col 0 0) (col 1 0) ∷ []) (link (col 0 0) (col 1 1) ∷ link (col 1 1) (col 0 1) ∷ [])
    ∷ hot_part over_room at_room
    (box_of (range (col 0 0) 1 2 ∷ range (col 0 1) 2 3 ∷ []) (Kind.Present) 2 4) (box_of (range (col 1 0) 1 2 ∷ []) (Kind.Present) 6 2)
    (link (col 0 0) (col 1 0) ∷ link (col 0 0) (col 1 1) ∷ []) (link (col 1 0) (col 0 1) ∷ link (col 1 1) (col 0 1) ∷ [])
    ∷ hot_part over_room under_zero
    (box_of (range (col 0 0) 1 2 ∷ range (col 0 1) 2 3 ∷ []) (Kind.Present) 8 4) (box_of (range (col 1 0) 1 2 ∷ []) (Kind.Present) 12 2)
    (link (col 0 0) (col 1 0) ∷ []) (link (col 1 0) (col 0 1) ∷ [])
    ∷ hot_part over_room at_zero
    (box_of (range (col 0 0) 1 2 ∷ range (col 0 1) 2 3 ∷ []) (Kind.Present) 14 4) (box_of (range (col 1 0) 1 2 ∷ []) (Kind.Present) 18 2)
    (link (col 0 0) (col 1 0) ∷ []) (link (col 1 0) (col 0 1) ∷ [])
    ∷ hot_part over_room under_room
    (box_of (range (col 0 0) 2 2 ∷ range (col 0 1) 3 3 ∷ []) (Kind.Present) 20 1) (box_of (range (col 1 0) 2 2 ∷ range (col 1 1) 1 1 ∷ []) (Kind.Present) 21 1)
    (link (col 0 0) (col 1 0) ∷ []) (link (col 1 0) (col 0 1) ∷ link (col 1 1) (col 0 0) ∷ [])
    ∷ hot_part at_four over_room
    (box_of (range (col 0 0) 1 2 ∷ []) (Kind.Present) 22 2) (box_of (range (col 1 0) 1 2 ∷ range (col 1 1) 2 3 ∷ []) (Kind.Present) 24 4)
    (link (col 0 0) (col 1 0) ∷ []) (link (col 0 0) (col 1 1) ∷ [])
    ∷ hot_part at_four at_room
    (box_of (range (col 0 0) 1 3 ∷ []) (Kind.Present) 28 3) (box_of (range (col 1 0) 1 3 ∷ []) (Kind.Present) 31 3)
    (link (col 0 0) (col 1 0) ∷ link (col 0 0) (col 1 1) ∷ []) ([])
    ∷ hot_part at_four under_zero
    (box_of (range (col 0 0) 1 3 ∷ []) (Kind.Present) 34 3) (box_of (range (col 1 0) 1 3 ∷ []) (Kind.Present) 37 3)
    (link (col 0 0) (col 1 0) ∷ []) ([])
    ∷ hot_part at_four at_zero
    (box_of (range (col 0 0) 1 3 ∷ []) (Kind.Present) 40 3) (box_of (range (col 1 0) 1 3 ∷ []) (Kind.Present) 43 3)
    (link (col 0 0) (col 1 0) ∷ []) ([])
    ∷ hot_part at_four under_room
    (box_of (range (col 0 0) 2 3 ∷ []) (Kind.Present) 46 2) (box_of (range (col 1 0) 2 3 ∷ range (col 1 1) 1 2 ∷ []) (Kind.Present) 48 4)
    (link (col 0 0) (col 1 0) ∷ []) (link (col 1 1) (col 0 0) ∷ [])
    ∷ hot_part over_four over_room
    (box_of (range (col 0 0) 1 2 ∷ []) (Kind.Present) 52 2) (box_of (range (col 1 0) 1 2 ∷ range (col 1 1) 2 3 ∷ []) (Kind.Present) 54 4)
    (link (col 0 0) (col 1 0) ∷ []) (link (col 0 0) (col 1 1) ∷ [])
    ∷ hot_part over_four at_four
    (box_of (range (col 0 0) 1 3 ∷ []) (Kind.Present) 58 3) (box_of (range (col 1 0) 1 3 ∷ []) (Kind.Present) 61 3)
    (link (col 0 0) (col 1 0) ∷ []) ([])
    ∷ hot_part over_four over_four
    (box_of (range (col 0 0) 1 3 ∷ []) (Kind.Greatest (col 0 1)) 64 3) (box_of (range (col 1 0) 1 3 ∷ []) (Kind.Least (col 1 1)) 67 3)
    (link (col 0 0) (col 1 0) ∷ []) (link (col 1 1) (col 0 1) ∷ [])
    ∷ hot_part over_four at_room
    (box_of (range (col 0 0) 1 3 ∷ []) (Kind.Present) 70 3) (box_of (range (col 1 0) 1 3 ∷ []) (Kind.Present) 73 3)
    (link (col 0 0) (col 1 0) ∷ link (col 0 0) (col 1 1) ∷ []) ([])
    ∷ hot_part over_four under_zero
    (box_of (range (col 0 0) 1 3 ∷ []) (Kind.Present) 76 3) (box_of (range (col 1 0) 1 3 ∷ []) (Kind.Present) 79 3)
    (link (col 0 0) (col 1 0) ∷ []) ([])
    ∷ hot_part over_four at_zero
    (box_of (range (col 0 0) 1 3 ∷ []) (Kind.Present) 82 3) (box_of (range (col 1 0) 1 3 ∷ []) (Kind.Present) 85 3)
    (link (col 0 0) (col 1 0) ∷ []) ([])
    ∷ hot_part over_four under_room
    (box_of (range (col 0 0) 2 3 ∷ []) (Kind.Present) 88 2) (box_of (range (col 1 0) 2 3 ∷ range (col 1 1) 1 2 ∷ []) (Kind.Present) 90 4)
    (link (col 0 0) (col 1 0) ∷ []) (link (col 1 1) (col 0 0) ∷ [])
    ∷ hot_part at_room under_zero
    (box_of (range (col 0 0) 1 3 ∷ []) (Kind.Present) 94 3) (box_of (range (col 1 0) 1 3 ∷ []) (Kind.Present) 97 3)
    (link (col 0 0) (col 1 0) ∷ link (col 0 1) (col 1 0) ∷ []) ([])
    ∷ hot_part at_room at_zero
    (box_of (range (col 0 0) 1 3 ∷ []) (Kind.Present) 100 3) (box_of (range (col 1 0) 1 3 ∷ []) (Kind.Present) 103 3)
    (link (col 0 0) (col 1 0) ∷ link (col 0 1) (col 1 0) ∷ []) ([])
    ∷ hot_part at_room under_room
    (box_of (range (col 0 0) 2 3 ∷ []) (Kind.Present) 106 2) (box_of (range (col 1 0) 2 3 ∷ range (col 1 1) 1 2 ∷ []) (Kind.Present) 108 4)
    (link (col 0 0) (col 1 0) ∷ link (col 0 1) (col 1 0) ∷ []) (link (col 1 1) (col 0 0) ∷ link (col 1 1) (col 0 1) ∷ [])
    ∷ hot_part under_zero under_zero
    (box_of (range (col 0 0) 1 3 ∷ []) (Kind.Greatest (col 0 1)) 112 3) (box_of (range (col 1 0) 1 3 ∷ []) (Kind.Least (col 1 1)) 115 3)
    (link (col 0 0) (col 1 0) ∷ []) (link (col 1 1) (col 0 1) ∷ [])
    ∷ hot_part at_zero under_zero
    (box_of (range (col 0 0) 1 3 ∷ []) (Kind.Present) 118 3) (box_of (range (col 1 0) 1 3 ∷ []) (Kind.Present) 121 3)
    (link (col 0 0) (col 1 0) ∷ []) ([])
    ∷ hot_part under_room under_zero
    (box_of (range (col 0 0) 2 3 ∷ range (col 0 1) 1 2 ∷ []) (Kind.Present) 124 4) (box_of (range (col 1 0) 2 3 ∷ []) (Kind.Present) 128 2)
    (link (col 0 0) (col 1 0) ∷ []) (link (col 0 1) (col 1 0) ∷ [])
    ∷ hot_part under_room at_zero
    (box_of (range (col 0 0) 2 3 ∷ range (col 0 1) 1 2 ∷ []) (Kind.Present) 130 4) (box_of (range (col 1 0) 2 3 ∷ []) (Kind.Present) 134 2)
    (link (col 0 0) (col 1 0) ∷ []) (link (col 0 1) (col 1 0) ∷ [])
    ∷ hot_part under_room under_room
    (box_of (range (col 0 0) 3 3 ∷ range (col 0 1) 2 2 ∷ []) (Kind.Present) 136 1) (box_of (range (col 1 0) 3 3 ∷ range (col 1 1) 1 1 ∷ []) (Kind.Present) 137 1)
    (link (col 0 0) (col 1 0) ∷ []) (link (col 0 1) (col 1 0) ∷ link (col 1 1) (col 0 1) ∷ [])
    ∷ []

-- temperatures and limits as they come
abbrev pub first_row : Arrival
first_row = arrival 0 (pos 2 ∷ pos 30 ∷ [])

abbrev pub second_row : Arrival
second_row = arrival 1 (pos 2 ∷ pos 25 ∷ [])

abbrev pub third_row : Arrival
third_row = arrival 1 (pos 2 ∷ pos 10 ∷ [])

abbrev pub fourth_row : Arrival
fourth_row = arrival 1 (pos 3 ∷ pos 0 ∷ [])

-- what cells and table tell after a history
abbrev pub told : List Arrival → Arrival → List (List ℤ)
told history r = future hot_rooms hot_rooms_plan (read_from (synopsis hot_rooms hot_rooms_plan history)) (printed hot_rooms history) r

-- it is accepted where three pages are free; its plan and numbers, and the answers to four rows: from cells and table, and as they are meant
pub record HotRooms : Type 0 where
  pub within : IsWithinLimits hot_rooms
  pub plan : IsPlan hot_rooms hot_rooms_plan
  pub violation : IsViolation hot_rooms None
  pub verdict : IsVerdict false hot_rooms 3 (accepted (numbers_of hot_rooms hot_rooms_plan))
  pub numbers : numbers_of hot_rooms hot_rooms_plan ≡ record { parts = 25; cells = 138; answers = 59; work = 35 }
  -- with shared cells the parts that keep the same of a stream keep it once
  pub shared : shared_numbers hot_rooms hot_rooms_plan ≡ record { parts = 25; cells = 78; answers = 59; work = 35 }
  pub shared_verdict : IsVerdict true hot_rooms 2 (accepted (shared_numbers hot_rooms hot_rooms_plan))
  pub first : told [] first_row ≡ []
  pub second : told (first_row ∷ []) second_row ≡ (pos 2 ∷ []) ∷ []
  pub meant_second : new_answers hot_rooms (first_row ∷ []) second_row ≡ (pos 2 ∷ []) ∷ []
  pub third : told (first_row ∷ second_row ∷ []) third_row ≡ []
  pub meant_third : new_answers hot_rooms (first_row ∷ second_row ∷ []) third_row ≡ []
  pub fourth : told (first_row ∷ second_row ∷ third_row ∷ []) fourth_row ≡ []
  pub meant_fourth : new_answers hot_rooms (first_row ∷ second_row ∷ third_row ∷ []) fourth_row ≡ []
